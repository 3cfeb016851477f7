-- The laws of trees and of runs, in the words of their subject: who sits where, and what becomes of each leaf and parent.
-- `Removal`, `Addition`, `UnmergedSince`, `Growth`: what one change does, by the records `Without`, `Seating`, `Unmerged`, `Doubled`;
-- `PathLaid`: what a path does, by `OverMaker` and `AbovePath`;
-- `ResolutionEmpty`, `LevelKept`: what holds of every tree of a run; `PositionIs`, by `Positioned`: where a position lies;
-- `HeldByHeight`: what a member holds, height by height.
-- Assumes nothing.
use Rattle.std.specs.Prelude.{◌≡◌, ℕ, zero, suc, ◌<◌, ◌≤◌, false, not, ◌||◌, T, ◌↔◌, List, [], ◌∷◌, ◌++◌, Some, None, ◌==◌, ◌≢◌}
use Rattle.std.specs.Option.{option_map}
use Rattle.theory.specs.Limits.{max_depth}
use Rattle.theory.specs.Secrets.{Secret}
use Rattle.theory.specs.Tree.{Tree, Leaf, blank_leaf, occupied, blank_parent, keyed, is_blank, seated, full, height, is_level, position, resolution, grown, unmerged_at, added, removed}
use Rattle.theory.specs.Path.{laid}
use Rattle.theory.specs.Held.{held, held_at}
use Rattle.theory.specs.Group.{Commit, group}
use Rattle.theory.specs.Places.{Turn, left, right, leaf_at, parent_at, sits, has_key, has_unmerged, Over, LeftOf, leaves_before, Below, Beside}

-- what becomes of a tree that m is removed from
pub record Without {K : Type 0} (m : ℕ) (t : Tree K) : Type 0 where
  -- m is seated nowhere
  pub gone : T (not (seated m (removed m t)))
  -- the leaf where m sat is blank
  pub vacant : (p : List Turn) → T (sits m p t) → leaf_at p (removed m t) ≡ Some blank_leaf
  -- every other leaf is as it was: whoever sat there still does, with its key, and nobody new
  pub others : (p : List Turn) → T (not (sits m p t)) → leaf_at p (removed m t) ≡ leaf_at p t
  -- every parent above m is blank
  pub above : (p q : List Turn) → T (sits m p t) → Over q p → parent_at q (removed m t) ≡ Some blank_parent
  -- a parent with m not seated below it is as it was
  pub apart : (q : List Turn) → ((p : List Turn) → Over q p → T (not (sits m p t))) → parent_at q (removed m t) ≡ parent_at q t

-- a removal empties the leaf and every parent above it, and touches nothing else
abbrev pub Removal : Type 0
Removal = (m : ℕ) (t : Tree Secret) → Without m t

-- what becomes of a tree that is not full when m is added with the leaf key k
pub record Seating {K : Type 0} (m : ℕ) (k : K) (t : Tree K) : Type 0 where
  pub place : List Turn
  -- the place was blank, and every leaf left of it was occupied
  pub free : leaf_at place t ≡ Some blank_leaf
  pub first : (q : List Turn) (x : Leaf K) → LeftOf q place → leaf_at q t ≡ Some x → T (not (is_blank x))
  -- m sits there, and every other leaf is as it was
  pub taken : leaf_at place (added m k t) ≡ Some (occupied m k)
  pub others : (q : List Turn) → (q ≢ place) → leaf_at q (added m k t) ≡ leaf_at q t
  -- m is unmerged at each keyed parent above, and every other parent is as it was
  pub above : (q : List Turn) → Over q place → parent_at q (added m k t) ≡ option_map (unmerged_at m) (parent_at q t)
  pub apart : (q : List Turn) → (Over q place → ⊥) → parent_at q (added m k t) ≡ parent_at q t
  -- so whoever is seated was seated, or is m
  pub everybody : (w : ℕ) → seated w (added m k t) ≡ (seated w t || m == w)

-- a newcomer takes the leftmost blank leaf; a full tree takes nobody
abbrev pub Addition : Type 0
Addition =
    (m : ℕ) (k : Secret) (t : Tree Secret) →
    (T (not (full t)) → Seating m k t) × (T (full t) → added m k t ≡ t)

-- where a newcomer is unmerged: above its leaf exactly where there was a key before it came, and nowhere else
pub record Unmerged {K : Type 0} (m : ℕ) (k : K) (t : Tree K) (p q : List Turn) : Type 0 where
  pub above : Over q p → has_unmerged m (parent_at q (added m k t)) ≡ has_key (parent_at q t)
  pub apart : (Over q p → ⊥) → has_unmerged m (parent_at q (added m k t)) ≡ false

-- of one who was neither seated nor unmerged anywhere: p is its place afterwards, and q any place
abbrev pub UnmergedSince : Type 0
UnmergedSince =
    (m : ℕ) (k : Secret) (t : Tree Secret) →
    T (not (full t)) → T (not (seated m t)) → ((q : List Turn) → T (not (has_unmerged m (parent_at q t)))) →
    (p q : List Turn) → T (sits m p (added m k t)) → Unmerged m k t p q

-- what becomes of a full tree that grows
pub record Doubled {K : Type 0} (t : Tree K) : Type 0 where
  -- everybody keeps its place, in the left half
  pub kept : (p : List Turn) → leaf_at (left ∷ p) (grown t) ≡ leaf_at p t
  -- nobody sits in the right half
  pub empty : (m : ℕ) (p : List Turn) → T (not (sits m (right ∷ p) (grown t)))
  -- the old tree's parents are as they were, the new top is blank, and no parent of the right half has a key
  pub parents : (p : List Turn) → parent_at (left ∷ p) (grown t) ≡ parent_at p t
  pub top : parent_at [] (grown t) ≡ Some blank_parent
  pub bare : (p : List Turn) → T (not (has_key (parent_at (right ∷ p) (grown t))))
  -- everybody keeps its leaf, counted from the left
  pub same : (m : ℕ) → position m (grown t) ≡ position m t

-- growing keeps everybody's place, and changes nothing unless the tree is full
abbrev pub Growth : Type 0
Growth = (t : Tree Secret) → (T (full t) → Doubled t) × (T (not (full t)) → grown t ≡ t)

-- what becomes of the parent at q, above p, where a path from p makes u of t with n node keys
pub record AbovePath {K : Type 0} (keys : ℕ → K) (t u : Tree K) (n : ℕ) (p q : List Turn) : Type 0 where
  -- the other half under it
  pub half : Tree K
  pub beside : Beside half q p t
  -- it is blank where the other half has nobody to seal to, and elsewhere has a new key with nobody unmerged
  pub none : resolution half ≡ [] → parent_at q u ≡ Some blank_parent
  pub some : (resolution half ≢ []) → (i : ℕ) × (i < n) × (parent_at q u ≡ Some (keyed (keys i) []))

-- what becomes of a tree over which m, sitting at p, lays its path
pub record OverMaker {K : Type 0} (m : ℕ) (own : K) (keys : ℕ → K) (t : Tree K) (p : List Turn) : Type 0 where
  -- m's leaf has the new leaf key, and every other leaf is as it was
  pub renewed : leaf_at p (laid m own keys t).tree ≡ Some (occupied m own)
  pub others : (q : List Turn) → (q ≢ p) → leaf_at q (laid m own keys t).tree ≡ leaf_at q t
  -- each parent above m is blank or newly keyed, and every other parent is as it was
  pub above : (q : List Turn) → Over q p → AbovePath keys t (laid m own keys t).tree (laid m own keys t).levels p q
  pub apart : (q : List Turn) → (Over q p → ⊥) → parent_at q (laid m own keys t).tree ≡ parent_at q t

-- m sits at p and nowhere else
abbrev pub SitsOnlyAt : {K : Type 0} → ℕ → List Turn → Tree K → Type 0
SitsOnlyAt m p t = T (sits m p t) × ((q : List Turn) → T (sits m q t) → q ≡ p)

-- a path renews its maker's leaf and the parents above it, and touches nothing else
abbrev pub PathLaid : Type 0
PathLaid =
    (m : ℕ) (own : Secret) (keys : ℕ → Secret) (t : Tree Secret) (p : List Turn) →
    SitsOnlyAt m p t → OverMaker m own keys t p

-- nobody is seated in a tree
abbrev pub Deserted : {K : Type 0} → Tree K → Type 0
Deserted t = (w : ℕ) → T (seated w t) → ⊥

-- in every part of every tree of a run, the resolution is empty exactly if nobody is seated there
abbrev pub ResolutionEmpty : Type 0
ResolutionEmpty =
    (f : ℕ) (commits : ℕ → Commit) (n : ℕ) (t : Tree Secret) →
    Below t (group f commits n).tree → (resolution t ≡ []) ↔ Deserted t

-- every tree of a run has all leaves at one depth, and is no deeper than the limit
abbrev pub LevelKept : Type 0
LevelKept =
    (f : ℕ) (commits : ℕ → Commit) (n : ℕ) →
    T (is_level (height (group f commits n).tree) (group f commits n).tree)
    × (height (group f commits n).tree ≤ max_depth)

-- where a position lies
pub record Positioned {K : Type 0} (m : ℕ) (t : Tree K) : Type 0 where
  -- m sits at the leaf with as many leaves left of it
  pub there : (i : ℕ) → position m t ≡ Some i → (p : List Turn) × T (sits m p t) × (leaves_before p t ≡ i)
  -- there is none exactly if m isn't seated
  pub none : (position m t ≡ None) ↔ T (not (seated m t))

-- a position says where a member sits
abbrev pub PositionIs : Type 0
PositionIs = (m : ℕ) (t : Tree Secret) → Positioned m t

-- the keys that m holds at heights h and below, from the top down
unfoldable pub held_down : {K : Type 0} → ℕ → ℕ → Tree K → List K
held_down m zero t = held_at m zero t
held_down m (suc h) t = held_at m (suc h) t ++ held_down m h t

-- in a level tree, all that a member holds is what it holds at each height
abbrev pub HeldByHeight : Type 0
HeldByHeight = (d m : ℕ) (t : Tree Secret) → T (is_level d t) → held_down m d t ≡ held m t

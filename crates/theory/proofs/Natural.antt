-- Every operation on trees commutes with a map of the keys.
-- Assumes nothing.
use Rattle.std.proofs.Common.{◌≡◌, ℕ, zero, suc, ◌+◌, Bool, true, false, cond, not, ◌&&◌, ◌||◌, List, [], ◌∷◌, map, Some, None, sym, refl, ap, ap₂, arith}
use mathlib.Core.List.{map-append}
use Rattle.theory.specs.Tree.{Tree, leaf, node, Leaf, blank_leaf, occupied, Parent, blank_parent, keyed, is_at, is_blank, key_at, seated, full, members, leaves, height, is_level, position, leaf_key, leaf_keys, resolution, blank_tree, grown, added, removed}
use Rattle.theory.specs.Path.{Laid, sealed_to, climbed, laid}
use Rattle.theory.specs.Held.{held, held_at}
use Rattle.theory.specs.Group.{Change, renew, remove, add, Commit, change_refusal, refusal, readied, laid_by}
use Rattle.theory.specs.Wellformed.{distinct, all_seated, leaf_merged, some_merged, merges, leaf_apart, apart, consistent, leaf_numbered, numbered, well_formed}
use Rattle.theory.specs.Natural.{map_leaf, map_parent, map_tree, map_target, map_laid, Natural, Naturality}

-- a function goes under `cond`
pub push : {A B : Type 0} (g : A → B) (b : Bool) (x y : A) → cond b (g x) (g y) ≡ g (cond b x y)
push g true x y = refl
push g false x y = refl

module _ {A B : Type 0} (f : A → B) where
  pub at_map : (m : ℕ) (x : Leaf A) → is_at m (map_leaf f x) ≡ is_at m x
  at_map m blank_leaf = refl
  at_map m (occupied w k) = refl

  pub blank-map : (x : Leaf A) → is_blank (map_leaf f x) ≡ is_blank x
  blank-map blank_leaf = refl
  blank-map (occupied w k) = refl

  pub key-map : (x : Leaf A) → key_at (map_leaf f x) ≡ map f (key_at x)
  key-map blank_leaf = refl
  key-map (occupied w k) = refl

  pub map_tree-node : (p : Parent A) (l r : Tree A) → map_tree f (node p l r) ≡ node (map_parent f p) (map_tree f l) (map_tree f r)
  unfolding map_tree
  map_tree-node p l r = refl

  pub seated-map : (m : ℕ) (t : Tree A) → seated m (map_tree f t) ≡ seated m t
  unfolding seated map_tree
  seated-map m (leaf x) = at_map m x
  seated-map m (node p l r) = ap₂ ◌||◌ (seated-map m l) (seated-map m r)

  pub full-map : (t : Tree A) → full (map_tree f t) ≡ full t
  unfolding full map_tree
  full-map (leaf x) = ap not (blank-map x)
  full-map (node p l r) = ap₂ ◌&&◌ (full-map l) (full-map r)

  pub members-map : (t : Tree A) → members (map_tree f t) ≡ members t
  unfolding members map_tree
  members-map (leaf x) = ap (λ b. cond b 0 1) (blank-map x)
  members-map (node p l r) = ap₂ ◌+◌ (members-map l) (members-map r)

  pub leaves_map : (t : Tree A) → leaves (map_tree f t) ≡ leaves t
  unfolding leaves map_tree
  leaves_map (leaf x) = refl
  leaves_map (node p l r) = ap₂ ◌+◌ (leaves_map l) (leaves_map r)

  pub height-map : (t : Tree A) → height (map_tree f t) ≡ height t
  unfolding height map_tree
  height-map (leaf x) = refl
  height-map (node p l r) = ap suc (height-map l)

  pub level-map : (d : ℕ) (t : Tree A) → is_level d (map_tree f t) ≡ is_level d t
  unfolding is_level map_tree
  level-map zero (leaf x) = refl
  level-map zero (node p l r) = refl
  level-map (suc d) (leaf x) = refl
  level-map (suc d) (node p l r) = ap₂ ◌&&◌ (level-map d l) (level-map d r)

  pub position-map : (m : ℕ) (t : Tree A) → position m (map_tree f t) ≡ position m t
  unfolding position map_tree
  position-map m (leaf x) = ap (λ b. cond b (Some 0) None) (at_map m x)
  position-map m (node p l r) = rw (position-map m l, position-map m r, leaves_map l)

  pub change_refusal-map : (c : ℕ) (a : Change) (t : Tree A) → change_refusal c a (map_tree f t) ≡ change_refusal c a t
  change_refusal-map c renew t = refl
  change_refusal-map c (remove m) t = rw (seated-map m t)
  change_refusal-map c (add m) t = rw (seated-map m t, members-map t)

  pub refusal-map : (e : ℕ) (c : Commit) (t : Tree A) → refusal e c (map_tree f t) ≡ refusal e c t
  refusal-map e c t = rw (seated-map c.committer t, change_refusal-map c.committer c.change t)

  -- THE TEST.
  all_seated-map : (ws : List ℕ) (t : Tree A) → all_seated ws (map_tree f t) ≡ all_seated ws t
  unfolding all_seated
  all_seated-map [] t = refl
  all_seated-map (w ∷ ws) t = ap₂ ◌&&◌ (seated-map w t) (all_seated-map ws t)

  leaf_merged-map : (un : List ℕ) (x : Leaf A) → leaf_merged un (map_leaf f x) ≡ leaf_merged un x
  leaf_merged-map un blank_leaf = refl
  leaf_merged-map un (occupied w k) = refl

  some_merged-map : (un : List ℕ) (t : Tree A) → some_merged un (map_tree f t) ≡ some_merged un t
  unfolding some_merged map_tree
  some_merged-map un (leaf x) = leaf_merged-map un x
  some_merged-map un (node p l r) = ap₂ ◌||◌ (some_merged-map un l) (some_merged-map un r)

  merges-map : (p : Parent A) (t : Tree A) → merges (map_parent f p) (map_tree f t) ≡ merges p t
  merges-map blank_parent t = refl
  merges-map (keyed k un) t = ap₂ (λ a b. distinct un && (a && b)) (all_seated-map un t) (some_merged-map un t)

  leaf_apart-map : (x : Leaf A) (t : Tree A) → leaf_apart (map_leaf f x) (map_tree f t) ≡ leaf_apart x t
  leaf_apart-map blank_leaf t = refl
  leaf_apart-map (occupied w k) t = ap not (seated-map w t)

  apart-map : (l r : Tree A) → apart (map_tree f l) (map_tree f r) ≡ apart l r
  unfolding apart
  apart-map (leaf x) r = unfold map_tree in leaf_apart-map x r
  apart-map (node p x y) r = rw (map_tree-node p x y) (ap₂ ◌&&◌ (apart-map x r) (apart-map y r))

  pub consistent-map : (t : Tree A) → consistent (map_tree f t) ≡ consistent t
  unfolding consistent
  consistent-map (leaf x) = unfold map_tree in refl
  consistent-map (node p l r) = grind (arith, map_tree-node, merges-map, apart-map, consistent-map l, consistent-map r)

  leaf_numbered-map : (x : Leaf A) → leaf_numbered (map_leaf f x) ≡ leaf_numbered x
  leaf_numbered-map blank_leaf = refl
  leaf_numbered-map (occupied w k) = refl

  pub numbered-map : (t : Tree A) → numbered (map_tree f t) ≡ numbered t
  unfolding numbered map_tree
  numbered-map (leaf x) = leaf_numbered-map x
  numbered-map (node p l r) = ap₂ ◌&&◌ (numbered-map l) (numbered-map r)

  pub well_formed-map : (t : Tree A) → well_formed (map_tree f t) ≡ well_formed t
  well_formed-map t = ap₂ ◌&&◌ (numbered-map t) (consistent-map t)

  -- KEYS LOOKED UP.
  pub leaf_key-map : (m : ℕ) (t : Tree A) → leaf_key m (map_tree f t) ≡ map f (leaf_key m t)
  unfolding leaf_key map_tree
  leaf_key-map m (leaf x) = rw (at_map m x, key-map x) (push (map f) (is_at m x) (key_at x) [])
  leaf_key-map m (node p l r) = rw (leaf_key-map m l, leaf_key-map m r) (sym (map-append f (leaf_key m l) (leaf_key m r)))

  pub leaf_keys-map : (ms : List ℕ) (t : Tree A) → leaf_keys ms (map_tree f t) ≡ map f (leaf_keys ms t)
  unfolding leaf_keys
  leaf_keys-map [] t = refl
  leaf_keys-map (m ∷ ms) t = rw (leaf_key-map m t, leaf_keys-map ms t) (sym (map-append f (leaf_key m t) (leaf_keys ms t)))

  pub resolution-map : (t : Tree A) → resolution (map_tree f t) ≡ map f (resolution t)
  unfolding resolution map_tree
  resolution-map (leaf x) = key-map x
  resolution-map (node blank_parent l r) = rw (resolution-map l, resolution-map r) (sym (map-append f (resolution l) (resolution r)))
  resolution-map (node (keyed k un) l r) = ap (λ ks. f k ∷ ks) (leaf_keys-map un (node (keyed k un) l r))

  pub held-map : (m : ℕ) (t : Tree A) → held m (map_tree f t) ≡ map f (held m t)
  unfolding held map_tree
  held-map m (leaf x) = rw (at_map m x, key-map x) (push (map f) (is_at m x) (key_at x) [])
  held-map m (node p l r) = grind (arith, seated-map, held-map m l, held-map m r)

  pub held_at-map : (m h : ℕ) (t : Tree A) → held_at m h (map_tree f t) ≡ map f (held_at m h t)
  unfolding held_at map_tree
  held_at-map m h (leaf x) = grind arith
  held_at-map m h (node p l r) = grind (arith, height-map, seated-map, held_at-map m h l, held_at-map m h r)

  -- CHANGED TREES.
  pub blank_tree-map : (t : Tree A) → blank_tree (map_tree f t) ≡ map_tree f (blank_tree t)
  unfolding blank_tree map_tree
  blank_tree-map (leaf x) = refl
  blank_tree-map (node p l r) = ap₂ (node blank_parent) (blank_tree-map l) (blank_tree-map r)

  pub grown-map : (t : Tree A) → grown (map_tree f t) ≡ map_tree f (grown t)
  grown-map t =
      rw (full-map t, blank_tree-map t) (unfold map_tree in push (map_tree f) (full t) (node blank_parent t (blank_tree t)) t)

  pub added-map : (m : ℕ) (k : A) (t : Tree A) → added m (f k) (map_tree f t) ≡ map_tree f (added m k t)
  unfolding added map_tree
  added-map m k (leaf blank_leaf) = refl
  added-map m k (leaf (occupied w j)) = refl
  added-map m k (node p l r) = grind (arith, full-map, added-map m k l, added-map m k r)

  pub removed-map : (m : ℕ) (t : Tree A) → removed m (map_tree f t) ≡ map_tree f (removed m t)
  unfolding removed map_tree
  removed-map m (leaf x) = rw (at_map m x) (ap leaf (push (map_leaf f) (is_at m x) blank_leaf x))
  removed-map m (node p l r) = grind (arith, seated-map, removed-map m l, removed-map m r)

  pub readied-map : (c : Change) (fresh : A) (t : Tree A) → readied c (f fresh) (map_tree f t) ≡ map_tree f (readied c fresh t)
  readied-map renew fresh t = refl
  readied-map (remove m) fresh t = removed-map m t
  readied-map (add m) fresh t = rw (grown-map t) (added-map m fresh (grown t))

  -- PATHS.
  sealed-map : (i : ℕ) (ks : List A) → sealed_to i (map f ks) ≡ map (map_target f) (sealed_to i ks)
  sealed-map i [] = refl
  sealed-map i (k ∷ ks) = ap (λ ts. record { key = f k; level = i } ∷ ts) (sealed-map i ks)

  climbed-map :
      (keys : ℕ → A) (x : Laid A) (other : List A) (put : Parent A → Tree A → Tree A) (put_b : Parent B → Tree B → Tree B) →
      ((q : Parent A) (t : Tree A) → put_b (map_parent f q) (map_tree f t) ≡ map_tree f (put q t)) →
      climbed (λ i. f (keys i)) (map_laid f x) (map f other) put_b ≡ map_laid f (climbed keys x other put)
  climbed-map keys x other put put_b same = grind (arith, sealed-map, map-append)

  pub laid-map :
      (m : ℕ) (own : A) (keys : ℕ → A) (t : Tree A) →
      laid m (f own) (λ i. f (keys i)) (map_tree f t) ≡ map_laid f (laid m own keys t)
  unfolding laid map_tree
  laid-map m own keys (leaf x) =
      rw (at_map m x, push (map_leaf f) (is_at m x) (occupied m own) x)
  laid-map m own keys (node p l r) =
      rw (
        seated-map m l,
        seated-map m r,
        laid-map m own keys l,
        laid-map m own keys r,
        resolution-map l,
        resolution-map r,
        climbed-map keys (laid m own keys l) (resolution r) (λ q t. node q t r) (λ q t. node q t (map_tree f r)) (λ q t. refl),
        climbed-map keys (laid m own keys r) (resolution l) (λ q t. node q l t) (λ q t. node q (map_tree f l) t) (λ q t. refl),
        push (map_laid f) (seated m r) (climbed keys (laid m own keys r) (resolution l) (λ q t. node q l t)) (record { tree = node p l r; levels = 0; targets = [] }),
      )
      (push (map_laid f) (seated m l) (climbed keys (laid m own keys l) (resolution r) (λ q t. node q t r)) _)

  pub laid_by-map :
      (c : Commit) (fresh own : A) (keys : ℕ → A) (t : Tree A) →
      laid_by c (f fresh) (f own) (λ i. f (keys i)) (map_tree f t) ≡ map_laid f (laid_by c fresh own keys t)
  laid_by-map c fresh own keys t =
      rw (readied-map c.change fresh t) (laid-map c.committer own keys (readied c.change fresh t))

  pub natural : Natural f
  natural = grind (arith, seated-map, full-map, members-map, leaves_map, height-map, level-map, position-map, well_formed-map, leaf_key-map, leaf_keys-map, resolution-map, held-map, held_at-map, blank_tree-map, grown-map, added-map, removed-map, laid-map)

pub naturality : Naturality
naturality = natural

-- The ratchet tree over any kind of key K: leaves with members, parents with node keys.
-- The theory works at symbolic secrets, the code at 32-byte public halves: one definition serves both.
-- `Leaf`, `Parent`, `Tree`; asking: `seated`, `full`, `members`, `leaves`, `height`, `position`, `leaf_key`, `resolution`;
-- changing: `grown`, `added`, `removed`; `is_level`: every leaf lies at the same depth.
-- Assumes nothing.
use Rattle.std.specs.Prelude.{ℕ, zero, suc, ◌+◌, Bool, true, false, cond, not, ◌&&◌, ◌||◌, List, [], ◌∷◌, ◌++◌, Some, None, Option, ◌==◌}
use Rattle.std.specs.Option.{option_map}

-- a leaf is blank, or has a member and its leaf key
pub data Leaf (K : Type 0) : Type 0 where
  blank_leaf : Leaf K
  occupied : (member : ℕ) (key : K) → Leaf K

-- a parent is blank, or has a node key and its unmerged members: those below that came after the key was laid, latest first
pub data Parent (K : Type 0) : Type 0 where
  blank_parent : Parent K
  keyed : (key : K) (unmerged : List ℕ) → Parent K

pub data Tree (K : Type 0) : Type 0 where
  leaf : Leaf K → Tree K
  node : Parent K → Tree K → Tree K → Tree K

-- does member m sit at this leaf
abbrev pub is_at : {K : Type 0} → ℕ → Leaf K → Bool
is_at m blank_leaf = false
is_at m (occupied w k) = w == m

-- does member m sit somewhere in the tree
unfoldable pub seated : {K : Type 0} → ℕ → Tree K → Bool
seated m (leaf x) = is_at m x
seated m (node p l r) = seated m l || seated m r

abbrev pub is_blank : {K : Type 0} → Leaf K → Bool
is_blank blank_leaf = true
is_blank (occupied w k) = false

-- is no leaf blank
unfoldable pub full : {K : Type 0} → Tree K → Bool
full (leaf x) = not (is_blank x)
full (node p l r) = full l && full r

-- how many leaves are occupied
unfoldable pub members : {K : Type 0} → Tree K → ℕ
members (leaf x) = cond (is_blank x) 0 1
members (node p l r) = members l + members r

-- how many leaves there are
unfoldable pub leaves : {K : Type 0} → Tree K → ℕ
leaves (leaf x) = 1
leaves (node p l r) = leaves l + leaves r

-- how far the leftmost leaf lies below the top
unfoldable pub height : {K : Type 0} → Tree K → ℕ
height (leaf x) = 0
height (node p l r) = suc (height l)

-- does every leaf lie d below the top
unfoldable pub is_level : {K : Type 0} → ℕ → Tree K → Bool
is_level zero (leaf x) = true
is_level zero (node p l r) = false
is_level (suc d) (leaf x) = false
is_level (suc d) (node p l r) = is_level d l && is_level d r

-- the first of two places that is there, the second counted from n on
abbrev pub or_else : Option ℕ → ℕ → Option ℕ → Option ℕ
or_else None n o = option_map (λ i. n + i) o
or_else (Some i) n o = Some i

-- which leaf from the left member m sits at
unfoldable pub position : {K : Type 0} → ℕ → Tree K → Option ℕ
position m (leaf x) = cond (is_at m x) (Some 0) None
position m (node p l r) = or_else (position m l) (leaves l) (position m r)

-- the key at a leaf
abbrev pub key_at : {K : Type 0} → Leaf K → List K
key_at blank_leaf = []
key_at (occupied w k) = k ∷ []

-- member m's leaf key, looked up at its leaf; none where m isn't seated
unfoldable pub leaf_key : {K : Type 0} → ℕ → Tree K → List K
leaf_key m (leaf x) = cond (is_at m x) (key_at x) []
leaf_key m (node p l r) = leaf_key m l ++ leaf_key m r

-- the leaf keys of several members
unfoldable pub leaf_keys : {K : Type 0} → List ℕ → Tree K → List K
leaf_keys [] t = []
leaf_keys (m ∷ ms) t = leaf_key m t ++ leaf_keys ms t

-- the resolution: the fewest keys that reach everybody seated in this part
unfoldable pub resolution : {K : Type 0} → Tree K → List K
resolution (leaf x) = key_at x
resolution (node blank_parent l r) = resolution l ++ resolution r
resolution (node (keyed k un) l r) = k ∷ leaf_keys un (node (keyed k un) l r)

-- the same tree with nobody in it and no key
unfoldable pub blank_tree : {K : Type 0} → Tree K → Tree K
blank_tree (leaf x) = leaf blank_leaf
blank_tree (node p l r) = node blank_parent (blank_tree l) (blank_tree r)

-- where no leaf is blank the tree doubles: the old one becomes the left half, under a blank parent
abbrev pub grown : {K : Type 0} → Tree K → Tree K
grown t = cond (full t) (node blank_parent t (blank_tree t)) t

-- m is unmerged at a parent that has a key
abbrev pub unmerged_at : {K : Type 0} → ℕ → Parent K → Parent K
unmerged_at m blank_parent = blank_parent
unmerged_at m (keyed k un) = keyed k (m ∷ un)

-- m takes the leftmost blank leaf, and is unmerged at every keyed parent above it
unfoldable pub added : {K : Type 0} → ℕ → K → Tree K → Tree K
added m k (leaf x) = leaf (cond (is_blank x) (occupied m k) x)
added m k (node p l r) =
    cond (full l) (cond (full r) (node p l r) (node (unmerged_at m p) l (added m k r)))
    (node (unmerged_at m p) (added m k l) r)

-- m's leaf becomes blank, and every parent above it
unfoldable pub removed : {K : Type 0} → ℕ → Tree K → Tree K
removed m (leaf x) = leaf (cond (is_at m x) blank_leaf x)
removed m (node p l r) =
    cond (seated m l || seated m r) (node blank_parent (removed m l) (removed m r)) (node p l r)

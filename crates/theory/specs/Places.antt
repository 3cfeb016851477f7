-- Places in a tree: which way down from the top.
-- `Turn`: a place is a list of them; `leaf_at`, `parent_at`: what lies at a place; `sits`, `has_key`, `has_unmerged`: what is asked of it;
-- `Over`, `LeftOf`: how two places lie to each other; `leaves_before`: how many leaves lie left of a place; `Below`: a part of a tree;
-- `Beside`: the half of a part that a place doesn't lie in.
-- Assumes nothing.
use Rattle.std.specs.Prelude.{ℕ, ◌+◌, Bool, true, false, List, [], ◌∷◌, Some, None, Option}
use Rattle.theory.specs.Tree.{Tree, leaf, node, Leaf, Parent, blank_parent, keyed, is_at, leaves}
use Rattle.theory.specs.Held.{is_unmerged}

-- one step down; a place is the way down from the top, a list of turns
pub data Turn : Type 0 where
  left : Turn
  right : Turn

-- the leaf at a place, if a leaf lies there
unfoldable pub leaf_at : {K : Type 0} → List Turn → Tree K → Option (Leaf K)
leaf_at [] (leaf x) = Some x
leaf_at [] (node p l r) = None
leaf_at (d ∷ w) (leaf x) = None
leaf_at (left ∷ w) (node p l r) = leaf_at w l
leaf_at (right ∷ w) (node p l r) = leaf_at w r

-- the parent at a place, if a parent lies there
unfoldable pub parent_at : {K : Type 0} → List Turn → Tree K → Option (Parent K)
parent_at [] (leaf x) = None
parent_at [] (node p l r) = Some p
parent_at (d ∷ w) (leaf x) = None
parent_at (left ∷ w) (node p l r) = parent_at w l
parent_at (right ∷ w) (node p l r) = parent_at w r

-- does m sit at the leaf, if there is one
abbrev pub is_there : {K : Type 0} → ℕ → Option (Leaf K) → Bool
is_there m None = false
is_there m (Some x) = is_at m x

-- does m sit at this place
abbrev pub sits : {K : Type 0} → ℕ → List Turn → Tree K → Bool
sits m p t = is_there m (leaf_at p t)

-- is there a parent with a key
abbrev pub has_key : {K : Type 0} → Option (Parent K) → Bool
has_key None = false
has_key (Some blank_parent) = false
has_key (Some (keyed k un)) = true

-- is m among the unmerged of the parent
abbrev pub has_unmerged : {K : Type 0} → ℕ → Option (Parent K) → Bool
has_unmerged m None = false
has_unmerged m (Some blank_parent) = false
has_unmerged m (Some (keyed k un)) = is_unmerged m un

-- what lies at the first place lies above what lies at the second: the first way is the beginning of the second
pub data Over : List Turn → List Turn → Type 0 where
  top : {d : Turn} {p : List Turn} → Over [] (d ∷ p)
  down : {d : Turn} {q p : List Turn} → Over q p → Over (d ∷ q) (d ∷ p)

-- the first place lies left of the second: where the ways part, the first turns left
pub data LeftOf : List Turn → List Turn → Type 0 where
  parts : {p q : List Turn} → LeftOf (left ∷ p) (right ∷ q)
  after : {d : Turn} {p q : List Turn} → LeftOf p q → LeftOf (d ∷ p) (d ∷ q)

-- how many leaves lie left of a place
unfoldable pub leaves_before : {K : Type 0} → List Turn → Tree K → ℕ
leaves_before [] t = 0
leaves_before (d ∷ w) (leaf x) = 0
leaves_before (left ∷ w) (node p l r) = leaves_before w l
leaves_before (right ∷ w) (node p l r) = leaves l + leaves_before w r

-- the first tree is the second or a part of it
pub data Below {K : Type 0} : Tree K → Tree K → Type 0 where
  whole : {t : Tree K} → Below t t
  in_left : {t l r : Tree K} {p : Parent K} → Below t l → Below t (node p l r)
  in_right : {t l r : Tree K} {p : Parent K} → Below t r → Below t (node p l r)

-- the half, of the part of the tree under place q, that place p below q doesn't lie in
pub data Beside {K : Type 0} : Tree K → List Turn → List Turn → Tree K → Type 0 where
  right_half : {c : Parent K} {l r : Tree K} {p : List Turn} → Beside r [] (left ∷ p) (node c l r)
  left_half : {c : Parent K} {l r : Tree K} {p : List Turn} → Beside l [] (right ∷ p) (node c l r)
  under_left :
      {c : Parent K} {s l r : Tree K} {q p : List Turn} → Beside s q p l → Beside s (left ∷ q) (left ∷ p) (node c l r)
  under_right :
      {c : Parent K} {s l r : Tree K} {q p : List Turn} → Beside s q p r → Beside s (right ∷ q) (right ∷ p) (node c l r)

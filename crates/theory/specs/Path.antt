-- The path that a committer lays from its leaf to the top: new keys, and what is sealed to whom.
-- `Target`: a key sealed to, and the level of the path secret that it is given; `Laid`: the tree with its path; `laid`.
-- Assumes nothing.
use Rattle.std.specs.Prelude.{ℕ, suc, cond, List, [], ◌∷◌, ◌++◌, map}
use Rattle.theory.specs.Tree.{Tree, leaf, node, occupied, Parent, blank_parent, keyed, is_at, seated, resolution}

-- the path secret of a level is sealed to a key
pub record Target (K : Type 0) : Type 0 where
  pub key : K
  pub level : ℕ

-- the tree with the path laid, how many node keys that took, and the targets from below
pub record Laid (K : Type 0) : Type 0 where
  pub tree : Tree K
  pub levels : ℕ
  pub targets : List (Target K)

-- the path secret of level i, to each of these keys
abbrev pub sealed_to : {K : Type 0} → ℕ → List K → List (Target K)
sealed_to i ks = map (λ k. record { key = k; level = i }) ks

-- the parent above the path at level i, given the resolution of its other side: blank where there is nobody to seal to
abbrev pub parent_laid : {K : Type 0} → (ℕ → K) → ℕ → List K → Parent K
parent_laid keys i [] = blank_parent
parent_laid keys i (k ∷ ks) = keyed (keys i) []

-- the level goes up by one where a key was laid
abbrev pub level_after : {K : Type 0} → ℕ → List K → ℕ
level_after i [] = i
level_after i (k ∷ ks) = suc i

-- one parent more: the part x with its path below it, the resolution of the other side, and how the two sides are put together
abbrev pub climbed : {K : Type 0} → (ℕ → K) → Laid K → List K → (Parent K → Tree K → Tree K) → Laid K
climbed keys x other put =
    record {
      tree = put (parent_laid keys x.levels other) x.tree;
      levels = level_after x.levels other;
      targets = x.targets ++ sealed_to x.levels other;
    }

-- m takes a new leaf key and lays node keys from its leaf to the top; `keys i` is the node key of level i, from below
unfoldable pub laid : {K : Type 0} → ℕ → K → (ℕ → K) → Tree K → Laid K
laid m own keys (leaf x) = record { tree = leaf (cond (is_at m x) (occupied m own) x); levels = 0; targets = [] }
laid m own keys (node p l r) =
    cond (seated m l) (climbed keys (laid m own keys l) (resolution r) (λ q t. node q t r))
    (cond (seated m r) (climbed keys (laid m own keys r) (resolution l) (λ q t. node q l t))
    (record { tree = node p l r; levels = 0; targets = [] }))

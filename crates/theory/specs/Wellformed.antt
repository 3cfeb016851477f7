-- What is asked of a tree, as a test and as facts: every tree of a run passes.
-- `distinct`, `all_seated`, `some_merged`, `merges`, `apart`: the parts of the test; `consistent`, `numbered`, `well_formed`: the test;
-- `Merging`, `WellFormed`: the facts; `WellFormedIs`: the test says just these; `WellFormedKept`, `Distinct`: they hold in every run.
-- Assumes nothing.
use Rattle.std.specs.Prelude.{◌≡◌, ℕ, ◌<◌, Bool, true, false, not, ◌&&◌, ◌||◌, T, ◌↔◌, List, [], ◌∷◌, Some, nat_lt}
use Rattle.theory.specs.Limits.{nobody}
use Rattle.theory.specs.Secrets.{Secret}
use Rattle.theory.specs.Tree.{Tree, leaf, node, Leaf, blank_leaf, occupied, Parent, blank_parent, keyed, seated}
use Rattle.theory.specs.Held.{is_unmerged}
use Rattle.theory.specs.Group.{Commit, group}
use Rattle.theory.specs.Places.{Turn, parent_at, sits, Over}

-- THE TEST.
-- nobody is named twice
unfoldable pub distinct : List ℕ → Bool
distinct [] = true
distinct (w ∷ ws) = not (is_unmerged w ws) && distinct ws

-- everybody named is seated in the tree
unfoldable pub all_seated : {K : Type 0} → List ℕ → Tree K → Bool
all_seated [] t = true
all_seated (w ∷ ws) t = seated w t && all_seated ws t

-- somebody who isn't named sits at the leaf
abbrev pub leaf_merged : {K : Type 0} → List ℕ → Leaf K → Bool
leaf_merged un blank_leaf = false
leaf_merged un (occupied w k) = not (is_unmerged w un)

-- somebody who isn't named is seated in the tree
unfoldable pub some_merged : {K : Type 0} → List ℕ → Tree K → Bool
some_merged un (leaf x) = leaf_merged un x
some_merged un (node p l r) = some_merged un l || some_merged un r

-- the unmerged of a parent are distinct, seated in the tree below, and not all who are
abbrev pub merges : {K : Type 0} → Parent K → Tree K → Bool
merges blank_parent t = true
merges (keyed k un) t = distinct un && (all_seated un t && some_merged un t)

-- who sits at the leaf isn't seated in the tree
abbrev pub leaf_apart : {K : Type 0} → Leaf K → Tree K → Bool
leaf_apart blank_leaf t = true
leaf_apart (occupied w k) t = not (seated w t)

-- nobody is seated in both trees
unfoldable pub apart : {K : Type 0} → Tree K → Tree K → Bool
apart (leaf x) t = leaf_apart x t
apart (node p l r) t = apart l t && apart r t

-- nobody sits twice, and the unmerged of every keyed parent are distinct, seated below it, and not all who are
unfoldable pub consistent : {K : Type 0} → Tree K → Bool
consistent (leaf x) = true
consistent (node p l r) = (apart l r && merges p (node p l r)) && (consistent l && consistent r)

abbrev pub leaf_numbered : {K : Type 0} → Leaf K → Bool
leaf_numbered blank_leaf = true
leaf_numbered (occupied w k) = nat_lt w nobody

-- everybody has a member's number
unfoldable pub numbered : {K : Type 0} → Tree K → Bool
numbered (leaf x) = leaf_numbered x
numbered (node p l r) = numbered l && numbered r

-- what is asked of a tree
abbrev pub well_formed : {K : Type 0} → Tree K → Bool
well_formed t = numbered t && consistent t

-- THE FACTS.
-- of the unmerged of the keyed parent at the place q
pub record Merging {K : Type 0} (q : List Turn) (un : List ℕ) (t : Tree K) : Type 0 where
  pub once : T (distinct un)
  pub below : (w : ℕ) → T (is_unmerged w un) → (p : List Turn) × Over q p × T (sits w p t)
  pub somebody : (w : ℕ) × T (not (is_unmerged w un)) × ((p : List Turn) × Over q p × T (sits w p t))

pub record Consistent {K : Type 0} (t : Tree K) : Type 0 where
  -- every member sits at one place at most
  pub sole : (m : ℕ) (p q : List Turn) → T (sits m p t) → T (sits m q t) → p ≡ q
  -- the unmerged of every keyed parent are distinct, sit below it, and somebody else does too
  pub merging : (q : List Turn) (k : K) (un : List ℕ) → parent_at q t ≡ Some (keyed k un) → Merging q un t

pub record WellFormed {K : Type 0} (t : Tree K) : Type 0 where
  pub numbers : (m : ℕ) → T (seated m t) → m < nobody
  pub consistent : Consistent t

-- the test says just these facts
abbrev pub WellFormedIs : Type 0
WellFormedIs = (t : Tree Secret) → T (well_formed t) ↔ WellFormed t

-- THE RUNS.
-- every tree of a run is consistent, and well-formed if the founder has a member's number
abbrev pub WellFormedKept : Type 0
WellFormedKept =
    (f : ℕ) (commits : ℕ → Commit) (n : ℕ) →
    T (consistent (group f commits n).tree) × (f < nobody → T (well_formed (group f commits n).tree))

-- in every tree of a run every member sits at one place at most
abbrev pub Distinct : Type 0
Distinct =
    (f : ℕ) (commits : ℕ → Commit) (n m : ℕ) (p q : List Turn) →
    T (sits m p (group f commits n).tree) → T (sits m q (group f commits n).tree) → p ≡ q

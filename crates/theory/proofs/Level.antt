-- Every tree of a run has all leaves at one depth, at most ten: a full tree of depth d has 2 ^ d members, and the last 1,024 seats are never outgrown.
-- Assumes nothing.
use Rattle.std.proofs.Common.{◌≡◌, ℕ, zero, suc, ◌^◌, ◌<◌, ◌≤◌, Bool, true, false, not, ◌||◌, T, leb, List, is_some, Option, refl, ap, inl, inr, arith, pow_mono}
use Rattle.std.proofs.lemmas.Bool.{cases_lt}
use Rattle.std.proofs.Math.Facts.{yes_and}
use Rattle.theory.specs.Limits.{max_depth, max_members, last_epoch}
use Rattle.theory.specs.Tree.{Tree, leaf, node, Leaf, Parent, is_blank, seated, full, members, height, is_level, blank_tree, grown, added, removed}
use Rattle.theory.specs.Group.{Change, renew, remove, add, Commit, first_of, change_refusal, readied, group}
use Rattle.theory.specs.Places.{Turn}
use Rattle.theory.specs.Laws.{LevelKept}
use Rattle.theory.proofs.Tests.{by_cond, decided, is_false}
use Rattle.theory.proofs.Addition.{Adding, here, in_left, in_right, adding, added_full}
use Rattle.theory.proofs.Growth.{grown-full, grown-roomy}
use Rattle.theory.proofs.Runs.{Laying, laying, run-keeps}
use Rattle.theory.proofs.Runs as runs

-- every leaf lies d below the top
pub data Level {K : Type 0} : ℕ → Tree K → Type 0 where
  at_leaf : {x : Leaf K} → Level zero (leaf x)
  at_node : {d : ℕ} {c : Parent K} {l r : Tree K} → Level d l → Level d r → Level (suc d) (node c l r)

pub level-test : {K : Type 0} {d : ℕ} {t : Tree K} → Level d t → T (is_level d t)
unfolding is_level
level-test at_leaf = tt
level-test (at_node {d} {l} {r} a b) = yes_and (is_level d l) (is_level d r) (level-test a) (level-test b)

pub level-height : {K : Type 0} {d : ℕ} {t : Tree K} → Level d t → height t ≡ d
unfolding height
level-height at_leaf = refl
level-height (at_node a b) = ap suc (level-height a)

pub full-members : {K : Type 0} {d : ℕ} {t : Tree K} → Level d t → T (full t) → members t ≡ 2 ^ d
unfolding full members
full-members (at_leaf {x}) h = rw (is_false (is_blank x) h)
full-members (at_node {d} {l} {r} a b) h = grind (arith, full-members a, full-members b)

-- A CHANGE keeps the depth, but for growing, which adds one.
pub blank-level : {K : Type 0} {d : ℕ} {t : Tree K} → Level d t → Level d (blank_tree t)
unfolding blank_tree
blank-level at_leaf = at_leaf
blank-level (at_node a b) = at_node (blank-level a) (blank-level b)

pub removed-level : {K : Type 0} (m : ℕ) {d : ℕ} {t : Tree K} → Level d t → Level d (removed m t)
unfolding removed
removed-level m at_leaf = at_leaf
removed-level m (at_node {d} {l} {r} a b) =
    by_cond (Level (suc d)) (seated m l || seated m r) _ _
    (λ _. at_node (removed-level m a) (removed-level m b)) (λ _. at_node a b)

pub adding-level :
    {K : Type 0} {m : ℕ} {k : K} {t u : Tree K} {p : List Turn} {d : ℕ} → Adding m k t u p → Level d t → Level d u
adding-level here at_leaf = at_leaf
adding-level (in_left a) (at_node x y) = at_node (adding-level a x) y
adding-level (in_right f a) (at_node x y) = at_node x (adding-level a y)

pub added-level : {K : Type 0} (m : ℕ) (k : K) {d : ℕ} (t : Tree K) → Level d t → Level d (added m k t)
added-level m k t a =
    elim (decided (full t)) [
      | inl h ↦ rw (added_full m k t h) a
      | inr h ↦ adding-level (adding m k t h).1 a
    ]

pub laying-level : {K : Type 0} {m : ℕ} {own : K} {t u : Tree K} {d : ℕ} → Laying m own t u → Level d t → Level d u
laying-level (runs.elsewhere h) a = a
laying-level runs.here at_leaf = at_leaf
laying-level (runs.in_left h a) (at_node x y) = at_node (laying-level a x) y
laying-level (runs.in_right h a) (at_node x y) = at_node x (laying-level a y)

-- A RUN stays within the deepest tree.
abbrev pub Bounded : {K : Type 0} → Tree K → Type 0
Bounded t = (d : ℕ) × Level d t × (d ≤ max_depth)

-- a tree with fewer than 2 ^ 10 leaves has room for one level more
shallow : (d : ℕ) → 2 ^ d < max_members → d < max_depth
shallow d h =
    elim (cases_lt d max_depth) [
      | inl a ↦ a
      | inr b ↦ let more : 2 ^ 10 ≤ 2 ^ d = pow_mono b in absurd (omega arith)
    ]

pub grown-bounded : {K : Type 0} (t : Tree K) → members t < max_members → Bounded t → Bounded (grown t)
grown-bounded t room b =
    elim (decided (full t)) [
      | inl h ↦
          let few : 2 ^ b.0 < max_members = rw (full-members b.1 h) at room in
          rw (grown-full t h) (suc b.0, at_node b.1 (blank-level b.1), shallow b.0 few)
      | inr h ↦ rw (grown-roomy t h) b
    ]

pub not-refused : (b : Bool) (n : ℕ) (o : Option ℕ) → T (not (is_some (first_of b n o))) → T (not b) × T (not (is_some o))
not-refused true n o h = elim h [ ]
not-refused false n o h = (tt, h)

-- an addition that isn't refused finds fewer members than the deepest tree has leaves
readied-bounded :
    {K : Type 0} (w : ℕ) (c : Change) (fresh : K) (t : Tree K) →
    T (not (is_some (change_refusal w c t))) → Bounded t → Bounded (readied c fresh t)
readied-bounded w renew fresh t h b = b
readied-bounded w (remove m) fresh t h b = (b.0, removed-level m b.1, b.2)
readied-bounded w (add m) fresh t h b = grind (arith, grown-bounded, added-level)

pub run-bounded : (f : ℕ) (commits : ℕ → Commit) (n : ℕ) → Bounded (group f commits n).tree
run-bounded =
    run-keeps Bounded (λ m k. (0, at_leaf, omega arith))
    (λ e c t h fresh own keys b.
    let asked = not-refused (not (seated c.committer t)) 3 _ (not-refused (leb last_epoch e) 9 _ h).1 in
    let g = readied-bounded c.committer c.change fresh t asked.1 b in
    (g.0, laying-level (laying c.committer own keys _) g.1, g.2))

pub level-kept : LevelKept
level-kept f commits n =
    let b = run-bounded f commits n in
    (rw (level-height b.1) (level-test b.1), rw (level-height b.1) b.2)

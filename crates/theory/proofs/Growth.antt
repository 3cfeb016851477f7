-- What growing does.
-- Assumes nothing.
use Rattle.std.proofs.Common.{◌≡◌, ℕ, not, T, List, [], ◌∷◌, None, refl, arith}
use Rattle.theory.specs.Tree.{Tree, leaf, node, blank_parent, seated, full, position, blank_tree, grown}
use Rattle.theory.specs.Places.{Turn, left, right, leaf_at, parent_at, has_key}
use Rattle.theory.specs.Laws.{Doubled, Growth}
use Rattle.theory.proofs.Tests.{is_true, is_false, nor}
use Rattle.theory.proofs.Places.{sits-seated}

pub grown-full : {K : Type 0} (t : Tree K) → T (full t) → grown t ≡ node blank_parent t (blank_tree t)
grown-full t h = rw (is_true (full t) h)

pub grown-roomy : {K : Type 0} (t : Tree K) → T (not (full t)) → grown t ≡ t
grown-roomy t h = rw (is_false (full t) h)

-- nobody is seated in a blank tree
pub blank-deserted : {K : Type 0} (m : ℕ) (t : Tree K) → T (not (seated m (blank_tree t)))
unfolding seated blank_tree
blank-deserted m (leaf x) = tt
blank-deserted m (node p l r) =
    nor (seated m (blank_tree l)) (seated m (blank_tree r)) (blank-deserted m l) (blank-deserted m r)

pub blank-position : {K : Type 0} (m : ℕ) (t : Tree K) → position m (blank_tree t) ≡ None
unfolding position blank_tree
blank-position m (leaf x) = refl
blank-position m (node p l r) = rw (blank-position m l, blank-position m r)

-- no parent of a blank tree has a key
pub blank-bare : {K : Type 0} (p : List Turn) (t : Tree K) → T (not (has_key (parent_at p (blank_tree t))))
unfolding parent_at blank_tree
blank-bare [] (leaf x) = tt
blank-bare [] (node c l r) = tt
blank-bare (d ∷ p) (leaf x) = tt
blank-bare (left ∷ p) (node c l r) = blank-bare p l
blank-bare (right ∷ p) (node c l r) = blank-bare p r

pub doubled : {K : Type 0} (t : Tree K) → T (full t) → Doubled t
unfolding leaf_at parent_at position
doubled t h = grind (arith, blank-deserted, sits-seated, blank-bare, blank-position)

pub growth : Growth
growth t = (doubled t, grown-roomy t)

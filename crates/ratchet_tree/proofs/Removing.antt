-- Removing from a tree, by whether the member sits in it.
-- Assumes nothing.
use Rattle.std.proofs.Common.{◌≡◌, ℕ, true, false, ◌||◌}
use Rattle.std.proofs.lemmas.Bool.{cond-true, cond-false}
use Rattle.theory.specs.Tree.{Tree, node, Parent, blank_parent, seated, removed}

module _ {K : Type 0} (m : ℕ) (p : Parent K) (l r : Tree K) where
  pub removed-seated : seated m (node p l r) ≡ true → removed m (node p l r) ≡ node blank_parent (removed m l) (removed m r)
  unfolding seated removed
  removed-seated e = cond-true (seated m l || seated m r) (node blank_parent (removed m l) (removed m r)) (node p l r) e

  pub removed-absent : seated m (node p l r) ≡ false → removed m (node p l r) ≡ node p l r
  unfolding seated removed
  removed-absent e = cond-false (seated m l || seated m r) (node blank_parent (removed m l) (removed m r)) (node p l r) e

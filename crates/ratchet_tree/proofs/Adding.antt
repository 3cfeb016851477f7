-- Adding to a tree, by which of its halves is full.
-- Assumes nothing.
use Rattle.std.proofs.Common.{◌≡◌, ℕ, true, false, cond, ◌∙◌}
use Rattle.std.proofs.lemmas.Bool.{cond-true, cond-false}
use Rattle.theory.specs.Tree.{Tree, node, Parent, unmerged_at, full, added}

module _ {K : Type 0} (m : ℕ) (k : K) (p : Parent K) (l r : Tree K) where
  in_left : Tree K
  in_left = node (unmerged_at m p) (added m k l) r

  in_right : Tree K
  in_right = node (unmerged_at m p) l (added m k r)

  pub added-left : full l ≡ false → added m k (node p l r) ≡ node (unmerged_at m p) (added m k l) r
  unfolding added in_left in_right
  added-left e = cond-false (full l) (cond (full r) (node p l r) in_right) in_left e

  pub added-right : full l ≡ true → full r ≡ false → added m k (node p l r) ≡ node (unmerged_at m p) l (added m k r)
  unfolding added in_left in_right
  added-right e f = cond-true (full l) (cond (full r) (node p l r) in_right) in_left e ∙ cond-false (full r) (node p l r) in_right f

  pub added-nowhere : full l ≡ true → full r ≡ true → added m k (node p l r) ≡ node p l r
  unfolding added in_left in_right
  added-nowhere e f = cond-true (full l) (cond (full r) (node p l r) in_right) in_left e ∙ cond-true (full r) (node p l r) in_right f

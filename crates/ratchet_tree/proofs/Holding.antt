-- The key that a member holds at a height, by where it sits.
-- Assumes nothing.
use Rattle.std.proofs.Common.{◌≡◌, ℕ, suc, true, false, cond, ◌||◌, eqb, List, [], ◌∙◌}
use Rattle.std.proofs.lemmas.Bool.{cond-true, cond-false, eq-eqb, ne_eqb}
use Rattle.theory.specs.Held.{held_at, node_key_held}
use Rattle.theory.specs.Tree.{Tree, leaf, node, Leaf, Parent, is_at, key_at, seated, height}

module _ {K : Type 0} (m h : ℕ) (x : Leaf K) where
  pub held-leaf : h ≡ 0 → held_at m h (leaf x) ≡ cond (is_at m x) (key_at x) []
  unfolding held_at
  held-leaf e = cond-true (eqb h 0) (cond (is_at m x) (key_at x) []) [] (eq-eqb h 0 e)

  pub held-above : (h ≡ 0 → ⊥) → held_at m h (leaf x) ≡ []
  unfolding held_at
  held-above e = cond-false (eqb h 0) (cond (is_at m x) (key_at x) []) [] (ne_eqb h 0 e)

module _ {K : Type 0} (m h : ℕ) (p : Parent K) (l r : Tree K) where
  below : List K
  below = cond (seated m l) (held_at m h l) (held_at m h r)

  top : List K
  top = cond (seated m l || seated m r) (node_key_held m p) []

  pub held-top : h ≡ suc (height l) → seated m (node p l r) ≡ true → held_at m h (node p l r) ≡ node_key_held m p
  unfolding held_at seated below top
  held-top e s = cond-true (eqb h (suc (height l))) top below (eq-eqb h (suc (height l)) e) ∙ cond-true (seated m l || seated m r) (node_key_held m p) [] s

  pub held-nowhere : h ≡ suc (height l) → seated m (node p l r) ≡ false → held_at m h (node p l r) ≡ []
  unfolding held_at seated below top
  held-nowhere e s = cond-true (eqb h (suc (height l))) top below (eq-eqb h (suc (height l)) e) ∙ cond-false (seated m l || seated m r) (node_key_held m p) [] s

  pub held-left : (h ≡ suc (height l) → ⊥) → seated m l ≡ true → held_at m h (node p l r) ≡ held_at m h l
  unfolding held_at seated below top
  held-left e s = cond-false (eqb h (suc (height l))) top below (ne_eqb h (suc (height l)) e) ∙ cond-true (seated m l) (held_at m h l) (held_at m h r) s

  pub held-right : (h ≡ suc (height l) → ⊥) → seated m l ≡ false → held_at m h (node p l r) ≡ held_at m h r
  unfolding held_at seated below top
  held-right e s = cond-false (eqb h (suc (height l))) top below (ne_eqb h (suc (height l)) e) ∙ cond-false (seated m l) (held_at m h l) (held_at m h r) s

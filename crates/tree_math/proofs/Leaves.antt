-- Where the leaves stand.
use Rattle.std.proofs.Common.{◌≡◌, ℕ, zero, suc, ◌-◌, ◌*◌, ◌/◌, ◌%◌, ◌^◌, ◌<◌, ◌≤◌, eqb, ltb, cond, nat_lt, Some, None, sym, ap, ◌∙◌, inl, inr, arith}
use Rattle.std.proofs.lemmas.Bool.{cases_lt, eq-eqb, ne_eqb, lt-ltb, le-ltb, cond-true, cond-false}
use Rattle.std.proofs.lemmas.Option.{same_Some}
use Rattle.tree_math.specs.Index.{height_of, leaf_of, from_right}
use Rattle.tree_math.specs.Laws.{node_over, LeafPlaces}
use Rattle.tree_math.specs.Span.{span}
use Rattle.tree_math.proofs.Span.{span-double}
use Rattle.tree_math.proofs.Numbering.{numbering}

-- one step of the walk
pub leaf-before : (h k : ℕ) → k < 2 ^ h → leaf_of (suc h) k ≡ leaf_of h k
unfolding leaf_of
leaf-before h k l = cond-true (ltb k (2 ^ h)) _ _ (lt-ltb k (2 ^ h) l)

pub leaf-behind : (h k : ℕ) → 2 ^ h ≤ k → leaf_of (suc h) k ≡ from_right h (leaf_of h (k - 2 ^ h))
unfolding leaf_of
leaf-behind h k g = cond-false (ltb k (2 ^ h)) _ _ (le-ltb k (2 ^ h) g)

pub leaf-at : (d k : ℕ) → k < 2 ^ d → leaf_of d k ≡ Some (2 * k)
unfolding leaf_of
leaf-at zero k l = cond-true (eqb k 0) (Some 0) None (eq-eqb k 0 (omega arith)) ∙ ap Some (omega arith)
leaf-at (suc h) k l =
    elim (cases_lt k (2 ^ h)) [
      | inl b ↦ leaf-before h k b ∙ leaf-at h k b
      | inr g ↦
          leaf-behind h k g ∙ ap (λ o. from_right h o) (leaf-at h (k - 2 ^ h) (omega arith)) ∙ ap Some (omega (arith, span-double h))
    ]

pub leaf-past : (d k : ℕ) → 2 ^ d ≤ k → leaf_of d k ≡ None
unfolding leaf_of
leaf-past zero k l = cond-false (eqb k 0) (Some 0) None (ne_eqb k 0 (omega arith))
leaf-past (suc h) k l =
    leaf-behind h k (omega arith) ∙ ap (λ o. from_right h o) (leaf-past h (k - 2 ^ h) (omega arith))

leaf-height : (d k : ℕ) → k < 2 ^ d → height_of d (2 * k) ≡ Some 0
leaf-height d k l =
    ap (λ (x : ℕ). height_of d x) (omega arith) ∙ numbering.0 d 0 k (omega arith) (omega (arith, ap (λ (x : ℕ). 2 ^ x) (less d)))
  where
    less : (n : ℕ) → n - 0 ≡ n
    less n = omega arith

even : (d i : ℕ) → i < span d → height_of d i ≡ Some 0 → i % 2 ≡ 0
even d i l e =
    let r = numbering.1 d i l in
    let z : r.0 ≡ 0 = same_Some r.0 0 (sym r.4 ∙ e) in
    omega (arith, r.5 ∙ ap (λ (x : ℕ). node_over x r.1) z)

leaf-if-even : (d i : ℕ) → i < span d → i % 2 ≡ 0 → height_of d i ≡ Some 0
leaf-if-even d i l e =
    ap (λ (x : ℕ). height_of d x) (half i e) ∙ leaf-height d (i / 2) (omega (arith, span-double d))
  where
    half : (n : ℕ) → n % 2 ≡ 0 → n ≡ 2 * (n / 2)
    half n q = omega arith

pub leaf-places : LeafPlaces
leaf-places = ((λ d k l. (leaf-at d k l, leaf-height d k l)), leaf-past, (λ d i l. (even d i l, leaf-if-even d i l)))

-- the k-th leaf stands at 2 k, if the tree is so wide
pub leaf_is : (d k : ℕ) → leaf_of d k ≡ cond (nat_lt (2 * k) (span d)) (Some (2 * k)) None
leaf_is d k =
    elim (cases_lt k (2 ^ d)) [
      | inl l ↦ leaf-at d k l ∙ sym (cond-true (ltb (2 * k) (span d)) _ _ (lt-ltb (2 * k) (span d) (omega (arith, span-double d))))
      | inr g ↦ leaf-past d k g ∙ sym (cond-false (ltb (2 * k) (span d)) _ _ (le-ltb (2 * k) (span d) (omega (arith, span-double d))))
    ]

-- One step of the walk from the top: what a function answers before the middle node, at it and behind it.
use Rattle.std.proofs.Common.{◌≡◌, ℕ, suc, ◌+◌, ◌-◌, ◌<◌, eqb, ltb, Some, None, refl, ◌∙◌, inl, inr, arith}
use Rattle.std.proofs.lemmas.Bool.{eq-eqb, ne_eqb, lt-ltb, le-ltb, cond-true, cond-false, cases_order}
use Rattle.tree_math.specs.Index.{by_side, from_right, root_of, height_of, parent_of, left_of, right_of}
use Rattle.tree_math.specs.Span.{span}

-- the three sides of a middle node; behind it, the index in the right part
pub data Side (mid i : ℕ) : Type 0 where
  before : i < mid → Side mid i
  here : i ≡ mid → Side mid i
  behind : (j : ℕ) → i ≡ mid + 1 + j → Side mid i

pub side : (mid i : ℕ) → Side mid i
side mid i =
    elim (cases_order i mid)
    [ inl e ↦ here e | inr (inl l) ↦ before l | inr (inr g) ↦ behind (i - (mid + 1)) (omega arith) ]

module _ {X : Type 0} (mid i : ℕ) (a b c : X) where
  pub by_side-before : i < mid → by_side mid i a b c ≡ a
  by_side-before l = cond-false (eqb i mid) b _ (ne_eqb i mid (omega arith)) ∙ cond-true (ltb i mid) a c (lt-ltb i mid l)

  pub by_side-here : i ≡ mid → by_side mid i a b c ≡ b
  by_side-here e = cond-true (eqb i mid) b _ (eq-eqb i mid e)

  pub by_side-behind : mid < i → by_side mid i a b c ≡ c
  by_side-behind g = cond-false (eqb i mid) b _ (ne_eqb i mid (omega arith)) ∙ cond-false (ltb i mid) a c (le-ltb i mid (omega arith))

-- heights
module _ (h i : ℕ) where
  pub height-before : i < span h → height_of (suc h) i ≡ height_of h i
  unfolding height_of
  height-before l = by_side-before (span h) i _ _ _ l

  pub height-here : i ≡ span h → height_of (suc h) i ≡ Some (suc h)
  unfolding height_of
  height-here e = by_side-here (span h) i _ _ _ e

  pub height-behind : span h < i → height_of (suc h) i ≡ height_of h (i - (span h + 1))
  unfolding height_of
  height-behind g = by_side-behind (span h) i _ _ _ g

pub height-zero : height_of 0 0 ≡ Some 0
unfolding height_of
height-zero = refl

pub height-none : (i : ℕ) → (i ≡ 0 → ⊥) → height_of 0 i ≡ None
unfolding height_of
height-none i ne = cond-false (eqb i 0) (Some 0) None (ne_eqb i 0 ne)

-- children
module _ (h i : ℕ) where
  pub left-before : i < span h → left_of (suc h) i ≡ left_of h i
  unfolding left_of
  left-before l = by_side-before (span h) i _ _ _ l

  pub left_here : i ≡ span h → left_of (suc h) i ≡ Some (root_of h)
  unfolding left_of
  left_here e = by_side-here (span h) i _ _ _ e

  pub left_behind : span h < i → left_of (suc h) i ≡ from_right h (left_of h (i - (span h + 1)))
  unfolding left_of
  left_behind g = by_side-behind (span h) i _ _ _ g

  pub right-before : i < span h → right_of (suc h) i ≡ right_of h i
  unfolding right_of
  right-before l = by_side-before (span h) i _ _ _ l

  pub right-here : i ≡ span h → right_of (suc h) i ≡ Some (span h + 1 + root_of h)
  unfolding right_of
  right-here e = by_side-here (span h) i _ _ _ e

  pub right-behind : span h < i → right_of (suc h) i ≡ from_right h (right_of h (i - (span h + 1)))
  unfolding right_of
  right-behind g = by_side-behind (span h) i _ _ _ g

pub left-none : (i : ℕ) → left_of 0 i ≡ None
unfolding left_of
left-none i = refl

pub right-none : (i : ℕ) → right_of 0 i ≡ None
unfolding right_of
right-none i = refl

-- parents
module _ (h i : ℕ) where
  pub parent-before : i < span h → (i ≡ root_of h → ⊥) → parent_of (suc h) i ≡ parent_of h i
  unfolding parent_of
  parent-before l ne = by_side-before (span h) i _ _ _ l ∙ cond-false (eqb i (root_of h)) _ _ (ne_eqb i (root_of h) ne)

  pub parent-before-root : i < span h → i ≡ root_of h → parent_of (suc h) i ≡ Some (span h)
  unfolding parent_of
  parent-before-root l e = by_side-before (span h) i _ _ _ l ∙ cond-true (eqb i (root_of h)) _ _ (eq-eqb i (root_of h) e)

  pub parent-here : i ≡ span h → parent_of (suc h) i ≡ None
  unfolding parent_of
  parent-here e = by_side-here (span h) i _ _ _ e

  pub parent-behind : span h < i → (i - (span h + 1) ≡ root_of h → ⊥) → parent_of (suc h) i ≡ from_right h (parent_of h (i - (span h + 1)))
  unfolding parent_of
  parent-behind g ne = by_side-behind (span h) i _ _ _ g ∙ cond-false (eqb (i - (span h + 1)) (root_of h)) _ _ (ne_eqb (i - (span h + 1)) (root_of h) ne)

  pub parent-behind-root : span h < i → i - (span h + 1) ≡ root_of h → parent_of (suc h) i ≡ Some (span h)
  unfolding parent_of
  parent-behind-root g e = by_side-behind (span h) i _ _ _ g ∙ cond-true (eqb (i - (span h + 1)) (root_of h)) _ _ (eq-eqb (i - (span h + 1)) (root_of h) e)

pub parent-none : (i : ℕ) → parent_of 0 i ≡ None
unfolding parent_of
parent-none i = refl

-- Where a node stands, and where its children do.
use Rattle.std.proofs.Common.{◌≡◌, ℕ, suc, ◌+◌, ◌-◌, ◌*◌, ◌%◌, ◌^◌, ◌<◌, ◌≤◌, Some, None, ap, ◌∙◌, arith, pow-suc, pow_pos, pow_mono, sym, Option, ◌⊎◌, inl, inr}
use Rattle.std.proofs.lemmas.Bool.Decides.{nat_tests}
use Rattle.std.proofs.lemmas.Nat.{one_shl}
use Rattle.std.proofs.lemmas.Option.{none-some}
use Rattle.theory.specs.Limits.{max_depth}
use Rattle.tree_math.specs.Index.{in_depth, node_of, height_of, parent_of, left_of, right_of}
use Rattle.tree_math.specs.Span.{span}
use Rattle.tree_math.proofs.Span.{span-bound, span-double}
use Rattle.tree_math.proofs.Leaves.{leaf_is}
use Rattle.tree_math.proofs.Family.{outside, inside, room, child-heights, childless-leaves, parent-of-children}

-- how far its children are from a node of height h + 1, as the code has it
abbrev pub step : ℕ → ℕ
step h = 1 * 2 ^ h % 2 ^ 64

-- the children of the node at i, which are of height h
module _ (d i top h : ℕ) (shallow : d ≤ max_depth) (is : height_of d i ≡ Some top) (lower : (1 ≤ top) × (h ≡ top - 1)) where
  above : height_of d i ≡ Some (suc h)
  above = is ∙ ap Some (omega arith)

  pub low : h < 10
  low = omega (arith, (room d i (suc h) above).1)

  pub step-is : 2 ^ h ≡ step h
  step-is = omega (arith, one_shl h 64 (omega (arith, low)))

  pub left-fits : step h ≤ i
  left-fits = omega (arith, step-is, (room d i (suc h) above).3, pow_pos h, pow-suc 2 h)

  pub right-fits : i + step h < 2 ^ 64
  right-fits =
      let small : h ≤ 10 = omega (arith, low) in
      omega (arith, step-is, inside d i (suc h) above, span-bound d shallow, pow_mono small)

  pub left-is : left_of d i ≡ Some (i - step h)
  left-is = (child-heights d i h above).0 ∙ ap (λ (s : ℕ). Some (i - s)) step-is

  pub right-is : right_of d i ≡ Some (i + step h)
  right-is = (child-heights d i h above).1 ∙ ap (λ (s : ℕ). Some (i + s)) step-is

  pub left-height : height_of d (i - step h) ≡ Some h
  left-height = ap (λ (s : ℕ). height_of d (i - s)) (sym step-is) ∙ (child-heights d i h above).2

  pub right-height : height_of d (i + step h) ≡ Some h
  right-height = ap (λ (s : ℕ). height_of d (i + s)) (sym step-is) ∙ (child-heights d i h above).3

  pub left-parent : parent_of d (i - step h) ≡ Some i
  left-parent = (parent-of-children d i (i - step h)).0 left-is

  pub right-parent : parent_of d (i + step h) ≡ Some i
  right-parent = (parent-of-children d i (i + step h)).1 right-is

-- an index that the walk does not find
none-in-depth : (d : ℕ) (o : Option ℕ) → (max_depth < d) ⊎ (o ≡ None) → node_of (in_depth d o) ≡ None
none-in-depth d None out = grind (arith, nat_tests)
none-in-depth d (Some n) (inl deep) = grind (arith, nat_tests)
none-in-depth d (Some n) (inr e) = absurd (none-some n (sym e))

none-outside : (d i : ℕ) (o : Option ℕ) → (span d ≤ i → o ≡ None) → (max_depth < d) ⊎ (span d ≤ i) → node_of (in_depth d o) ≡ None
none-outside d i o f (inl deep) = none-in-depth d o (inl deep)
none-outside d i o f (inr past) = none-in-depth d o (inr (f past))

pub no_parent : (d i : ℕ) → (max_depth < d) ⊎ (span d ≤ i) → node_of (in_depth d (parent_of d i)) ≡ None
no_parent d i = none-outside d i (parent_of d i) (λ past. (outside d i past).1)

pub no_left : (d i : ℕ) → (max_depth < d) ⊎ (span d ≤ i) → node_of (in_depth d (left_of d i)) ≡ None
no_left d i = none-outside d i (left_of d i) (λ past. (outside d i past).2)

pub no_right : (d i : ℕ) → (max_depth < d) ⊎ (span d ≤ i) → node_of (in_depth d (right_of d i)) ≡ None
no_right d i = none-outside d i (right_of d i) (λ past. (outside d i past).3)

-- what the functions over the walk rest on
pub ruleset walks = (span-bound, span-double, leaf_is, outside, no_parent, no_left, no_right)

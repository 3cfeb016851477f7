-- Which leaves a node stands over.
use Rattle.std.proofs.Common.{◌≡◌, ℕ, zero, suc, ◌+◌, ◌*◌, Some, ap, ◌∙◌, arith, pow_pos}
use Rattle.tree_math.specs.Index.{left_of, right_of}
use Rattle.tree_math.specs.Laws.{node_over, onward, leftmost, rightmost, Covers}
use Rattle.tree_math.proofs.Numbering.{numbering}
use Rattle.tree_math.proofs.Family.{child-heights, left-number, right-number, row, twice}

-- one step down
left_step : (d n i c : ℕ) → left_of d i ≡ Some c → leftmost d (suc n) i ≡ leftmost d n c
unfolding leftmost
left_step d n i c e = ap (λ o. onward o (leftmost d n)) e

right-step : (d n i c : ℕ) → right_of d i ≡ Some c → rightmost d (suc n) i ≡ rightmost d n c
unfolding rightmost
right-step d n i c e = ap (λ o. onward o (rightmost d n)) e

pub covers : Covers
unfolding leftmost rightmost
covers d zero k l m = (ap Some (omega arith), ap Some (omega arith))
covers d (suc h) k l m =
    let i : ℕ = node_over (suc h) k in
    let down = child-heights d i h (numbering.0 d (suc h) k l m) in
    let a = covers d h (2 * k) (omega arith) (omega (arith, row d h l)) in
    let b = covers d h (2 * k + 1) (omega arith) (omega (arith, row d h l)) in (
      left_step d h i (node_over h (2 * k)) (down.0 ∙ ap Some (left-number h k)) ∙ a.0 ∙ ap Some (omega (arith, twice h k)),
      right-step d h i (node_over h (2 * k + 1)) (down.1 ∙ ap Some (right-number h k)) ∙ b.1
          ∙ ap Some (omega (arith, twice h k, pow_pos h)),
    )

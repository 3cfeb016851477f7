-- The slots of path secrets go by turns.
-- Assumes nothing.
use Rattle.std.proofs.Common.{◌≡◌, ℕ, zero, suc, ◌%◌, refl, arith}
use Rattle.vault_theory.specs.Order.{slot_of_path}

-- one slot at the even levels, the other at the odd ones
pub slots-turn : (i : ℕ) → (i % 2 ≡ 0 → slot_of_path i ≡ 19) × ((i % 2 ≡ 0 → ⊥) → slot_of_path i ≡ 20)
unfolding slot_of_path
slots-turn zero = (λ e. refl, λ n. absurd (n refl))
slots-turn (suc i) =
    let below = slots-turn i in
    (λ e. omega (arith, below.1 (λ z. omega arith)), λ n. omega (arith, below.0 (omega (arith, n))))

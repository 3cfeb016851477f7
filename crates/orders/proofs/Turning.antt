-- The epoch's orders, at the slot of the path secret that is left.
-- Assumes nothing.
use Rattle.std.proofs.Common.{◌≡◌, ℕ, List, ◌∷◌, ◌++◌, ap}
use Rattle.vault_theory.specs.Order.{Order, epoch_slot, forget, mix, slot_of_path, seed_slot, talk_slot}
use Rattle.vault_theory.specs.Orders.{renewed, turned}

pub turned-is : {K : Type 0} (n s : ℕ) (sealing : List (Order K)) → s ≡ slot_of_path n →
    mix seed_slot s epoch_slot ∷ forget s ∷ forget talk_slot ∷ forget seed_slot ∷ (sealing ++ renewed) ≡ turned n sealing
turned-is n s sealing e = ap (λ x. mix seed_slot x epoch_slot ∷ forget x ∷ forget talk_slot ∷ forget seed_slot ∷ (sealing ++ renewed)) e

use Rattle.vault_theory.proofs.Chips.{chips_hold}
use Rattle.vault_theory.proofs.chips_hold.Goals as goal

-- grind makes no record of this many fields by itself, so the theorem is named here
pub returns : goal.returns
returns c = record { law = chips_hold }

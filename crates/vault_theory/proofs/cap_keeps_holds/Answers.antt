use Rattle.vault_theory.proofs.Capped.{cap-keeps}
use Rattle.vault_theory.proofs.cap_keeps_holds.Goals as goal

-- an attribute can name no lemma with a dash, and crates above cite this one
pub returns : goal.returns
returns c = record { law = cap-keeps }

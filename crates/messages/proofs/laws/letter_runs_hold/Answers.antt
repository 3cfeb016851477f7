use Rattle.theory.proofs.Secrecy.{main}
use Rattle.messages.proofs.Delivery.{letters-deliver}
use Rattle.messages.proofs.laws.letter_runs_hold.Goals as goal

pub returns : goal.returns
returns c = record { law = (letters-deliver, main) }

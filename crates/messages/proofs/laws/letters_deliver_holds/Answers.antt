use Rattle.messages.proofs.Delivery.{letters-deliver}
use Rattle.messages.proofs.laws.letters_deliver_holds.Goals as goal

pub returns : goal.returns
returns c = record { law = letters-deliver }

use Rattle.messages.proofs.Delivery.{letters-arrive}
use Rattle.messages.proofs.laws.letters_arrive_holds.Goals as goal

pub returns : goal.returns
returns c = record { law = letters-arrive }

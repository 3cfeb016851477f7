use Rattle.messages.proofs.Reading.{one-reading}
use Rattle.messages.proofs.laws.one_reading_holds.Goals as goal

pub returns : goal.returns
returns c = record { law = one-reading }

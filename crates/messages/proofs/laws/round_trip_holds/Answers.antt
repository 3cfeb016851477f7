use Rattle.messages.proofs.Reading.{round_trip}
use Rattle.messages.proofs.laws.round_trip_holds.Goals as goal

pub returns : goal.returns
returns c = record { law = round_trip }

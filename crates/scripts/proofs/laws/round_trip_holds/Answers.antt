use Rattle.scripts.proofs.Distinct.{round_trip}
use Rattle.scripts.proofs.laws.round_trip_holds.Goals as goal

pub returns : goal.returns
returns c = round_trip

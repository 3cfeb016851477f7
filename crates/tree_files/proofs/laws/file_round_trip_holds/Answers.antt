use Rattle.tree_files.proofs.Verdicts.{file-round-trip}
use Rattle.tree_files.proofs.laws.file_round_trip_holds.Goals as goal

pub returns : goal.returns
returns c = record { law = file-round-trip }

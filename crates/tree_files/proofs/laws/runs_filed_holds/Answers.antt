use Rattle.tree_files.proofs.Runs.{runs-filed}
use Rattle.tree_files.proofs.laws.runs_filed_holds.Goals as goal

pub returns : goal.returns
returns c = record { law = runs-filed }

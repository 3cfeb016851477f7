use Rattle.tree_files.proofs.Verdicts.{file-precedence}
use Rattle.tree_files.proofs.laws.file_precedence_holds.Goals as goal

pub returns : goal.returns
returns c = record { law = file-precedence }

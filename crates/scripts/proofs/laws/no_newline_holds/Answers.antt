use Rattle.scripts.proofs.Distinct.{no-newline}
use Rattle.scripts.proofs.laws.no_newline_holds.Goals as goal

pub returns : goal.returns
returns c = no-newline

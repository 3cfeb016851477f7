use Rattle.scripts.proofs.Cuts.{last-newline-optional}
use Rattle.scripts.proofs.laws.last_newline_optional_holds.Goals as goal

pub returns : goal.returns
returns c = last-newline-optional

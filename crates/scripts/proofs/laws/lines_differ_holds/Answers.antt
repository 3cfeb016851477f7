use Rattle.scripts.proofs.Distinct.{lines-differ}
use Rattle.scripts.proofs.laws.lines_differ_holds.Goals as goal

pub returns : goal.returns
returns c = lines-differ

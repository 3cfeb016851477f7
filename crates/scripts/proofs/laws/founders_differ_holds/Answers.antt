use Rattle.scripts.proofs.Distinct.{founders-differ}
use Rattle.scripts.proofs.laws.founders_differ_holds.Goals as goal

pub returns : goal.returns
returns c = founders-differ

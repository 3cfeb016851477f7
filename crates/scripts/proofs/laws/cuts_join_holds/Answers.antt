use Rattle.scripts.proofs.Cuts.{cuts-join}
use Rattle.scripts.proofs.laws.cuts_join_holds.Goals as goal

pub returns : goal.returns
returns c = cuts-join

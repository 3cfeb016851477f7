use Rattle.tree_math.proofs.Family.{outside-holds}
use Rattle.tree_math.proofs.laws.outside_holds.Goals as goal

pub returns : goal.returns
returns c = outside-holds

use Rattle.tree_math.proofs.Family.{childless-leaves}
use Rattle.tree_math.proofs.laws.childless_leaves_hold.Goals as goal

pub returns : goal.returns
returns c = childless-leaves

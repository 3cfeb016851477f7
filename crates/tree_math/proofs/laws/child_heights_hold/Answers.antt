use Rattle.tree_math.proofs.Family.{child-heights}
use Rattle.tree_math.proofs.laws.child_heights_hold.Goals as goal

pub returns : goal.returns
returns c = child-heights

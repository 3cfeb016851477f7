use Rattle.tree_math.proofs.Family.{children-of-parent}
use Rattle.tree_math.proofs.laws.children_of_parent_hold.Goals as goal

pub returns : goal.returns
returns c = children-of-parent

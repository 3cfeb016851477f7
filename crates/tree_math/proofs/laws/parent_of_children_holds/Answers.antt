use Rattle.tree_math.proofs.Family.{parent-of-children}
use Rattle.tree_math.proofs.laws.parent_of_children_holds.Goals as goal

pub returns : goal.returns
returns c = parent-of-children

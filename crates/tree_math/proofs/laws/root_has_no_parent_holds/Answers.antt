use Rattle.tree_math.proofs.Family.{root-has-no-parent}
use Rattle.tree_math.proofs.laws.root_has_no_parent_holds.Goals as goal

pub returns : goal.returns
returns c = root-has-no-parent

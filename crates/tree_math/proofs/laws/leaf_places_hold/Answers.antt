use Rattle.tree_math.proofs.Leaves.{leaf-places}
use Rattle.tree_math.proofs.laws.leaf_places_hold.Goals as goal

pub returns : goal.returns
returns c = leaf-places

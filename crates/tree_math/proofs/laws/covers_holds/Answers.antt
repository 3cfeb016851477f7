use Rattle.tree_math.proofs.Covers.{covers}
use Rattle.tree_math.proofs.laws.covers_holds.Goals as goal

pub returns : goal.returns
returns c = covers

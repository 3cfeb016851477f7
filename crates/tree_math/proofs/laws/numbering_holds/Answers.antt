use Rattle.tree_math.proofs.Numbering.{numbering}
use Rattle.tree_math.proofs.laws.numbering_holds.Goals as goal

pub returns : goal.returns
returns c = numbering

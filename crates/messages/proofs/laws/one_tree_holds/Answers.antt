use Rattle.messages.proofs.Filing.{one-tree}
use Rattle.messages.proofs.laws.one_tree_holds.Goals as goal

pub returns : goal.returns
returns c = record { law = one-tree }

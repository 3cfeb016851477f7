use Rattle.messages.proofs.Filing.{no-message-is-a-tree}
use Rattle.messages.proofs.laws.no_message_is_a_tree_holds.Goals as goal

pub returns : goal.returns
returns c = record { law = no-message-is-a-tree }

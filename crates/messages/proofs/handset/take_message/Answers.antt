use Rattle.std.proofs.Common.{vec_items, rules}
use Rattle.messages.proofs.PathKeys.{keys-held}
use Rattle.messages.proofs.handset.take_message.Goals as goal

pub returns : goal.returns
returns c =
    let held = keys-held (vec_items c.in_ok-nodes.nodes) c.args.message.node_keys.now c.in_ok-nodes.ensures.value in
    search rules

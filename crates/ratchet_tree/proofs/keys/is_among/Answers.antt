use Rattle.std.proofs.Common.{◌∙◌}
use Rattle.ratchet_tree.proofs.Appending.{among-any}
use Rattle.ratchet_tree.proofs.keys.is_among.Goals as goal

pub returns : goal.returns
returns c = c.contains.ensures.value ∙ among-any c.args.member.0 c.args.members.now

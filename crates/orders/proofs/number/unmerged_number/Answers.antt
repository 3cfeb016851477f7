use Rattle.std.proofs.Common.{rules}
use Rattle.orders.proofs.Numbering.{unmerged-number}
use Rattle.orders.proofs.number.unmerged_number.Goals as goal

pub returns : goal.returns
returns c = unmerged-number c.args.member.0 c.args.members.now (record { 0 = 0 }) c.position.result c.map_or.result (search rules) (search rules)

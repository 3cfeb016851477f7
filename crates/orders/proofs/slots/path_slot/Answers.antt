use Rattle.std.proofs.Common.{sym}
use Rattle.orders.proofs.Slotting.{slots-turn}
use Rattle.orders.proofs.slots.path_slot.Goals as goal

pub returns-then-level-eq0 : goal.returns-then-level-eq0
returns-then-level-eq0 c = sym ((slots-turn c.args.level).0 c.if-level-eq0.true)

pub returns-else-level-eq0 : goal.returns-else-level-eq0
returns-else-level-eq0 c = sym ((slots-turn c.args.level).1 c.if-level-eq0.false)

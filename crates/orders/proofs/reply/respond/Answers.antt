use Rattle.orders.proofs.Chips.{chips-served}
use Rattle.orders.proofs.reply.respond.Goals as goal

pub returns : goal.returns
returns c = record { orders = c.answer.ensures; chips = chips-served }

use Rattle.std.proofs.Common.{rules}
use Rattle.messages.specs.Message.{message_of}
use Rattle.orders.specs.Answered.{orders_for}
use Rattle.orders.proofs.Seeing.{listed-as, orders-answered, orders-seen}
use Rattle.orders.proofs.reply.orders_for.Goals as goal

pub returns : goal.returns
returns c =
    record {
      orders =
          orders-answered c.args.handset.now (message_of c.args.message) c.answer_with.result
          (c.answer_with.ensures (orders_for c.args.handset.now (message_of c.args.message))
          (λ view r s p. listed-as r (orders-seen c.args.handset.now (message_of c.args.message) view s) (search rules)));
    }

use Rattle.std.proofs.Common.{rules}
use Rattle.ratchet_tree.specs.Trees.{the_tree}
use Rattle.messages.specs.Message.{message_of}
use Rattle.messages.specs.Take.{commit_asked, fresh_key}
use Rattle.vault_theory.specs.Orders.{welcomed}
use Rattle.orders.proofs.Seeing.{listed-as, welcome-answered, welcome-seen}
use Rattle.orders.proofs.reply.welcomed_orders.Goals as goal

pub returns : goal.returns
returns c =
    record {
      orders =
          welcome-answered c.args.handset.now (message_of c.args.message) c.answer_with.result
          (c.answer_with.ensures (welcomed c.args.handset.now.member.0 (commit_asked (message_of c.args.message)) (fresh_key (message_of c.args.message)) (the_tree c.args.handset.now.tree))
          (λ view r s p. listed-as r (welcome-seen c.args.handset.now (message_of c.args.message) view s) (search rules)));
    }

use Rattle.std.proofs.Common.{[], ◌∷◌, map, vec_items, refl, ap, subst}
use Rattle.commits.specs.Refusals.{number_of}
use Rattle.commits.specs.declared.error.CommitError.{CommitError}
use Rattle.messages.specs.Received.{Declined}
use Rattle.wire.proofs.Appending.{appends-slice}
use Rattle.orders.specs.Order.{order_of}
use Rattle.session.specs.Reply.{orders_text, refusal_text}
use Rattle.session.proofs.Replying.{ended, told, turned-away}
use Rattle.session.proofs.replies.reply.Goals as goal
use Rattle.session.proofs.replies.reply.Goals.{in-Ok+in_ok-write_orders-in-Ok, in-Err-Refused+in_ok-refuse-in-Err-Refused}

pub returns : goal.returns
returns c =
    record {
      bytes =
          λ k. let behind = (appends-slice {a = vec_items c.match-respond.out} {x = 10 ∷ []} c.extend_from_slice.ensures.items).items k in
          elim c.match-respond.branch [
            | in-Ok+in_ok-write_orders-in-Ok w ↦
                told c.args.handset.now c.args.message.now c.respond.new.handset (vec_items w.in-Ok.orders) w.deref.result.now (vec_items c.args.out.now) _ w.in-Ok.ensures.orders w.deref.ensures.value
                (ended (vec_items c.args.out.now) (orders_text (map order_of w.deref.result.now)) (vec_items w.write_orders.new.out) (vec_items c.match-respond.out) _ behind (ap vec_items w.out-is)
                (w.in_ok-write_orders-in-Ok.ensures.items refl))
            | in-Err-Refused+in_ok-refuse-in-Err-Refused w ↦
                turned-away c.args.handset.now c.args.message.now c.respond.new.handset w.in-Err-Refused.refusal (vec_items c.args.out.now) _ w.in-Err-Refused.ensures.orders.0
                (subst (λ (e : CommitError). Declined c.args.handset.now c.args.message.now e) w.in-Err-Refused.field-0-is w.in-Err-Refused.ensures.orders.1)
                (ended (vec_items c.args.out.now) (refusal_text (number_of w.in-Err-Refused.refusal)) (vec_items w.refuse.new.out) (vec_items c.match-respond.out) _ behind (ap vec_items w.out-is)
                (w.in_ok-refuse-in-Err-Refused.ensures.bytes.items refl))
          ];
    }

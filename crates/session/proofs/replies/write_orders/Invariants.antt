use Rattle.std.proofs.Common.{◌≡◌, ◌++◌, map, take, vec_items}
use Rattle.orders.specs.Order.{order_of}
use Rattle.session.specs.Reply.{orders_text}
use Rattle.session.proofs.replies.write_orders.Given as goal

abbrev pub invariant-loop-order : goal.invariant-loop-order
invariant-loop-order l = vec_items l.out ≡ vec_items l.initial.out ++ orders_text (map order_of (take l.order-index l.orders))

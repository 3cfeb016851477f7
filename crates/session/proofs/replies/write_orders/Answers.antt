use Rattle.std.proofs.Common.{ℕ, List, [], ◌∷◌, ◌++◌, map, get_or, take, vec_items, sym, refl, ap, ◌∙◌, append_assoc}
use Rattle.std.proofs.lemmas.List.{append-nil, take_all}
use Rattle.orders.specs.Order.{order_of}
use Rattle.orders.specs.declared.order.Order.{Order}
use Rattle.orders.specs.declared.order.Order.TheVariants.{Draw}
use Rattle.session.specs.Reply.{orders_text}
use Rattle.session.specs.Text.{order_text}
use Rattle.session.proofs.Lines.{text-more, text-none}
use Rattle.session.proofs.replies.write_orders.Goals as goal

pub loop-order-init : goal.loop-order-init
loop-order-init c = sym (ap (λ l. vec_items c.args.out.now ++ l) text-none ∙ append-nil (vec_items c.args.out.now))

pub loop-order-preserved : goal.loop-order-preserved
loop-order-preserved c =
    let before : List ℕ = vec_items c.args.out.now in
    let so_far : List ℕ = orders_text (map order_of (take c.loop-order.order-index c.args.orders.now)) in
    let none : Order = Draw (record { 0 = 0 }) in
    let line : List ℕ = order_text (order_of (get_or c.args.orders.now c.loop-order.order-index none)) ++ 10 ∷ [] in
    c.in_ok-write_line.ensures.items refl
    ∙ ap (λ l. l ++ line) c.loop-order.invariant
    ∙ append_assoc before so_far line
    ∙ ap (λ l. before ++ l) (sym (text-more c.args.orders.now c.loop-order.order-index none c.loop-order-test.true))

pub returns : goal.returns
returns c =
    record { items = λ k. c.loop-order.invariant ∙ ap (λ l. vec_items c.args.out.now ++ orders_text (map order_of l)) (take_all c.loop-order.order-index c.args.orders.now c.loop-order-test.false) }

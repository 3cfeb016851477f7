use Rattle.std.proofs.Common.{map, vec_items, refl}
use Rattle.vault_theory.specs.Orders.{followed}
use Rattle.ratchet_tree.proofs.Appending.{appends-as, appends-two}
use Rattle.ratchet_tree.specs.Parts.{part_tree}
use Rattle.vault_theory.specs.Capped.{cap_order}
use Rattle.orders.specs.Order.{order_of}
use Rattle.orders.proofs.Assigning.{enters}
use Rattle.orders.proofs.Following.{counts-are}
use Rattle.orders.proofs.view.CommitView.enter.Goals as goal

pub returns : goal.returns
returns c =
    appends-as
    (enters c.args.member.0 c.args.self.committer.0 c.in_ok-level.level (part_tree c.args.self.readied) c.in_ok-level.ensures.level
    c.path_counts-counts.result.boxes c.path_slot.result.0 (counts-are c.args.self.committer.0 (part_tree c.args.self.readied) c.path_counts-counts.result c.path_counts-counts.ensures.value).1 c.path_slot.ensures)
    (appends-two (map order_of (vec_items c.args.out.now)) _ (c.in_ok-give.ensures.items refl)
    (appends-two (map order_of (vec_items c.give.new.out)) (map cap_order (followed c.args.member.0 c.args.self.committer.0 (part_tree c.args.self.readied))) c.in_ok-level.ensures.items
    (appends-two (map order_of (vec_items c.follow.new.out)) _ (c.in_ok-give-2.ensures.items refl) c.renew.ensures)))

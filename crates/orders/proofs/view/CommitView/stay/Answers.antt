use Rattle.std.proofs.Common.{map, vec_items, refl}
use Rattle.vault_theory.specs.Orders.{dropped_for, followed}
use Rattle.ratchet_tree.proofs.Appending.{appends-as, appends-two}
use Rattle.ratchet_tree.specs.Parts.{part_tree}
use Rattle.messages.specs.Take.{change_asked}
use Rattle.vault_theory.specs.Capped.{cap_order}
use Rattle.orders.specs.Order.{order_of}
use Rattle.orders.proofs.Assigning.{stays}
use Rattle.orders.proofs.view.CommitView.stay.Goals as goal

pub returns : goal.returns
returns c =
    appends-as (stays c.args.member.0 c.args.self.committer.0 c.in_ok-level.level (part_tree c.args.self.readied) c.in_ok-level.ensures.level (change_asked c.args.self.change) (part_tree c.args.self.before))
    (appends-two (map order_of (vec_items c.args.out.now)) (dropped_for c.args.member.0 (change_asked c.args.self.change) (part_tree c.args.self.before)) (c.in_ok-drop_for.ensures.items refl)
    (appends-two (map order_of (vec_items c.drop_for.new.out)) (map cap_order (followed c.args.member.0 c.args.self.committer.0 (part_tree c.args.self.readied))) c.in_ok-level.ensures.items
    c.turn.ensures))

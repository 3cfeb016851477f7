use Rattle.std.proofs.Common.{map, vec_items, sym, refl, ◌∙◌}
use Rattle.ratchet_tree.proofs.Appending.{appends-as, appends-two}
use Rattle.ratchet_tree.specs.Nodes.{leaf_of}
use Rattle.ratchet_tree.specs.Parts.{part_tree}
use Rattle.orders.specs.Order.{order_of}
use Rattle.orders.specs.Taken.{taken}
use Rattle.orders.proofs.Giving.{adds_none}
use Rattle.orders.proofs.Taking.{taken-elsewhere, taken-here, taken-leaf}
use Rattle.orders.proofs.drop.+take_keys.Goals as goal

pub returns-in-Leaf : goal.returns-in-Leaf
returns-in-Leaf g t c = λ test f. adds_none (vec_items c.args.out.now) (taken-leaf c.args.member.0 test (part_tree c.args.part) (leaf_of c.in-Leaf.field-0.now) c.in-Leaf.ensures.1)

pub returns-then-not-is_taken : goal.returns-then-not-is_taken
returns-then-not-is_taken g t c =
    λ test f. appends-as
    (taken-elsewhere c.args.member.0 c.args.part.height test c.args.part c.in-Parent.left c.in-Parent.right c.in-Parent.node.now c.sides_of-sides.result c.in-Parent.ensures c.sides_of-sides.ensures refl
    (sym (f c.args.part c.is_taken.result c.is_taken.ensures) ∙ c.if-not-is_taken.true))
    (c.in_ok-take_keys-in-Parent.ensures test f)

pub returns-else-not-is_taken : goal.returns-else-not-is_taken
returns-else-not-is_taken g t c =
    λ test f. appends-as
    (taken-here c.args.member.0 c.of.result.value test c.args.part c.in-Parent.left c.in-Parent.right c.in-Parent.node.now c.sides_of-sides.result c.in-Parent.ensures c.sides_of-sides.ensures c.of.ensures
    (sym (f c.args.part c.is_taken.result c.is_taken.ensures) ∙ c.if-not-is_taken.false))
    (appends-two (map order_of (vec_items c.args.out.now)) (taken c.args.member.0 test (part_tree c.sides_of-sides.result.own)) ((c.in_ok-take_keys-in-Parent.ensures test f).items refl) c.forget_held.ensures)

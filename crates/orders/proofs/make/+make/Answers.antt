use Rattle.std.proofs.Common.{◌<◌, ◌++◌, vec_items, arith, rules}
use Rattle.theory.specs.Tree.{resolution}
use Rattle.vault_theory.specs.Orders.{held_forgotten, made, sealed_up}
use Rattle.ratchet_tree.specs.Nodes.{leaf_of, parent_of}
use Rattle.ratchet_tree.specs.Parts.{part_tree}
use Rattle.orders.proofs.Giving.{gives_none}
use Rattle.orders.proofs.Halves.{levels-low, own-seated, rises, side-below}
use Rattle.orders.proofs.Making.{made-above, made-leaf}
use Rattle.orders.proofs.make.+make.Goals as goal

pub make-requires : goal.make-requires
make-requires t c =
    let low : c.sides_of-sides.result.own.height < c.args.part.height =
    side-below c.args.committer.0 c.args.part c.in-Parent.left c.in-Parent.right c.in-Parent.node.now c.sides_of-sides.result c.in-Parent.ensures c.sides_of-sides.ensures in (
      search rules,
      own-seated c.args.committer.0 c.args.part c.in-Parent.left c.in-Parent.right c.in-Parent.node.now c.sides_of-sides.result c.in-Parent.ensures c.sides_of-sides.ensures c.requires,
    )

pub invariant_of-step : goal.invariant_of-step
invariant_of-step t c = omega (arith, c.in_ok-level-in-Parent.ensures.level, levels-low c.args.committer.0 c.sides_of-sides.result.own)

pub returns-in-Leaf : goal.returns-in-Leaf
returns-in-Leaf t c =
    let is = made-leaf c.args.committer.0 (part_tree c.args.part) (leaf_of c.in-Leaf.field-0.now) c.in-Leaf.ensures.1 in
    gives_none (vec_items c.args.out.now) is.0 is.1

pub returns-in_ok-level-in-Parent : goal.returns-in_ok-level-in-Parent
returns-in_ok-level-in-Parent t c =
    rises c.args.committer.0 c.args.part c.in-Parent.left c.in-Parent.right c.in-Parent.node.now c.sides_of-sides.result c.in-Parent.ensures c.sides_of-sides.ensures
    (vec_items c.args.out.now) _ _ c.in_ok-level-in-Parent.level (made c.args.committer.0 (part_tree c.sides_of-sides.result.own))
    (λ i. held_forgotten c.args.committer.0 (parent_of c.in-Parent.node.now) c.of.result.value ++ sealed_up i c.of.result.value (resolution (part_tree c.sides_of-sides.result.other)))
    _ c.lay.result c.requires c.in_ok-level-in-Parent.ensures c.lay.ensures
    (made-above c.args.committer.0 c.of.result.value c.args.part c.in-Parent.left c.in-Parent.right c.in-Parent.node.now c.sides_of-sides.result c.in-Parent.ensures c.sides_of-sides.ensures c.of.ensures)

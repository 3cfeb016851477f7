use Rattle.std.proofs.Common.{sym, ap, ◌∙◌, arith}
use Rattle.ratchet_tree.specs.Nodes.{leaf_of, numbers, parent_of}
use Rattle.ratchet_tree.specs.Parts.{part_tree}
use Rattle.commits.specs.Counts.{capped}
use Rattle.orders.proofs.Numbering.{at_leaf, under-key, number-left, number-right}
use Rattle.orders.proofs.number.+key_number.Goals as goal

pub returns-in-Leaf : goal.returns-in-Leaf
returns-in-Leaf t c = ap capped (at_leaf c.args.member.0 (part_tree c.args.part) (leaf_of c.in-Leaf.field-0.now) c.in-Leaf.ensures.1).0

pub returns-in-Some : goal.returns-in-Some
returns-in-Some t c =
    omega (
      arith,
      c.unmerged_number.ensures,
      (under-key c.args.member.0 (part_tree c.args.part) (parent_of c.in-Parent.node.now) (part_tree c.in-Parent.left) (part_tree c.in-Parent.right) c.in-Parent.ensures.tree
          c.in-Some.keyed.key (numbers c.in-Some.keyed.unmerged.now) c.in-Some.ensures).0,
    )

pub returns-in-None : goal.returns-in-None
returns-in-None t c =
    c.key_number.ensures
    ∙ ap capped (number-left c.args.member.0 (part_tree c.args.part) (parent_of c.in-Parent.node.now) (part_tree c.in-Parent.left) (part_tree c.in-Parent.right) c.in-Parent.ensures.tree
    c.in-None.ensures (sym c.is_seated.ensures ∙ c.if-is_seated.true))

pub returns-in-None-2 : goal.returns-in-None-2
returns-in-None-2 t c =
    omega (
      arith,
      c.saturating_add.ensures,
      c.resolution_count.ensures,
      c.key_number-in-None-2.ensures,
      number-right c.args.member.0 (part_tree c.args.part) (parent_of c.in-Parent.node.now) (part_tree c.in-Parent.left) (part_tree c.in-Parent.right) c.in-Parent.ensures.tree
          c.in-None.ensures (sym c.is_seated.ensures ∙ c.if-is_seated.false),
    )

use Rattle.std.proofs.Common.{sym, ◌∙◌, arith}
use Rattle.ratchet_tree.specs.Nodes.{leaf_of, numbers, parent_of}
use Rattle.ratchet_tree.specs.Parts.{part_tree}
use Rattle.orders.proofs.Halves.{parent-height}
use Rattle.orders.proofs.Numbering.{at_leaf, height-unmerged, height-merged, height-left, height-right}
use Rattle.orders.proofs.number.+key_height.Goals as goal

pub returns-in-Leaf : goal.returns-in-Leaf
returns-in-Leaf t c =
    record {
      value = c.leaf.ensures ∙ (at_leaf c.args.member.0 (part_tree c.args.part) (leaf_of c.in-Leaf.field-0.now) c.in-Leaf.ensures.1).1;
      low = omega (arith, c.leaf.ensures);
    }

pub returns-in-Some : goal.returns-in-Some
returns-in-Some t c =
    record {
      value = c.leaf-in-Some.ensures
          ∙ height-unmerged c.args.member.0 (part_tree c.args.part) (parent_of c.in-Parent.node.now) (part_tree c.in-Parent.left) (part_tree c.in-Parent.right) c.in-Parent.ensures.tree
          c.in-Some.keyed.key (numbers c.in-Some.keyed.unmerged.now) c.in-Some.ensures (sym c.is_among.ensures ∙ c.if-is_among.true);
      low = omega (arith, c.leaf-in-Some.ensures);
    }

pub returns-in-Some-2 : goal.returns-in-Some-2
returns-in-Some-2 t c =
    record {
      value = c.of.ensures ∙ parent-height c.args.part c.in-Parent.left c.in-Parent.ensures.left
          ∙ height-merged c.args.member.0 (part_tree c.args.part) (parent_of c.in-Parent.node.now) (part_tree c.in-Parent.left) (part_tree c.in-Parent.right) c.in-Parent.ensures.tree
          c.in-Some.keyed.key (numbers c.in-Some.keyed.unmerged.now) c.in-Some.ensures (sym c.is_among.ensures ∙ c.if-is_among.false);
      low = omega (arith, c.of.ensures);
    }

pub returns-in-None : goal.returns-in-None
returns-in-None t c =
    record {
      value = c.key_height.ensures.value
          ∙ height-left c.args.member.0 (part_tree c.args.part) (parent_of c.in-Parent.node.now) (part_tree c.in-Parent.left) (part_tree c.in-Parent.right) c.in-Parent.ensures.tree
          c.in-None.ensures (sym c.is_seated.ensures ∙ c.if-is_seated.true);
      low = omega (arith, c.key_height.ensures.low, c.in-Parent.ensures.left);
    }

pub returns-in-None-2 : goal.returns-in-None-2
returns-in-None-2 t c =
    record {
      value = c.key_height-in-None-2.ensures.value
          ∙ height-right c.args.member.0 (part_tree c.args.part) (parent_of c.in-Parent.node.now) (part_tree c.in-Parent.left) (part_tree c.in-Parent.right) c.in-Parent.ensures.tree
          c.in-None.ensures (sym c.is_seated.ensures ∙ c.if-is_seated.false);
      low = omega (arith, c.key_height-in-None-2.ensures.low, c.in-Parent.ensures.right);
    }

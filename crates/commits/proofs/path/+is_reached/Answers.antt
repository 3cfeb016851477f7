use Rattle.std.proofs.Common.{◌∙◌}
use Rattle.ratchet_tree.specs.Nodes.{leaf_of, parent_of}
use Rattle.ratchet_tree.specs.Parts.{part_tree}
use Rattle.ratchet_tree.proofs.Tests.{or-first, or-second}
use Rattle.commits.proofs.Reaching.{reached-leaf, reached-parent}
use Rattle.commits.proofs.path.+is_reached.Goals as goal
use Rattle.commits.proofs.path.+is_reached.Goals.{then-is_some, else-is_some}

pub returns-in-Leaf : goal.returns-in-Leaf
returns-in-Leaf t c = c.is_occupied.ensures ∙ reached-leaf (leaf_of c.in-Leaf.node.now) (part_tree c.args.part) c.in-Leaf.ensures.1

pub returns-then-is_reached : goal.returns-then-is_reached
returns-then-is_reached t c =
    let h = reached-parent c.node_key.result (part_tree c.args.part) (parent_of c.in-Parent.node.now) (part_tree c.in-Parent.left) (part_tree c.in-Parent.right) c.in-Parent.ensures.tree c.node_key.ensures in
    elim c.if-is_some.branch [
      | then-is_some w ↦ w.value-is ∙ or-first _ c.is_some.ensures w.if-is_some.true ∙ h
      | else-is_some w ↦ or-second c.is_some.ensures w.if-is_some.false (or-first _ (w.value-is ∙ w.is_reached.ensures) c.if-is_reached.true) ∙ h
    ]

pub returns-else-is_reached : goal.returns-else-is_reached
returns-else-is_reached t c =
    let h = reached-parent c.node_key.result (part_tree c.args.part) (parent_of c.in-Parent.node.now) (part_tree c.in-Parent.left) (part_tree c.in-Parent.right) c.in-Parent.ensures.tree c.node_key.ensures in
    elim c.if-is_some.branch [
      | then-is_some w ↦ cc (w.value-is, w.if-is_some.true, c.if-is_reached.false)
      | else-is_some w ↦
          or-second c.is_some.ensures w.if-is_some.false (or-second (w.value-is ∙ w.is_reached.ensures) c.if-is_reached.false c.is_reached-else-is_reached.ensures) ∙ h
    ]

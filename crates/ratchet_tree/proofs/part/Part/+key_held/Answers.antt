use Rattle.std.proofs.Common.{◌≡◌, suc, sym, ap, ◌∙◌, arith}
use Rattle.theory.specs.Held.{held_at}
use Rattle.theory.specs.Tree.{seated, height}
use Rattle.ratchet_tree.specs.Nodes.{parent_of, leaf_of}
use Rattle.ratchet_tree.specs.Parts.{part_tree}
use Rattle.ratchet_tree.proofs.Counts.{height-is}
use Rattle.ratchet_tree.proofs.Holding.{held-leaf, held-above, held-top, held-nowhere, held-left, held-right}
use Rattle.ratchet_tree.proofs.part.Part.+key_held.Goals as goal

pub returns-in-Leaf : goal.returns-in-Leaf
returns-in-Leaf t c =
    c.leaf_key_of.ensures ∙ sym (held-leaf c.args.member.0 c.args.height (leaf_of c.in-Leaf.node.now) c.if-height-eq0.true)
    ∙ ap (held_at c.args.member.0 c.args.height) (sym c.in-Leaf.ensures.1)

pub returns-in-Leaf-2 : goal.returns-in-Leaf-2
returns-in-Leaf-2 t c =
    sym (held-above c.args.member.0 c.args.height (leaf_of c.in-Leaf.node.now) c.if-height-eq0.false)
    ∙ ap (held_at c.args.member.0 c.args.height) (sym c.in-Leaf.ensures.1)

pub returns-then-is_seated : goal.returns-then-is_seated
returns-then-is_seated t c =
    let at : c.args.height ≡ suc (height (part_tree c.in-Parent.left)) =
    omega (arith, c.in-Parent.ensures.left, height-is c.in-Parent.left.height c.in-Parent.left.nodes.now) in
    c.node_key_held.ensures
    ∙ sym (held-top c.args.member.0 c.args.height (parent_of c.in-Parent.node.now) (part_tree c.in-Parent.left) (part_tree c.in-Parent.right) at (ap (seated c.args.member.0) (sym c.in-Parent.ensures.tree) ∙ sym c.if-is_seated.ensures))
    ∙ ap (held_at c.args.member.0 c.args.height) (sym c.in-Parent.ensures.tree)

pub returns-else-is_seated : goal.returns-else-is_seated
returns-else-is_seated t c =
    let at : c.args.height ≡ suc (height (part_tree c.in-Parent.left)) =
    omega (arith, c.in-Parent.ensures.left, height-is c.in-Parent.left.height c.in-Parent.left.nodes.now) in
    sym (held-nowhere c.args.member.0 c.args.height (parent_of c.in-Parent.node.now) (part_tree c.in-Parent.left) (part_tree c.in-Parent.right) at (ap (seated c.args.member.0) (sym c.in-Parent.ensures.tree) ∙ sym c.if-is_seated.ensures))
    ∙ ap (held_at c.args.member.0 c.args.height) (sym c.in-Parent.ensures.tree)

pub returns-then-is_seated-2 : goal.returns-then-is_seated-2
returns-then-is_seated-2 t c =
    let off : c.args.height ≡ suc (height (part_tree c.in-Parent.left)) → ⊥ =
    λ e. c.if-height-self.false (omega (arith, e, c.in-Parent.ensures.left, height-is c.in-Parent.left.height c.in-Parent.left.nodes.now)) in
    c.key_held.ensures ∙ sym (held-left c.args.member.0 c.args.height (parent_of c.in-Parent.node.now) (part_tree c.in-Parent.left) (part_tree c.in-Parent.right) off (sym c.if-is_seated-2.ensures))
    ∙ ap (held_at c.args.member.0 c.args.height) (sym c.in-Parent.ensures.tree)

pub returns-else-is_seated-2 : goal.returns-else-is_seated-2
returns-else-is_seated-2 t c =
    let off : c.args.height ≡ suc (height (part_tree c.in-Parent.left)) → ⊥ =
    λ e. c.if-height-self.false (omega (arith, e, c.in-Parent.ensures.left, height-is c.in-Parent.left.height c.in-Parent.left.nodes.now)) in
    c.key_held-else-is_seated-2.ensures ∙ sym (held-right c.args.member.0 c.args.height (parent_of c.in-Parent.node.now) (part_tree c.in-Parent.left) (part_tree c.in-Parent.right) off (sym c.if-is_seated-2.ensures))
    ∙ ap (held_at c.args.member.0 c.args.height) (sym c.in-Parent.ensures.tree)

use Rattle.std.proofs.Common.{length, sym, ap, ◌∙◌}
use mir.Val.{bool_byte}
use Rattle.theory.specs.Tree.{Tree, leaf_key}
use Rattle.ratchet_tree.specs.Nodes.{leaf_of}
use Rattle.ratchet_tree.specs.Parts.{part_tree}
use Rattle.ratchet_tree.specs.declared.member.PublicKey.{PublicKey}
use Rattle.commits.specs.Counts.{capped}
use Rattle.commits.proofs.Counting.{seats-count, append-count}
use Rattle.commits.proofs.count.+leaf_key_count.Goals as goal

pub returns-in-Leaf : goal.returns-in-Leaf
unfolding leaf_key
returns-in-Leaf t c =
    ap bool_byte c.seats.ensures ∙ seats-count c.args.member.0 (leaf_of c.in-Leaf.node.now)
    ∙ ap (λ (u : Tree PublicKey). capped (length (leaf_key c.args.member.0 u))) (sym c.in-Leaf.ensures.1)

pub returns-in-Parent : goal.returns-in-Parent
unfolding leaf_key
returns-in-Parent t c =
    c.saturating_add.ensures
    ∙ append-count (leaf_key c.args.member.0 (part_tree c.in-Parent.left)) (leaf_key c.args.member.0 (part_tree c.in-Parent.right))
    c.leaf_key_count.ensures c.leaf_key_count-in-Parent.ensures
    ∙ ap (λ (u : Tree PublicKey). capped (length (leaf_key c.args.member.0 u))) (sym c.in-Parent.ensures.tree)

use Rattle.std.proofs.Common.{length, sym, ap, ◌∙◌, arith}
use mir.Val.{bool_byte}
use Rattle.theory.specs.Tree.{Tree, resolution}
use Rattle.ratchet_tree.specs.Nodes.{leaf_of, numbers, parent_of}
use Rattle.ratchet_tree.specs.Parts.{part_tree}
use Rattle.ratchet_tree.specs.declared.member.PublicKey.{PublicKey}
use Rattle.ratchet_tree.proofs.Appending.{resolution-keyed, resolution-blank}
use Rattle.commits.specs.Counts.{capped}
use Rattle.commits.proofs.Counting.{occupied-count, append-count}
use Rattle.commits.proofs.count.+resolution_count.Goals as goal

pub returns-in-Leaf : goal.returns-in-Leaf
unfolding resolution
returns-in-Leaf t c =
    ap bool_byte c.is_occupied.ensures ∙ occupied-count (leaf_of c.in-Leaf.node.now)
    ∙ ap (λ (u : Tree PublicKey). capped (length (resolution u))) (sym c.in-Leaf.ensures.1)

pub returns-in-Some : goal.returns-in-Some
returns-in-Some t c =
    omega (
      arith,
      c.saturating_add.ensures,
      c.leaf_keys_count.ensures,
      ap length (resolution-keyed (part_tree c.args.part) (parent_of c.in-Parent.node.now) (part_tree c.in-Parent.left) (part_tree c.in-Parent.right)
          c.in-Some.keyed.key (numbers c.in-Some.keyed.unmerged.now) c.in-Parent.ensures.tree c.in-Some.ensures),
    )

pub returns-in-None : goal.returns-in-None
returns-in-None t c =
    c.saturating_add-in-None.ensures
    ∙ append-count (resolution (part_tree c.in-Parent.left)) (resolution (part_tree c.in-Parent.right)) c.resolution_count.ensures c.resolution_count-in-None.ensures
    ∙ ap (λ l. capped (length l))
    (resolution-blank (part_tree c.args.part) (parent_of c.in-Parent.node.now) (part_tree c.in-Parent.left) (part_tree c.in-Parent.right)
    c.in-Parent.ensures.tree c.in-None.ensures)

-- A part of a tree, and how it is taken apart.
-- `part_tree`: the tree that a part is; `Shows`: what taking it apart gives.
-- Assumes nothing.
use Rattle.std.specs.Prelude.{◌≡◌, suc}
use Rattle.theory.specs.Tree.{Tree, leaf, node}
use Rattle.ratchet_tree.specs.Nodes.{leaf_of, parent_of, tree_of}
use Rattle.ratchet_tree.specs.declared.member.PublicKey.{PublicKey}
use Rattle.ratchet_tree.specs.declared.node.Node.{Node}
use Rattle.ratchet_tree.specs.declared.part.Part.{Part}
use Rattle.ratchet_tree.specs.declared.split.Split.{Split}
use Rattle.ratchet_tree.specs.declared.split.Split.TheVariants as split

-- the tree that the lent nodes stand for
abbrev pub part_tree : Part → Tree PublicKey
part_tree p = tree_of p.height p.nodes.now

-- the two halves of a part and the node between them
pub record Halves (p l : Part) (n : Node) (r : Part) : Type 0 where
  pub tree : part_tree p ≡ node (parent_of n) (part_tree l) (part_tree r)
  pub left : suc l.height ≡ p.height
  pub right : suc r.height ≡ p.height

-- a part of height 0 is its leaf; any other is the node between two halves
abbrev pub Shows : Part → Split → Type 0
Shows p (split.Leaf n) = (p.height ≡ 0) × (part_tree p ≡ leaf (leaf_of n.now))
Shows p (split.Parent l n r) = Halves p l n.now r

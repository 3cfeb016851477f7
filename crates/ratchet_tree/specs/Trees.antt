-- The tree that the code's tree stands for.
-- `the_tree`.
-- Assumes nothing.
use Rattle.std.specs.Prelude.{vec_items}
use Rattle.theory.specs.Tree.{Tree}
use Rattle.ratchet_tree.specs.Nodes.{tree_of}
use Rattle.ratchet_tree.specs.declared.member.PublicKey.{PublicKey}
use Rattle.ratchet_tree.specs.declared.tree.RatchetTree.{RatchetTree}

-- the tree of its line of nodes
abbrev pub the_tree : RatchetTree → Tree PublicKey
the_tree t = tree_of t.depth (vec_items t.nodes)

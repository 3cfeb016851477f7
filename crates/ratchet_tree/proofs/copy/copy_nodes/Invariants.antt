use Rattle.std.proofs.Common.{◌≡◌, map, take, vec_items}
use Rattle.ratchet_tree.specs.Nodes.{seen}
use Rattle.ratchet_tree.proofs.copy.copy_nodes.Given as goal

abbrev pub invariant-loop-node : goal.invariant-loop-node
invariant-loop-node l = map seen (vec_items l.copies) ≡ map seen (take l.node-index l.nodes)

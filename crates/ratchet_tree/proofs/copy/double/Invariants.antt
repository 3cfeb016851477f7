use Rattle.std.proofs.Common.{◌≡◌, ◌-◌, ◌++◌, map, length, replicate, vec_items}
use Rattle.theory.specs.Tree.{blank_leaf, blank_parent}
use Rattle.ratchet_tree.specs.Nodes.{seen}
use Rattle.ratchet_tree.proofs.copy.double.Given as goal

abbrev pub invariant-loop-index : goal.invariant-loop-index
invariant-loop-index l = map seen (vec_items l.nodes) ≡ map seen (vec_items l.initial.nodes) ++ replicate (l.index - length (vec_items l.initial.nodes)) (blank_leaf, blank_parent)

use Rattle.std.proofs.Common.{◌≡◌, ◌++◌, take, vec_items}
use Rattle.theory.specs.Tree.{leaf_keys}
use Rattle.ratchet_tree.specs.Nodes.{numbers}
use Rattle.ratchet_tree.specs.Parts.{part_tree}
use Rattle.ratchet_tree.proofs.part.Part.push_leaf_keys.Given as goal

abbrev pub invariant-loop-member : goal.invariant-loop-member
invariant-loop-member l = vec_items l.out ≡ vec_items l.initial.out ++ leaf_keys (numbers (take l.member-index l.members)) (part_tree l.self)

abbrev pub invariant-loop-member-2 : goal.invariant-loop-member-2
invariant-loop-member-2 l = vec_items l.out ≡ vec_items l.initial.out ++ leaf_keys (numbers (take l.member-index l.members)) (part_tree l.self)

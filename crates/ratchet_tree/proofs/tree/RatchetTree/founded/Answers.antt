use Rattle.std.proofs.Common.{ap, arith, get_or, rules}
use Rattle.theory.specs.Tree.{leaf}
use Rattle.tree_math.specs.Span.{span}
use Rattle.ratchet_tree.specs.Nodes.{leaf_of, tree_of, no_node}
use Rattle.ratchet_tree.proofs.tree.RatchetTree.founded.Goals as goal

pub invariant_of-result : goal.invariant_of-result
unfolding span
invariant_of-result c = record { whole = search rules; shallow = omega arith }

pub returns : goal.returns
unfolding tree_of
returns c = ap (λ l. leaf (leaf_of (get_or l 0 no_node))) c.in_ok-nodes.ensures.items

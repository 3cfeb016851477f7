use Rattle.std.proofs.Common.{◌≡◌, ◌+◌, ◌^◌, ◌<◌}
use Rattle.tree_math.specs.Span.{span}
use Rattle.tree_math.proofs.walk.Place.find.Given as goal

abbrev pub invariant-loop-node : goal.invariant-loop-node
invariant-loop-node l = record {
  same_tree : l.place.depth ≡ l.depth;
  behind : l.place.node.0 < l.node.0 + 2 ^ l.place.height;
  before : l.node.0 < span l.depth → l.node.0 < l.place.node.0 + 2 ^ l.place.height;
}

abbrev pub decreases-loop-node : goal.decreases-loop-node
decreases-loop-node l = l.place.height

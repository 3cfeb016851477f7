use Rattle.ratchet_tree.specs.Nodes.{leaf_of, parent_of}
use Rattle.ratchet_tree.specs.Parts.{part_tree}
use Rattle.commits.proofs.Counting.{counts-leaf, counts-side, counts-nowhere}
use Rattle.commits.proofs.count.+path_counts.Goals as goal

pub returns-in-Leaf : goal.returns-in-Leaf
returns-in-Leaf t c =
    record { value = counts-leaf c.args.committer.0 (part_tree c.args.part) (leaf_of c.in-Leaf.field-0.now) c.default.result c.in-Leaf.ensures.1 c.default.ensures.0 c.default.ensures.1 }

pub returns-in-Some : goal.returns-in-Some
returns-in-Some t c =
    record {
      value =
          counts-side c.args.committer.0 (part_tree c.args.part) (parent_of c.in-Parent.field-1.now) c.in-Parent.left c.in-Parent.right c.in-Parent.ensures.tree
          c.in-Some.sides.own c.in-Some.sides.other c.in-Some.ensures.variant c.in-Some.ensures.own c.in-Some.ensures.other
          c.path_counts.result c.climbed.result c.resolution_count.result
          c.path_counts.ensures.value c.resolution_count.ensures c.climbed.ensures.levels c.climbed.ensures.targets;
    }

pub returns-in-None : goal.returns-in-None
returns-in-None t c =
    record {
      value =
          counts-nowhere c.args.committer.0 (part_tree c.args.part) (parent_of c.in-Parent.field-1.now) c.in-Parent.left c.in-Parent.right c.in-Parent.ensures.tree
          c.default-in-None.result c.default-in-None.ensures.0 c.default-in-None.ensures.1 c.in-None.ensures.variant;
    }

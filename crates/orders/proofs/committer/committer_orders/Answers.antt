use Rattle.std.proofs.Common.{◌∙◌}
use Rattle.ratchet_tree.specs.Parts.{part_tree}
use Rattle.ratchet_tree.specs.Trees.{the_tree}
use Rattle.commits.specs.Commits.{commit_of}
use Rattle.orders.proofs.Permitting.{committer-seated}
use Rattle.orders.proofs.committer.committer_orders.Goals as goal

pub invariant_of-view : goal.invariant_of-view
invariant_of-view c =
    record {
      seated =
          committer-seated c.args.handset.now.epoch.0 (commit_of (record { committer = c.args.handset.now.member; change = c.asked.result })) c.newcomer_key.result (the_tree c.args.handset.now.tree) (part_tree c.as_part-2.result)
          c.in_ok-readied.ensures.tree.0 (c.as_part-2.ensures ∙ c.in_ok-readied.ensures.tree.1);
    }

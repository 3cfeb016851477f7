use Rattle.std.proofs.Common.{refl, ◌∙◌}
use Rattle.ratchet_tree.specs.Parts.{part_tree}
use Rattle.ratchet_tree.specs.Trees.{the_tree}
use Rattle.messages.specs.Message.{message_of}
use Rattle.messages.specs.Take.{commit_asked, fresh_key}
use Rattle.orders.proofs.Permitting.{commit-allowed, committer-seated}
use Rattle.orders.proofs.reply.answer_with.Goals as goal

pub invariant_of-view : goal.invariant_of-view
invariant_of-view g c =
    record {
      seated =
          committer-seated c.args.handset.now.epoch.0 (commit_asked (message_of c.args.message)) (fresh_key (message_of c.args.message)) (the_tree c.args.handset.now.tree) (part_tree c.as_part-2.result)
          (commit-allowed c.args.handset.now.member.0 c.args.handset.now.epoch.0 (the_tree c.args.handset.now.tree) (message_of c.args.message) c.in_ok-readied.ensures.tree.0)
          (c.as_part-2.ensures ∙ c.in_ok-readied.ensures.tree.1);
    }

pub returns : goal.returns
returns g c =
    λ more f. record {
      allowed = c.in_ok-readied.ensures.tree.0;
      orders =
          f _ _ (record { committer = refl; change = refl; before = c.as_part.ensures; readied = c.as_part-2.ensures ∙ c.in_ok-readied.ensures.tree.1 })
          c.in_ok-work_out.ensures;
    }

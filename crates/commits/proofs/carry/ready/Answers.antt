use Rattle.std.proofs.Common.{vec_items, sym}
use Rattle.commits.specs.Commits.{commit_of}
use Rattle.commits.proofs.Crowding.{stopped}
use Rattle.commits.proofs.carry.ready.Goals as goal

pub returns-in_err-asked : goal.returns-in_err-asked
returns-in_err-asked c =
    record {
      tree =
          stopped c.args.tree.now.depth (vec_items c.args.tree.now.nodes) c.args.epoch.0 (commit_of c.args.commit) c.args.newcomer c.in_err-asked.field-0.0
          c.from_residual-in_err-asked.result (sym c.in_ok-allow.ensures) c.in_err-asked.ensures c.from_residual-in_err-asked.ensures.1;
    }

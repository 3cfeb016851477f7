use Rattle.std.proofs.Common.{sym, ap, subst, add-one}
use Rattle.ratchet_tree.specs.Trees.{the_tree}
use Rattle.commits.specs.Apply.{Stopped}
use Rattle.commits.specs.Commits.{commit_of}
use Rattle.commits.specs.Refusals.{number_of}
use Rattle.commits.specs.declared.error.CommitError.{CommitError}
use Rattle.playback.specs.Play.{malformed, refused}
use Rattle.playback.specs.Report.{refusal_bytes}
use Rattle.playback.specs.Steps.{state_of}
use Rattle.playback.proofs.Steps.{carried-as, report-as, same-state}
use Rattle.playback.proofs.script.answer.Goals as goal

pub returns-in_default : goal.returns-in_default
returns-in_default c = λ k. record { bytes = refusal_bytes 1; appended = c.write_refusal.ensures.bytes.items k; answers = malformed c.in_default.ensures }

pub returns-in-Ok : goal.returns-in-Ok
returns-in-Ok c =
    λ k. carried-as (state_of c.args.station.now) c.args.line.now c.in-Some.commit _ _ _ _ _ c.in-Some.ensures.1 c.in-Some.ensures.0
    c.in-Ok.ensures.tree.allowed c.in-Ok.ensures.tree.tree (add-one c.args.station.now.epoch.0) (c.write_report.ensures.bytes.items k)
    (report-as _ _ _ _ _ _ _ _ (add-one c.args.station.now.epoch.0) c.in-Ok.ensures.tree.boxes c.in-Ok.ensures.tree.keys c.in-Ok.ensures.tree.tree)

pub returns-in-Err-Refused : goal.returns-in-Err-Refused
returns-in-Err-Refused c =
    λ k. same-state (state_of c.args.station.now) (state_of (record { tree = c.apply.new.tree; epoch = c.args.station.now.epoch })) c.args.line.now _ _
    (ap (λ t. state_of (record { tree = t; epoch = c.args.station.now.epoch })) (sym c.in-Err-Refused.ensures.tree.0))
    (record {
      bytes = refusal_bytes (number_of c.in-Err-Refused.refusal);
      appended = c.write_refusal-in-Err-Refused.ensures.bytes.items k;
      answers =
          refused c.in-Some.commit c.in-Some.ensures.1 c.in-Some.ensures.0 (number_of c.in-Err-Refused.refusal)
          (subst (λ (x : CommitError). Stopped c.args.station.now.epoch.0 (commit_of c.in-Some.commit) (the_tree c.args.station.now.tree) x) c.in-Err-Refused.field-0-is c.in-Err-Refused.ensures.tree.1);
    })

use Rattle.playback.proofs.Runs.{step-is-rule}
use Rattle.playback.proofs.laws.step_is_rule_holds.Goals as goal

pub returns : goal.returns
returns c = step-is-rule

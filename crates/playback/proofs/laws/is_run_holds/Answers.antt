use Rattle.playback.proofs.Runs.{is-run}
use Rattle.playback.proofs.laws.is_run_holds.Goals as goal

pub returns : goal.returns
returns c = is-run

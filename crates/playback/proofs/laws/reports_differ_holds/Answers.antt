use Rattle.playback.proofs.Distinct.{reports-differ}
use Rattle.playback.proofs.laws.reports_differ_holds.Goals as goal

pub returns : goal.returns
returns c = reports-differ

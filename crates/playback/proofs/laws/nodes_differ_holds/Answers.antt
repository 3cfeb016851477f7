use Rattle.playback.proofs.Distinct.{nodes-differ}
use Rattle.playback.proofs.laws.nodes_differ_holds.Goals as goal

pub returns : goal.returns
returns c = nodes-differ

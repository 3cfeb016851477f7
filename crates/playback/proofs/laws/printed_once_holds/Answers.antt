use Rattle.playback.proofs.Once.{printed-once}
use Rattle.playback.proofs.laws.printed_once_holds.Goals as goal

pub returns : goal.returns
returns c = printed-once

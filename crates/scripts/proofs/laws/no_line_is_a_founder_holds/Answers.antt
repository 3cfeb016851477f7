use Rattle.scripts.proofs.Distinct.{no-line-is-a-founder}
use Rattle.scripts.proofs.laws.no_line_is_a_founder_holds.Goals as goal

pub returns : goal.returns
returns c = no-line-is-a-founder

use Rattle.theory.proofs.Addition.{addition}
use Rattle.theory.proofs.laws.addition_holds.Goals as goal

-- grind makes no record of this many fields by itself, so the theorem is named here
pub returns : goal.returns
returns c = addition

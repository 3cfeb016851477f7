use Rattle.theory.proofs.Removal.{removal}
use Rattle.theory.proofs.laws.removal_holds.Goals as goal

-- grind makes no record of this many fields by itself, so the theorem is named here
pub returns : goal.returns
returns c = removal

use Rattle.theory.proofs.Laying.{path_laid}
use Rattle.theory.proofs.laws.path_laid_holds.Goals as goal

-- grind makes no record of this many fields by itself, so the theorem is named here
pub returns : goal.returns
returns c = path_laid

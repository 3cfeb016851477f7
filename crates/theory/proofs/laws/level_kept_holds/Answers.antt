use Rattle.theory.proofs.Level.{level-kept}
use Rattle.theory.proofs.laws.level_kept_holds.Goals as goal

-- an attribute can name no lemma with a dash, and crates above cite this one
pub returns : goal.returns
returns c = level-kept

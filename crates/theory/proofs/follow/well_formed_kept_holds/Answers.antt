use Rattle.theory.proofs.Wellformed.{well-formed-kept}
use Rattle.theory.proofs.follow.well_formed_kept_holds.Goals as goal

-- an attribute can name no lemma with a dash, and crates above cite this one
pub returns : goal.returns
returns c = well-formed-kept

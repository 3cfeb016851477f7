-- The code's commits as those of the theory.
-- `change_of`, `commit_of`.
-- Assumes nothing.
use Rattle.theory.specs.Group as theory
use Rattle.commits.specs.declared.change.Change as change
use Rattle.commits.specs.declared.change.Commit.{Commit}

abbrev pub change_of : change.Change → theory.Change
change_of change.TheVariants.Renew = theory.renew
change_of (change.TheVariants.Remove m) = theory.remove m.0
change_of (change.TheVariants.Add m) = theory.add m.0

abbrev pub commit_of : Commit → theory.Commit
commit_of c = record { committer = c.committer.0; change = change_of c.change }

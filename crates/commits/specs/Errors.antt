-- How errors are told one layer up.
-- `told`: why a tree takes nobody, as why a commit is not carried out.
-- Assumes nothing.
use Rattle.ratchet_tree.specs.declared.error.TreeError.{TreeError}
use Rattle.ratchet_tree.specs.declared.error.TreeError.TheVariants as tree-error
use Rattle.commits.specs.declared.error.CommitError.{CommitError}
use Rattle.commits.specs.declared.error.CommitError.TheVariants as commit-error
use Rattle.commits.specs.declared.refusal.Refusal.TheVariants as refusal

abbrev pub told : TreeError → CommitError
told tree-error.NoRoom = commit-error.Refused refusal.GroupFull
told tree-error.OutOfMemory = commit-error.OutOfMemory

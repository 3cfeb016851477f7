-- How errors of the formats are told one layer up.
-- `unwritten`: what is told of a message that isn't written; `unparsed`: of bytes that aren't a tree's.
-- Assumes nothing.
use Rattle.commits.specs.declared.error.CommitError.{CommitError}
use Rattle.commits.specs.declared.error.CommitError.TheVariants as commit-error
use Rattle.commits.specs.declared.refusal.Refusal.TheVariants as refusal
use Rattle.messages.specs.declared.message.WriteError.{WriteError}
use Rattle.messages.specs.declared.message.WriteError.TheVariants as write-error
use Rattle.messages.specs.declared.tree_file.FileError.{FileError}
use Rattle.messages.specs.declared.tree_file.FileError.TheVariants as file-error

-- a part that can't be counted is a wrong count
abbrev pub unwritten : WriteError → CommitError
unwritten write-error.DoesNotFit = commit-error.Refused refusal.WrongCounts
unwritten write-error.OutOfMemory = commit-error.OutOfMemory

abbrev pub unparsed : FileError → CommitError
unparsed file-error.Malformed = commit-error.Refused refusal.Malformed
unparsed file-error.OutOfMemory = commit-error.OutOfMemory

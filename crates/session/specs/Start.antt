-- What a handset starts from.
-- `Started`: the handset of a member's number and a tree file, or the refusal.
-- Assumes nothing.
use Rattle.std.specs.Prelude.{◌≡◌, ℕ, ◌⊎◌, List, Some, None, Ok, Err, Result}
use Rattle.commits.specs.declared.refusal.Refusal.TheVariants.{Malformed}
use Rattle.messages.specs.declared.handset.Handset.{Handset}
use Rattle.scripts.specs.Decimal.{ReadsNumber}
use Rattle.tree_files.specs.Verdict.{Loaded}
use Rattle.commits.specs.declared.error.CommitError.{CommitError as FileError}
use Rattle.commits.specs.declared.error.CommitError.TheVariants.{Refused}

-- the member's number and what the file is; a number that is none is refused by 1 before the file is looked at
abbrev pub Started : List ℕ → List ℕ → Result Handset FileError → Type 0
Started text file (Ok h) = ReadsNumber text (Some h.member.0) × Loaded file (Ok (h.epoch, h.tree))
Started text file (Err e) = (ReadsNumber text None × (e ≡ Refused Malformed)) ⊎ ((n : ℕ) × ReadsNumber text (Some n) × Loaded file (Err e))

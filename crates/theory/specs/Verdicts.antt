-- What is said of each epoch of a run in which handsets were read out: whether its talk secret lies open, and whether it is known.
-- `Verdict`, `shut_unknown`, `open_unknown`, `open_known`; `verdict`: of one epoch, with every box of the run at hand; `verdicts`: of the first epochs.
-- Assumes nothing.
use Rattle.std.specs.Prelude.{ℕ, zero, suc, Bool, true, false, List, [], ◌∷◌, ◌++◌, length}
use Rattle.theory.specs.Secrets.{talk}
use Rattle.theory.specs.Group.{Commit, group, listed}
use Rattle.theory.specs.Promise.{Exposure, stocks}
use Rattle.theory.specs.Known.{known}
use Rattle.theory.specs.Opened.{is_open}

-- does the talk secret lie open, and can it be worked out
pub record Verdict : Type 0 where
  pub opened : Bool
  pub known : Bool

abbrev pub shut_unknown : Verdict
shut_unknown = record { opened = false; known = false }

abbrev pub open_unknown : Verdict
open_unknown = record { opened = true; known = false }

abbrev pub open_known : Verdict
open_known = record { opened = true; known = true }

-- of the epoch after n commits of a script that founder 0 begins: from every box of the script, and all that was in the handsets read out
abbrev pub verdict : List Commit → List Exposure → ℕ → Verdict
verdict script es n =
    let commits = listed script in
    record {
      opened = is_open 0 commits es n;
      known = known (group 0 commits (length script)).sent (stocks 0 commits es) (talk (group 0 commits n).secret);
    }

-- of the epochs after 0 commits, after 1, and so on: n of them
unfoldable pub verdicts : List Commit → List Exposure → ℕ → List Verdict
verdicts script es zero = []
verdicts script es (suc n) = verdicts script es n ++ (verdict script es n ∷ [])

-- What holds of the lines that are printed, and of plays.
-- `CellInRange c`: the numbers of a printed node are of 16 bits; `NodesDiffer`: printed nodes tell the nodes;
-- `ReportsDiffer`, by `Same`: a commit's line tells its numbers and the nodes;
-- `PrintedOnce`: an input has one output; `StepIsRule`, `IsRun`: what is played and printed is what the rules give.
-- Assumes nothing.
use Rattle.std.specs.Prelude.{◌≡◌, ℕ, ◌^◌, ◌<◌, List, All}
use Rattle.theory.specs.Group.{Group}
use Rattle.theory.specs.Tree.{Tree}
use Rattle.theory.specs.Worked.{Cell, blank, seat, star, cells}
use Rattle.ratchet_tree.specs.declared.member.PublicKey.{PublicKey}
use Rattle.commits.specs.declared.change.Commit.{Commit}
use Rattle.playback.specs.Play.{State, founding, Plays, Printed}
use Rattle.playback.specs.Report.{nodes_bytes, report_bytes}
use Rattle.playback.specs.Runs.{StepOf, Run}

-- the numbers of a printed node are of 16 bits
abbrev pub CellInRange : Cell → Type 0
CellInRange blank = Unit {0}
CellInRange (seat m) = m < 65536
CellInRange (star unmerged) = All (λ m. m < 65536) unmerged

-- no two lists of nodes are printed alike
abbrev pub NodesDiffer : Type 0
NodesDiffer = (a b : List Cell) → All CellInRange a → All CellInRange b → nodes_bytes a ≡ nodes_bytes b → a ≡ b

-- what a commit's line is printed of
pub record Report : Type 0 where
  pub epoch : ℕ
  pub boxes : ℕ
  pub keys : ℕ
  pub tree : Tree PublicKey

abbrev pub line_of : Report → List ℕ
line_of r = report_bytes r.epoch r.boxes r.keys r.tree

-- its numbers are of 64 bits, and those of its members of 16
pub record InRange (r : Report) : Type 0 where
  pub epoch : r.epoch < 2 ^ 64
  pub boxes : r.boxes < 2 ^ 64
  pub keys : r.keys < 2 ^ 64
  pub nodes : All CellInRange (cells r.tree)

-- the same but for the keys, which are not printed
pub record Same (r s : Report) : Type 0 where
  pub epoch : r.epoch ≡ s.epoch
  pub boxes : r.boxes ≡ s.boxes
  pub keys : r.keys ≡ s.keys
  pub nodes : cells r.tree ≡ cells s.tree

-- lines that are alike say the same
abbrev pub ReportsDiffer : Type 0
ReportsDiffer = (r s : Report) → InRange r → InRange s → line_of r ≡ line_of s → Same r s

-- what is printed for an input is determined
abbrev pub PrintedOnce : Type 0
PrintedOnce = (input a b : List ℕ) → Printed input a → Printed input b → a ≡ b

-- one commit does at the station what it does by the rules
abbrev pub StepIsRule : Type 0
StepIsRule = (c : Commit) (g : Group) → StepOf c g

-- a play is a run of the rules: of the commits that its lines ask for, in order, refused ones too
abbrev pub IsRun : Type 0
IsRun = (m : ℕ) (lines : List (List ℕ)) (end : State) (bytes : List ℕ) → Plays (founding m) lines end bytes → Run m lines end bytes

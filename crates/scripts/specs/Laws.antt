-- What holds of the format as a whole.
-- `LinesDiffer`, `FoundersDiffer`, `NoLineIsAFounder`: no two lines are alike; `RoundTrip`: a line is read as it was written;
-- `NoNewline`, `CutsJoin`, `LastNewlineOptional`: a script is cut into the lines that it was made of.
-- Assumes nothing.
use Rattle.std.specs.Prelude.{◌≡◌, ℕ, ◌<◌, List, [], ◌∷◌, ◌++◌, length, Some, All, Option, ◌≢◌}
use Rattle.commits.specs.declared.change.Commit.{Commit}
use Rattle.ratchet_tree.specs.declared.member.MemberId.{MemberId}
use Rattle.scripts.specs.Line.{founder_bytes, line_bytes, MemberInRange, InRange, ReadsFounder, ReadsLine}
use Rattle.scripts.specs.Lines.{Lacks, lines_of, ended}

-- no two commits have one line
abbrev pub LinesDiffer : Type 0
LinesDiffer = (a b : Commit) → InRange a → InRange b → line_bytes a ≡ line_bytes b → a ≡ b

-- no two founders have one line
abbrev pub FoundersDiffer : Type 0
FoundersDiffer = (a b : MemberId) → MemberInRange a → MemberInRange b → founder_bytes a ≡ founder_bytes b → a ≡ b

-- no commit's line is a founder's
abbrev pub NoLineIsAFounder : Type 0
NoLineIsAFounder = (c : Commit) (m : MemberId) → MemberInRange m → line_bytes c ≢ founder_bytes m

-- what a reader answers to a line that was written is what it was written of
abbrev pub RoundTrip : Type 0
RoundTrip = ((c : Commit) (r : Option Commit) → InRange c → ReadsLine (line_bytes c) r → r ≡ Some c) × ((m : MemberId) (r : Option MemberId) → MemberInRange m → ReadsFounder (founder_bytes m) r → r ≡ Some m)

-- no line that is written holds a newline
abbrev pub NoNewline : Type 0
NoNewline = ((c : Commit) → InRange c → Lacks 10 (line_bytes c)) × ((m : MemberId) → MemberInRange m → Lacks 10 (founder_bytes m))

-- lines that hold no newline, each with a newline behind it, are the lines of what they make
abbrev pub CutsJoin : Type 0
CutsJoin = (lines : List (List ℕ)) → All (Lacks 10) lines → lines_of (ended lines) ≡ lines

-- a last line that holds a byte may lack its newline
abbrev pub LastNewlineOptional : Type 0
LastNewlineOptional = (lines : List (List ℕ)) (last : List ℕ) → All (Lacks 10) lines → Lacks 10 last → 0 < length last → lines_of (ended lines ++ last) ≡ lines ++ last ∷ []

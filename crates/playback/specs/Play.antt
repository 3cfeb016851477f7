-- A script played: what the station answers to each line, and to a whole input.
-- `State`: the tree and the epoch; `Answers`: what one line does and prints; `Plays`: the same for several;
-- `Printed`: what is printed for an input, whatever its bytes.
-- Assumes nothing.
use Rattle.std.specs.Prelude.{◌≡◌, ℕ, suc, ◌+◌, ◌<◌, ◌≤◌, List, [], ◌∷◌, ◌++◌, length, replicate, Some, None, ◌≢◌}
use Rattle.theory.specs.Group.{laid_by, refusal}
use Rattle.theory.specs.Limits.{nobody}
use Rattle.theory.specs.Path.{Laid}
use Rattle.theory.specs.Tree.{Tree, leaf, occupied}
use Rattle.ratchet_tree.specs.declared.member.MemberId.{MemberId}
use Rattle.ratchet_tree.specs.declared.member.PublicKey.{PublicKey}
use Rattle.commits.specs.Apply.{welcomes}
use Rattle.commits.specs.Commits.{change_of, commit_of}
use Rattle.commits.specs.declared.change.Commit.{Commit}
use Rattle.scripts.specs.Line.{InRange, MemberInRange, founder_bytes, line_bytes}
use Rattle.scripts.specs.Lines.{lines_of, max_lines}
use Rattle.playback.specs.Report.{refusal_bytes, report_bytes}

-- what the station knows of the group
pub record State : Type 0 where
  pub tree : Tree PublicKey
  pub epoch : ℕ

-- the station has no vault: one half stands in for every key, and nothing that is printed depends on it
abbrev pub stand_in : PublicKey
stand_in = record { 0 = replicate 32 0 }

abbrev pub founding : ℕ → State
founding m = record { tree = leaf (occupied m stand_in); epoch = 0 }

-- the path of a commit, and the state after it
abbrev pub path_of : Commit → State → Laid PublicKey
path_of c s = laid_by (commit_of c) stand_in stand_in (λ _. stand_in) s.tree

abbrev pub after : Commit → State → State
after c s = record { tree = (path_of c s).tree; epoch = suc s.epoch }

-- the line that is printed for it
abbrev pub reported : Commit → State → List ℕ
reported c s =
    report_bytes (suc s.epoch) (length (path_of c s).targets + welcomes (change_of c.change)) (path_of c s).levels (path_of c s).tree

-- what one line does, and what is printed for it
pub data Answers (s : State) (line : List ℕ) : State → List ℕ → Type 0 where
  -- it is no commit's line
  malformed : ((c : Commit) → InRange c → line ≢ line_bytes c) → Answers s line s (refusal_bytes 1)
  -- the commit is refused by its number
  refused : (c : Commit) → InRange c → line ≡ line_bytes c → (n : ℕ) → refusal s.epoch (commit_of c) s.tree ≡ Some n → Answers s line s (refusal_bytes n)
  -- the commit is carried out
  carried : (c : Commit) → InRange c → line ≡ line_bytes c → refusal s.epoch (commit_of c) s.tree ≡ None → Answers s line (after c s) (reported c s)

-- line after line
pub data Plays (s : State) : List (List ℕ) → State → List ℕ → Type 0 where
  start : Plays s [] s []
  next : {ls : List (List ℕ)} {t u : State} {bs : List ℕ} → Plays s ls t bs → (line : List ℕ) (cs : List ℕ) → Answers t line u cs → Plays s (ls ++ line ∷ []) u (bs ++ cs)

-- what is printed for an input
pub data Printed (input : List ℕ) : List ℕ → Type 0 where
  -- it is too long, or empty
  too_long : max_lines < length (lines_of input) → Printed input (refusal_bytes 1)
  empty : lines_of input ≡ [] → Printed input (refusal_bytes 1)
  -- its first line is no founder's, or names nobody
  no_founder : (first : List ℕ) (rest : List (List ℕ)) → length (lines_of input) ≤ max_lines → lines_of input ≡ first ∷ rest →
      ((m : MemberId) → MemberInRange m → first ≢ founder_bytes m) → Printed input (refusal_bytes 1)
  bad_founder : (m : MemberId) (rest : List (List ℕ)) → length (lines_of input) ≤ max_lines → lines_of input ≡ founder_bytes m ∷ rest → m.0 ≡ nobody → Printed input (refusal_bytes 8)
  -- the other lines are played
  played : (m : MemberId) (rest : List (List ℕ)) (end : State) (bytes : List ℕ) → length (lines_of input) ≤ max_lines → lines_of input ≡ founder_bytes m ∷ rest → m.0 < nobody →
      Plays (founding m.0) rest end bytes → Printed input bytes

-- The code's station, as the state of a play.
-- `state_of`; `Answered`: one line, `PlayedAll`: all lines, with what they append. Nothing is said where there was no memory.
-- `Begins`: the founder that an input names and the lines behind, or its refusal.
-- Assumes nothing.
use Rattle.std.specs.Prelude.{◌≡◌, ℕ, ◌<◌, ◌≤◌, true, List, ◌∷◌, ◌++◌, length, is_ok, Result, MatchResult}
use Rattle.theory.specs.Limits.{nobody}
use Rattle.ratchet_tree.specs.Trees.{the_tree}
use Rattle.ratchet_tree.specs.declared.member.MemberId.{MemberId}
use Rattle.commits.specs.Refusals.{number_of}
use Rattle.commits.specs.declared.refusal.Refusal.{Refusal}
use Rattle.scripts.specs.Line.{founder_bytes}
use Rattle.scripts.specs.Lines.{lines_of, max_lines}
use Rattle.playback.specs.Play.{State, Answers, Plays, Printed}
use Rattle.playback.specs.Report.{refusal_bytes}
use Rattle.playback.specs.declared.script.Station.{Station}

abbrev pub state_of : Station → State
state_of s = record { tree = the_tree s.tree; epoch = s.epoch.0 }

-- a line led from one state to another, and its answer was appended
pub record Answer (s : State) (line : List ℕ) (t : State) (before after : List ℕ) : Type 0 where
  pub bytes : List ℕ
  pub appended : after ≡ before ++ bytes
  pub answers : Answers s line t bytes

abbrev pub Answered : {T E : Type 0} → Station → List ℕ → Station → List ℕ → List ℕ → Result T E → Type 0
Answered s line t before after r = is_ok r ≡ true → Answer (state_of s) line (state_of t) before after

-- lines were played from a state on, and their answers were appended
pub record Played (s : State) (lines : List (List ℕ)) (before after : List ℕ) : Type 0 where
  pub end : State
  pub bytes : List ℕ
  pub appended : after ≡ before ++ bytes
  pub plays : Plays s lines end bytes

abbrev pub PlayedAll : {T E : Type 0} → Station → List (List ℕ) → List ℕ → List ℕ → Result T E → Type 0
PlayedAll s lines before after r = is_ok r ≡ true → Played (state_of s) lines before after

-- the founder that an input names, and the lines behind, few enough; or a refusal that is all that is printed for it
abbrev pub Begins : List ℕ → Result (MemberId × List (List ℕ)) Refusal → Type 0
Begins input r =
    MatchResult r
    (λ p. (length (lines_of input) ≤ max_lines) × (lines_of input ≡ founder_bytes p.0 ∷ p.1) × (p.0.0 < nobody))
    (λ refusal. Printed input (refusal_bytes (number_of refusal)))

-- The lines of an input.
-- `Lacks b text`: b does not stand in the text; `lines_of input`: the input's lines (`before b lines`: b in front of the first);
-- `ended lines`: lines, each with a newline behind it; `max_lines`: the most lines that a script may have.
-- Assumes nothing.
use Rattle.std.specs.Prelude.{ℕ, cond, List, [], ◌∷◌, ◌++◌, All, ◌==◌, ◌≢◌}

-- the byte b does not stand in the text
abbrev pub Lacks : ℕ → List ℕ → Type 0
Lacks b text = All (λ c. c ≢ b) text

-- one more byte in front of the first line; without a line it begins one
abbrev pub before : ℕ → List (List ℕ) → List (List ℕ)
before b [] = (b ∷ []) ∷ []
before b (line ∷ lines) = (b ∷ line) ∷ lines

-- the lines of an input: a newline ends a line, and so does the end of the input behind any other byte
abbrev pub lines_of : List ℕ → List (List ℕ)
lines_of [] = []
lines_of (b ∷ bs) = cond (b == 10) ([] ∷ lines_of bs) (before b (lines_of bs))

-- lines, each with a newline behind it
abbrev pub ended : List (List ℕ) → List ℕ
ended [] = []
ended (line ∷ lines) = line ++ 10 ∷ ended lines

-- the most lines that a script may have, the founder's among them
abbrev pub max_lines : ℕ
max_lines = 4096

-- Numbers as decimal text.
-- `decimal n`: the text of n; `Digit b`: b is one of the bytes `0` to `9`; `ReadsNumber text r`: what a reader answers.
-- Assumes nothing.
use Rattle.std.specs.Prelude.{◌≡◌, ℕ, ◌<◌, ◌≤◌, List, Option, MatchOption, ◌≢◌}
use Rattle.std.specs.Fmt as written

-- the decimal digits of n, first digit first, with no leading zero: what `{n}` prints
abbrev pub decimal : ℕ → List ℕ
decimal n = written.decimal n

-- the byte is a digit
abbrev pub Digit : ℕ → Type 0
Digit b = (48 ≤ b) × (b ≤ 57)

-- the number of 16 bits whose text this is; nothing where it is none's
abbrev pub ReadsNumber : List ℕ → Option ℕ → Type 0
ReadsNumber text r = MatchOption r ((n : ℕ) → n < 65536 → text ≢ decimal n) (λ n. (text ≡ decimal n) × (n < 65536))

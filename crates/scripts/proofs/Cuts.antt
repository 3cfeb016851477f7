-- Cutting bytes: at the first of a byte, and at newlines.
use Rattle.std.proofs.Common.{◌≡◌, ℕ, ◌<◌, ◌≤◌, eqb, List, [], ◌∷◌, ◌++◌, length, All, refl, ap, ◌∙◌, arith}
use Rattle.std.proofs.lemmas.Bool.{ne_eqb, cond-false, cond_both}
use Rattle.std.proofs.lemmas.List.Elements.{All-head, All-tail}
use Rattle.std.proofs.lemmas.List.{nil_from_length, append_assoc}
use Rattle.scripts.specs.Lines.{Lacks, before, lines_of, ended}

-- a text without a byte, from its first on
pub lacks-head : (b c : ℕ) (cs : List ℕ) → Lacks b (c ∷ cs) → c ≡ b → ⊥
lacks-head b c cs lacks = All-head (λ x. x ≡ b → ⊥) c cs lacks

pub lacks-tail : (b c : ℕ) (cs : List ℕ) → Lacks b (c ∷ cs) → Lacks b cs
lacks-tail b c cs lacks = All-tail (λ x. x ≡ b → ⊥) c cs lacks

-- a byte that is no newline goes into the first line
lines_of-byte : (b : ℕ) (bs : List ℕ) → (b ≡ 10 → ⊥) → lines_of (b ∷ bs) ≡ before b (lines_of bs)
lines_of-byte b bs other = cond-false (eqb b 10) ([] ∷ lines_of bs) (before b (lines_of bs)) (ne_eqb b 10 other)

-- the first line is what stands before the first newline
pub lines_of-cut : (line rest : List ℕ) → Lacks 10 line → lines_of (line ++ 10 ∷ rest) ≡ line ∷ lines_of rest
lines_of-cut [] rest lacks = refl
lines_of-cut (b ∷ bs) rest lacks = lines_of-byte b (bs ++ 10 ∷ rest) (lacks-head 10 b bs lacks) ∙ ap (before b) (lines_of-cut bs rest (lacks-tail 10 b bs lacks))

-- an input without a newline is one line, if there is any byte
pub lines_of-last : (input : List ℕ) → 0 < length input → Lacks 10 input → lines_of input ≡ input ∷ []
lines_of-last [] some lacks = absurd (omega arith)
lines_of-last (b ∷ []) some lacks = lines_of-byte b [] (lacks-head 10 b [] lacks)
lines_of-last (b ∷ (c ∷ cs)) some lacks = lines_of-byte b (c ∷ cs) (lacks-head 10 b (c ∷ cs) lacks) ∙ ap (before b) (lines_of-last (c ∷ cs) (omega arith) (lacks-tail 10 b (c ∷ cs) lacks))

pub lines_of-empty : (input : List ℕ) → length input ≡ 0 → lines_of input ≡ []
lines_of-empty input none = ap lines_of (nil_from_length input none)

-- every line but the last ends with a newline, so that there are no more lines than bytes
pub length-lines_of-le : (input : List ℕ) → length (lines_of input) ≤ length input
length-lines_of-le [] = omega arith
length-lines_of-le (b ∷ bs) = cond_both (eqb b 10) ([] ∷ lines_of bs) (before b (lines_of bs)) (λ ls. length ls ≤ length (b ∷ bs)) (λ e. omega (arith, length-lines_of-le bs)) (λ e. before-le (lines_of bs) (length-lines_of-le bs))
  where
    before-le : (ls : List (List ℕ)) → length ls ≤ length bs → length (before b ls) ≤ length (b ∷ bs)
    before-le [] h = omega arith
    before-le (l ∷ ls) h = omega arith

-- a last line that holds a byte needs no newline
pub last-newline-optional : (lines : List (List ℕ)) (last : List ℕ) → All (Lacks 10) lines → Lacks 10 last → 0 < length last → lines_of (ended lines ++ last) ≡ lines ++ last ∷ []
last-newline-optional [] last all lacks some = lines_of-last last some lacks
last-newline-optional (line ∷ lines) last all lacks some =
    ap lines_of (append_assoc line (10 ∷ ended lines) last) ∙ lines_of-cut line (ended lines ++ last) (All-head (Lacks 10) line lines all)
    ∙ ap (λ ls. line ∷ ls) (last-newline-optional lines last (All-tail (Lacks 10) line lines all) lacks some)

-- lines that are put together are cut apart again
pub cuts-join : (lines : List (List ℕ)) → All (Lacks 10) lines → lines_of (ended lines) ≡ lines
cuts-join [] all = refl
cuts-join (line ∷ lines) all = lines_of-cut line (ended lines) (All-head (Lacks 10) line lines all) ∙ ap (λ ls. line ∷ ls) (cuts-join lines (All-tail (Lacks 10) line lines all))

use Rattle.std.proofs.Common.{◌≡◌, ℕ, ◌<◌, List, [], ◌∷◌, ◌++◌, length, Some, None, Option, MatchOption, Bor, unwrap_or, refl, ap, ◌∙◌, rules}
use Rattle.scripts.specs.Lines.{Lacks, lines_of}
use Rattle.scripts.proofs.Cuts.{lines_of-cut, lines_of-last, lines_of-empty}
use Rattle.scripts.proofs.lines.next_line.Goals as goal

pub returns-then-is_empty : goal.returns-then-is_empty
returns-then-is_empty c = lines_of-empty c.args.input.now (search rules)

-- the first line is what stands before the first newline, or all of the input
first-line : (input : List ℕ) (r : Option (Bor (List ℕ) × Bor (List ℕ))) (whole : Bor (List ℕ) × Bor (List ℕ)) → 0 < length input → MatchOption r (Lacks 10 input) (λ p. (input ≡ p.0.now ++ 10 ∷ p.1.now) × Lacks 10 p.0.now) →
    input ∷ [] ≡ whole.0.now ∷ lines_of whole.1.now → lines_of input ≡ (unwrap_or r whole).0.now ∷ lines_of (unwrap_or r whole).1.now
first-line input (Some p) whole some cut all = ap lines_of cut.0 ∙ lines_of-cut p.0.now p.1.now cut.1
first-line input None whole some lacks all = lines_of-last input some lacks ∙ all

pub returns : goal.returns
returns c = rw c.unwrap_or.ensures (first-line c.args.input.now c.split_once.result _ (search rules) c.split_once.ensures refl)

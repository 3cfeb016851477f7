-- The words of a line: where it is cut, and which lines there are.
use Rattle.std.proofs.Common.{◌≡◌, ℕ, ◌<◌, Bool, true, not, ◌&&◌, eqb, List, [], ◌∷◌, ◌++◌, codes, sym, refl, ◌∙◌, subst, arith}
use Rattle.std.proofs.lemmas.List.Elements.{All-nil, All-cons, All-weaker}
use Rattle.std.proofs.lemmas.Bool.{and_parts, not-true, eqb-false}
use Rattle.commits.specs.declared.change.Change.{Change}
use Rattle.commits.specs.declared.change.Change.TheVariants.{Renew, Remove, Add}
use Rattle.commits.specs.declared.change.Commit.{Commit}
use Rattle.scripts.proofs.Cuts.{lacks-head, lacks-tail}
use Rattle.scripts.proofs.Decimals.{all-decimal}
use Rattle.scripts.specs.Decimal.{decimal, Digit}
use Rattle.scripts.specs.Line.{spaced, words_of, line_bytes, InRange}
use Rattle.scripts.specs.Lines.{Lacks}
use Rattle.scripts.specs.Verbs.{word_of}
use Rattle.scripts.specs.declared.line.Verb.{Verb}
use Rattle.scripts.specs.declared.line.Verb.TheVariants as verbs

-- a byte that stands in a text is not lacked there
pub lacks-none : (b : ℕ) (front back : List ℕ) → Lacks b (front ++ b ∷ back) → ⊥
lacks-none b [] back lacks = lacks-head b b back lacks refl
lacks-none b (c ∷ front) back lacks = lacks-none b front back (lacks-tail b c (front ++ b ∷ back) lacks)

-- a text is cut at its first b in one way
pub same-cut : (b : ℕ) (u v x y : List ℕ) → Lacks b u → Lacks b x → u ++ b ∷ v ≡ x ++ b ∷ y → (u ≡ x) × (v ≡ y)
same-cut b [] v [] y lu lx e = (refl, cc)
same-cut b [] v (c ∷ x) y lu lx e = absurd (lacks-head b c x lx (let h : c ≡ b = cc in h))
same-cut b (c ∷ u) v [] y lu lx e = absurd (lacks-head b c u lu (let h : c ≡ b = cc in h))
same-cut b (c ∷ u) v (d ∷ x) y lu lx e =
    let heads : c ≡ d = cc in
    let tails : u ++ b ∷ v ≡ x ++ b ∷ y = cc in
    let rest = same-cut b u v x y (lacks-tail b c u lu) (lacks-tail b d x lx) tails in
    let whole : c ∷ u ≡ d ∷ x = cc rest.0 in
    (whole, rest.1)

-- a number's text has no byte but digits
pub decimal-lacks : (b n : ℕ) → (Digit b → ⊥) → n < 65536 → Lacks b (decimal n)
decimal-lacks b n other small = All-weaker Digit (λ c. c ≡ b → ⊥) (λ c d e. other (subst Digit e d)) (decimal n) (all-decimal n (omega arith))

pub space-no-digit : Digit 32 → ⊥
space-no-digit d = omega arith

-- what is asked
abbrev pub verb : Change → List ℕ
verb Renew = codes "renew"
verb (Remove other) = codes "remove"
verb (Add other) = codes "add"

-- what stands behind it
abbrev pub behind : ℕ → Change → List ℕ
behind m Renew = decimal m
behind m (Remove other) = spaced (decimal m ∷ decimal other.0 ∷ [])
behind m (Add other) = spaced (decimal m ∷ decimal other.0 ∷ [])

pub line-cut : (m : ℕ) (change : Change) → spaced (words_of m change) ≡ verb change ++ 32 ∷ behind m change
line-cut m Renew = refl
line-cut m (Remove other) = refl
line-cut m (Add other) = refl

-- b does not stand in bytes that are written out
abbrev pub lacking : ℕ → List ℕ → Bool
lacking b [] = true
lacking b (c ∷ cs) = not (eqb c b) && lacking b cs

pub lacks-by : (b : ℕ) (cs : List ℕ) → lacking b cs ≡ true → Lacks b cs
lacks-by b [] e = All-nil (λ x. x ≡ b → ⊥)
lacks-by b (c ∷ cs) e =
    let both = and_parts (not (eqb c b)) (lacking b cs) e in
    All-cons (λ x. x ≡ b → ⊥) c cs (eqb-false c b (not-true (eqb c b) both.0)) (lacks-by b cs both.1)

pub verb-lacks : (change : Change) → Lacks 32 (verb change)
verb-lacks Renew = lacks-by 32 (codes "renew") refl
verb-lacks (Remove other) = lacks-by 32 (codes "remove") refl
verb-lacks (Add other) = lacks-by 32 (codes "add") refl

-- two numbers, one space apart
module _ (text first second : List ℕ) (cut : text ≡ first ++ 32 ∷ second) (lacks : Lacks 32 first) where
  pair_parts : (m n : ℕ) → m < 65536 → text ≡ spaced (decimal m ∷ decimal n ∷ []) → (first ≡ decimal m) × (second ≡ decimal n)
  pair_parts m n small e = same-cut 32 first second (decimal m) (decimal n) lacks (decimal-lacks 32 m space-no-digit small) (sym cut ∙ e)

  pub first-refused : ((m : ℕ) → m < 65536 → first ≡ decimal m → ⊥) → (m n : ℕ) → m < 65536 → n < 65536 → text ≡ spaced (decimal m ∷ decimal n ∷ []) → ⊥
  first-refused none m n sm sn e = none m sm (pair_parts m n sm e).0

  pub second-refused : ((n : ℕ) → n < 65536 → second ≡ decimal n → ⊥) → (m n : ℕ) → m < 65536 → n < 65536 → text ≡ spaced (decimal m ∷ decimal n ∷ []) → ⊥
  second-refused none m n sm sn e = none n sn (pair_parts m n sm e).1

pub no-pair : (text : List ℕ) → Lacks 32 text → (m n : ℕ) → m < 65536 → n < 65536 → text ≡ spaced (decimal m ∷ decimal n ∷ []) → ⊥
no-pair text lacks m n sm sn e = lacks-none 32 (decimal m) (decimal n) (subst (Lacks 32) e lacks)

-- a line is its verb, a space, and what stands behind it
pub no_line : (line : List ℕ) → Lacks 32 line → (c : Commit) → InRange c → line ≡ line_bytes c → ⊥
no_line line lacks c fits e = lacks-none 32 (verb c.change) (behind c.committer.0 c.change) (subst (Lacks 32) (e ∙ line-cut c.committer.0 c.change) lacks)

module _ (line word rest : List ℕ) (cut : line ≡ word ++ 32 ∷ rest) (lacks : Lacks 32 word) where
  line-parts : (m : ℕ) (change : Change) → line ≡ spaced (words_of m change) → (word ≡ verb change) × (rest ≡ behind m change)
  line-parts m change e = same-cut 32 word rest (verb change) (behind m change) lacks (verb-lacks change) (sym cut ∙ e ∙ line-cut m change)

  verb-at : ((v : Verb) → word ≡ word_of v → ⊥) → (change : Change) → word ≡ verb change → ⊥
  verb-at none Renew w = none verbs.Renew w
  verb-at none (Remove n) w = none verbs.Remove w
  verb-at none (Add n) w = none verbs.Add w

  pub verb-refused : ((v : Verb) → word ≡ word_of v → ⊥) → (c : Commit) → InRange c → line ≡ line_bytes c → ⊥
  verb-refused none c fits e = verb-at none c.change (line-parts c.committer.0 c.change e).0

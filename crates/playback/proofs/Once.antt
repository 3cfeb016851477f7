-- What is printed for an input is determined.
use Rattle.std.proofs.Common.{◌≡◌, ℕ, ◌<◌, ◌≤◌, List, [], ◌∷◌, ◌++◌, length, Some, None, Option, sym, refl, ap, ◌∙◌, subst, ap₂, arith}
use Rattle.std.proofs.lemmas.List.{length_push, same_from_push}
use Rattle.theory.specs.Group.{refusal}
use Rattle.theory.specs.Limits.{nobody}
use Rattle.ratchet_tree.specs.declared.member.MemberId.{MemberId}
use Rattle.commits.specs.Commits.{commit_of}
use Rattle.commits.specs.declared.change.Commit.{Commit}
use Rattle.scripts.proofs.Distinct.{lines-differ, founders-differ}
use Rattle.scripts.specs.Line.{InRange, MemberInRange, founder_bytes, line_bytes}
use Rattle.scripts.specs.Lines.{lines_of, max_lines}
use Rattle.playback.specs.Laws.{PrintedOnce}
use Rattle.playback.specs.Play.{State, founding, after, reported, Answers, malformed, refused, carried, Plays, start, next, Printed, too_long, empty, no_founder, bad_founder, played}
use Rattle.playback.specs.Report.{refusal_bytes}

-- ONE LINE.
some-not-none : {n : ℕ} {o : Option ℕ} → o ≡ Some n → o ≡ None → ⊥
some-not-none {n} e f = let g : Some n ≡ None = sym e ∙ f in let z : ◌≡◌ {A = ℕ} 0 1 = cc in absurd (omega arith)

some_same : {n k : ℕ} {o : Option ℕ} → o ≡ Some n → o ≡ Some k → n ≡ k
some_same {n} {k} e f = let g : Some n ≡ Some k = sym e ∙ f in cc

module _ (s : State) (line : List ℕ) where
  one-commit : (c d : Commit) → InRange c → InRange d → line ≡ line_bytes c → line ≡ line_bytes d → c ≡ d
  one-commit c d ic id e f = lines-differ c d ic id (sym e ∙ f)

  -- the verdict on one commit, of another that is the same
  verdict-as : (c d : Commit) (o : Option ℕ) → c ≡ d → refusal s.epoch (commit_of d) s.tree ≡ o → refusal s.epoch (commit_of c) s.tree ≡ o
  verdict-as c d o e v = ap (λ x. refusal s.epoch (commit_of x) s.tree) e ∙ v

  answers-once : {t u : State} {a b : List ℕ} → Answers s line t a → Answers s line u b → (t ≡ u) × (a ≡ b)
  answers-once (malformed none) (malformed none') = (refl, refl)
  answers-once (malformed none) (refused d id f k w) = absurd (none d id f)
  answers-once (malformed none) (carried d id f w) = absurd (none d id f)
  answers-once (refused c ic e n v) (malformed none) = absurd (none c ic e)
  answers-once (refused c ic e n v) (refused d id f k w) =
      (refl, ap refusal_bytes (some_same v (verdict-as c d (Some k) (one-commit c d ic id e f) w)))
  answers-once (refused c ic e n v) (carried d id f w) = absurd (some-not-none v (verdict-as c d None (one-commit c d ic id e f) w))
  answers-once (carried c ic e v) (malformed none) = absurd (none c ic e)
  answers-once (carried c ic e v) (refused d id f k w) = absurd (some-not-none (verdict-as c d (Some k) (one-commit c d ic id e f) w) v)
  answers-once (carried c ic e v) (carried d id f w) =
      let same = one-commit c d ic id e f in (ap (λ x. after x s) same, ap (λ x. reported x s) same)

-- LINE AFTER LINE.
no-push : (ls : List (List ℕ)) (line : List ℕ) → [] ≡ ls ++ line ∷ [] → ⊥
no-push ls line e = omega (arith, ap length e, length_push ls line)

plays-once : (s : State) {ks ls : List (List ℕ)} {t u : State} {a b : List ℕ} → Plays s ks t a → Plays s ls u b → ks ≡ ls → (t ≡ u) × (a ≡ b)
plays-once s start start e = (refl, refl)
plays-once s start (next {ls} q line' ds f) e = absurd (no-push ls line' e)
plays-once s (next {ls} p line cs g) start e = absurd (no-push ls line (sym e))
plays-once s (next {ls} {t} {u} {bs} p line cs g) (next {ls = ls'} {t = t'} {u = u'} {bs = bs'} q line' ds f) e =
    let ends : (ls ≡ ls') × (line ≡ line') = same_from_push ls ls' line line' e in
    let before : (t ≡ t') × (bs ≡ bs') = plays-once s p q ends.0 in
    let g' : Answers t' line u cs = subst (λ (x : State). Answers x line u cs) before.0 g in
    let g'' : Answers t' line' u cs = subst (λ x. Answers t' x u cs) ends.1 g' in
    let now : (u ≡ u') × (cs ≡ ds) = answers-once t' line' g'' f in
    (now.0, ap₂ ◌++◌ before.1 now.1)

-- WHOLE INPUTS, by what founds the group.
data Founds (m : MemberId) (rest : List (List ℕ)) : List ℕ → Type 0 where
  nobodys : m.0 ≡ nobody → Founds m rest (refusal_bytes 8)
  somebodys : (end : State) (bytes : List ℕ) → m.0 < nobody → Plays (founding m.0) rest end bytes → Founds m rest bytes

-- the input begins with m's line and isn't too long
abbrev Begins : List (List ℕ) → MemberId → List (List ℕ) → Type 0
Begins lines m rest = MemberInRange m × (length lines ≤ max_lines) × (lines ≡ founder_bytes m ∷ rest)

data Reads (lines : List (List ℕ)) : List ℕ → Type 0 where
  unfounded : ((m : MemberId) (rest : List (List ℕ)) → Begins lines m rest → ⊥) → Reads lines (refusal_bytes 1)
  founded : (bytes : List ℕ) (m : MemberId) (rest : List (List ℕ)) → Begins lines m rest → Founds m rest bytes → Reads lines bytes

reads : (input : List ℕ) {a : List ℕ} → Printed input a → Reads (lines_of input) a
reads input (too_long h) = unfounded (λ m rest b. let le = b.1 in omega arith)
reads input (empty e) = unfounded (λ m rest b. omega (arith, ap length (sym e ∙ b.2)))
reads input (no_founder first rest le e none) =
    unfounded (λ m more b. let both : first ∷ rest ≡ founder_bytes m ∷ more = sym e ∙ b.2 in let heads : first ≡ founder_bytes m = cc in none m b.0 heads)
reads input (bad_founder m rest le e z) = founded (refusal_bytes 8) m rest (omega arith, le, e) (nobodys z)
reads input (played m rest end bytes le e z p) = founded bytes m rest (omega arith, le, e) (somebodys end bytes z p)

founds-once : (m : MemberId) (rest : List (List ℕ)) {a b : List ℕ} → Founds m rest a → Founds m rest b → a ≡ b
founds-once m rest (nobodys z) (nobodys y) = refl
founds-once m rest (nobodys z) (somebodys end bytes y p) = absurd (omega arith)
founds-once m rest (somebodys end bytes z p) (nobodys y) = absurd (omega arith)
founds-once m rest (somebodys end bytes z p) (somebodys end' bytes' y q) = (plays-once (founding m.0) p q refl).1

reads-once : (lines : List (List ℕ)) {a b : List ℕ} → Reads lines a → Reads lines b → a ≡ b
reads-once lines (unfounded none) (unfounded none') = refl
reads-once lines (unfounded none) (founded b n more f q) = absurd (none n more f)
reads-once lines (founded a m rest e p) (unfounded none) = absurd (none m rest e)
reads-once lines (founded a m rest e p) (founded b n more f q) =
    let both : founder_bytes m ∷ rest ≡ founder_bytes n ∷ more = sym e.2 ∙ f.2 in
    let heads : founder_bytes m ≡ founder_bytes n = cc in
    let tails : rest ≡ more = cc in
    let member : m ≡ n = founders-differ m n e.0 f.0 heads in
    let p' : Founds n rest a = subst (λ (x : MemberId). Founds x rest a) member p in
    founds-once n more (subst (λ x. Founds n x a) tails p') q

pub printed-once : PrintedOnce
printed-once input a b p q = reads-once (lines_of input) (reads input p) (reads input q)

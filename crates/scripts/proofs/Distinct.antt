-- No two lines are alike, and none holds a newline.
use Rattle.std.proofs.Common.{◌≡◌, ℕ, ◌<◌, List, [], ◌∷◌, ◌++◌, length, Some, None, codes, All, Option, sym, refl, ap, ◌∙◌, subst, arith}
use Rattle.std.proofs.lemmas.Fmt.{decimal_injective}
use Rattle.std.proofs.lemmas.List.Elements.{All-head, All-cons, All-append}
use Rattle.commits.specs.declared.change.Change.{Change}
use Rattle.commits.specs.declared.change.Change.TheVariants.{Renew, Remove, Add}
use Rattle.commits.specs.declared.change.Commit.{Commit}
use Rattle.ratchet_tree.specs.declared.member.MemberId.{MemberId}
use Rattle.scripts.proofs.Decimals.{all-decimal}
use Rattle.scripts.proofs.Words.{verb, behind, line-cut, verb-lacks, lacks-by, same-cut, decimal-lacks, space-no-digit}
use Rattle.scripts.specs.Decimal.{decimal, Digit}
use Rattle.scripts.specs.Laws.{LinesDiffer, FoundersDiffer, NoLineIsAFounder, RoundTrip, NoNewline}
use Rattle.scripts.specs.Line.{spaced, words_of, line_bytes, founder_bytes, MemberInRange, InRange, ChangeInRange, ReadsLine, ReadsFounder}
use Rattle.scripts.specs.Lines.{Lacks}

number_same : (m n : ℕ) → m < 65536 → n < 65536 → decimal m ≡ decimal n → m ≡ n
number_same m n sm sn e = decimal_injective m n (omega arith) (omega arith) e

member-same : (a b : MemberId) → a.0 ≡ b.0 → a ≡ b
member-same a b e = let member : ℕ → MemberId = λ n. record { 0 = n } in ap member e

pub founders-differ : FoundersDiffer
founders-differ a b fa fb e = member-same a b (number_same a.0 b.0 fa fb e)

pair_same : (m n : ℕ) (p q : MemberId) → m < 65536 → n < 65536 → MemberInRange p → MemberInRange q → spaced (decimal m ∷ decimal p.0 ∷ []) ≡ spaced (decimal n ∷ decimal q.0 ∷ []) → (m ≡ n) × (p ≡ q)
pair_same m n p q sm sn fp fq e =
    let parts = same-cut 32 (decimal m) (decimal p.0) (decimal n) (decimal q.0) (decimal-lacks 32 m space-no-digit sm) (decimal-lacks 32 n space-no-digit sn) e in
    (number_same m n sm sn parts.0, member-same p q (number_same p.0 q.0 fp fq parts.1))

change-same : (m n : ℕ) (x y : Change) → m < 65536 → n < 65536 → ChangeInRange x → ChangeInRange y → verb x ≡ verb y → behind m x ≡ behind n y → (m ≡ n) × (x ≡ y)
change-same m n Renew Renew sm sn fx fy v e = (number_same m n sm sn e, refl)
change-same m n Renew (Remove q) sm sn fx fy v e = absurd (omega (arith, ap length v))
change-same m n Renew (Add q) sm sn fx fy v e = absurd (omega (arith, ap length v))
change-same m n (Remove p) Renew sm sn fx fy v e = absurd (omega (arith, ap length v))
change-same m n (Remove p) (Remove q) sm sn fx fy v e = let s = pair_same m n p q sm sn fx fy e in (s.0, ap Remove s.1)
change-same m n (Remove p) (Add q) sm sn fx fy v e = absurd (omega (arith, ap length v))
change-same m n (Add p) Renew sm sn fx fy v e = absurd (omega (arith, ap length v))
change-same m n (Add p) (Remove q) sm sn fx fy v e = absurd (omega (arith, ap length v))
change-same m n (Add p) (Add q) sm sn fx fy v e = let s = pair_same m n p q sm sn fx fy e in (s.0, ap Add s.1)

commit-same : (a b : Commit) → a.committer ≡ b.committer → a.change ≡ b.change → a ≡ b
commit-same a b em ec =
    let by-member : MemberId → Commit = λ m. record { committer = m; change = a.change } in
    let by-change : Change → Commit = λ x. record { committer = b.committer; change = x } in
    ap by-member em ∙ ap by-change ec

pub lines-differ : LinesDiffer
lines-differ a b fa fb e =
    let m = a.committer.0 in
    let n = b.committer.0 in
    let parts = same-cut 32 (verb a.change) (behind m a.change) (verb b.change) (behind n b.change) (verb-lacks a.change) (verb-lacks b.change) (sym (line-cut m a.change) ∙ e ∙ line-cut n b.change) in
    let s = change-same m n a.change b.change fa.committer fb.committer fa.other fb.other parts.0 parts.1 in
    commit-same a b (member-same a.committer b.committer s.0) s.1

-- a line begins with a letter
letter-first : (m : ℕ) (change : Change) → All Digit (spaced (words_of m change)) → ⊥
letter-first m Renew all = omega (arith, All-head Digit 114 (codes "enew" ++ 32 ∷ decimal m) all)
letter-first m (Remove other) all = omega (arith, All-head Digit 114 (codes "emove" ++ 32 ∷ spaced (decimal m ∷ decimal other.0 ∷ [])) all)
letter-first m (Add other) all = omega (arith, All-head Digit 97 (codes "dd" ++ 32 ∷ spaced (decimal m ∷ decimal other.0 ∷ [])) all)

pub no-line-is-a-founder : NoLineIsAFounder
no-line-is-a-founder c m small e = letter-first c.committer.0 c.change (subst (All Digit) (sym e) (all-decimal m.0 (omega arith)))

line-back : (c : Commit) (r : Option Commit) → InRange c → ReadsLine (line_bytes c) r → r ≡ Some c
line-back c None fits none = absurd (none c fits refl)
line-back c (Some d) fits (e, other) = ap Some (lines-differ d c other fits (sym e))

founder-back : (m : MemberId) (r : Option MemberId) → MemberInRange m → ReadsFounder (founder_bytes m) r → r ≡ Some m
founder-back m None fits none = absurd (none m fits refl)
founder-back m (Some n) fits (e, other) = ap Some (founders-differ n m other fits (sym e))

pub round_trip : RoundTrip
round_trip = (line-back, founder-back)

newline-no-digit : Digit 10 → ⊥
newline-no-digit d = omega arith

-- words without a newline make a line without one
spaced-lacks : (word more : List ℕ) → Lacks 10 word → Lacks 10 more → Lacks 10 (word ++ 32 ∷ more)
spaced-lacks word more lw lm = All-append (λ c. c ≡ 10 → ⊥) word (32 ∷ more) lw (All-cons (λ c. c ≡ 10 → ⊥) 32 more (λ e. omega arith) lm)

line-lacks : (m : ℕ) (change : Change) → m < 65536 → ChangeInRange change → Lacks 10 (spaced (words_of m change))
line-lacks m Renew small fits = spaced-lacks (codes "renew") (decimal m) (lacks-by 10 (codes "renew") refl) (decimal-lacks 10 m newline-no-digit small)
line-lacks m (Remove n) small fits = spaced-lacks (codes "remove") (spaced (decimal m ∷ decimal n.0 ∷ [])) (lacks-by 10 (codes "remove") refl) (spaced-lacks (decimal m) (decimal n.0) (decimal-lacks 10 m newline-no-digit small) (decimal-lacks 10 n.0 newline-no-digit fits))
line-lacks m (Add n) small fits = spaced-lacks (codes "add") (spaced (decimal m ∷ decimal n.0 ∷ [])) (lacks-by 10 (codes "add") refl) (spaced-lacks (decimal m) (decimal n.0) (decimal-lacks 10 m newline-no-digit small) (decimal-lacks 10 n.0 newline-no-digit fits))

pub no-newline : NoNewline
no-newline = (λ c fits. line-lacks c.committer.0 c.change fits.committer fits.other, λ m fits. decimal-lacks 10 m.0 newline-no-digit fits)

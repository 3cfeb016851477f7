use Rattle.std.proofs.Common.{◌≡◌, ℕ, List, [], ◌∷◌, length, Some, None, Option, Ok, Err, MatchOption, Bor, sym, subst, refl, ap, ◌∙◌}
use Rattle.std.specs.Option.{ok_or}
use Rattle.std.proofs.lemmas.Bool.{ltb-true, ltb-false, eqb-true}
use Rattle.std.proofs.lemmas.Result.{err_from_is_err_and}
use Rattle.commits.specs.declared.refusal.Refusal.{Refusal}
use Rattle.scripts.specs.Line.{ReadsFounder}
use Rattle.scripts.specs.Lines.{lines_of, max_lines}
use Rattle.playback.specs.Play.{too_long, empty, no_founder, bad_founder}
use Rattle.playback.proofs.script.begin.Goals as goal

-- what stands in the place of a value that is missing
missing : {T E : Type 0} (o : Option T) (d e : E) → ok_or o d ≡ Err e → (o ≡ None) × (e ≡ d)
missing None d e is = (refl, cc)
missing (Some x) d e is = absurd cc

present : {T E : Type 0} (o : Option T) (d : E) (x : T) → ok_or o d ≡ Ok x → o ≡ Some x
present None d x is = absurd cc
present (Some y) d x is = cc

abbrev Next : List (List ℕ) → Option (Bor (List ℕ)) → List (List ℕ) → Type 0
Next lines line behind = MatchOption line ((lines ≡ []) × (behind ≡ [])) (λ x. lines ≡ x.now ∷ behind)

at-none : (lines behind : List (List ℕ)) (line : Option (Bor (List ℕ))) → Next lines line behind → line ≡ None → lines ≡ []
at-none lines behind line next is = (subst (λ l. Next lines l behind) is next).0

at-some : (lines behind : List (List ℕ)) (line : Option (Bor (List ℕ))) (x : Bor (List ℕ)) → Next lines line behind → line ≡ Some x → lines ≡ x.now ∷ behind
at-some lines behind line x next is = subst (λ l. Next lines l behind) is next

pub returns-then-too_long : goal.returns-then-too_long
returns-then-too_long c = too_long (ltb-true max_lines (length (lines_of c.args.input.now)) (sym c.if-too_long.ensures))

pub returns-in_err-first : goal.returns-in_err-first
returns-in_err-first c =
    let p = err_from_is_err_and c.from_residual.result c.from_residual.ensures.1 in
    let m = missing c.next.result Refusal.Malformed c.in_err-first.field-0.0 (sym c.in_err-first.ensures.value) in
    rw (p.1, p.2, m.1) (empty (sym c.new-lines.ensures.value ∙ at-none c.new-lines.result c.next.new.self c.next.result c.next.ensures.steps m.0))

pub returns-in_err-founder : goal.returns-in_err-founder
returns-in_err-founder c =
    let p = err_from_is_err_and c.from_residual-in_err-founder.result c.from_residual-in_err-founder.ensures.1 in
    let m = missing c.read_founder.result Refusal.Malformed c.in_err-founder.field-0.0 (sym c.in_err-founder.ensures.value) in
    let f = present c.next.result Refusal.Malformed c.in_ok-first.first (sym c.in_ok-first.ensures.value) in
    rw (p.1, p.2, m.1) (
    no_founder c.in_ok-first.first.now c.next.new.self (ltb-false max_lines (length (lines_of c.args.input.now)) (sym c.if-too_long.ensures))
    (sym c.new-lines.ensures.value ∙ at-some c.new-lines.result c.next.new.self c.next.result c.in_ok-first.first c.next.ensures.steps f)
    (subst (ReadsFounder c.in_ok-first.first.now) m.0 c.read_founder.ensures))

pub returns-then-eq : goal.returns-then-eq
returns-then-eq c =
    let f = present c.next.result Refusal.Malformed c.in_ok-first.first (sym c.in_ok-first.ensures.value) in
    let m = present c.read_founder.result Refusal.Malformed c.in_ok-founder.founder (sym c.in_ok-founder.ensures.value) in
    let r : ReadsFounder c.in_ok-first.first.now (Some c.in_ok-founder.founder) = subst (ReadsFounder c.in_ok-first.first.now) m c.read_founder.ensures in
    bad_founder c.in_ok-founder.founder c.next.new.self (ltb-false max_lines (length (lines_of c.args.input.now)) (sym c.if-too_long.ensures))
    (sym c.new-lines.ensures.value ∙ at-some c.new-lines.result c.next.new.self c.next.result c.in_ok-first.first c.next.ensures.steps f ∙ ap (λ x. x ∷ c.next.new.self) r.0)
    (eqb-true c.in_ok-founder.founder.0 65535 (sym c.if-eq.ensures))

-- What is computed is where a talk secret lies open.
-- Assumes nothing.
use Rattle.std.proofs.Common.{◌≡◌, ℕ, zero, suc, Bool, false, not, ◌&&◌, ◌||◌, T, eqb, List, [], ◌∷◌, refl, subst, inl, inr, eqb→eq, T_not, arith}
use mathlib.Core.List.{Memᴰ}
use lib.Dec.{not_T, eqb_refl}
use Rattle.std.proofs.Math.Facts.{yes_and}
use Rattle.theory.specs.Secrets.{Secret}
use Rattle.theory.specs.Tree.{seated}
use Rattle.theory.specs.Group.{Commit, group, allowed}
use Rattle.theory.specs.Promise.{Exposure, Gives, Open, here, on, idle}
use Rattle.theory.specs.Known.{same}
use Rattle.theory.specs.Opened.{same_secrets, read_in, some_read, is_given, some_given, is_open, OpenIs}
use Rattle.theory.proofs.Tests.{or_cases, or_left, or_right, and_left, and_right}
use Rattle.theory.proofs.Known.{same-is, same_refl}

same-secrets : (ss ts : List Secret) → T (same_secrets ss ts) → ss ≡ ts
unfolding same_secrets
same-secrets [] [] h = refl
same-secrets [] (t ∷ ts) h = absurd h
same-secrets (s ∷ ss) [] h = absurd h
same-secrets (s ∷ ss) (t ∷ ts) h = search (same-is, and_left, and_right, same-secrets ss ts)

secrets-same : (ss : List Secret) → T (same_secrets ss ss)
unfolding same_secrets
secrets-same [] = tt
secrets-same (s ∷ ss) = yes_and (same s s) (same_secrets ss ss) (same_refl s) (secrets-same ss)

-- a test that some item of a list passes
module _ {X : Type 0} (test : X → Bool) (some : List X → Bool) (none : some [] ≡ false) (more : (x : X) (xs : List X) → some (x ∷ xs) ≡ (test x || some xs)) where
  found : (xs : List X) → T (some xs) → (x : X) × Memᴰ x xs × T (test x)
  found [] h = absurd (rw none at h)
  found (x ∷ xs) h =
      elim (or_cases (test x) (some xs) (rw more at h)) [
        | inl a ↦ (x, Memᴰ.head refl, a)
        | inr b ↦ (let y = found xs b in (y.0, Memᴰ.tail y.1, y.2))
      ]

  finds : {x : X} {xs : List X} → Memᴰ x xs → T (test x) → T (some xs)
  finds {x} (Memᴰ.head {x = y} {xs = ys} e) h = rw more (or_left (test y) (some ys) (rw e at h))
  finds (Memᴰ.tail {x = y} {xs = ys} d) h = rw more (or_right (test y) (some ys) (finds d h))

module _ (f : ℕ) (commits : ℕ → Commit) where
  -- the test of one exposure and the record of its facts
  is-given : (n : ℕ) (x : Exposure) → T (is_given f commits n x) → Gives f commits n x
  is-given n x t = grind (arith, and_left, and_right, same-secrets)

  given_is : (n : ℕ) (x : Exposure) → Gives f commits n x → T (is_given f commits n x)
  given_is n x v = grind (arith, secrets-same)

  -- an exposure in the epoch leaves it open
  read-open : (es : List Exposure) (n : ℕ) → T (some_read f commits n es) → Open f commits es n
  unfolding some_read
  read-open es n h =
      let y = found (read_in f commits n) (some_read f commits n) refl (λ x xs. refl) es h in
      let x = y.0 in
      let s = seated x.who (group f commits x.when).tree in
      let e = eqb (group f commits x.when).epoch (group f commits n).epoch in
      here n x y.1 (and_left s e y.2) (eqb→eq (group f commits x.when).epoch (group f commits n).epoch (and_right s e y.2))

  open-read : (es : List Exposure) (n : ℕ) (x : Exposure) → Memᴰ x es → T (seated x.who (group f commits x.when).tree) →
      (group f commits x.when).epoch ≡ (group f commits n).epoch → T (some_read f commits n es)
  unfolding some_read
  open-read es n x m s e =
      finds (read_in f commits n) (some_read f commits n) refl (λ x xs. refl) m
      (yes_and (seated x.who (group f commits x.when).tree) (eqb (group f commits x.when).epoch (group f commits n).epoch) s
      (subst (λ k. T (eqb (group f commits x.when).epoch k)) e (eqb_refl (group f commits x.when).epoch)))

  -- both ways
  is_open-sound : (es : List Exposure) (n : ℕ) → T (is_open f commits es n) → Open f commits es n
  unfolding is_open some_given
  is_open-sound es zero h = read-open es zero h
  is_open-sound es (suc n) h =
      let refused = not (allowed (commits n) (group f commits n)) in
      elim (or_cases (some_read f commits (suc n) es) (is_open f commits es n && (some_given f commits n es || refused)) h) [
        | inl a ↦ read-open es (suc n) a
        | inr b ↦
            (let o = is_open-sound es n (and_left (is_open f commits es n) (some_given f commits n es || refused) b) in
            elim (or_cases (some_given f commits n es) refused (and_right (is_open f commits es n) (some_given f commits n es || refused) b)) [
              | inl c ↦ (let y = found (is_given f commits n) (some_given f commits n) refl (λ x xs. refl) es c in on o y.0 y.1 (is-given n y.0 y.2))
              | inr c ↦ idle o (T_not (allowed (commits n) (group f commits n)) c)
            ])
      ]

  here-is : (es : List Exposure) (n : ℕ) → T (some_read f commits n es) → T (is_open f commits es n)
  unfolding is_open
  here-is es zero h = h
  here-is es (suc n) h = search (or_left)

  open_is : {es : List Exposure} {n : ℕ} → Open f commits es n → T (is_open f commits es n)
  unfolding is_open some_given
  open_is {es} (here n x m s e) = here-is es n (open-read es n x m s e)
  open_is {es} (on {n} o x m v) =
      let refused = not (allowed (commits n) (group f commits n)) in
      or_right (some_read f commits (suc n) es) (is_open f commits es n && (some_given f commits n es || refused))
      (yes_and (is_open f commits es n) (some_given f commits n es || refused) (open_is o)
      (or_left (some_given f commits n es) refused (finds (is_given f commits n) (some_given f commits n) refl (λ x xs. refl) m (given_is n x v))))
  open_is {es} (idle {n} o r) = search (or_right, yes_and, not_T, open_is o)

pub opened_is : OpenIs
opened_is f commits es n = (is_open-sound f commits es n, open_is f commits)

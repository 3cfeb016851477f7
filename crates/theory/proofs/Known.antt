-- What is computed is what can be worked out.
-- Assumes nothing.
use Rattle.std.proofs.Common.{◌≡◌, ℕ, zero, suc, ◌+◌, ◌<◌, ◌≤◌, not, ◌&&◌, T, eqb, ◌↔◌, List, [], ◌∷◌, ◌++◌, length, sym, refl, ap, ◌∙◌, inl, inr, arith, T_not}
use mathlib.Core.List.Memᴰ
use mathlib.Core.List.{Memᴰ}
use lib.Dec.{eqb_refl}
use Rattle.std.proofs.Math.Facts.{yes_and}
use Rattle.theory.specs.Secrets.{Purpose, leaf_key, path_secret, newcomer_key, init_key, first_epoch, Secret, drawn, up, lock, mix, seed, talk, Box, Knows, had, raise, locked, mixed, seeded, talked, opened}
use Rattle.theory.specs.Known.{purpose_number, numbers, same_numbers, same, is_in, made, opens, rounds, KnownIs}
use Rattle.theory.proofs.Tests.{decided, is_true, is_false, or_left, or_right}
use Rattle.theory.proofs.Follows.{All, all_append, all_cons, all_nil}
use Rattle.std.proofs.lemmas.Grind.{common_steps}

-- SECRETS COMPARED. One spelling has one reading.
same-numbers : (xs ys : List ℕ) → T (same_numbers xs ys) → xs ≡ ys
unfolding same_numbers
same-numbers [] [] h = refl
same-numbers [] (y ∷ ys) h = absurd h
same-numbers (x ∷ xs) [] h = absurd h
same-numbers (x ∷ xs) (y ∷ ys) h = grind (arith, same-numbers xs ys)

numbers-same : (xs : List ℕ) → T (same_numbers xs xs)
unfolding same_numbers
numbers-same [] = tt
numbers-same (x ∷ xs) = yes_and (eqb x x) (same_numbers xs xs) (eqb_refl x) (numbers-same xs)

purpose_of : ℕ → Purpose
purpose_of zero = leaf_key
purpose_of (suc zero) = path_secret
purpose_of (suc (suc zero)) = newcomer_key
purpose_of (suc (suc (suc zero))) = init_key
purpose_of (suc (suc (suc (suc n)))) = first_epoch

purpose-back : (p : Purpose) → purpose_of (purpose_number p) ≡ p
unfolding purpose_of
purpose-back leaf_key = refl
purpose-back path_secret = refl
purpose-back newcomer_key = refl
purpose-back init_key = refl
purpose-back first_epoch = refl

purpose-same : (p q : Purpose) → purpose_number p ≡ purpose_number q → p ≡ q
purpose-same p q e = sym (purpose-back p) ∙ (ap purpose_of e ∙ purpose-back q)

front : {x y : ℕ} {xs ys : List ℕ} → x ∷ xs ≡ y ∷ ys → x ≡ y
front e = cc

behind : {x y : ℕ} {xs ys : List ℕ} → x ∷ xs ≡ y ∷ ys → xs ≡ ys
behind e = cc

clash : (x y : ℕ) → T (not (eqb x y)) → x ≡ y → ⊥
clash x y n e = T_not (eqb x y) n (rw e (eqb_refl y))

spelled-drawn :
    (p q : Purpose) (m n d f : ℕ) (xs ys : List ℕ) → 0 ∷ purpose_number p ∷ m ∷ d ∷ xs ≡ 0 ∷ purpose_number q ∷ n ∷ f ∷ ys →
    (drawn p m d ≡ drawn q n f) × (xs ≡ ys)
spelled-drawn p q m n d f xs ys e = search (purpose-same, front, behind)

-- where two spellings begin two lists that are the same, the secrets are, and so is what follows
spelled : (s t : Secret) (xs ys : List ℕ) → numbers s ++ xs ≡ numbers t ++ ys → (s ≡ t) × (xs ≡ ys)
unfolding numbers
spelled (drawn p m d) (drawn q n f) xs ys e = spelled-drawn p q m n d f xs ys e
spelled (drawn p m d) (up t) xs ys e = absurd (clash 0 1 tt (front e))
spelled (drawn p m d) (lock t) xs ys e = absurd (clash 0 2 tt (front e))
spelled (drawn p m d) (mix t t') xs ys e = absurd (clash 0 3 tt (front e))
spelled (drawn p m d) (seed t) xs ys e = absurd (clash 0 4 tt (front e))
spelled (drawn p m d) (talk t) xs ys e = absurd (clash 0 5 tt (front e))
spelled (up s) (drawn q n f) xs ys e = absurd (clash 1 0 tt (front e))
spelled (up s) (up t) xs ys e = let x = spelled s t xs ys (behind e) in (ap up x.0, x.1)
spelled (up s) (lock t) xs ys e = absurd (clash 1 2 tt (front e))
spelled (up s) (mix t t') xs ys e = absurd (clash 1 3 tt (front e))
spelled (up s) (seed t) xs ys e = absurd (clash 1 4 tt (front e))
spelled (up s) (talk t) xs ys e = absurd (clash 1 5 tt (front e))
spelled (lock s) (drawn q n f) xs ys e = absurd (clash 2 0 tt (front e))
spelled (lock s) (up t) xs ys e = absurd (clash 2 1 tt (front e))
spelled (lock s) (lock t) xs ys e = let x = spelled s t xs ys (behind e) in (ap lock x.0, x.1)
spelled (lock s) (mix t t') xs ys e = absurd (clash 2 3 tt (front e))
spelled (lock s) (seed t) xs ys e = absurd (clash 2 4 tt (front e))
spelled (lock s) (talk t) xs ys e = absurd (clash 2 5 tt (front e))
spelled (mix s s') (drawn q n f) xs ys e = absurd (clash 3 0 tt (front e))
spelled (mix s s') (up t) xs ys e = absurd (clash 3 1 tt (front e))
spelled (mix s s') (lock t) xs ys e = absurd (clash 3 2 tt (front e))
spelled (mix s s') (mix t t') xs ys e = search (arith, common_steps, spelled s t, spelled s' t' xs ys)
spelled (mix s s') (seed t) xs ys e = absurd (clash 3 4 tt (front e))
spelled (mix s s') (talk t) xs ys e = absurd (clash 3 5 tt (front e))
spelled (seed s) (drawn q n f) xs ys e = absurd (clash 4 0 tt (front e))
spelled (seed s) (up t) xs ys e = absurd (clash 4 1 tt (front e))
spelled (seed s) (lock t) xs ys e = absurd (clash 4 2 tt (front e))
spelled (seed s) (mix t t') xs ys e = absurd (clash 4 3 tt (front e))
spelled (seed s) (seed t) xs ys e = let x = spelled s t xs ys (behind e) in (ap seed x.0, x.1)
spelled (seed s) (talk t) xs ys e = absurd (clash 4 5 tt (front e))
spelled (talk s) (drawn q n f) xs ys e = absurd (clash 5 0 tt (front e))
spelled (talk s) (up t) xs ys e = absurd (clash 5 1 tt (front e))
spelled (talk s) (lock t) xs ys e = absurd (clash 5 2 tt (front e))
spelled (talk s) (mix t t') xs ys e = absurd (clash 5 3 tt (front e))
spelled (talk s) (seed t) xs ys e = absurd (clash 5 4 tt (front e))
spelled (talk s) (talk t) xs ys e = let x = spelled s t xs ys (behind e) in (ap talk x.0, x.1)

pub same-is : (s t : Secret) → T (same s t) → s ≡ t
same-is s t h = (spelled s t [] [] (ap (λ xs. xs ++ []) (same-numbers (numbers s) (numbers t) h))).0

pub same_refl : (s : Secret) → T (same s s)
same_refl s = numbers-same (numbers s)

pub is-in : (s : Secret) (ks : List Secret) → T (is_in s ks) → Memᴰ s ks
unfolding is_in
is-in s [] h = absurd h
is-in s (k ∷ ks) h = grind (arith, Memᴰ.head, same-is, Memᴰ.tail, is-in s ks)

pub in_is : {s : Secret} {ks : List Secret} → Memᴰ s ks → T (is_in s ks)
unfolding is_in
in_is {s} (Memᴰ.head {x} {xs} e) = or_left (same s x) (is_in s xs) (rw e (same_refl x))
in_is {s} (Memᴰ.tail {x} {xs} d) = or_right (same s x) (is_in s xs) (in_is d)

-- MADE FORWARDS is what can be worked out with no box.
pub made-known : (ks : List Secret) (s : Secret) → T (made ks s) → Knows [] ks s
unfolding made
made-known ks (drawn p m e) h = had (is-in (drawn p m e) ks h)
made-known ks (up s) h = grind (arith, had, is-in, raise, made-known ks s)
made-known ks (lock s) h = grind (arith, had, is-in, locked, made-known ks s)
made-known ks (mix s t) h = grind (arith, had, is-in, mixed, made-known ks s, made-known ks t)
made-known ks (seed s) h = grind (arith, had, is-in, seeded, made-known ks s)
made-known ks (talk s) h = grind (arith, had, is-in, talked, made-known ks s)

made_in : (ks : List Secret) (s : Secret) → T (is_in s ks) → T (made ks s)
unfolding made
made_in ks (drawn p m e) h = h
made_in ks (up s) h = or_left (is_in (up s) ks) (made ks s) h
made_in ks (lock s) h = or_left (is_in (lock s) ks) (made ks s) h
made_in ks (mix s t) h = or_left (is_in (mix s t) ks) (made ks s && made ks t) h
made_in ks (seed s) h = or_left (is_in (seed s) ks) (made ks s) h
made_in ks (talk s) h = or_left (is_in (talk s) ks) (made ks s) h

pub known-made : {ks : List Secret} {s : Secret} → Knows [] ks s → T (made ks s)
unfolding made
known-made {ks} {s} (had d) = made_in ks s (in_is d)
known-made {ks} (raise {s} k) = or_right (is_in (up s) ks) (made ks s) (known-made k)
known-made {ks} (locked {s} k) = or_right (is_in (lock s) ks) (made ks s) (known-made k)
known-made {ks} (mixed {s} {t} k j) = search (or_right, yes_and, known-made k, known-made j)
known-made {ks} (seeded {s} k) = or_right (is_in (seed s) ks) (made ks s) (known-made k)
known-made {ks} (talked {s} k) = or_right (is_in (talk s) ks) (made ks s) (known-made k)
known-made (opened b d k) = absurd (Memᴰ.not-nil d)

-- KNOWING: a stock that can be worked out adds nothing, nor do boxes that are open.
pub cut : {bs : List Box} {old ks : List Secret} {s : Secret} → All (Knows bs old) ks → Knows bs ks s → Knows bs old s
cut {s} f (had d) = f s d
cut f (raise k) = raise (cut f k)
cut f (locked k) = locked (cut f k)
cut f (mixed k j) = mixed (cut f k) (cut f j)
cut f (seeded k) = seeded (cut f k)
cut f (talked k) = talked (cut f k)
cut f (opened b d k) = opened b d (cut f k)

pub widen : {bs : List Box} {ks : List Secret} {s : Secret} → Knows [] ks s → Knows bs ks s
widen (had d) = had d
widen (raise k) = raise (widen k)
widen (locked k) = locked (widen k)
widen (mixed k j) = mixed (widen k) (widen j)
widen (seeded k) = seeded (widen k)
widen (talked k) = talked (widen k)
widen (opened b d k) = absurd (Memᴰ.not-nil d)

-- every box whose key is known holds nothing new
abbrev pub Saturated : List Box → List Secret → Type 0
Saturated bs ks = (b : Box) → Memᴰ b bs → Knows [] ks b.key → Knows [] ks b.holds

pub saturated-known : {bs : List Box} {ks : List Secret} {s : Secret} → Saturated bs ks → Knows bs ks s → Knows [] ks s
saturated-known f (had d) = had d
saturated-known f (raise k) = raise (saturated-known f k)
saturated-known f (locked k) = locked (saturated-known f k)
saturated-known f (mixed k j) = mixed (saturated-known f k) (saturated-known f j)
saturated-known f (seeded k) = seeded (saturated-known f k)
saturated-known f (talked k) = talked (saturated-known f k)
saturated-known f (opened b d k) = f b d (saturated-known f k)

-- ONE ROUND.
opens-yes : (ks : List Secret) (b : Box) (bs : List Box) → T (made ks b.key) → opens ks (b ∷ bs) ≡ b.holds ∷ opens ks bs
unfolding opens
opens-yes ks b bs h = rw (is_true (made ks b.key) h)

opens-no : (ks : List Secret) (b : Box) (bs : List Box) → T (not (made ks b.key)) → opens ks (b ∷ bs) ≡ opens ks bs
unfolding opens
opens-no ks b bs h = rw (is_false (made ks b.key) h)

-- what it opens can be worked out
pub opens-sound :
    (all : List Box) (ks : List Secret) (bs : List Box) → ((b : Box) → Memᴰ b bs → Memᴰ b all) → All (Knows all ks) (opens ks bs)
opens-sound all ks [] f = unfold opens in all_nil (Knows all ks)
opens-sound all ks (b ∷ bs) f =
    let rest = opens-sound all ks bs (λ x d. f x (Memᴰ.tail d)) in
    elim (decided (made ks b.key)) [
      | inl h ↦
          rw (opens-yes ks b bs h)
          (all_cons (Knows all ks) b.holds (opens ks bs)
          (opened b (f b (Memᴰ.head refl)) (widen (made-known ks b.key h))) rest)
      | inr h ↦ rw (opens-no ks b bs h) rest
    ]

-- it opens every box whose key can be made
pub opens-all : (ks : List Secret) {b : Box} {bs : List Box} → Memᴰ b bs → T (made ks b.key) → Memᴰ b.holds (opens ks bs)
opens-all ks {b} (Memᴰ.head {x} {xs} e) h =
    rw (opens-yes ks x xs (rw e at h)) (Memᴰ.head (ap (λ (y : Box). y.holds) e))
opens-all ks (Memᴰ.tail {x} {xs} d) h = grind (arith, opens-yes, Memᴰ.tail, opens-no, opens-all ks d h)

opens-few : (ks : List Secret) (bs : List Box) → length (opens ks bs) ≤ length bs
opens-few ks [] = unfold opens in omega arith
opens-few ks (b ∷ bs) = grind (arith, opens-yes, opens-no, opens-few ks bs)

-- with more to make from it opens no fewer boxes, and if it opens no more, then the same ones
module _ (ks js : List Secret) (more : (s : Secret) → T (made ks s) → T (made js s)) where
  opens-more : (bs : List Box) → length (opens ks bs) ≤ length (opens js bs)
  opens-more [] = unfold opens in omega arith
  opens-more (b ∷ bs) = grind (arith, opens-yes, opens-no, opens-more bs)

  opens-same :
      {b : Box} {bs : List Box} → length (opens js bs) ≤ length (opens ks bs) → Memᴰ b bs → T (made js b.key) → T (made ks b.key)
  opens-same {b} le (Memᴰ.head {x} {xs} e) k = grind (arith, opens-yes, opens-no, opens-more)
  opens-same {b} le (Memᴰ.tail {x} {xs} d) k =
      let rest = opens-more xs in
      opens-same (tail-le x xs le) d k
    where
      tail-le : (x : Box) (xs : List Box) → length (opens js (x ∷ xs)) ≤ length (opens ks (x ∷ xs)) → length (opens js xs) ≤ length (opens ks xs)
      tail-le x xs le =
          elim (decided (made ks x.key)) [
            | inl h ↦
                let l : suc (length (opens js xs)) ≤ suc (length (opens ks xs)) = rw (opens-yes js x xs (more x.key h), opens-yes ks x xs h) at le in
                omega arith
            | inr h ↦
                elim (decided (made js x.key)) [
                  | inl k ↦
                      let l : suc (length (opens js xs)) ≤ length (opens ks xs) = rw (opens-yes js x xs k, opens-no ks x xs h) at le in
                      omega arith
                  | inr k ↦ rw (opens-no js x xs k, opens-no ks x xs h) at le
                ]
          ]

-- ROUNDS. As many as there are boxes leave nothing to open.
module _ (bs : List Box) where
  abbrev pub grow : List Secret → List Secret
  grow ks = opens ks bs ++ ks

  grow-keeps : {ks : List Secret} {s : Secret} → Knows [] ks s → Knows [] (grow ks) s
  grow-keeps {ks} k = cut (λ s d. had (Memᴰ.append_right (opens ks bs) d)) k

  grow-more : (ks : List Secret) (s : Secret) → T (made ks s) → T (made (grow ks) s)
  grow-more ks s h = known-made (grow-keeps (made-known ks s h))

  grow-sound : (ks : List Secret) → All (Knows bs ks) (grow ks)
  grow-sound ks = all_append (Knows bs ks) (opens ks bs) ks (opens-sound bs ks bs (λ b d. d)) (λ s d. had d)

  -- a round that opens no more than the one before leaves nothing to open
  grow-settles : (ks : List Secret) → length (opens (grow ks) bs) ≤ length (opens ks bs) → Saturated bs (grow ks)
  grow-settles ks le b d k =
      had (Memᴰ.append_left ks (opens-all ks d (opens-same ks (grow ks) (grow-more ks) le d (known-made k))))

  grow-settled : (ks : List Secret) → Saturated bs ks → Saturated bs (grow ks)
  grow-settled ks f b d k =
      grow-keeps (f b d (cut (λ s e. saturated-known f (grow-sound ks s e)) k))

  none-settled : (ks : List Secret) → length (opens ks bs) ≡ 0 → Saturated bs ks
  none-settled ks e b d k = absurd (nothing-in (opens ks bs) e (opens-all ks d (known-made k)))
    where
      nothing-in : (xs : List Secret) → length xs ≡ 0 → {x : Secret} → Memᴰ x xs → ⊥
      nothing-in [] e d = Memᴰ.not-nil d
      nothing-in (x ∷ xs) e d = omega arith

  rounds-settled : (n : ℕ) (ks : List Secret) → Saturated bs ks → Saturated bs (rounds n bs ks)
  unfolding rounds
  rounds-settled zero ks f = f
  rounds-settled (suc n) ks f = rounds-settled n (grow ks) (grow-settled ks f)

  rounds-settle : (n : ℕ) (ks : List Secret) → length bs < n + length (opens ks bs) → Saturated bs (rounds n bs ks)
  unfolding rounds
  rounds-settle zero ks h = let few = opens-few ks bs in absurd (omega arith)
  rounds-settle (suc n) ks h = grind (arith, rounds-settled, grow-settles, rounds-settle n)

  pub rounds-saturated : (ks : List Secret) → Saturated bs (rounds (length bs) bs ks)
  rounds-saturated ks = grind (arith, rounds-settle, rounds-settled, none-settled)

  pub rounds-sound : (n : ℕ) (old ks : List Secret) → All (Knows bs old) ks → All (Knows bs old) (rounds n bs ks)
  unfolding rounds
  rounds-sound zero old ks f = f
  rounds-sound (suc n) old ks f = rounds-sound n old (grow ks) (λ s d. cut f (grow-sound ks s d))

  pub rounds-keep : (n : ℕ) (ks : List Secret) {s : Secret} → Memᴰ s ks → Memᴰ s (rounds n bs ks)
  unfolding rounds
  rounds-keep zero ks d = d
  rounds-keep (suc n) ks d = rounds-keep n (grow ks) (Memᴰ.append_right (opens ks bs) d)

-- where a stock has nothing more to open, after however many rounds, it makes what can be worked out
pub settled-known :
    (bs : List Box) (n : ℕ) (ks : List Secret) → Saturated bs (rounds n bs ks) → (s : Secret) → T (made (rounds n bs ks) s) ↔ Knows bs ks s
settled-known bs n ks f s = (
  λ h. cut (rounds-sound bs n ks ks (λ x d. had d)) (widen (made-known (rounds n bs ks) s h)),
  λ k. known-made (saturated-known f (cut (λ x d. had (rounds-keep bs n ks d)) k)),
)

pub known_is : KnownIs
known_is bs ks = settled-known bs (length bs) ks (rounds-saturated bs ks)

-- Where members sit in a tree that keeps the rules, by views of it: `Seat` of one, `Meeting` of two.
-- Assumes nothing.
use Rattle.std.proofs.Common.{ℕ, zero, suc, not, T, eqb, inl, inr, eqb→eq, T_not}
use lib.Dec.{not_T, eqb_refl}
use Rattle.theory.specs.Tree.{Tree, leaf, node, blank_leaf, occupied, Parent, seated}
use Rattle.theory.proofs.Tests.{decided, or_cases, or_left, or_right}
use Rattle.theory.proofs.Level.{Level}
use Rattle.theory.proofs.Level as level
use Rattle.theory.proofs.Wellformed.{Sound}
use Rattle.theory.proofs.Wellformed as sound

-- w sits in a tree of depth d, and once
pub data Seat {K : Type 0} (w : ℕ) : ℕ → Tree K → Type 0 where
  here : {k : K} → Seat w zero (leaf (occupied w k))
  on_left : {d : ℕ} {p : Parent K} {l r : Tree K} → Seat w d l → Level d r → T (not (seated w r)) → Seat w (suc d) (node p l r)
  on_right : {d : ℕ} {p : Parent K} {l r : Tree K} → Level d l → T (not (seated w l)) → Seat w d r → Seat w (suc d) (node p l r)

pub seat-seated : {K : Type 0} {w d : ℕ} {t : Tree K} → Seat w d t → T (seated w t)
unfolding seated
seat-seated {w} here = eqb_refl w
seat-seated {w} (on_left {l} {r} s a n) = or_left (seated w l) (seated w r) (seat-seated s)
seat-seated {w} (on_right {l} {r} a n s) = or_right (seated w l) (seated w r) (seat-seated s)

pub seat-level : {K : Type 0} {w d : ℕ} {t : Tree K} → Seat w d t → Level d t
seat-level here = level.at_leaf
seat-level (on_left s a n) = level.at_node (seat-level s) a
seat-level (on_right a n s) = level.at_node a (seat-level s)

pub seat : {K : Type 0} (w : ℕ) {d : ℕ} {t : Tree K} → Sound t → Level d t → T (seated w t) → Seat w d t
unfolding seated
seat w {t = leaf blank_leaf} s level.at_leaf h = absurd h
seat w {t = leaf (occupied v k)} s level.at_leaf h = rw (eqb→eq v w h) here
seat w {t = node p l r} (sound.at_node f g x y) (level.at_node a b) h =
    elim (decided (seated w l)) [
      | inl i ↦ on_left (seat w x a i) b (not_T (seated w r) (f w i))
      | inr n ↦
          elim (or_cases (seated w l) (seated w r) h) [
            | inl i ↦ absurd (T_not (seated w l) n i)
            | inr i ↦ on_right a n (seat w y b i)
          ]
    ]

-- where the ways up of w and of another, c, meet
pub data Meeting {K : Type 0} (w c : ℕ) : ℕ → Tree K → Type 0 where
  from_right :
      {d : ℕ} {p : Parent K} {l r : Tree K} → Seat c d l → T (not (seated w l)) → Sound r → Seat w d r →
      Meeting w c (suc d) (node p l r)
  from_left :
      {d : ℕ} {p : Parent K} {l r : Tree K} → T (not (seated c l)) → Seat c d r → T (not (seated w r)) → Sound l → Seat w d l →
      Meeting w c (suc d) (node p l r)
  both_left :
      {d : ℕ} {p : Parent K} {l r : Tree K} → T (seated c l) → T (seated w l) → Level d r → Meeting w c d l →
      Meeting w c (suc d) (node p l r)
  both_right :
      {d : ℕ} {p : Parent K} {l r : Tree K} → T (not (seated c l)) → T (seated c r) → T (not (seated w l)) → T (seated w r) → Level d l → Meeting w c d r →
      Meeting w c (suc d) (node p l r)

pub meeting-level : {K : Type 0} {w c d : ℕ} {t : Tree K} → Meeting w c d t → Level d t
meeting-level (from_right a n x b) = level.at_node (seat-level a) (seat-level b)
meeting-level (from_left n a i x b) = level.at_node (seat-level b) (seat-level a)
meeting-level (both_left n i a m) = level.at_node (meeting-level m) a
meeting-level (both_right n h i j a m) = level.at_node a (meeting-level m)

pub meeting :
    {K : Type 0} (w c : ℕ) {d : ℕ} {t : Tree K} → T (not (eqb w c)) → Sound t → Level d t → T (seated w t) → T (seated c t) →
    Meeting w c d t
unfolding seated
meeting w c {t = leaf blank_leaf} n s level.at_leaf h i = absurd h
meeting w c {t = leaf (occupied v k)} n s level.at_leaf h i =
    absurd (T_not (eqb w c) n (rw (eqb→eq v w h) at i))
meeting w c {t = node p l r} n (sound.at_node f g x y) (level.at_node a b) h i =
    elim (or_cases (seated c l) (seated c r) i) [
      | inl cl ↦
          elim (or_cases (seated w l) (seated w r) h) [
            | inl wl ↦ both_left cl wl b (meeting w c n x a wl cl)
            | inr wr ↦ from_right (seat c x a cl) (not_T (seated w l) (λ j. f w j wr)) y (seat w y b wr)
          ]
      | inr cr ↦
          elim (or_cases (seated w l) (seated w r) h) [
            | inl wl ↦ from_left (not_T (seated c l) (λ j. f c j cr)) (seat c y b cr) (not_T (seated w r) (f w wl)) x (seat w x a wl)
            | inr wr ↦ both_right (not_T (seated c l) (λ j. f c j cr)) cr (not_T (seated w l) (λ j. f w j wr)) wr a (meeting w c n y b wr cr)
          ]
    ]

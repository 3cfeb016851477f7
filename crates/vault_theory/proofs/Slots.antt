-- The layout of a member's slots, with its keys put over what lies in the other slots: `over`.
-- Assumes nothing.
use Rattle.std.proofs.Common.{◌≡◌, ℕ, zero, suc, ◌+◌, ◌<◌, ◌≤◌, cond, not, T, eqb, List, [], ◌∷◌, Some, None, Option, sym, refl, ap, ◌∙◌, inl, inr, arith, T_not}
use mathlib.Core.Path.{fun_ext}
use mathlib.Core.List.{Memᴰ}
use lib.Dec.{eqb_refl}
use Rattle.std.proofs.lemmas.Bool.{cases_lt, ne_eqb}
use Rattle.theory.specs.Secrets.{Secret, seed, talk}
use Rattle.theory.specs.Tree.{Tree, leaf, node, Parent, key_at, seated, height}
use Rattle.theory.specs.Held.{node_key_held, held_at}
use Rattle.theory.specs.Group.{Group}
use Rattle.theory.proofs.Tests.{decided, is_true, is_false}
use Rattle.theory.proofs.Level.{Level, level-height}
use Rattle.theory.proofs.Level as level
use Rattle.vault_theory.specs.Order.{talk_slot, seed_slot, slot_of_key}
use Rattle.vault_theory.specs.Vault.{put}
use Rattle.vault_theory.specs.Layout.{first, layout}
use Rattle.vault_theory.specs.Slots.{bare}
use Rattle.vault_theory.proofs.Steps.{Slots, put_same, put-swap, put-there}
use Rattle.vault_theory.proofs.Stocked.{held-seated, held_low}
use Rattle.vault_theory.proofs.Seats.{Seat, here, on_left, on_right, seat-seated, seat-level}

-- the node key that w holds of a parent of height h, put into its slot
abbrev pub parent_over : ℕ → Parent Secret → ℕ → Slots → Slots
parent_over w p h b = put (slot_of_key h) (first (node_key_held w p)) b

-- the keys that w, seated in the tree, holds, put over b: its own key last
unfoldable pub over : ℕ → Tree Secret → Slots → Slots
over w (leaf x) b = put (slot_of_key 0) (first (key_at x)) b
over w (node p l r) b =
    cond (seated w l) (over w l (parent_over w p (suc (height l)) b)) (over w r (parent_over w p (suc (height l)) b))

module _ (w : ℕ) (p : Parent Secret) (l r : Tree Secret) {d : ℕ} (b : Slots) where
  pub over-left : T (seated w l) → Level d l → over w (node p l r) b ≡ over w l (parent_over w p (suc d) b)
  unfolding over
  over-left h a = rw (is_true (seated w l) h, level-height a)

  pub over-right : T (not (seated w l)) → Level d l → over w (node p l r) b ≡ over w r (parent_over w p (suc d) b)
  unfolding over
  over-right h a = rw (is_false (seated w l) h, level-height a)

-- SLOTS that keys of a tree of depth d don't lie in
pub data Outside (d i : ℕ) : Type 0 where
  low : i < 2 → Outside d i
  high : slot_of_key d < i → Outside d i

pub outside-less : {d i : ℕ} → Outside (suc d) i → Outside d i
outside-less (low a) = low a
outside-less (high a) = high (omega arith)

pub outside-apart : {d i : ℕ} (h : ℕ) → h ≤ d → Outside d i → slot_of_key h ≡ i → ⊥
outside-apart h b (low a) e = omega arith
outside-apart h b (high a) e = omega arith

pub over-put :
    {d : ℕ} {t : Tree Secret} (w i : ℕ) (x : Option Secret) (b : Slots) → Level d t → Outside d i →
    over w t (put i x b) ≡ put i x (over w t b)
over-put w i x b (level.at_leaf {x = y}) o =
    unfold over in put-swap (slot_of_key 0) i (first (key_at y)) x b (outside-apart 0 (omega arith) o)
over-put w i x b (level.at_node {d} {c} {l} {r} a z) o =
    let swap = put-swap (slot_of_key (suc d)) i (first (node_key_held w c)) x b (outside-apart (suc d) (omega arith) o) in
    elim (decided (seated w l)) [
      | inl h ↦
          over-left w c l r (put i x b) h a ∙ ap (over w l) swap ∙ over-put w i x (parent_over w c (suc d) b) a (outside-less o)
          ∙ ap (put i x) (sym (over-left w c l r b h a))
      | inr h ↦
          over-right w c l r (put i x b) h a ∙ ap (over w r) swap ∙ over-put w i x (parent_over w c (suc d) b) z (outside-less o)
          ∙ ap (put i x) (sym (over-right w c l r b h a))
    ]

pub over-read : {d : ℕ} {t : Tree Secret} (w i : ℕ) (b : Slots) → Level d t → Outside d i → over w t b i ≡ b i
over-read {t} w i b a o =
    ap (λ s. over w t s i) (sym (put-there i (b i) b refl)) ∙ ap (λ (s : Slots). s i) (over-put w i (b i) b a o) ∙ put_same i (b i) (over w t b)

-- the slot above those of a tree's keys
pub over-next :
    {d : ℕ} {t : Tree Secret} (w : ℕ) (x y : Option Secret) (b : Slots) → Level d t →
    put (slot_of_key (suc d)) x (over w t (put (slot_of_key (suc d)) y b)) ≡ over w t (put (slot_of_key (suc d)) x b)
over-next {d} {t} w x y b a = grind (arith, over-put)

pub read_next : {d : ℕ} {t : Tree Secret} (w : ℕ) (y : Option Secret) (b : Slots) → Level d t → over w t (put (slot_of_key (suc d)) y b) (slot_of_key (suc d)) ≡ y
read_next {d} w y b a = grind (arith, over-read)

-- THE KEYS at each height are those that w holds
pub over-held :
    {w d : ℕ} {t : Tree Secret} (h : ℕ) (b : Slots) → Seat w d t → h ≤ d → over w t b (slot_of_key h) ≡ first (held_at w h t)
unfolding over held_at
over-held {w} h b here n =
    let z : h ≡ 0 = omega arith in rw (z, is_true (eqb w w) (eqb_refl w))
over-held {w} {d = suc d} h b (on_left {p} {l} {r} s a n) e =
    elim (cases_lt d h) [
      | inl i ↦
          let j : h ≡ suc d = omega arith in
          rw (j, is_true (seated w l) (seat-seated s), level-height (seat-level s), is_true (eqb (suc d) (suc d)) (eqb_refl (suc d)))
          (over-read w (slot_of_key (suc d)) _ (seat-level s) (high (omega arith)) ∙ put_same (slot_of_key (suc d)) (first (node_key_held w p)) b)
      | inr i ↦
          rw (is_true (seated w l) (seat-seated s), level-height (seat-level s), ne_eqb h (suc d) (λ e. omega arith)) (over-held h _ s i)
    ]
over-held {w} {d = suc d} h b (on_right {p} {l} {r} a n s) e =
    elim (cases_lt d h) [
      | inl i ↦
          let j : h ≡ suc d = omega arith in
          rw (j, is_false (seated w l) n, is_true (seated w r) (seat-seated s), level-height a, is_true (eqb (suc d) (suc d)) (eqb_refl (suc d)))
          (over-read w (slot_of_key (suc d)) _ (seat-level s) (high (omega arith)) ∙ put_same (slot_of_key (suc d)) (first (node_key_held w p)) b)
      | inr i ↦
          rw (is_false (seated w l) n, level-height a, ne_eqb h (suc d) (λ e. omega arith)) (over-held h _ s i)
    ]

-- nothing is held above the top, and nothing by who isn't seated
nothing : {A : Type 0} (xs : List A) → ((x : A) → Memᴰ x xs → ⊥) → xs ≡ []
nothing [] f = refl
nothing (x ∷ xs) f = absurd (f x (Memᴰ.head refl))

beyond : {d : ℕ} {t : Tree Secret} (w h : ℕ) → Level d t → d < h → held_at w h t ≡ []
beyond {t} w h a n = nothing (held_at w h t) (λ s m. let x = held_low s w h a m in omega arith)

absent : (w h : ℕ) (t : Tree Secret) → T (not (seated w t)) → held_at w h t ≡ []
absent w h t n = nothing (held_at w h t) (λ s m. T_not (seated w t) n (held-seated s w h t m))

-- THE LAYOUT of one who is seated: its keys over the talk secret and the seed
abbrev pub epoch_over : Secret → Slots → Slots
epoch_over s b = put talk_slot (Some (talk s)) (put seed_slot (Some (seed s)) b)

slots-by-height :
    (a b : Slots) → a 0 ≡ b 0 → a 1 ≡ b 1 → ((h : ℕ) → a (slot_of_key h) ≡ b (slot_of_key h)) → a ≡ b
slots-by-height a b x y f = fun_ext at
  where
    at : (i : ℕ) → a i ≡ b i
    at zero = x
    at (suc zero) = y
    at (suc (suc h)) = let e : 2 + h ≡ suc (suc h) = omega arith in rw e at (f h)

pub layout-seated :
    {w d : ℕ} (g : Group) → Seat w d g.tree → layout w g ≡ over w g.tree (epoch_over g.secret bare)
layout-seated {w} {d} g s =
    slots-by-height (layout w g) (over w g.tree (epoch_over g.secret bare))
    (rw (is_true (seated w g.tree) (seat-seated s)) (sym (over-read w 0 _ (seat-level s) (low (omega arith)))))
    (rw (is_true (seated w g.tree) (seat-seated s)) (sym (over-read w 1 _ (seat-level s) (low (omega arith)))))
    (λ h.
    let e : 2 + h ≡ suc (suc h) = omega arith in
    ap (layout w g) e ∙
    elim (cases_lt d h) [
      | inl i ↦ rw (beyond w h (seat-level s) i) (sym (over-read w (slot_of_key h) _ (seat-level s) (high (omega arith)) ∙ far h))
      | inr i ↦ sym (over-held h _ s i)
    ])
  where
    far : (h : ℕ) → epoch_over g.secret bare (slot_of_key h) ≡ None
    far h = grind arith

pub layout-absent : (w : ℕ) (g : Group) → T (not (seated w g.tree)) → layout w g ≡ bare
layout-absent w g n = grind (arith, absent)

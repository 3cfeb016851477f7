-- A vault that is laid out for a group holds just what its member holds.
-- Assumes nothing.
use Rattle.std.proofs.Common.{◌≡◌, ℕ, zero, suc, ◌≤◌, not, T, ◌↔◌, List, [], ◌∷◌, Some, sym, ap, inl, inr, arith, T_not}
use mathlib.Core.List.Memᴰ
use mathlib.Core.List.{Memᴰ}
use Rattle.std.proofs.lemmas.Option.{same_Some}
use Rattle.theory.specs.Secrets.{Secret, seed, talk}
use Rattle.theory.specs.Tree.{Tree, leaf, node, Leaf, blank_leaf, occupied, Parent, blank_parent, keyed, key_at, seated, is_level}
use Rattle.theory.specs.Held.{is_unmerged, node_key_held, held, held_at}
use Rattle.theory.specs.Group.{Group, stock}
use Rattle.theory.specs.Laws.{held_down}
use Rattle.theory.proofs.Tests.{by_cond, is_true, is_false}
use Rattle.theory.proofs.Level.{Level, at_leaf, at_node, level-height}
use Rattle.theory.proofs.Heights.{held_by_height_holds}
use Rattle.vault_theory.proofs.Depth.{level-view}
use Rattle.vault_theory.specs.Layout.{first, layout, LayoutHolds}

-- FIRST of a list.
pub first-in : {A : Type 0} {x : A} (xs : List A) → first xs ≡ Some x → Memᴰ x xs
first-in [] e = cc
first-in (y ∷ xs) e = Memᴰ.head (sym (same_Some _ _ e))

-- where a list has one thing at most, that is its first
abbrev Lone : {A : Type 0} → A → List A → Type 0
Lone x xs = Memᴰ x xs → first xs ≡ Some x

lone-none : {A : Type 0} (x : A) → Lone x []
lone-none x m = absurd (Memᴰ.not-nil m)

lone-one : {A : Type 0} (x y : A) → Lone x (y ∷ [])
lone-one x y m = ap Some (sym (Memᴰ.eq_of_singleton m))

-- ONE KEY at most of each height.
module _ {K : Type 0} (s : K) (w : ℕ) where
  key-lone : (x : Leaf K) → Lone s (key_at x)
  key-lone blank_leaf = lone-none s
  key-lone (occupied v k) = lone-one s k

  node-lone : (p : Parent K) → Lone s (node_key_held w p)
  node-lone blank_parent = lone-none s
  node-lone (keyed k un) = by_cond (Lone s) (is_unmerged w un) _ _ (λ _. lone-none s) (λ _. lone-one s k)

  pub held-lone : (h : ℕ) (t : Tree K) → Memᴰ s (held_at w h t) → first (held_at w h t) ≡ Some s
  unfolding held_at
  held-lone h (leaf x) = grind (arith, key-lone, lone-none)
  held-lone h (node p l r) = grind (arith, node-lone, lone-none, held-lone h l, held-lone h r)

  -- who holds a key is seated
  pub held-seated : (h : ℕ) (t : Tree K) → Memᴰ s (held_at w h t) → T (seated w t)
  unfolding held_at seated
  held-seated h (leaf x) = grind (arith, Memᴰ.not-nil)
  held-seated h (node p l r) = grind (arith, Memᴰ.not-nil, held-seated h r)

  -- and no key lies above the top
  pub held_low : (h : ℕ) {d : ℕ} {t : Tree K} → Level d t → Memᴰ s (held_at w h t) → h ≤ d
  unfolding held_at
  held_low h (at_leaf {x}) = grind (arith, Memᴰ.not-nil)
  held_low h (at_node {d} {l} {r} a b) = grind (arith, level-height, held_low h a, held_low h b)

  -- ALL HEIGHTS.
  pub down-in : (h d : ℕ) (t : Tree K) → h ≤ d → Memᴰ s (held_at w h t) → Memᴰ s (held_down w d t)
  unfolding held_down
  down-in zero zero t e m = m
  down-in (suc h) zero t e m = absurd (omega arith)
  down-in h (suc d) t e m = grind (arith, Memᴰ.append_right, Memᴰ.append_left, down-in h d t)

  pub in-down : (d : ℕ) (t : Tree K) → Memᴰ s (held_down w d t) → (h : ℕ) × Memᴰ s (held_at w h t)
  unfolding held_down
  in-down zero t m = (0, m)
  in-down (suc d) t m =
      elim (Memᴰ.append_cases (held_at w (suc d) t) m) [ inl a ↦ (suc d, a) | inr b ↦ in-down d t b ]

-- THE LAYOUT. Slot by slot, for one who is seated.
abbrev Slot : ℕ → Group → Secret → Type 0
Slot w g s = (i : ℕ) × (layout w g i ≡ Some s)

abbrev Stocked : ℕ → Group → Secret → Type 0
Stocked w g s = Memᴰ s (talk g.secret ∷ seed g.secret ∷ held w g.tree)

module _ (g : Group) (d w : ℕ) (h : T (is_level d g.tree)) (s : Secret) where
  slot-stocked : T (seated w g.tree) → (i : ℕ) → layout w g i ≡ Some s → Stocked w g s
  slot-stocked p zero e = Memᴰ.head (sym (same_Some _ _ (rw (is_true (seated w g.tree) p) at e)))
  slot-stocked p (suc zero) e =
      Memᴰ.tail (Memᴰ.head (sym (same_Some _ _ (rw (is_true (seated w g.tree) p) at e))))
  slot-stocked p (suc (suc i)) e =
      let t = g.tree in
      let m = first-in (held_at w i t) e in
      Memᴰ.tail (Memᴰ.tail
      (rw (← held_by_height_holds d w t h) (down-in s w i d t (held_low s w i (level-view d t h) m) m)))

  stocked-slot : T (seated w g.tree) → Stocked w g s → Slot w g s
  stocked-slot p m =
      elim (Memᴰ.cases_cons m) [
        | inl e ↦ (0, rw (is_true (seated w g.tree) p, e))
        | inr n ↦
            elim (Memᴰ.cases_cons n) [
              | inl e ↦ (1, rw (is_true (seated w g.tree) p, e))
              | inr k ↦
                  let t = g.tree in
                  let x = in-down s w d t (rw (held_by_height_holds d w t h) k) in
                  (suc (suc x.0), held-lone s w x.0 t x.1)
            ]
      ]

  -- one who isn't seated has nothing in any slot
  absent-slot : T (not (seated w g.tree)) → (i : ℕ) → layout w g i ≡ Some s → ⊥
  absent-slot n zero e = cc (rw (is_false (seated w g.tree) n) at e)
  absent-slot n (suc zero) e = cc (rw (is_false (seated w g.tree) n) at e)
  absent-slot n (suc (suc i)) e =
      T_not (seated w g.tree) n (held-seated s w i g.tree (first-in (held_at w i g.tree) e))

  slots-just : Slot w g s ↔ Memᴰ s (stock w g)
  slots-just = grind (arith, slot-stocked, stocked-slot, absent-slot)

pub layout_holds : LayoutHolds
layout_holds g d w h s = slots-just g d w h s

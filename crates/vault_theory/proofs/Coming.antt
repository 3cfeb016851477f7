-- What an addition does to the slots: nothing to those of who was there, and the newcomer has its leaf key.
-- Assumes nothing.
use Rattle.std.proofs.Common.{◌≡◌, ℕ, suc, ◌≤◌, not, T, eqb, List, [], Some, None, sym, refl, ◌∙◌, inl, inr, arith}
use lib.Dec.{eqb_refl}
use Rattle.theory.specs.Secrets.{Secret}
use Rattle.theory.specs.Tree.{Tree, Parent, blank_parent, keyed, seated, full, blank_tree, grown, unmerged_at}
use Rattle.theory.specs.Held.{is_unmerged, node_key_held}
use Rattle.theory.specs.Places.{Turn}
use Rattle.theory.proofs.Tests.{decided, is_true, is_false, nor, nor-left, nor-right, or_left, or_right}
use Rattle.theory.proofs.Level.{Level, adding-level}
use Rattle.theory.proofs.Level as level
use Rattle.theory.proofs.Addition.{Adding, seated-adding}
use Rattle.theory.proofs.Addition as adds
use Rattle.theory.proofs.Growth.{grown-full, grown-roomy}
use Rattle.vault_theory.specs.Order.{slot_of_key}
use Rattle.vault_theory.specs.Vault.{put}
use Rattle.vault_theory.proofs.Steps.{Slots, put-there}
use Rattle.vault_theory.proofs.Seats.{Seat, on_left, on_right, seat-seated, seat-level}
use Rattle.vault_theory.proofs.Slots.{parent_over, over, over-left, over-right}

-- m's coming takes no node key from another
still-held : (w m : ℕ) (p : Parent Secret) → T (not (eqb m w)) → node_key_held w (unmerged_at m p) ≡ node_key_held w p
unfolding is_unmerged
still-held w m blank_parent n = refl
still-held w m (keyed k un) n = rw (is_false (eqb m w) n)

-- and gives it none
none-held : (m : ℕ) (p : Parent Secret) → node_key_held m (unmerged_at m p) ≡ []
unfolding is_unmerged
none-held m blank_parent = refl
none-held m (keyed k un) = rw (is_true (eqb m m) (eqb_refl m))

module _ {m : ℕ} {k : Secret} where
  pub over-adding :
      {t u : Tree Secret} {q : List Turn} {w d : ℕ} (b : Slots) → Adding m k t u q → T (not (eqb m w)) → Seat w d t →
      over w u b ≡ over w t b
  over-adding b adds.here n s = elim s [ ]
  over-adding {w} b (adds.in_left {c} {l} {l'} {r} a) n (on_left {d} s v f) =
      over-left w (unmerged_at m c) l' r b (rw (seated-adding a w) (or_left (seated w l) (eqb m w) (seat-seated s))) (adding-level a (seat-level s))
      ∙ rw (still-held w m c n) (over-adding (parent_over w c (suc d) b) a n s)
      ∙ sym (over-left w c l r b (seat-seated s) (seat-level s))
  over-adding {w} b (adds.in_left {c} {l} {l'} {r} a) n (on_right {d} v f s) =
      over-right w (unmerged_at m c) l' r b (rw (seated-adding a w) (nor (seated w l) (eqb m w) f n)) (adding-level a v)
      ∙ rw (still-held w m c n) (sym (over-right w c l r b f v))
  over-adding {w} b (adds.in_right {c} {l} {r} {r'} g a) n (on_left {d} s v f) =
      over-left w (unmerged_at m c) l r' b (seat-seated s) (seat-level s)
      ∙ rw (still-held w m c n) (sym (over-left w c l r b (seat-seated s) (seat-level s)))
  over-adding {w} b (adds.in_right {c} {l} {r} {r'} g a) n (on_right {d} v f s) =
      over-right w (unmerged_at m c) l r' b f v
      ∙ rw (still-held w m c n) (over-adding (parent_over w c (suc d) b) a n s)
      ∙ sym (over-right w c l r b f v)

  -- over slots that are empty
  pub over-newcomer :
      {t u : Tree Secret} {q : List Turn} {d : ℕ} (b : Slots) → ((h : ℕ) → h ≤ d → b (slot_of_key h) ≡ None) →
      Adding m k t u q → T (not (seated m t)) → Level d t → over m u b ≡ put (slot_of_key 0) (Some k) b
  unfolding seated
  over-newcomer b e adds.here n v = unfold over in refl
  over-newcomer b e (adds.in_left {c} {l} {l'} {r} a) n (level.at_node {d} x y) =
      over-left m (unmerged_at m c) l' r b (rw (seated-adding a m) (or_right (seated m l) (eqb m m) (eqb_refl m))) (adding-level a x)
      ∙ rw (none-held m c, put-there (slot_of_key (suc d)) None b (e (suc d) (omega arith)))
      (over-newcomer b (λ h i. e h (omega arith)) a (nor-left (seated m l) (seated m r) n) x)
  over-newcomer b e (adds.in_right {c} {l} {r} {r'} g a) n (level.at_node {d} x y) =
      over-right m (unmerged_at m c) l r' b (nor-left (seated m l) (seated m r) n) x
      ∙ rw (none-held m c, put-there (slot_of_key (suc d)) None b (e (suc d) (omega arith)))
      (over-newcomer b (λ h i. e h (omega arith)) a (nor-right (seated m l) (seated m r) n) y)

-- growing shifts no height
pub over-grown : {w d : ℕ} {t : Tree Secret} (b : Slots) → b (slot_of_key (suc d)) ≡ None → Seat w d t → over w (grown t) b ≡ over w t b
over-grown {w} {d} {t} b e s =
    elim (decided (full t)) [
      | inl h ↦
          rw (grown-full t h)
          (over-left w blank_parent t (blank_tree t) b (seat-seated s) (seat-level s)
          ∙ rw (put-there (slot_of_key (suc d)) None b e))
      | inr h ↦ rw (grown-roomy t h)
    ]

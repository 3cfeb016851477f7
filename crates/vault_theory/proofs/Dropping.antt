-- Keys that are forgotten: for a removal, and by who is removed.
-- Assumes nothing.
use Rattle.std.proofs.Common.{◌≡◌, ℕ, suc, ◌≤◌, Bool, true, false, cond, not, ◌||◌, T, eqb, List, [], Some, None, sym, refl, ◌∙◌, inl, inr, arith, T_not}
use lib.Dec.{not_T}
use Rattle.theory.specs.Secrets.{Secret}
use Rattle.theory.specs.Tree.{Tree, leaf, occupied, Parent, blank_parent, keyed, seated, removed}
use Rattle.theory.specs.Held.{is_unmerged, node_key_held}
use Rattle.theory.proofs.Tests.{decided, is_true, is_false}
use Rattle.theory.proofs.Level.{Level, level-height, removed-level}
use Rattle.theory.proofs.Removal.{removed-absent, removed-node}
use Rattle.theory.proofs.Wellformed.{is-left, was-seated}
use Rattle.vault_theory.specs.Order.{slot_of_key}
use Rattle.vault_theory.specs.Vault.{Sealed, put}
use Rattle.vault_theory.specs.Orders.{held_forgotten, dropped, abandoned}
use Rattle.vault_theory.specs.Layout.{first}
use Rattle.vault_theory.proofs.Steps.{Slots, put-put, put-there, vault, Runs, done, one-after, then-forget, runs-from, runs_to}
use Rattle.vault_theory.proofs.Seats.{Seat, here, on_left, on_right, seat-seated, seat-level}
use Rattle.vault_theory.proofs.Slots.{parent_over, over, over-left, over-right, over-next, read_next}

pub still-absent : (w m : ℕ) (t : Tree Secret) → T (not (seated w t)) → T (not (seated w (removed m t)))
still-absent w m t n = not_T (seated w (removed m t)) (λ h. T_not (seated w t) n (was-seated w m t h))

empty-below :
    (w : ℕ) (p : Parent Secret) (d : ℕ) (b : Slots) → ((h : ℕ) → h ≤ suc d → b (slot_of_key h) ≡ None) →
    (h : ℕ) → h ≤ d → parent_over w p (suc d) b (slot_of_key h) ≡ None
empty-below w p d b e h n = grind arith

module _ {boxes : List (Sealed Secret)} {ds : List Secret} {ss : List (Sealed Secret)} {gs : List Secret} where
  -- a node key is forgotten, where it is held
  pub forget-held :
      (w : ℕ) (p : Parent Secret) (h : ℕ) (a : Slots) → a (slot_of_key h) ≡ first (node_key_held w p) →
      Runs boxes (held_forgotten w p h) (vault a ds ss gs) (vault (put (slot_of_key h) None a) ds ss gs)
  forget-held w blank_parent h a e = runs_to done (sym (put-there (slot_of_key h) None a e))
  forget-held w (keyed k un) h a e =
      elim (decided (is_unmerged w un)) [
        | inl u ↦
            rw (is_true (is_unmerged w un) u)
            (runs_to done (sym (put-there (slot_of_key h) None a (rw (is_true (is_unmerged w un) u) at e))))
        | inr u ↦
            rw (is_false (is_unmerged w un) u)
            (then-forget (slot_of_key h) k (rw (is_false (is_unmerged w un) u) at e) done)
      ]

  -- and so is the one above a part
  pub forget-next :
      (w : ℕ) (p : Parent Secret) {d : ℕ} (t : Tree Secret) (b : Slots) → Level d t →
      Runs boxes (held_forgotten w p (suc d)) (vault (over w t (parent_over w p (suc d) b)) ds ss gs)
      (vault (over w t (put (slot_of_key (suc d)) None b)) ds ss gs)
  forget-next w p {d} t b a =
      runs_to (forget-held w p (suc d) _ (read_next w (first (node_key_held w p)) b a)) (over-next w None (first (node_key_held w p)) b a)

  -- one parent above a part, for a removal
  drop-next :
      (w : ℕ) (p : Parent Secret) {d : ℕ} (t : Tree Secret) (b : Slots) (above : Bool) → Level d t →
      Runs boxes (cond above (held_forgotten w p (suc d)) []) (vault (over w t (parent_over w p (suc d) b)) ds ss gs)
      (vault (over w t (parent_over w (cond above blank_parent p) (suc d) b)) ds ss gs)
  drop-next w p t b true a = forget-next w p t b a
  drop-next w p t b false a = done

  pub dropping :
      {w d : ℕ} {t : Tree Secret} (m : ℕ) (b : Slots) → T (not (eqb w m)) → Seat w d t →
      Runs boxes (dropped w m t) (vault (over w t b) ds ss gs) (vault (over w (removed m t) b) ds ss gs)
  unfolding dropped
  dropping {w} m b n (here {k}) =
      rw (removed-absent m (leaf (occupied w k)) (unfold seated in n)) done
  dropping {w} m b n (on_left {d} {p} {l} {r} s a f) =
      let h = seat-seated s in
      rw (is_true (seated w l) h, level-height (seat-level s), removed-node m p l r)
      (runs-from (over-left w p l r b h (seat-level s))
      (runs_to
      (one-after (dropping m (parent_over w p (suc d) b) n s) (drop-next w p (removed m l) b (seated m l || seated m r) (removed-level m (seat-level s))))
      (sym (over-left w _ (removed m l) (removed m r) b (is-left w m l h n) (removed-level m (seat-level s))))))
  dropping {w} m b n (on_right {d} {p} {l} {r} a f s) =
      rw (is_false (seated w l) f, level-height a, removed-node m p l r)
      (runs-from (over-right w p l r b f a)
      (runs_to
      (one-after (dropping m (parent_over w p (suc d) b) n s) (drop-next w p (removed m r) b (seated m l || seated m r) (removed-level m (seat-level s))))
      (sym (over-right w _ (removed m l) (removed m r) b (still-absent w m l f) (removed-level m a)))))

  -- one parent above a part, for who forgets all its keys
  leave-next :
      (w : ℕ) (p : Parent Secret) (d : ℕ) (b : Slots) → b (slot_of_key (suc d)) ≡ None →
      Runs boxes (held_forgotten w p (suc d)) (vault (parent_over w p (suc d) b) ds ss gs) (vault b ds ss gs)
  leave-next w p d b e = grind (arith, forget-held)

  -- its keys lay over slots that are empty but for those above
  pub abandoning :
      {w d : ℕ} {t : Tree Secret} (b : Slots) → ((h : ℕ) → h ≤ d → b (slot_of_key h) ≡ None) → Seat w d t →
      Runs boxes (abandoned w t) (vault (over w t b) ds ss gs) (vault b ds ss gs)
  unfolding abandoned
  abandoning {w} b e (here {k}) =
      unfold over in
      then-forget (slot_of_key 0) k refl (runs_to done (put-put (slot_of_key 0) None (Some k) b ∙ put-there (slot_of_key 0) None b (e 0 (omega arith))))
  abandoning {w} b e (on_left {d} {p} {l} {r} s a f) =
      rw (is_true (seated w l) (seat-seated s), level-height (seat-level s))
      (runs-from (over-left w p l r b (seat-seated s) (seat-level s))
      (one-after (abandoning (parent_over w p (suc d) b) (empty-below w p d b e) s) (leave-next w p d b (e (suc d) (omega arith)))))
  abandoning {w} b e (on_right {d} {p} {l} {r} a f s) =
      rw (is_false (seated w l) f, level-height a)
      (runs-from (over-right w p l r b f a)
      (one-after (abandoning (parent_over w p (suc d) b) (empty-below w p d b e) s) (leave-next w p d b (e (suc d) (omega arith)))))

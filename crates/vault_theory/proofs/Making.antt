-- A path that is laid: its committer seals it level by level, and has the node keys of all of it.
-- Assumes nothing.
use Rattle.std.proofs.Common.{◌≡◌, ℕ, suc, ◌≤◌, List, [], ◌∷◌, ◌++◌, Some, None, sym, ap, append_assoc, append-nil, arith}
use Rattle.theory.specs.Limits.{max_depth}
use Rattle.theory.specs.Secrets.{Secret, ups}
use Rattle.theory.specs.Tree.{Tree, seated, resolution}
use Rattle.theory.specs.Path.{sealed_to, parent_laid, level_after, laid}
use Rattle.theory.specs.Held.{is_unmerged, node_key_held}
use Rattle.theory.specs.Group.{path_boxes}
use Rattle.theory.proofs.Tests.{is_true, is_false}
use Rattle.theory.proofs.Level.{Level, level-height}
use Rattle.vault_theory.specs.Order.{publish, slot_of_key, slot_of_path}
use Rattle.vault_theory.specs.Vault.{Sealed, put}
use Rattle.vault_theory.specs.Numbers.{levels}
use Rattle.vault_theory.specs.Orders.{sealed_up, made}
use Rattle.vault_theory.specs.Layout.{first}
use Rattle.vault_theory.specs.Slots.{seen, node_keys}
use Rattle.vault_theory.proofs.Steps.{Slots, put_same, vault, Runs, done, one-after, then-publish, each, seal-all, runs-from, runs_to}
use Rattle.vault_theory.proofs.Seats.{Seat, here, on_left, on_right, seat-seated, seat-level}
use Rattle.vault_theory.proofs.Slots.{parent_over, over, over-left, over-right, over-next, read_next}
use Rattle.vault_theory.proofs.Following.{Free, free-put, free-over, holding, rise, turn-over, node_key, after, after-level, after-seated, reached, after-left, after-right, boxes-each}
use Rattle.std.proofs.lemmas.Grind.{common_steps}

-- what is sealed below a parent and at it is what is sealed in all
sealed-all :
    (c : ℕ) (own s : Secret) (ss : List (Sealed Secret)) (t : Tree Secret) (i : ℕ) (ks : List Secret) →
    (ss ++ seen (path_boxes s (after c own s t).targets)) ++ each (ups i s) ks
    ≡ ss ++ seen (path_boxes s ((after c own s t).targets ++ sealed_to i ks))
sealed-all c own s ss t i ks = search (arith, common_steps, boxes-each)

module _ (c : ℕ) (own s : Secret) {boxes : List (Sealed Secret)} {ds : List Secret} where
  seal-next :
      (i : ℕ) {d : ℕ} (t : Tree Secret) (b : Slots) (ks : List Secret) (ss : List (Sealed Secret)) (gs : List Secret) →
      Level d t → suc d ≤ max_depth → Free b →
      Runs boxes (sealed_up i (suc d) ks) (vault (holding i (ups i s) (over c t (put (slot_of_key (suc d)) None b))) ds ss (gs ++ node_keys i s))
      (vault (holding (level_after i ks) (ups (level_after i ks) s) (over c t (parent_over c (parent_laid (node_key c own s) i ks) (suc d) b)))
      ds (ss ++ each (ups i s) ks) (gs ++ node_keys (level_after i ks) s))
  unfolding is_unmerged ups node_keys
  seal-next i t b [] ss gs a n f = rw (append-nil ss) done
  seal-next i {d} t b (k ∷ ks) ss gs a n f =
      seal-all (slot_of_path i) (ups i s) (k ∷ ks) ss (put_same (slot_of_path i) (Some (ups i s)) (over c t (put (slot_of_key (suc d)) None b)))
      (runs_to
      (rise i (suc d) (ups i s) (over c t (put (slot_of_key (suc d)) None b)) (publish (slot_of_key (suc d)) ∷ []) (gs ++ node_keys (suc i) s) n
      (free-over c (put (slot_of_key (suc d)) None b) a (omega arith) (free-put (suc d) None b n f))
      (read_next c None b a)
      (then-publish (slot_of_key (suc d)) (node_key c own s i) (put_same (slot_of_key (suc d)) (Some (node_key c own s i)) (holding i (ups i s) (over c t (put (slot_of_key (suc d)) None b)))) (rw (append_assoc gs (node_keys i s) (node_key c own s i ∷ [])) done)))
      (ap (holding (suc i) (ups (suc i) s)) (over-next c (Some (node_key c own s i)) None b a)))

  -- the halves are written out both times: each rewrites by other facts
  pub making :
      {d : ℕ} {t : Tree Secret} (b : Slots) (ss : List (Sealed Secret)) (gs : List Secret) → Seat c d t → d ≤ max_depth → Free b →
      Runs boxes (made c t) (vault (holding 0 s (put (slot_of_key 0) (Some own) (over c t b))) ds ss gs)
      (vault (reached c own s t (over c (after c own s t).tree b)) ds (ss ++ seen (path_boxes s (after c own s t).targets)) (gs ++ node_keys (levels c t) s))
  unfolding made levels
  making b ss gs (here {k}) n f = unfold laid over ups node_keys in search (arith, common_steps, done)
  making b ss gs (on_left {d} {p} {l} {r} x a i) n f =
      let h = seat-seated x in
      let v = seat-level x in
      rw (after-left c own s p l r h, is_true (seated c l) h, level-height v, ← (sealed-all c own s ss l (levels c l) (resolution r)))
      (runs-from (ap (λ u. holding 0 s (put (slot_of_key 0) (Some own) u)) (over-left c p l r b h v))
      (runs_to
      (one-after (making (parent_over c p (suc d) b) ss gs x (omega arith) (free-put (suc d) (first (node_key_held c p)) b n f))
      (one-after (turn-over c p (levels c l) (ups (levels c l) s) (after c own s l).tree b (after-level c own s v) n)
      (seal-next (levels c l) (after c own s l).tree b (resolution r) (ss ++ seen (path_boxes s (after c own s l).targets)) gs (after-level c own s v) n f)))
      (ap (holding (level_after (levels c l) (resolution r)) (ups (level_after (levels c l) (resolution r)) s))
      (sym (over-left c (parent_laid (node_key c own s) (levels c l) (resolution r)) (after c own s l).tree r b (rw (after-seated c own s c l) h) (after-level c own s v))))))
  making b ss gs (on_right {d} {p} {l} {r} a i x) n f =
      let h = seat-seated x in
      let v = seat-level x in
      rw (after-right c own s p l r i h, is_false (seated c l) i, is_true (seated c r) h, level-height a, ← (sealed-all c own s ss r (levels c r) (resolution l)))
      (runs-from (ap (λ u. holding 0 s (put (slot_of_key 0) (Some own) u)) (over-right c p l r b i a))
      (runs_to
      (one-after (making (parent_over c p (suc d) b) ss gs x (omega arith) (free-put (suc d) (first (node_key_held c p)) b n f))
      (one-after (turn-over c p (levels c r) (ups (levels c r) s) (after c own s r).tree b (after-level c own s v) n)
      (seal-next (levels c r) (after c own s r).tree b (resolution l) (ss ++ seen (path_boxes s (after c own s r).targets)) gs (after-level c own s v) n f)))
      (ap (holding (level_after (levels c r) (resolution l)) (ups (level_after (levels c r) (resolution l)) s))
      (sym (over-right c (parent_laid (node_key c own s) (levels c r) (resolution l)) l (after c own s r).tree b i a)))))

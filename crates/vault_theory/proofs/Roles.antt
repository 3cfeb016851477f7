-- The orders of each role, carried out: by who stays, who commits, who joins and who leaves.
-- Assumes nothing.
use Rattle.std.proofs.Common.{◌≡◌, ℕ, suc, ◌≤◌, List, [], ◌∷◌, ◌++◌, Some, None, sym, refl, ap, ◌∙◌, arith}
use mathlib.Core.Path.{fun_ext}
use Rattle.theory.specs.Limits.{max_depth}
use Rattle.theory.specs.Secrets as secrets
use Rattle.theory.specs.Secrets.{Secret, ups}
use Rattle.theory.specs.Tree.{Tree}
use Rattle.theory.specs.Group.{path_boxes}
use Rattle.theory.proofs.Level.{Level}
use Rattle.vault_theory.specs.Order.{Order, draw, publish, forget, unseal, talk_slot, seed_slot, slot_of_key, slot_of_path, epoch_slot, init_slot}
use Rattle.vault_theory.specs.Vault.{Sealed, put, nth}
use Rattle.vault_theory.specs.Numbers.{levels, posted}
use Rattle.vault_theory.specs.Orders.{followed, made, renewed, turned, introduced, leaving}
use Rattle.vault_theory.specs.Slots.{seen, node_keys, bare}
use Rattle.vault_theory.proofs.Steps.{Slots, put_same, put-put, put-there, vault, Runs, done, one-after, then-forget, then-draw, then-publish, then-unseal, runs-from, runs_to}
use Rattle.vault_theory.proofs.Seats.{Seat, here, on_left, on_right, seat-seated, seat-level, Meeting, meeting-level}
use Rattle.vault_theory.proofs.Slots.{parent_over, over, over-left, over-right, epoch_over, high, over-put}
use Rattle.vault_theory.proofs.Dropping.{abandoning}
use Rattle.vault_theory.proofs.Following.{Free, free-over, free-path, holding, after, after-level, reached, Boxed, following}
use Rattle.vault_theory.proofs.Making.{making}
use Rattle.vault_theory.proofs.Turning.{plain-bare, plain_over, over-epoch, renewing, turning}

-- the slots of the epoch and of the path don't touch
free-bare : (s : Secret) → Free (epoch_over s bare)
free-bare s = record { odd = refl; even = refl }

-- a member has its leaf key
own_key : {w d : ℕ} {t : Tree Secret} (b : Slots) → Seat w d t → (k : Secret) × (over w t b (slot_of_key 0) ≡ Some k)
own_key b (here {k}) = unfold over in (k, refl)
own_key {w} b (on_left {d} {p} {l} {r} x a n) =
    let k = own_key (parent_over w p (suc d) b) x in
    (k.0, rw (over-left w p l r b (seat-seated x) (seat-level x)) k.1)
own_key {w} b (on_right {d} {p} {l} {r} a n x) =
    let k = own_key (parent_over w p (suc d) b) x in
    (k.0, rw (over-right w p l r b n a) k.1)

left-slots :
    (s : Secret) (b : Slots) → b talk_slot ≡ None → b seed_slot ≡ None → put seed_slot None (put talk_slot None (epoch_over s b)) ≡ b
left-slots s b e f = fun_ext (λ i. grind arith)

drawn-slots : (own s : Secret) (b : Slots) → put 19 (Some s) (put (slot_of_key 0) (Some own) (put (slot_of_key 0) None b)) ≡ put 19 (Some s) (put (slot_of_key 0) (Some own) b)
drawn-slots own s b = fun_ext (λ i. grind arith)

welcomed-slots : (e init : Secret) (b : Slots) → b init_slot ≡ None → put init_slot None (put epoch_slot (Some e) (put init_slot (Some init) b)) ≡ put epoch_slot (Some e) b
welcomed-slots e init b f = fun_ext (λ i. grind arith)

module _ {boxes : List (Sealed Secret)} {ds : List Secret} {ss : List (Sealed Secret)} {gs : List Secret} where
  -- WHO LEAVES
  pub leave :
      {w d : ℕ} {t : Tree Secret} (s : Secret) → Seat w d t → d ≤ max_depth →
      Runs boxes (leaving w t) (vault (over w t (epoch_over s bare)) ds ss gs) (vault bare ds ss gs)
  leave {w} {t} s x n =
      let p = plain_over w bare (seat-level x) n plain-bare in
      runs-from (over-epoch w s bare (seat-level x))
      (then-forget talk_slot (secrets.talk s) refl
      (then-forget seed_slot (secrets.seed s) refl
      (runs-from (left-slots s (over w t bare) p.talk p.seed) (abandoning bare (λ h i. refl) x))))

module _ (c : ℕ) (own s last : Secret) where
  -- the epoch's secret after the path
  abbrev pub mixed : Tree Secret → Secret
  mixed u = secrets.mix (secrets.seed last) (ups (levels c u) s)

  -- the slots of w after the path
  abbrev pub settled : ℕ → Tree Secret → Slots
  settled w u = over w (after c own s u).tree (epoch_over (mixed u) bare)

  module _ {boxes : List (Sealed Secret)} {ds : List Secret} {gs : List Secret} where
    -- the path has come to the top
    settle :
        {d : ℕ} (w : ℕ) (u : Tree Secret) (ss zs : List (Sealed Secret)) (sealing : List (Order Secret)) → Level d u → d ≤ max_depth →
        ((b : Slots) → Runs boxes sealing (vault (put epoch_slot (Some (mixed u)) b) ds ss gs) (vault (put epoch_slot (Some (mixed u)) b) ds zs gs)) →
        Runs boxes (turned (levels c u) sealing) (vault (reached c own s u (over w (after c own s u).tree (epoch_over last bare))) ds ss gs)
        (vault (settled w u) ds zs gs)
    settle w u ss zs sealing a n r =
        let v = after-level c own s a in
        let b = over w (after c own s u).tree bare in
        runs-from (ap (holding (levels c u) (ups (levels c u) s)) (over-epoch w last bare v))
        (runs_to
        (turning (levels c u) (ups (levels c u) s) last b ss zs sealing (plain_over w bare v n plain-bare) (r b))
        (sym (over-epoch w (mixed u) bare v)))

    -- WHO STAYS
    pub stay :
        {w d : ℕ} {u : Tree Secret} (ss : List (Sealed Secret)) → Meeting w c d u → d ≤ max_depth → Boxed c own s boxes (after c own s u).targets →
        Runs boxes (followed w c u ++ turned (levels c u) []) (vault (over w u (epoch_over last bare)) ds ss gs) (vault (settled w u) ds ss gs)
    stay {w} {u} ss m n boxed =
        one-after (following c own s (epoch_over last bare) m n (free-bare last) boxed)
        (settle w u ss ss [] (meeting-level m) n (λ b. done))

  module _ {boxes : List (Sealed Secret)} where
    -- WHO COMMITS
    pub commit :
        {d : ℕ} {u : Tree Secret} (zs : List (Sealed Secret)) (sealing : List (Order Secret)) → Seat c d u → d ≤ max_depth →
        ((b : Slots) (ss : List (Sealed Secret)) (gs : List Secret) →
        Runs boxes sealing (vault (put epoch_slot (Some (mixed u)) b) [] ss gs) (vault (put epoch_slot (Some (mixed u)) b) [] (ss ++ zs) gs)) →
        Runs boxes
        (forget (slot_of_key 0) ∷ draw (slot_of_key 0) ∷ publish (slot_of_key 0) ∷ draw (slot_of_path 0) ∷ (made c u ++ turned (levels c u) sealing))
        (vault (over c u (epoch_over last bare)) (own ∷ s ∷ []) [] [])
        (vault (settled c u) [] (seen (path_boxes s (after c own s u).targets) ++ zs) (own ∷ node_keys (levels c u) s))
    unfolding slot_of_path
    commit {u} zs sealing x n r =
        let b = over c u (epoch_over last bare) in
        let k = own_key (epoch_over last bare) x in
        let f : b 19 ≡ None = (free-over c (epoch_over last bare) (seat-level x) n (free-bare last)).odd in
        then-forget (slot_of_key 0) k.0 k.1
        (then-draw (slot_of_key 0) own (omega arith) refl
        (then-publish (slot_of_key 0) own refl
        (then-draw 19 s (omega arith) f
        (runs-from (drawn-slots own s b)
        (one-after (making c own s (epoch_over last bare) [] (own ∷ []) x n (free-bare last))
        (settle c u (seen (path_boxes s (after c own s u).targets)) _ sealing (seat-level x) n (λ b. r b _ _)))))))

    -- WHO JOINS: its leaf key is all that it holds of the tree
    pub join :
        {w d : ℕ} {u : Tree Secret} (fresh init : Secret) → Meeting w c d u → d ≤ max_depth → Boxed c own s boxes (after c own s u).targets →
        over w u bare ≡ put (slot_of_key 0) (Some fresh) bare → nth boxes (posted c u) ≡ Some (record { key = init; holds = mixed u }) →
        Runs boxes
        (introduced
        ++ (unseal (posted c u) init_slot epoch_slot ∷ forget init_slot ∷ (followed w c u ++ (forget (slot_of_path (levels c u)) ∷ renewed))))
        (vault bare (fresh ∷ init ∷ []) [] []) (vault (settled w u) [] [] (fresh ∷ init ∷ []))
    join {w} {u} fresh init m n boxed e welcome =
        let a = meeting-level m in
        let v = after-level c own s a in
        let i = levels c u in
        let top = put epoch_slot (Some (mixed u)) bare in
        let free : Free top = record { odd = refl; even = refl } in
        let b = over w (after c own s u).tree top in
        then-draw (slot_of_key 0) fresh (omega arith) refl
        (then-publish (slot_of_key 0) fresh refl
        (then-draw init_slot init (omega arith) refl
        (then-publish init_slot init refl
        (then-unseal (posted c u) init_slot epoch_slot init (mixed u) refl welcome (omega arith) refl
        (then-forget init_slot init refl
        (runs-from
        (welcomed-slots (mixed u) init (put (slot_of_key 0) (Some fresh) bare) refl ∙ ap (put epoch_slot (Some (mixed u))) (sym e)
        ∙ sym (over-put w epoch_slot (Some (mixed u)) bare a (high (omega arith))))
        (one-after (following c own s top m n free boxed)
        (then-forget (slot_of_path i) (ups i s) (put_same (slot_of_path i) (Some (ups i s)) b)
        (runs-from
        (put-put (slot_of_path i) None (Some (ups i s)) b ∙ put-there (slot_of_path i) None b (free-path b i (free-over w top v n free))
        ∙ over-put w epoch_slot (Some (mixed u)) bare v (high (omega arith)))
        (runs_to (renewing (mixed u) (over w (after c own s u).tree bare) [] (plain_over w bare v n plain-bare))
        (sym (over-epoch w (mixed u) bare v))))))))))))

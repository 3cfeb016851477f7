-- The epoch's secret, and the talk secret and the seed that come of it.
-- Assumes nothing.
use Rattle.std.proofs.Common.{◌≡◌, ℕ, ◌<◌, ◌≤◌, List, Some, None, refl, inl, inr, arith}
use mathlib.Core.Path.{fun_ext}
use Rattle.theory.specs.Limits.{max_depth}
use Rattle.theory.specs.Secrets as secrets
use Rattle.theory.specs.Secrets.{Secret}
use Rattle.theory.specs.Tree.{Tree}
use Rattle.theory.proofs.Level.{Level}
use Rattle.vault_theory.specs.Order.{Order, seed, talk, talk_slot, seed_slot, slot_of_path, epoch_slot}
use Rattle.vault_theory.specs.Vault.{Sealed, put}
use Rattle.vault_theory.specs.Orders.{renewed, turned}
use Rattle.vault_theory.specs.Slots.{bare}
use Rattle.vault_theory.proofs.Steps.{Slots, vault, Runs, done, one-after, then-forget, then-derive, then-mix, runs-from, runs_to}
use Rattle.vault_theory.proofs.Slots.{over, epoch_over, over-put, over-read}
use Rattle.vault_theory.proofs.Following.{Free, turns, free-path, holding}

-- nothing but keys
pub record Plain (b : Slots) : Type 0 where
  pub talk : b talk_slot ≡ None
  pub seed : b seed_slot ≡ None
  pub epoch : b epoch_slot ≡ None
  pub path : Free b

pub plain-bare : Plain bare
plain-bare = record { talk = refl; seed = refl; epoch = refl; path = record { odd = refl; even = refl } }

pub plain_over : {d : ℕ} {t : Tree Secret} (w : ℕ) (b : Slots) → Level d t → d ≤ max_depth → Plain b → Plain (over w t b)
plain_over w b a n p = grind (arith, over-read)

-- the talk secret and the seed lie beside the keys
pub over-epoch : {d : ℕ} {t : Tree Secret} (w : ℕ) (s : Secret) (b : Slots) → Level d t → over w t (epoch_over s b) ≡ epoch_over s (over w t b)
over-epoch w s b a = grind (arith, over-put)

renewed-slots :
    (s : Secret) (b : Slots) → b epoch_slot ≡ None →
    put epoch_slot None (put talk_slot (Some (secrets.talk s)) (put seed_slot (Some (secrets.seed s)) (put epoch_slot (Some s) b))) ≡ epoch_over s b
renewed-slots s b e = fun_ext (λ i. grind arith)

mixed-slots :
    (p : ℕ) (s x m : Secret) (b : Slots) → 18 < p → p < 21 → b p ≡ None → b talk_slot ≡ None → b seed_slot ≡ None →
    put seed_slot None (put talk_slot None (put p None (put epoch_slot (Some m) (put p (Some x) (epoch_over s b))))) ≡ put epoch_slot (Some m) b
mixed-slots p s x m b h i e f g = fun_ext (λ j. grind arith)

path-between : (i : ℕ) → (18 < slot_of_path i) × (slot_of_path i < 21)
path-between i = elim (turns i) [ inl a ↦ (omega arith, omega arith) | inr a ↦ (omega arith, omega arith) ]

module _ {boxes : List (Sealed Secret)} {ds : List Secret} {gs : List Secret} where
  pub renewing :
      (s : Secret) (b : Slots) (ss : List (Sealed Secret)) → Plain b →
      Runs boxes renewed (vault (put epoch_slot (Some s) b) ds ss gs) (vault (epoch_over s b) ds ss gs)
  renewing s b ss p =
      let x : b talk_slot ≡ None = p.talk in
      let y : b seed_slot ≡ None = p.seed in
      then-derive seed epoch_slot seed_slot s refl (omega arith) y
      (then-derive talk epoch_slot talk_slot s refl (omega arith) x
      (then-forget epoch_slot s refl
      (runs_to done (renewed-slots s b p.epoch))))

  -- the orders `sealing` come when the epoch's secret is in its slot
  pub turning :
      (n : ℕ) (x s : Secret) (b : Slots) (ss zs : List (Sealed Secret)) (sealing : List (Order Secret)) → Plain b →
      Runs boxes sealing (vault (put epoch_slot (Some (secrets.mix (secrets.seed s) x)) b) ds ss gs)
      (vault (put epoch_slot (Some (secrets.mix (secrets.seed s) x)) b) ds zs gs) →
      Runs boxes (turned n sealing) (vault (holding n x (epoch_over s b)) ds ss gs) (vault (epoch_over (secrets.mix (secrets.seed s) x) b) ds zs gs)
  turning n x s b ss zs sealing p r =
      let h : 18 < slot_of_path n = (path-between n).0 in
      let i : slot_of_path n < 21 = (path-between n).1 in
      let f : b (slot_of_path n) ≡ None = free-path b n p.path in
      let e : b epoch_slot ≡ None = p.epoch in
      then-mix seed_slot (slot_of_path n) epoch_slot (secrets.seed s) x (grind arith) (grind arith) (omega arith) (grind arith)
      (then-forget (slot_of_path n) x (grind arith)
      (then-forget talk_slot (secrets.talk s) (grind arith)
      (then-forget seed_slot (secrets.seed s) (grind arith)
      (runs-from (mixed-slots (slot_of_path n) s x (secrets.mix (secrets.seed s) x) b h i f p.talk p.seed)
      (one-after r (renewing (secrets.mix (secrets.seed s) x) b zs p))))))

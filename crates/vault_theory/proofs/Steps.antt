-- What each order does to a vault, one order at a time; and slots that are changed one after the other.
-- Assumes nothing.
use Rattle.std.proofs.Common.{◌≡◌, ℕ, ◌<◌, ltb, List, [], ◌∷◌, ◌++◌, map, Some, None, Option, refl, append_assoc, append-nil, arith, lt→ltb}
use mathlib.Core.Path.{fun_ext}
use Rattle.std.proofs.lemmas.Option.{same_Some}
use Rattle.theory.specs.Secrets as secrets
use Rattle.theory.specs.Secrets.{Secret}
use Rattle.theory.specs.Known.{same}
use Rattle.theory.proofs.Tests.{is_true}
use Rattle.theory.proofs.Known.{same_refl}
use Rattle.vault_theory.specs.Order.{Way, derived, Order, draw, derive, mix, seal, unseal, forget, publish, slot_count}
use Rattle.vault_theory.specs.Vault.{Sealed, Vault, themselves, put, and_then, nth, filled, step, run}

-- SLOTS
abbrev pub Slots : Type 0
Slots = ℕ → Option Secret

abbrev pub Apart : ℕ → ℕ → Type 0
Apart a b = a ≡ b → ⊥

pub put_same : (s : ℕ) (x : Option Secret) (b : Slots) → put s x b s ≡ x
put_same s x b = grind arith

pub put_other : (s i : ℕ) (x : Option Secret) (b : Slots) → Apart i s → put s x b i ≡ b i
put_other s i x b n = grind arith

pub put-put : (s : ℕ) (x y : Option Secret) (b : Slots) → put s x (put s y b) ≡ put s x b
put-put s x y b = fun_ext (λ i. grind arith)

pub put-swap : (s t : ℕ) (x y : Option Secret) (b : Slots) → Apart s t → put s x (put t y b) ≡ put t y (put s x b)
put-swap s t x y b n = fun_ext (λ i. grind arith)

pub put-there : (s : ℕ) (x : Option Secret) (b : Slots) → b s ≡ x → put s x b ≡ b
put-there s x b e = fun_ext (λ i. grind arith)

-- VAULTS
abbrev pub vault : Slots → List Secret → List (Sealed Secret) → List Secret → Vault Secret
vault slots draws sealed given = record { slots = slots; draws = draws; sealed = sealed; given = given }

-- the orders lead from one vault to the other
pub record Runs (boxes : List (Sealed Secret)) (os : List (Order Secret)) (v u : Vault Secret) : Type 0 where
  pub ran : run themselves boxes os v ≡ Some u

pub done : {boxes : List (Sealed Secret)} {v : Vault Secret} → Runs boxes [] v v
unfolding run
done = record { ran = refl }

pub first_then :
    {boxes : List (Sealed Secret)} {o : Order Secret} {os : List (Order Secret)} {v u z : Vault Secret} →
    step themselves boxes o v ≡ Some u → Runs boxes os u z → Runs boxes (o ∷ os) v z
unfolding run
first_then e r = record { ran = rw e r.ran }

go_on :
    (boxes : List (Sealed Secret)) (xs ys : List (Order Secret)) (v u z : Vault Secret) →
    run themselves boxes xs v ≡ Some u → run themselves boxes ys u ≡ Some z → run themselves boxes (xs ++ ys) v ≡ Some z
unfolding run
go_on boxes [] ys v u z e r = rw (same_Some _ _ e) r
go_on boxes (o ∷ xs) ys v u z e r = past (step themselves boxes o v) (λ v' h. go_on boxes xs ys v' u z h r) e
  where
    past :
        (m : Option (Vault Secret)) → ((v' : Vault Secret) → run themselves boxes xs v' ≡ Some u → run themselves boxes (xs ++ ys) v' ≡ Some z) →
        and_then m (run themselves boxes xs) ≡ Some u → and_then m (run themselves boxes (xs ++ ys)) ≡ Some z
    past None f h = cc
    past (Some v') f h = f v' h

pub one-after :
    {boxes : List (Sealed Secret)} {xs ys : List (Order Secret)} {v u z : Vault Secret} →
    Runs boxes xs v u → Runs boxes ys u z → Runs boxes (xs ++ ys) v z
one-after {boxes} {xs} {ys} {v} {u} {z} e r = record { ran = go_on boxes xs ys v u z e.ran r.ran }

fills :
    (t : ℕ) (x : Secret) (slots : Slots) (ds : List Secret) (ss : List (Sealed Secret)) (gs : List Secret) → t < slot_count → slots t ≡ None →
    filled t x (vault slots ds ss gs) ≡ Some (vault (put t (Some x) slots) ds ss gs)
fills t x slots ds ss gs n e = rw (e, is_true (ltb t slot_count) (lt→ltb t slot_count n))

-- ONE ORDER, with the orders after it.
module _ {boxes : List (Sealed Secret)} {os : List (Order Secret)} {slots : Slots} {ds : List Secret} {ss : List (Sealed Secret)} {gs : List Secret} {z : Vault Secret} where
  pub then-forget : (s : ℕ) (x : Secret) → slots s ≡ Some x → Runs boxes os (vault (put s None slots) ds ss gs) z → Runs boxes (forget s ∷ os) (vault slots ds ss gs) z
  unfolding step
  then-forget s x e r = first_then (rw e) r

  pub then-draw : (t : ℕ) (x : Secret) → t < slot_count → slots t ≡ None → Runs boxes os (vault (put t (Some x) slots) ds ss gs) z → Runs boxes (draw t ∷ os) (vault slots (x ∷ ds) ss gs) z
  unfolding step
  then-draw t x n e r = first_then (fills t x slots ds ss gs n e) r

  pub then-derive :
      (w : Way) (s t : ℕ) (x : Secret) → slots s ≡ Some x → t < slot_count → slots t ≡ None →
      Runs boxes os (vault (put t (Some (derived w x)) slots) ds ss gs) z → Runs boxes (derive w s t ∷ os) (vault slots ds ss gs) z
  unfolding step
  then-derive w s t x e n f r = first_then (rw e (fills t (derived w x) slots ds ss gs n f)) r

  pub then-mix :
      (s p t : ℕ) (x y : Secret) → slots s ≡ Some x → slots p ≡ Some y → t < slot_count → slots t ≡ None →
      Runs boxes os (vault (put t (Some (secrets.mix x y)) slots) ds ss gs) z → Runs boxes (mix s p t ∷ os) (vault slots ds ss gs) z
  unfolding step
  then-mix s p t x y e d n f r = first_then (rw (e, d) (fills t (secrets.mix x y) slots ds ss gs n f)) r

  pub then-seal :
      (s : ℕ) (k x : Secret) → slots s ≡ Some x →
      Runs boxes os (vault slots ds (ss ++ (record { key = k; holds = x } ∷ [])) gs) z → Runs boxes (seal s k ∷ os) (vault slots ds ss gs) z
  unfolding step
  then-seal s k x e r = first_then (rw e) r

  pub then-unseal :
      (n s t : ℕ) (k x : Secret) → slots s ≡ Some k → nth boxes n ≡ Some (record { key = k; holds = x }) → t < slot_count → slots t ≡ None →
      Runs boxes os (vault (put t (Some x) slots) ds ss gs) z → Runs boxes (unseal n s t ∷ os) (vault slots ds ss gs) z
  unfolding step
  then-unseal n s t k x e d b f r = first_then (rw (e, d, is_true (same k k) (same_refl k)) (fills t x slots ds ss gs b f)) r

  pub then-publish :
      (s : ℕ) (x : Secret) → slots s ≡ Some x → Runs boxes os (vault slots ds ss (gs ++ (x ∷ []))) z → Runs boxes (publish s ∷ os) (vault slots ds ss gs) z
  unfolding step
  then-publish s x e r = first_then (rw e) r

-- the same secret, sealed to each of these keys
abbrev pub each : Secret → List Secret → List (Sealed Secret)
each x ks = map (λ k. record { key = k; holds = x }) ks

pub seal-all :
    {boxes : List (Sealed Secret)} {os : List (Order Secret)} {slots : Slots} {ds : List Secret} {gs : List Secret} {z : Vault Secret} →
    (s : ℕ) (x : Secret) (ks : List Secret) (ss : List (Sealed Secret)) → slots s ≡ Some x →
    Runs boxes os (vault slots ds (ss ++ each x ks) gs) z → Runs boxes (map (seal s) ks ++ os) (vault slots ds ss gs) z
seal-all s x [] ss e r = rw append-nil at r
seal-all {boxes} {os} {slots} {ds} {gs} {z} s x (k ∷ ks) ss e r =
    then-seal s k x e (seal-all s x ks (ss ++ (record { key = k; holds = x } ∷ [])) e (rw append_assoc r))

-- the slots may be written in another way
pub runs-from :
    {boxes : List (Sealed Secret)} {os : List (Order Secret)} {a b : Slots} {ds : List Secret} {ss : List (Sealed Secret)} {gs : List Secret} {z : Vault Secret} →
    a ≡ b → Runs boxes os (vault b ds ss gs) z → Runs boxes os (vault a ds ss gs) z
runs-from e r = rw e r

pub runs_to :
    {boxes : List (Sealed Secret)} {os : List (Order Secret)} {v : Vault Secret} {a b : Slots} {ds : List Secret} {ss : List (Sealed Secret)} {gs : List Secret} →
    Runs boxes os v (vault a ds ss gs) → a ≡ b → Runs boxes os v (vault b ds ss gs)
runs_to r e = rw (← e) r

pub runs-end :
    {boxes : List (Sealed Secret)} {os : List (Order Secret)} {v : Vault Secret} {a b : Slots} {ds : List Secret} {ss zs : List (Sealed Secret)} {gs hs : List Secret} →
    Runs boxes os v (vault a ds ss gs) → a ≡ b → ss ≡ zs → gs ≡ hs → Runs boxes os v (vault b ds zs hs)
runs-end r e f h = rw (← e, ← f, ← h) r

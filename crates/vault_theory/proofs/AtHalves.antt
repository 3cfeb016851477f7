-- Runs at secrets are runs at halves: order by order.
-- Assumes nothing.
use Rattle.std.proofs.Common.{◌≡◌, ℕ, zero, suc, Bool, true, false, cond, not, ◌&&◌, T, ltb, List, [], ◌∷◌, map, is_some, Some, None, Option, refl, ap, ◌∙◌, arith}
use mathlib.Core.List.{map-append}
use Rattle.std.proofs.lemmas.Option.{same_Some}
use Rattle.theory.specs.Known.{same}
use Rattle.theory.specs.Secrets.{Secret, Box}
use Rattle.theory.proofs.Known.{same-is}
use Rattle.vault_theory.specs.Order.{Order, draw, derive, mix, seal, unseal, forget, publish, slot_count, map_order}
use Rattle.vault_theory.specs.Vault.{Halves, Sealed, sealed_box, Vault, themselves, put, and_then, nth, filled, drew, has_sealed, has_given, step, run}
use Rattle.vault_theory.specs.AtHalves.{map_sealed, map_vault, Carries, RunsAtHalves}

module _ {K : Type 0} (keys : Halves K) (reflexive : (k : K) → T (keys.same k k)) where
  abbrev there : Vault Secret → Vault K
  there v = map_vault keys.half v

  -- what ends in u here ends in its image there
  abbrev Carried : Option (Vault Secret) → Option (Vault K) → Type 0
  Carried o p = (u : Vault Secret) → o ≡ Some u → p ≡ Some (there u)

  carried_some : (v : Vault Secret) (x : Vault K) → x ≡ there v → Carried (Some v) (Some x)
  carried_some v x e u d = ap Some (e ∙ ap there (same_Some _ _ d))

  carried_none : (p : Option (Vault K)) → Carried None p
  carried_none p u d = cc

  carried-then :
      {A : Type 0} (o : Option A) (f : A → Option (Vault Secret)) (g : A → Option (Vault K)) → ((x : A) → Carried (f x) (g x)) →
      Carried (and_then o f) (and_then o g)
  carried-then None f g h = carried_none None
  carried-then (Some x) f g h = h x

  filled-carried : (t : ℕ) (x : Secret) (v : Vault Secret) → Carried (filled t x v) (filled t x (there v))
  filled-carried t x v = go (ltb t slot_count && not (is_some (v.slots t)))
    where
      go :
          (b : Bool) →
          Carried (cond b (Some (record { slots = put t (Some x) v.slots; draws = v.draws; sealed = v.sealed; given = v.given })) None)
          (cond b (Some (record { slots = put t (Some x) (there v).slots; draws = (there v).draws; sealed = (there v).sealed; given = (there v).given })) None)
      go true = carried_some _ _ refl
      go false = carried_none _

  drew-carried : (t : ℕ) (xs : List Secret) (v : Vault Secret) → Carried (drew t xs v) (drew t xs (there v))
  drew-carried t [] v = carried_none None
  drew-carried t (x ∷ xs) v =
      filled-carried t x (record { slots = v.slots; draws = xs; sealed = v.sealed; given = v.given })

  -- the box with a number
  nth-carried :
      (bs : List (Sealed Secret)) (n : ℕ) (f : Sealed Secret → Option (Vault Secret)) (g : Sealed K → Option (Vault K)) →
      ((b : Sealed Secret) → Carried (f b) (g (map_sealed keys.half b))) →
      Carried (and_then (nth bs n) f) (and_then (nth (map (map_sealed keys.half) bs) n) g)
  unfolding nth
  nth-carried [] n f g h = carried_none None
  nth-carried (b ∷ bs) zero f g h = h b
  nth-carried (b ∷ bs) (suc n) f g h = nth-carried bs n f g h

  -- a box that opens here opens there
  opens-carried :
      (k x : Secret) (o : Option (Vault Secret)) (p : Option (Vault K)) → Carried o p →
      Carried (cond (same k x) o None) (cond (keys.same (keys.half k) (keys.half x)) p None)
  opens-carried k x o p h = grind (arith, same-is)

  sealed-there :
      (k x : Secret) (v : Vault Secret) → has_sealed (keys.half k) x (there v) ≡ there (has_sealed k x v)
  sealed-there k x v = search (map-append)

  given-there : (k : Secret) (v : Vault Secret) → has_given (keys.half k) (there v) ≡ there (has_given k v)
  given-there k v = search (map-append)

  -- ONE ORDER.
  pub step-carried :
      (bs : List (Sealed Secret)) (o : Order Secret) (v u : Vault Secret) → step themselves bs o v ≡ Some u →
      step keys (map (map_sealed keys.half) bs) (map_order keys.half o) (map_vault keys.half v) ≡ Some (map_vault keys.half u)
  unfolding step
  step-carried bs (draw t) v = drew-carried t v.draws v
  step-carried bs (derive w s t) v = search (carried-then, filled-carried)
  step-carried bs (mix s p t) v = grind arith
  step-carried bs (seal s k) v = search (carried-then, carried_some, sealed-there)
  step-carried bs (unseal n s t) v = search (carried-then, nth-carried, opens-carried, filled-carried)
  step-carried bs (forget s) v = search (carried-then, carried_some)
  step-carried bs (publish s) v = search (carried-then, carried_some, given-there)

  -- ORDERS one after the other.
  carried-next :
      (o : Option (Vault Secret)) (p : Option (Vault K)) (f : Vault Secret → Option (Vault Secret)) (g : Vault K → Option (Vault K)) →
      Carried o p → ((v : Vault Secret) → Carried (f v) (g (there v))) → Carried (and_then o f) (and_then p g)
  carried-next None p f g h k u d = cc
  carried-next (Some v) p f g h k u d = ap (λ q. and_then q g) (h v refl) ∙ k v u d

  pub run-carried :
      (bs : List (Sealed Secret)) (os : List (Order Secret)) (v u : Vault Secret) → run themselves bs os v ≡ Some u →
      run keys (map (map_sealed keys.half) bs) (map (map_order keys.half) os) (map_vault keys.half v) ≡ Some (map_vault keys.half u)
  unfolding run
  run-carried bs [] v = carried_some v _ refl
  run-carried bs (o ∷ os) v = carried-next (step themselves bs o v) _ _ _ (step-carried bs o v) (run-carried bs os)

  -- boxes at halves are the image of boxes at secrets
  boxes_there : (bs : List Box) → map (map_sealed keys.half) (map (sealed_box (λ s. s)) bs) ≡ map (sealed_box keys.half) bs
  boxes_there [] = refl
  boxes_there (b ∷ bs) = ap (λ xs. sealed_box keys.half b ∷ xs) (boxes_there bs)

  pub run-at-halves : (bs : List Box) (os : List (Order Secret)) (v u : Vault Secret) → Carries keys bs os v u
  run-at-halves bs os v u e = grind (arith, boxes_there, run-carried)

pub runs_at_halves : RunsAtHalves
runs_at_halves = run-at-halves

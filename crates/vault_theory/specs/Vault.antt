-- A vault that works on symbolic secrets, and what it does with an order.
-- `Halves`: how keys are named by their public halves; `Sealed`, `sealed_box`: a box as a vault sees it; `Vault`; `put`: a slot changed;
-- `filled`, `step`: one order, or none where it can't be carried out; `run`: orders one after the other.
-- Assumes nothing.
use Rattle.std.specs.Prelude.{ℕ, zero, suc, Bool, cond, not, ◌&&◌, List, [], ◌∷◌, ◌++◌, is_some, Some, None, Option, ◌==◌, nat_lt}
use Rattle.theory.specs.Known as known
use Rattle.theory.specs.Secrets as secrets
use Rattle.theory.specs.Secrets.{Secret, Box}
use Rattle.vault_theory.specs.Order.{derived, Order, draw, derive, mix, seal, unseal, forget, publish, slot_count}

-- the public half of each secret, and whether two halves are the same
pub record Halves (K : Type 0) : Type 0 where
  pub half : Secret → K
  pub same : K → K → Bool

-- where a key is named by itself
abbrev pub themselves : Halves Secret
themselves = record { half = λ s. s; same = known.same }

-- a secret sealed to whoever has the key with that half
pub record Sealed (K : Type 0) : Type 0 where
  pub key : K
  pub holds : Secret

abbrev pub sealed_box : {K : Type 0} → (Secret → K) → Box → Sealed K
sealed_box half b = record { key = half b.key; holds = b.holds }

-- the slots; what will be drawn, in its order; what was sealed and which halves were given, in their order
pub record Vault (K : Type 0) : Type 0 where
  pub slots : ℕ → Option Secret
  pub draws : List Secret
  pub sealed : List (Sealed K)
  pub given : List K

-- the slots with one of them changed
abbrev pub put : ℕ → Option Secret → (ℕ → Option Secret) → ℕ → Option Secret
put s x slots i = cond (i == s) x (slots i)

-- go on with what is there, if it is
abbrev pub and_then : {A B : Type 0} → Option A → (A → Option B) → Option B
and_then None f = None
and_then (Some x) f = f x

-- box number n
unfoldable pub nth : {A : Type 0} → List A → ℕ → Option A
nth [] n = None
nth (x ∷ xs) zero = Some x
nth (x ∷ xs) (suc n) = nth xs n

-- the vault with a secret in a slot that was empty
abbrev pub filled : {K : Type 0} → ℕ → Secret → Vault K → Option (Vault K)
filled t x v =
    cond (nat_lt t slot_count && not (is_some (v.slots t)))
    (Some (record { slots = put t (Some x) v.slots; draws = v.draws; sealed = v.sealed; given = v.given }))
    None

-- the vault that has drawn, given what is left to draw
abbrev pub drew : {K : Type 0} → ℕ → List Secret → Vault K → Option (Vault K)
drew t [] v = None
drew t (x ∷ xs) v = filled t x (record { slots = v.slots; draws = xs; sealed = v.sealed; given = v.given })

abbrev pub emptied : {K : Type 0} → ℕ → Vault K → Vault K
emptied s v = record { slots = put s None v.slots; draws = v.draws; sealed = v.sealed; given = v.given }

abbrev pub has_sealed : {K : Type 0} → K → Secret → Vault K → Vault K
has_sealed k x v =
    record {
      slots = v.slots;
      draws = v.draws;
      sealed = v.sealed ++ (record { key = k; holds = x } ∷ []);
      given = v.given;
    }

abbrev pub has_given : {K : Type 0} → K → Vault K → Vault K
has_given k v = record { slots = v.slots; draws = v.draws; sealed = v.sealed; given = v.given ++ (k ∷ []) }

-- one order, with the boxes of a message at hand. None where nothing is left to draw, an empty slot is read or forgotten, a filled one written, a slot isn't there,
-- or a box isn't there or is sealed to another key.
unfoldable pub step : {K : Type 0} → Halves K → List (Sealed K) → Order K → Vault K → Option (Vault K)
step keys boxes (draw t) v = drew t v.draws v
step keys boxes (derive w s t) v = and_then (v.slots s) (λ x. filled t (derived w x) v)
step keys boxes (mix s p t) v = and_then (v.slots s) (λ x. and_then (v.slots p) (λ y. filled t (secrets.mix x y) v))
step keys boxes (seal s k) v = and_then (v.slots s) (λ x. Some (has_sealed k x v))
step keys boxes (unseal n s t) v =
    and_then (v.slots s) (λ x. and_then (nth boxes n) (λ b.
    cond (keys.same b.key (keys.half x)) (filled t b.holds v) None))
step keys boxes (forget s) v = and_then (v.slots s) (λ x. Some (emptied s v))
step keys boxes (publish s) v = and_then (v.slots s) (λ x. Some (has_given (keys.half x) v))

-- orders one after the other; none where one of them can't be carried out
unfoldable pub run : {K : Type 0} → Halves K → List (Sealed K) → List (Order K) → Vault K → Option (Vault K)
run keys boxes [] v = Some v
run keys boxes (o ∷ os) v = and_then (step keys boxes o v) (run keys boxes os)

-- What a vault carries out where every key is named by itself, it carries out where keys are named by their public halves.
-- `map_sealed`, `map_vault`: the same with keys mapped; `Carries`: one run; `RunsAtHalves`: every run, at halves that are bytes.
-- Assumes nothing.
use Rattle.std.specs.Prelude.{◌≡◌, ℕ, T, List, map, Some}
use Rattle.theory.specs.Secrets.{Secret, Box}
use Rattle.vault_theory.specs.Order.{Order, map_order}
use Rattle.vault_theory.specs.Vault.{Halves, Sealed, sealed_box, Vault, themselves, run}

abbrev pub map_sealed : {A B : Type 0} → (A → B) → Sealed A → Sealed B
map_sealed f b = record { key = f b.key; holds = b.holds }

-- the same vault, with what it sealed and gave at mapped keys
abbrev pub map_vault : {A B : Type 0} → (A → B) → Vault A → Vault B
map_vault f v = record { slots = v.slots; draws = v.draws; sealed = map (map_sealed f) v.sealed; given = map f v.given }

-- a run that ends without fault ends so at halves, with the same slots
abbrev pub Carries : {K : Type 0} → Halves K → List Box → List (Order Secret) → Vault Secret → Vault Secret → Type 0
Carries keys bs os v u =
    run themselves (map (sealed_box (λ s. s)) bs) os v ≡ Some u →
    run keys (map (sealed_box keys.half) bs) (map (map_order keys.half) os) (map_vault keys.half v)
    ≡ Some (map_vault keys.half u)

-- whatever the halves may be, as long as each is found the same as itself: no two secrets need to have different halves
abbrev pub RunsAtHalves : Type 0
RunsAtHalves =
    (keys : Halves (List ℕ)) → ((k : List ℕ) → T (keys.same k k)) →
    (bs : List Box) (os : List (Order Secret)) (v u : Vault Secret) → Carries keys bs os v u

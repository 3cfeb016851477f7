-- The largest box number changes nothing in orders that open no box.
-- Assumes nothing.
use Rattle.std.proofs.Common.{◌≡◌, ℕ, suc, Bool, true, false, cond, ◌||◌, List, [], ◌∷◌, ◌++◌, map, refl, ap, ◌∙◌, ap₂}
use Rattle.std.proofs.lemmas.List.{map-append}
use Rattle.theory.specs.Group.{Change, renew, remove, add}
use Rattle.theory.specs.Tree.{Tree, leaf, node, Parent, height, resolution, seated}
use Rattle.theory.proofs.Tests.{by_cond}
use Rattle.vault_theory.specs.Order.{Order, draw, forget, mix, publish, seal, epoch_slot, slot_of_key, slot_of_path, seed_slot, talk_slot}
use Rattle.vault_theory.specs.Numbers.{is_held, levels}
use Rattle.vault_theory.specs.Orders.{abandoned, climbed, dropped, dropped_for, held_forgotten, leaving, made, renewed, risen, sealed_up, turned}
use Rattle.vault_theory.specs.Capped.{cap_order}
use Rattle.orders.specs.Roles.{committing_on}

-- a list of orders that stays as it is
abbrev pub Plain : {K : Type 0} → List (Order K) → Type 0
Plain os = map cap_order os ≡ os

pub plain-append : {K : Type 0} (xs ys : List (Order K)) → Plain xs → Plain ys → Plain (xs ++ ys)
plain-append xs ys p q = map-append cap_order xs ys ∙ ap₂ (λ a b. a ++ b) p q

-- behind a list that may open boxes
pub capped-then : {K : Type 0} (xs ys : List (Order K)) → Plain ys → map cap_order (xs ++ ys) ≡ map cap_order xs ++ ys
capped-then xs ys q = map-append cap_order xs ys ∙ ap (λ l. map cap_order xs ++ l) q

pub plain-if : {K : Type 0} (b : Bool) (xs : List (Order K)) → Plain xs → Plain (cond b xs [])
plain-if true xs p = p
plain-if false xs p = refl

pub plain-held : {K : Type 0} (w : ℕ) (p : Parent K) (h : ℕ) → Plain (held_forgotten w p h)
plain-held w p h = plain-if (is_held w p) (forget (slot_of_key h) ∷ []) refl

pub plain-climbed : {K : Type 0} (i h : ℕ) (ks : List K) → Plain (climbed i h ks)
plain-climbed i h [] = refl
plain-climbed i h (k ∷ ks) = refl

pub plain-passed : {K : Type 0} (w : ℕ) (p : Parent K) (i h : ℕ) (ks : List K) → Plain (held_forgotten w p h ++ climbed i h ks)
plain-passed w p i h ks = plain-append (held_forgotten w p h) (climbed i h ks) (plain-held w p h) (plain-climbed i h ks)

pub plain-seals : {K : Type 0} (s : ℕ) (ks : List K) → Plain (map (seal s) ks)
plain-seals s [] = refl
plain-seals s (k ∷ ks) = ap (λ l. seal s k ∷ l) (plain-seals s ks)

plain-sealed : {K : Type 0} (i h : ℕ) (ks : List K) → Plain (sealed_up i h ks)
plain-sealed i h [] = refl
plain-sealed i h (k ∷ ks) =
    plain-append (map (seal (slot_of_path i)) (k ∷ ks)) (risen i h (publish (slot_of_key h) ∷ [])) (plain-seals (slot_of_path i) (k ∷ ks)) refl

pub plain-made : {K : Type 0} (c : ℕ) (t : Tree K) → Plain (made c t)
unfolding made
plain-made c (leaf x) = refl
plain-made c (node p l r) =
    by_cond Plain (seated c l) _ _
    (λ _. plain-append (made c l) (held_forgotten c p (suc (height l)) ++ sealed_up (levels c l) (suc (height l)) (resolution r)) (plain-made c l)
    (plain-append (held_forgotten c p (suc (height l))) (sealed_up (levels c l) (suc (height l)) (resolution r)) (plain-held c p (suc (height l))) (plain-sealed (levels c l) (suc (height l)) (resolution r))))
    (λ _. plain-append (made c r) (held_forgotten c p (suc (height l)) ++ sealed_up (levels c r) (suc (height l)) (resolution l)) (plain-made c r)
    (plain-append (held_forgotten c p (suc (height l))) (sealed_up (levels c r) (suc (height l)) (resolution l)) (plain-held c p (suc (height l))) (plain-sealed (levels c r) (suc (height l)) (resolution l))))

plain-dropped : {K : Type 0} (w m : ℕ) (t : Tree K) → Plain (dropped w m t)
unfolding dropped
plain-dropped w m (leaf x) = refl
plain-dropped w m (node p l r) =
    plain-append (cond (seated w l) (dropped w m l) (dropped w m r)) (cond (seated m l || seated m r) (held_forgotten w p (suc (height l))) [])
    (by_cond Plain (seated w l) _ _ (λ _. plain-dropped w m l) (λ _. plain-dropped w m r))
    (plain-if (seated m l || seated m r) (held_forgotten w p (suc (height l))) (plain-held w p (suc (height l))))

pub plain-dropped-for : {K : Type 0} (w : ℕ) (x : Change) (t : Tree K) → Plain (dropped_for w x t)
plain-dropped-for w renew t = refl
plain-dropped-for w (remove m) t = plain-dropped w m t
plain-dropped-for w (add m) t = refl

plain-abandoned : {K : Type 0} (w : ℕ) (t : Tree K) → Plain (abandoned w t)
unfolding abandoned
plain-abandoned w (leaf x) = refl
plain-abandoned w (node p l r) =
    plain-append (cond (seated w l) (abandoned w l) (abandoned w r)) (held_forgotten w p (suc (height l)))
    (by_cond Plain (seated w l) _ _ (λ _. plain-abandoned w l) (λ _. plain-abandoned w r)) (plain-held w p (suc (height l)))

pub plain-leaving : {K : Type 0} (w : ℕ) (t : Tree K) → Plain (leaving w t)
plain-leaving w t = ap (λ l. forget talk_slot ∷ forget seed_slot ∷ l) (plain-abandoned w t)

pub plain-turned : {K : Type 0} (n : ℕ) (sealing : List (Order K)) → Plain sealing → Plain (turned n sealing)
plain-turned n sealing p =
    ap (λ l. mix seed_slot (slot_of_path n) epoch_slot ∷ forget (slot_of_path n) ∷ forget talk_slot ∷ forget seed_slot ∷ l) (plain-append sealing renewed p refl)

pub plain-committing : {K : Type 0} (c : ℕ) (x : Change) (inits : List K) (t u : Tree K) → Plain (committing_on c x inits t u)
plain-committing c x inits t u =
    plain-append (dropped_for c x t)
    (forget (slot_of_key 0) ∷ draw (slot_of_key 0) ∷ publish (slot_of_key 0) ∷ draw (slot_of_path 0) ∷ (made c u ++ turned (levels c u) (map (seal epoch_slot) inits)))
    (plain-dropped-for c x t)
    (ap (λ l. forget (slot_of_key 0) ∷ draw (slot_of_key 0) ∷ publish (slot_of_key 0) ∷ draw (slot_of_path 0) ∷ l)
    (plain-append (made c u) (turned (levels c u) (map (seal epoch_slot) inits)) (plain-made c u) (plain-turned (levels c u) (map (seal epoch_slot) inits) (plain-seals epoch_slot inits))))

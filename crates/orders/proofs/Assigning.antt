-- The orders of a role, put together from its parts.
-- Assumes nothing.
use Rattle.std.proofs.Common.{◌≡◌, ℕ, eqb, List, [], ◌∷◌, ◌++◌, map, sym, refl, ap, ◌∙◌, ap₂}
use Rattle.std.proofs.lemmas.List.{map-append}
use Rattle.std.proofs.lemmas.Bool.{cond-true, eq-eqb}
use Rattle.theory.specs.Group.{Change, remove}
use Rattle.theory.specs.Tree.{Tree}
use Rattle.vault_theory.specs.Numbers.{levels, posted}
use Rattle.vault_theory.specs.Order.{draw, forget, publish, seal, unseal, epoch_slot, init_slot, slot_of_key, slot_of_path}
use Rattle.vault_theory.specs.Orders.{dropped_for, followed, leaving, made, renewed, turned}
use Rattle.ratchet_tree.specs.declared.member.MemberId.{MemberId}
use Rattle.commits.specs.Counts.{capped}
use Rattle.messages.specs.Take.{change_asked}
use Rattle.messages.specs.declared.message.MessageChange.{MessageChange}
use Rattle.messages.specs.declared.message.MessageChange.TheVariants.{Remove}
use Rattle.vault_theory.specs.Capped.{cap_order}
use Rattle.orders.specs.Roles.{committing_on, orders_on, staying_on, taking_on, welcomed_on}
use Rattle.orders.proofs.Capping.{capped-then, plain-committing, plain-dropped-for, plain-leaving}

module _ {K : Type 0} (w c n : ℕ) (u : Tree K) (level : n ≡ levels c u) where
  pub stays : (x : Change) (t : Tree K) → dropped_for w x t ++ (map cap_order (followed w c u) ++ turned n []) ≡ map cap_order (staying_on w c x t u)
  stays x t =
      ap (λ i. dropped_for w x t ++ (map cap_order (followed w c u) ++ turned i [])) level
      ∙ sym (map-append cap_order (dropped_for w x t) (followed w c u ++ turned (levels c u) [])
      ∙ ap₂ (λ a b. a ++ b) (plain-dropped-for w x t) (capped-then (followed w c u) (turned (levels c u) []) refl))

  pub enters : (number slot : ℕ) → number ≡ capped (posted c u) → slot ≡ slot_of_path n →
      unseal number init_slot epoch_slot ∷ forget init_slot ∷ (map cap_order (followed w c u) ++ (forget slot ∷ renewed)) ≡ map cap_order (welcomed_on w c u)
  enters number slot e f =
      ap₂ (λ k s. unseal k init_slot epoch_slot ∷ forget init_slot ∷ (map cap_order (followed w c u) ++ (forget s ∷ renewed))) e (f ∙ ap slot_of_path level)
      ∙ ap (λ l. unseal (capped (posted c u)) init_slot epoch_slot ∷ forget init_slot ∷ l)
      (sym (capped-then (followed w c u) (forget (slot_of_path (levels c u)) ∷ renewed) refl))

pub commits : {K : Type 0} (c n slot : ℕ) (x : Change) (ks inits : List K) (t u : Tree K) → n ≡ levels c u → slot ≡ slot_of_path 0 → ks ≡ inits →
    dropped_for c x t
    ++ (forget (slot_of_key 0) ∷ draw (slot_of_key 0) ∷ publish (slot_of_key 0) ∷ draw slot ∷ (made c u ++ turned n (map (seal epoch_slot) ks)))
    ≡ committing_on c x inits t u
commits c n slot x ks inits t u e f g =
    ap₂ (λ i s. dropped_for c x t ++ (forget (slot_of_key 0) ∷ draw (slot_of_key 0) ∷ publish (slot_of_key 0) ∷ draw s ∷ (made c u ++ turned i (map (seal epoch_slot) ks)))) e f
    ∙ ap (λ l. committing_on c x l t u) g

-- who is removed
pub takes-removed : {K : Type 0} (w c : ℕ) (t u : Tree K) (x : MessageChange) (m : MemberId) → x ≡ Remove m → m.0 ≡ w → leaving w t ≡ map cap_order (taking_on w c (change_asked x) t u)
takes-removed w c t u x m e s =
    sym (ap (λ (y : MessageChange). map cap_order (taking_on w c (change_asked y) t u)) e
    ∙ ap (map cap_order) (cond-true (eqb m.0 w) (leaving w t) (staying_on w c (remove m.0) t u) (eq-eqb m.0 w s)) ∙ plain-leaving w t)

-- the committer
pub orders-own : {K : Type 0} (w c : ℕ) (x : Change) (inits : List K) (t u : Tree K) → w ≡ c → committing_on c x inits t u ≡ map cap_order (orders_on w c x inits t u)
orders-own w c x inits t u e =
    sym (ap (map cap_order) (cond-true (eqb w c) (committing_on c x inits t u) (taking_on w c x t u) (eq-eqb w c e)) ∙ plain-committing c x inits t u)

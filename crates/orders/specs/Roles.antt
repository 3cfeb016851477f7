-- The orders of each role in a commit, from the tree before it and the tree that its path is laid on.
-- `init_in`, `init_keys`: the newcomer's init key in a message; `staying_on`, `committing_on`, `welcomed_on`, `joining_on`, `taking_on`, `orders_on`: the roles, as the code has both trees.
-- Assumes nothing.
use Rattle.std.specs.Prelude.{ℕ, cond, List, [], ◌∷◌, ◌++◌, map, ◌==◌}
use Rattle.theory.specs.Group.{Change, renew, remove, add}
use Rattle.theory.specs.Tree.{Tree}
use Rattle.vault_theory.specs.Numbers.{levels, posted}
use Rattle.vault_theory.specs.Order.{Order, draw, forget, publish, seal, unseal, epoch_slot, init_slot, slot_of_key, slot_of_path}
use Rattle.vault_theory.specs.Orders.{dropped_for, followed, introduced, leaving, made, renewed, turned}
use Rattle.ratchet_tree.specs.declared.member.PublicKey.{PublicKey}
use Rattle.messages.specs.declared.message.MessageChange.{MessageChange}
use Rattle.messages.specs.declared.message.MessageChange.TheVariants.{Renew, Remove, Add}

-- the newcomer's init key; only an add has one
abbrev pub init_keys : MessageChange → List PublicKey
init_keys Renew = []
init_keys (Remove m) = []
init_keys (Add m k i) = i ∷ []

-- the same, where another key stands in
abbrev pub init_in : PublicKey → MessageChange → PublicKey
init_in own Renew = own
init_in own (Remove m) = own
init_in own (Add m k i) = i

abbrev pub staying_on : {K : Type 0} → ℕ → ℕ → Change → Tree K → Tree K → List (Order K)
staying_on w c x t u = dropped_for w x t ++ (followed w c u ++ turned (levels c u) [])

abbrev pub committing_on : {K : Type 0} → ℕ → Change → List K → Tree K → Tree K → List (Order K)
committing_on c x inits t u =
    dropped_for c x t
    ++ (forget (slot_of_key 0) ∷ draw (slot_of_key 0) ∷ publish (slot_of_key 0) ∷ draw (slot_of_path 0)
    ∷ (made c u ++ turned (levels c u) (map (seal epoch_slot) inits)))

abbrev pub welcomed_on : {K : Type 0} → ℕ → ℕ → Tree K → List (Order K)
welcomed_on w c u =
    unseal (posted c u) init_slot epoch_slot ∷ forget init_slot ∷ (followed w c u ++ (forget (slot_of_path (levels c u)) ∷ renewed))

abbrev pub joining_on : {K : Type 0} → ℕ → ℕ → Tree K → List (Order K)
joining_on w c u = introduced ++ welcomed_on w c u

abbrev pub taking_on : {K : Type 0} → ℕ → ℕ → Change → Tree K → Tree K → List (Order K)
taking_on w c renew t u = staying_on w c renew t u
taking_on w c (remove m) t u = cond (m == w) (leaving w t) (staying_on w c (remove m) t u)
taking_on w c (add m) t u = cond (m == w) (joining_on w c u) (staying_on w c (add m) t u)

abbrev pub orders_on : {K : Type 0} → ℕ → ℕ → Change → List K → Tree K → Tree K → List (Order K)
orders_on w c x inits t u = cond (w == c) (committing_on c x inits t u) (taking_on w c x t u)

-- The numbers of boxes stay small: a path's boxes are fewer than the members, and a sum that stops at the largest number of eight bytes is the sum.
-- `BoxesThere`: the number of a box that is opened is one of the path; `BoxesFew`: how many boxes a path has;
-- `cap_order`: an order with the number of its box capped; `CapKeeps`: capping changes no order.
-- Assumes nothing.
use Rattle.std.specs.Prelude.{◌≡◌, ℕ, ◌-◌, ◌^◌, ◌<◌, ◌≤◌, min, not, T, map, is_some}
use mathlib.Core.List.{Memᴰ}
use Rattle.theory.specs.Limits.{max_depth}
use Rattle.theory.specs.Secrets.{Secret}
use Rattle.theory.specs.Tree.{Tree, seated, members, is_level}
use Rattle.theory.specs.Wellformed.{consistent}
use Rattle.theory.specs.Group.{Commit, refusal}
use Rattle.vault_theory.specs.Order.{Order, draw, derive, mix, seal, unseal, forget, publish}
use Rattle.vault_theory.specs.Numbers.{posted}
use Rattle.vault_theory.specs.Orders.{followed, orders_of}

-- in a tree that is level and consistent, where w and the committer are seated: w opens a box that the path has
abbrev pub BoxesThere : Type 0
BoxesThere =
    (d : ℕ) (u : Tree Secret) → T (is_level d u) → T (consistent u) → (w c : ℕ) → T (seated w u) → T (seated c u) →
    (n s t : ℕ) → Memᴰ (unseal n s t) (followed w c u) → n < posted c u

-- and the path has fewer boxes than there are members
abbrev pub BoxesFew : Type 0
BoxesFew =
    (d : ℕ) (u : Tree Secret) → T (is_level d u) → T (consistent u) → (c : ℕ) → T (seated c u) →
    (posted c u < members u) × (members u ≤ 2 ^ d)

-- the largest number of eight bytes
abbrev pub cap : ℕ
cap = 2 ^ 64 - 1

-- the same order, with the number of its box no more than that
abbrev pub cap_order : {K : Type 0} → Order K → Order K
cap_order (draw t) = draw t
cap_order (derive w s t) = derive w s t
cap_order (mix s p t) = mix s p t
cap_order (seal s k) = seal s k
cap_order (unseal n s t) = unseal (min n cap) s t
cap_order (forget s) = forget s
cap_order (publish s) = publish s

-- every order, whoever's it is, for a commit that isn't refused
abbrev pub CapKeeps : Type 0
CapKeeps =
    (d : ℕ) (t : Tree Secret) → T (is_level d t) → d ≤ max_depth → T (consistent t) →
    (e : ℕ) (c : Commit) → T (not (is_some (refusal e c t))) → (w : ℕ) (fresh init : Secret) →
    map cap_order (orders_of w c fresh init t) ≡ orders_of w c fresh init t

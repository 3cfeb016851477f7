-- Orders ask nothing of a key: each commutes with a map of the keys.
-- `OrdersNatural`: the equations, for one map; `OrdersNaturality`: they hold.
-- Assumes nothing.
use Rattle.std.specs.Prelude.{◌≡◌, ℕ, List, map}
use Rattle.theory.specs.Secrets.{Secret}
use Rattle.theory.specs.Tree.{Tree}
use Rattle.theory.specs.Group.{Commit}
use Rattle.theory.specs.Natural.{map_tree}
use Rattle.vault_theory.specs.Order.{map_order}
use Rattle.vault_theory.specs.Numbers.{levels, posted, number_of_key, height_of_key}
use Rattle.vault_theory.specs.Orders.{orders_of}

pub record OrdersNatural {A B : Type 0} (f : A → B) : Type 0 where
  -- what a member has to know of a path doesn't depend on the keys
  pub levels : (c : ℕ) (t : Tree A) → levels c (map_tree f t) ≡ levels c t
  pub posted : (c : ℕ) (t : Tree A) → posted c (map_tree f t) ≡ posted c t
  pub number_of_key : (w : ℕ) (t : Tree A) → number_of_key w (map_tree f t) ≡ number_of_key w t
  pub height_of_key : (w : ℕ) (t : Tree A) → height_of_key w (map_tree f t) ≡ height_of_key w t
  -- orders from a mapped tree, with mapped keys that come in, are the orders with their keys mapped
  pub orders :
      (w : ℕ) (c : Commit) (fresh init : A) (t : Tree A) →
      orders_of w c (f fresh) (f init) (map_tree f t) ≡ map (map_order f) (orders_of w c fresh init t)

-- whatever a public half may be, the orders at halves are the image of the orders at secrets
abbrev pub OrdersNaturality : Type 0
OrdersNaturality = (f : Secret → List ℕ) → OrdersNatural f

-- Orders appended to a list of the code's.
-- `Gives`: what a list holds after an append that may find no memory; `GivesTo`: the same, by a function that answers the level of the path.
-- Assumes nothing.
use Rattle.std.specs.Prelude.{◌≡◌, ℕ, List, ◌++◌, map, Ok, Err, Result}
use Rattle.ratchet_tree.specs.Keys.{Appends}
use Rattle.ratchet_tree.specs.declared.member.PublicKey.{PublicKey}
use Rattle.vault_theory.specs.Order as theory
use Rattle.orders.specs.Order.{order_of}
use Rattle.orders.specs.declared.order.Order.{Order}

-- `more` was appended; where there was no memory nothing is said of what is left
abbrev pub Gives : {T E : Type 0} → List (theory.Order PublicKey) → List Order → List Order → Result T E → Type 0
Gives more before after r = Appends (map order_of before) more (map order_of after) r

-- `more` was appended, and n is the level of the path secret that is there then
pub record Risen (to : ℕ) (more : List (theory.Order PublicKey)) (before after : List Order) (n : ℕ) : Type 0 where
  pub level : n ≡ to
  pub items : map order_of after ≡ map order_of before ++ more

abbrev pub GivesTo : {E : Type 0} → ℕ → List (theory.Order PublicKey) → List Order → List Order → Result ℕ E → Type 0
GivesTo to more before after (Ok n) = Risen to more before after n
GivesTo to more before after (Err e) = Unit {0}

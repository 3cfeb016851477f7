-- The code's orders as those of the theory.
-- `way_of`, `order_of`.
-- Assumes nothing.
use Rattle.ratchet_tree.specs.declared.member.PublicKey.{PublicKey}
use Rattle.vault_theory.specs.Order as theory
use Rattle.orders.specs.declared.order.Order as order
use Rattle.orders.specs.declared.order.Way as way

abbrev pub way_of : way.Way → theory.Way
way_of way.TheVariants.Up = theory.up
way_of way.TheVariants.Lock = theory.lock
way_of way.TheVariants.Seed = theory.seed
way_of way.TheVariants.Talk = theory.talk

abbrev pub order_of : order.Order → theory.Order PublicKey
order_of (order.TheVariants.Draw t) = theory.draw t.0
order_of (order.TheVariants.Derive w s t) = theory.derive (way_of w) s.0 t.0
order_of (order.TheVariants.Mix s p t) = theory.mix s.0 p.0 t.0
order_of (order.TheVariants.Seal s k) = theory.seal s.0 k
order_of (order.TheVariants.Open n s t) = theory.unseal n s.0 t.0
order_of (order.TheVariants.Forget s) = theory.forget s.0
order_of (order.TheVariants.Public s) = theory.publish s.0

use Rattle.std.proofs.Common.{◌≡◌, ◌++◌, map, take, vec_items}
use Rattle.vault_theory.specs.Order.{seal}
use Rattle.orders.specs.Order.{order_of}
use Rattle.orders.proofs.make.seal_to.Given as goal

abbrev pub invariant-loop-key : goal.invariant-loop-key
invariant-loop-key l = map order_of (vec_items l.out) ≡ map order_of (vec_items l.initial.out) ++ map (seal l.slot.0) (take l.key-index l.keys)

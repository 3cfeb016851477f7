-- The worked orders, computed.
-- Assumes nothing.
use Rattle.std.proofs.Common.{refl}
use Rattle.theory.specs.Secrets.{ups}
use Rattle.theory.specs.Tree.{seated, full, members, height, leaf_key, leaf_keys, resolution, blank_tree, added, removed}
use Rattle.theory.specs.Path.{laid}
use Rattle.theory.specs.Held.{is_unmerged}
use Rattle.theory.specs.Group.{committed, group}
use Rattle.vault_theory.specs.Order.{slot_of_path}
use Rattle.vault_theory.specs.Numbers.{levels, posted, before, number_of_key, height_of_key}
use Rattle.vault_theory.specs.Orders.{dropped, followed, made, abandoned}
use Rattle.vault_theory.specs.Worked.{WorkedOrders}

pub worked_orders : WorkedOrders
unfolding ups seated full members height leaf_key leaf_keys resolution blank_tree added removed laid is_unmerged committed group slot_of_path levels posted before number_of_key height_of_key dropped followed made abandoned
worked_orders = (refl, (refl, (refl, (refl, (refl, (refl, tt))))))

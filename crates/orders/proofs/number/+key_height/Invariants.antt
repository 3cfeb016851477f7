use Rattle.orders.proofs.number.+key_height.Given as goal

abbrev pub decreases-key_height : goal.decreases-key_height
decreases-key_height l = l.part.height

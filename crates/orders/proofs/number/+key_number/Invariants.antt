use Rattle.orders.proofs.number.+key_number.Given as goal

abbrev pub decreases-key_number : goal.decreases-key_number
decreases-key_number l = l.part.height

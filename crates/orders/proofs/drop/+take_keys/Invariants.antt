use Rattle.orders.proofs.drop.+take_keys.Given as goal

abbrev pub decreases-take_keys : goal.decreases-take_keys
decreases-take_keys g l = l.part.height

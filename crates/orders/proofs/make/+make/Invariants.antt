use Rattle.orders.proofs.make.+make.Given as goal

abbrev pub decreases-make : goal.decreases-make
decreases-make l = l.part.height

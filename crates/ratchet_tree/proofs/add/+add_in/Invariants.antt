use Rattle.ratchet_tree.proofs.add.+add_in.Given as goal

abbrev pub decreases-add_in : goal.decreases-add_in
decreases-add_in l = l.height

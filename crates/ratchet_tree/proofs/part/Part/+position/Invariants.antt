use Rattle.ratchet_tree.proofs.part.Part.+position.Given as goal

abbrev pub decreases-position : goal.decreases-position
decreases-position l = l.self.height

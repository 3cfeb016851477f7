use Rattle.ratchet_tree.proofs.part.Part.+key_held.Given as goal

abbrev pub decreases-key_held : goal.decreases-key_held
decreases-key_held l = l.self.height

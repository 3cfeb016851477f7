use Rattle.ratchet_tree.proofs.part.Part.+push_resolution.Given as goal

abbrev pub decreases-push_resolution : goal.decreases-push_resolution
decreases-push_resolution l = l.self.height

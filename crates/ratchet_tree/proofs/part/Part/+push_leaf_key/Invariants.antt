use Rattle.ratchet_tree.proofs.part.Part.+push_leaf_key.Given as goal

abbrev pub decreases-push_leaf_key : goal.decreases-push_leaf_key
decreases-push_leaf_key l = l.self.height

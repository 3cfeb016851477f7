use Rattle.ratchet_tree.proofs.part.Part.+member_count.Given as goal

abbrev pub decreases-member_count : goal.decreases-member_count
decreases-member_count l = l.self.height

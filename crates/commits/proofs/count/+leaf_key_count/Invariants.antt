use Rattle.commits.proofs.count.+leaf_key_count.Given as goal

abbrev pub decreases-leaf_key_count : goal.decreases-leaf_key_count
decreases-leaf_key_count l = l.part.height

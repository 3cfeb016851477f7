use Rattle.commits.proofs.count.+resolution_count.Given as goal

abbrev pub decreases-resolution_count : goal.decreases-resolution_count
decreases-resolution_count l = l.part.height

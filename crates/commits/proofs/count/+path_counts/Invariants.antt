use Rattle.commits.proofs.count.+path_counts.Given as goal

abbrev pub decreases-path_counts : goal.decreases-path_counts
decreases-path_counts l = l.part.height

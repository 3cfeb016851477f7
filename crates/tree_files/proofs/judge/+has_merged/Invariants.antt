use Rattle.tree_files.proofs.judge.+has_merged.Given as goal

abbrev pub decreases-has_merged : goal.decreases-has_merged
decreases-has_merged l = l.part.height

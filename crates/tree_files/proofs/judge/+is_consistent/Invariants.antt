use Rattle.tree_files.proofs.judge.+is_consistent.Given as goal

abbrev pub decreases-is_consistent : goal.decreases-is_consistent
decreases-is_consistent l = l.part.height

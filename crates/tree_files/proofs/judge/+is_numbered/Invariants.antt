use Rattle.tree_files.proofs.judge.+is_numbered.Given as goal

abbrev pub decreases-is_numbered : goal.decreases-is_numbered
decreases-is_numbered l = l.part.height

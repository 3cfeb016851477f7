use Rattle.tree_files.proofs.judge.+are_apart.Given as goal

abbrev pub decreases-are_apart : goal.decreases-are_apart
decreases-are_apart l = l.part.height

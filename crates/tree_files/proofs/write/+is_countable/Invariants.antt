use Rattle.tree_files.proofs.write.+is_countable.Given as goal

abbrev pub decreases-is_countable : goal.decreases-is_countable
decreases-is_countable l = l.part.height

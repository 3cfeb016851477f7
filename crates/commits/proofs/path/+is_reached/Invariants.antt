use Rattle.commits.proofs.path.+is_reached.Given as goal

abbrev pub decreases-is_reached : goal.decreases-is_reached
decreases-is_reached l = l.part.height

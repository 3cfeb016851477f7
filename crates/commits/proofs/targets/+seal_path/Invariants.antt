use Rattle.commits.proofs.targets.+seal_path.Given as goal

abbrev pub decreases-seal_path : goal.decreases-seal_path
decreases-seal_path l = l.part.height

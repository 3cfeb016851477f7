use Rattle.commits.proofs.path.+lay_in.Given as goal

abbrev pub decreases-lay_in : goal.decreases-lay_in
decreases-lay_in l = l.height

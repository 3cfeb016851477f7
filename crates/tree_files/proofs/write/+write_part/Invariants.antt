use Rattle.tree_files.proofs.write.+write_part.Given as goal

abbrev pub decreases-write-part : goal.decreases-write-part
decreases-write-part l = l.part.height

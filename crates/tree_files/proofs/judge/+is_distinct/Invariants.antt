use Rattle.std.proofs.Common.{length}
use Rattle.tree_files.proofs.judge.+is_distinct.Given as goal

abbrev pub decreases-is_distinct : goal.decreases-is_distinct
decreases-is_distinct l = length l.members.now

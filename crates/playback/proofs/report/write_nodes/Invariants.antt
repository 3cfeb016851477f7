use Rattle.std.proofs.Common.{◌≡◌, ◌++◌, take, vec_items}
use Rattle.theory.specs.Worked.{cells}
use Rattle.ratchet_tree.specs.Parts.{part_tree}
use Rattle.playback.specs.Report.{nodes_bytes}
use Rattle.playback.proofs.report.write_nodes.Given as goal

abbrev pub invariant-loop-index : goal.invariant-loop-index
invariant-loop-index l = vec_items l.out ≡ vec_items l.initial.out ++ nodes_bytes (take l.index (cells (part_tree l.part)))

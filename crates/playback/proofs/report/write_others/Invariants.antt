use Rattle.std.proofs.Common.{◌≡◌, ◌++◌, take, vec_items}
use Rattle.ratchet_tree.specs.Nodes.{numbers}
use Rattle.playback.specs.Report.{behind_bytes}
use Rattle.playback.proofs.report.write_others.Given as goal

abbrev pub invariant-loop-member : goal.invariant-loop-member
invariant-loop-member l = vec_items l.out ≡ vec_items l.initial.out ++ behind_bytes (numbers (take l.member-index l.members))

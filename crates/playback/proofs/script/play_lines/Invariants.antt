use Rattle.std.proofs.Common.{vec_items}
use Rattle.playback.specs.Steps.{state_of}
use Rattle.playback.proofs.Steps.{SoFar}
use Rattle.playback.proofs.script.play_lines.Given as goal

abbrev pub invariant-loop-line : goal.invariant-loop-line
invariant-loop-line l = SoFar (state_of l.initial.station) l.fn.lines l.line-iterator (state_of l.station) (vec_items l.initial.out) (vec_items l.out)

use Rattle.std.proofs.Common.{vec_items, refl}
use Rattle.playback.specs.Steps.{state_of}
use Rattle.playback.proofs.Steps.{none_yet, one_more}
use Rattle.playback.proofs.script.play_lines.Goals as goal

pub loop-line-init : goal.loop-line-init
loop-line-init c = rw c.into_iter-line-iterator.ensures.into_iter_gives (none_yet (state_of c.args.station.now) c.args.lines (vec_items c.args.out.now))

pub loop-line-preserved : goal.loop-line-preserved
loop-line-preserved c =
    one_more (state_of c.args.station.now) c.args.lines _ c.in-Some.line.now c.next.new.self (state_of c.loop-line.station) (state_of c.answer.new.station)
    (vec_items c.args.out.now) (vec_items c.loop-line.out) (vec_items c.answer.new.out) c.loop-line.invariant c.in-Some.ensures.steps (c.in_ok-answer.ensures refl)

use Rattle.std.proofs.Common.{vec_items, refl}
use Rattle.playback.proofs.Nodes.{written-more, written_all}
use Rattle.playback.proofs.report.write_nodes.Goals as goal

pub loop-index-preserved : goal.loop-index-preserved
loop-index-preserved c =
    written-more c.args.part.height c.args.part.nodes.now c.args.part.whole (vec_items c.args.out.now) (vec_items c.loop-index.out)
    (vec_items c.write_node.new.out) c.loop-index.index c.node-item.result c.loop-index-test.true c.node-item.is c.loop-index.invariant
    (c.in_ok-write_node.ensures.items refl)

pub returns : goal.returns
returns c =
    record {
      items = λ _. written_all c.args.part.height c.args.part.nodes.now c.args.part.whole (vec_items c.args.out.now) (vec_items c.loop-index.out)
          c.loop-index.index c.loop-index-test.false c.loop-index.invariant;
    }

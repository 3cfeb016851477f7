use Rattle.std.proofs.Common.{◌-◌, map, length, vec_items, arith}
use Rattle.ratchet_tree.specs.Nodes.{seen}
use Rattle.ratchet_tree.proofs.Copies.{blanks-more}
use Rattle.ratchet_tree.proofs.copy.double.Goals as goal

pub loop-index-preserved : goal.loop-index-preserved
loop-index-preserved c =
    blanks-more (vec_items c.loop-index.nodes) (vec_items c.push.new.self) (map seen (vec_items c.args.nodes.now)) c.blank_node.result
    (c.loop-index.index - length (vec_items c.args.nodes.now)) _ c.in_ok-push.ensures.items c.loop-index.invariant c.blank_node.ensures
    (omega (arith, c.loop-index.auto.index, c.len-count.ensures, c.args.nodes.now.ok.0))

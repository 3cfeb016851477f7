use Rattle.std.proofs.Common.{◌+◌, ◌-◌, ◌≤◌, sym, ap, ◌∙◌, arith}
use mir.Val.{bool_byte}
use Rattle.theory.specs.Path.{laid}
use Rattle.theory.specs.Tree.{leaf}
use Rattle.ratchet_tree.proofs.Cuts.{leaf-set}
use Rattle.ratchet_tree.proofs.Trees.{first_below, tree-first}
use Rattle.commits.specs.Path.{key_from}
use Rattle.commits.proofs.Laying.{lay-neither, lay-own, level-small, middle-left, own-long, own_nodes}
use Rattle.commits.proofs.path.+lay_in.Goals as goal

pub bounds-nodes-0 : goal.bounds-nodes-0
bounds-nodes-0 t c = first_below c.args.height c.args.nodes.now c.requires.0

pub returns-then-height-eq0 : goal.returns-then-height-eq0
unfolding laid
returns-then-height-eq0 t c =
    let first = tree-first c.args.height c.args.nodes.now c.index-nodes-0.result c.if-height-eq0.true c.requires.0 in
    record {
      tree =
          leaf-set c.args.height c.args.nodes.now c.renew_leaf.new.node c.if-height-eq0.true c.requires.0 ∙ ap leaf c.renew_leaf.ensures
          ∙ ap (λ u. (laid c.args.member.0 c.args.keys.leaf (key_from c.args.keys) u).tree) (sym first);
      value = ap (λ u. (laid c.args.member.0 c.args.keys.leaf (key_from c.args.keys) u).levels) (sym first);
    }

pub returns-in_default : goal.returns-in_default
returns-in_default t c =
    let both = lay-neither c.args.height c.args.nodes.now c.if-height-eq0.false c.requires.0 c.args.member.0 (c.in_default.ensures c.if-height-eq0.false) c.args.keys.leaf (key_from c.args.keys) in
    record { tree = both.0; value = both.1 }

pub lay_in-level-requires : goal.lay_in-level-requires
lay_in-level-requires t c =
    (omega arith, (own-long c.args.height c.args.nodes.now c.if-height-eq0.false c.requires.0 c.args.member.0 c.in-Some.half c.in-Some.ensures, omega arith))

pub bounds-nodes-middle : goal.bounds-nodes-middle
bounds-nodes-middle t c =
    middle-left c.args.height c.args.nodes.now c.if-height-eq0.false c.requires.0 c.args.member.0 c.lay_in-level.new.nodes c.in-Some.half c.lay_in-level.auto.nodes c.in-Some.ensures

pub overflow_add-result : goal.overflow_add-result
overflow_add-result t c =
    let small : c.lay_in-level.result + bool_byte c.in-Some.half.reached ≤ 11 =
    level-small c.args.member.0 c.args.keys.leaf (key_from c.args.keys) (c.args.height - 1) (own_nodes c.args.height c.args.nodes.now c.if-height-eq0.false c.requires.0 c.args.member.0 c.in-Some.half)
    c.lay_in-level.result c.in-Some.half.reached c.lay_in-level.ensures.value (omega arith) in
    omega arith

pub returns : goal.returns
returns t c =
    let both =
    lay-own c.args.height c.args.nodes.now c.if-height-eq0.false c.requires.0 c.args.member.0 c.lay_in-level.new.nodes c.in-Some.half c.lay_in-level.auto.nodes
    c.args.keys.leaf (key_from c.args.keys) c.lay_in-level.result c.key_at.result c.then_some-key.result c.lay_parent.new.node
    c.key_at.ensures c.then_some-key.ensures c.lay_parent.ensures c.in-Some.ensures c.lay_in-level.ensures.tree c.lay_in-level.ensures.value in
    record { tree = both.0; value = both.1 }

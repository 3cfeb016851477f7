use Rattle.std.proofs.Common.{◌≡◌, ◌<◌, [], ◌∷◌, ◌++◌, cond, map, vec_items, ap, ◌∙◌, arith, rules}
use Rattle.theory.specs.Tree.{resolution}
use Rattle.vault_theory.specs.Capped.{cap_order}
use Rattle.vault_theory.specs.Numbers.{levels}
use Rattle.vault_theory.specs.Orders.{climbed, followed, held_forgotten, opened}
use Rattle.ratchet_tree.specs.Nodes.{leaf_of, parent_of}
use Rattle.ratchet_tree.specs.Parts.{part_tree}
use Rattle.orders.specs.Given.{Risen}
use Rattle.orders.proofs.Following.{at_leaf, chosen-first, chosen-second, followed-above}
use Rattle.orders.proofs.Giving.{gives_none}
use Rattle.orders.proofs.Halves.{levels-low, own-seated, rises, side-below}
use Rattle.orders.proofs.follow.+follow.Goals as goal
use Rattle.orders.proofs.follow.+follow.Goals.{then-is_seated+in_ok-level-in-Parent, else-is_seated+in_ok-level-in-Parent-2}

pub follow-requires : goal.follow-requires
follow-requires t c =
    let low : c.sides_of-sides.result.own.height < c.args.part.height =
    side-below c.args.committer.0 c.args.part c.in-Parent.left c.in-Parent.right c.in-Parent.node.now c.sides_of-sides.result c.in-Parent.ensures c.sides_of-sides.ensures in (
      search rules,
      own-seated c.args.committer.0 c.args.part c.in-Parent.left c.in-Parent.right c.in-Parent.node.now c.sides_of-sides.result c.in-Parent.ensures c.sides_of-sides.ensures c.requires,
    )

pub invariant_of-step : goal.invariant_of-step
invariant_of-step t c =
    let low = levels-low c.args.committer.0 c.sides_of-sides.result.own in
    let level : c.if-is_seated.level ≡ levels c.args.committer.0 (part_tree c.sides_of-sides.result.own) =
    elim c.if-is_seated.branch [
      | then-is_seated+in_ok-level-in-Parent w ↦ w.level-is ∙ w.in_ok-level-in-Parent.ensures.level
      | else-is_seated+in_ok-level-in-Parent-2 w ↦ w.level-is ∙ w.in_ok-level-in-Parent-2.ensures.level
    ] in
    record { low = omega (arith, level, low) }

pub returns-in-Leaf : goal.returns-in-Leaf
returns-in-Leaf t c =
    let is = at_leaf c.args.member.0 c.args.committer.0 (part_tree c.args.part) (leaf_of c.in-Leaf.field-0.now) c.in-Leaf.ensures.1 in
    gives_none (vec_items c.args.out.now) is.0 is.1

pub returns-after-is_seated : goal.returns-after-is_seated
returns-after-is_seated t c =
    let inside = followed c.args.member.0 c.args.committer.0 (part_tree c.sides_of-sides.result.own) in
    let across = opened c.args.member.0 c.args.committer.0 (part_tree c.sides_of-sides.result.own) (part_tree c.sides_of-sides.result.other) ∷ [] in
    let below : Risen (levels c.args.committer.0 (part_tree c.sides_of-sides.result.own)) (map cap_order (cond c.is_seated.result inside across)) (vec_items c.args.out.now) (vec_items c.if-is_seated.out) c.if-is_seated.level =
    elim c.if-is_seated.branch [
      | then-is_seated+in_ok-level-in-Parent w ↦ chosen-first c.is_seated.result inside across (ap vec_items w.out-is) w.level-is w.if-is_seated.true w.in_ok-level-in-Parent.ensures
      | else-is_seated+in_ok-level-in-Parent-2 w ↦ chosen-second c.is_seated.result inside across (ap vec_items w.out-is) w.level-is w.if-is_seated.false w.in_ok-level-in-Parent-2.ensures
    ] in
    rises c.args.committer.0 c.args.part c.in-Parent.left c.in-Parent.right c.in-Parent.node.now c.sides_of-sides.result c.in-Parent.ensures c.sides_of-sides.ensures
    (vec_items c.args.out.now) _ _ c.if-is_seated.level (map cap_order (cond c.is_seated.result inside across))
    (λ i. held_forgotten c.args.member.0 (parent_of c.in-Parent.node.now) c.of.result.value ++ climbed i c.of.result.value (resolution (part_tree c.sides_of-sides.result.other)))
    _ c.pass.result c.requires below c.pass.ensures
    (followed-above c.args.member.0 c.args.committer.0 c.of.result.value c.args.part c.in-Parent.left c.in-Parent.right c.in-Parent.node.now c.sides_of-sides.result c.in-Parent.ensures c.sides_of-sides.ensures c.of.ensures
    c.is_seated.result c.is_seated.ensures)

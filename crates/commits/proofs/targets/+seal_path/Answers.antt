use Rattle.ratchet_tree.specs.Nodes.{leaf_of, parent_of}
use Rattle.ratchet_tree.specs.Parts.{part_tree}
use Rattle.commits.proofs.Laying.{laid-neither, laid-side, put-back}
use Rattle.commits.proofs.Sealing.{climbs, few-levels, laid-leaf, sealed-none}
use Rattle.commits.proofs.targets.+seal_path.Goals as goal

pub returns-in-Leaf : goal.returns-in-Leaf
returns-in-Leaf t c =
    sealed-none c.args.member.0 (part_tree c.args.part) _ c.new.result c.new.ensures.levels c.new.ensures.targets (laid-leaf c.args.member.0 (part_tree c.args.part) (leaf_of c.in-Leaf.field-0.now) c.in-Leaf.ensures.1)

pub returns-in-None : goal.returns-in-None
returns-in-None t c =
    sealed-none c.args.member.0 (part_tree c.args.part) _ c.new-in-None.result c.new-in-None.ensures.levels c.new-in-None.ensures.targets
    (laid-neither c.args.member.0 (part_tree c.args.part) (parent_of c.in-Parent.field-1.now) (part_tree c.in-Parent.left) (part_tree c.in-Parent.right) c.in-Parent.ensures.tree c.in-None.ensures.variant)

pub climbed-requires : goal.climbed-requires
climbed-requires t c = few-levels c.args.member.0 c.in-Some.sides.own c.in_ok-seal_path-in-Some.field-0 c.in_ok-seal_path-in-Some.ensures

pub returns-in_ok-seal_path-in-Some : goal.returns-in_ok-seal_path-in-Some
returns-in_ok-seal_path-in-Some t c =
    let m = c.args.member.0 in
    let l = part_tree c.in-Parent.left in
    let r = part_tree c.in-Parent.right in
    let p = parent_of c.in-Parent.field-1.now in
    climbs m (part_tree c.args.part) (part_tree c.in-Some.sides.own) (part_tree c.in-Some.sides.other) (put-back m (part_tree c.args.part) p l r c.in-Parent.ensures.tree)
    (laid-side m (part_tree c.args.part) p l r c.in-Parent.ensures.tree (part_tree c.in-Some.sides.own) (part_tree c.in-Some.sides.other) c.in-Some.ensures.variant c.in-Some.ensures.own c.in-Some.ensures.other)
    c.in_ok-seal_path-in-Some.field-0 c.climbed.result c.in_ok-seal_path-in-Some.ensures c.climbed.ensures

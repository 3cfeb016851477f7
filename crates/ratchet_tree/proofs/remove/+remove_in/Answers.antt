use Rattle.std.proofs.Common.{◌-◌, refl, sym, ap, ◌∙◌, ap₂, arith}
use Rattle.theory.specs.Tree.{leaf, node, blank_parent, seated, removed}
use Rattle.ratchet_tree.specs.Nodes.{tree_of}
use Rattle.ratchet_tree.proofs.Cuts.{handed-back, rest-there, cut-tree-at, start-tree, leaf-set}
use Rattle.ratchet_tree.proofs.Removing.{removed-seated, removed-absent}
use Rattle.ratchet_tree.proofs.Trees.{tree-first, first_below}
use Rattle.ratchet_tree.proofs.remove.+remove_in.Goals as goal

pub bounds-nodes-0 : goal.bounds-nodes-0
bounds-nodes-0 t c = first_below c.args.height c.args.nodes.now c.requires.0

pub returns-then-height-eq0 : goal.returns-then-height-eq0
unfolding removed
returns-then-height-eq0 t c =
    leaf-set c.args.height c.args.nodes.now c.vacate.new.node c.if-height-eq0.true c.requires.0
    ∙ ap leaf c.vacate.ensures
    ∙ ap (removed c.args.member.0) (sym (tree-first c.args.height c.args.nodes.now c.index-nodes-0.result c.if-height-eq0.true c.requires.0))

pub remove_in-requires : goal.remove_in-requires
remove_in-requires t c =
    let cut = handed-back _ _ _ _ _ _ c.if-height-eq0.false c.requires.0 c.halves_mut-left.ensures.value c.halves_mut-left.ensures.len c.in-Some.ensures.cases.0 in
    (omega arith, (cut.left, omega arith))

pub remove_in-requires-then-is_seated : goal.remove_in-requires-then-is_seated
remove_in-requires-then-is_seated t c =
    let cut = handed-back _ _ _ _ _ _ c.if-height-eq0.false c.requires.0 c.halves_mut-left.ensures.value c.halves_mut-left.ensures.len c.in-Some.ensures.cases.0 in
    (omega arith, (cut.right, omega arith))

pub returns-in-Some : goal.returns-in-Some
returns-in-Some t c =
    let above = c.if-height-eq0.false in
    let cut = handed-back _ _ _ _ _ _ above c.requires.0 c.halves_mut-left.ensures.value c.halves_mut-left.ensures.len c.in-Some.ensures.cases.0 in
    let m = c.args.member.0 in
    let start = cut-tree-at c.args.height above cut in
    cut-tree-at c.args.height above (record { is = refl; left = c.remove_in.auto.nodes ∙ cut.left; right = c.remove_in-then-is_seated.auto.nodes ∙ cut.right })
    ∙ ap (λ p. node p (tree_of (c.args.height - 1) c.remove_in.new.nodes) (tree_of (c.args.height - 1) c.remove_in-then-is_seated.new.nodes)) c.blank.ensures
    ∙ ap₂ (λ a b. node blank_parent a b) c.remove_in.ensures c.remove_in-then-is_seated.ensures
    ∙ sym (removed-seated m _ _ _ (ap (seated m) (sym start) ∙ sym c.if-is_seated.ensures))
    ∙ ap (removed m) (sym start)

pub unreachable-requires : goal.unreachable-requires
unreachable-requires t c =
    absurd (rest-there _ _ _ _ c.if-height-eq0.false c.requires.0 c.halves_mut-left.ensures.value c.halves_mut-left.ensures.len c.in_default.ensures.cases)

pub returns-else-is_seated : goal.returns-else-is_seated
returns-else-is_seated t c =
    let start = start-tree c.args.height c.args.nodes.now c.if-height-eq0.false c.requires.0 in
    start
    ∙ sym (removed-absent c.args.member.0 _ _ _ (ap (seated c.args.member.0) (sym start) ∙ sym c.if-is_seated.ensures))
    ∙ ap (removed c.args.member.0) (sym start)

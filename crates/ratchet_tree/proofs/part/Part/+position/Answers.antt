use Rattle.std.proofs.Common.{rules, ◌≡◌, ℕ, ◌+◌, ◌/◌, ◌<◌, Bool, cond, length, Some, None, sym, refl, ap, ◌∙◌, arith}
use Rattle.theory.specs.Tree.{position, leaves}
use Rattle.ratchet_tree.specs.Parts.{part_tree}
use Rattle.ratchet_tree.proofs.Counts.{leaves-part, position-below, position-halves}
use Rattle.ratchet_tree.proofs.part.Part.+position.Goals as goal

pub overflow_add-result-in-None : goal.overflow_add-result-in-None
overflow_add-result-in-None t c =
    let right : c.in_ok-leaf-in-None.leaf.0 < leaves (part_tree c.in-Parent.right) =
    position-below c.args.member.0 (part_tree c.in-Parent.right) c.in_ok-leaf-in-None.leaf.0 (sym c.in_ok-leaf-in-None.ensures) in
    omega (arith, leaves-part c.in-Parent.left, leaves-part c.in-Parent.right)

pub returns-in-Leaf : goal.returns-in-Leaf
unfolding position
returns-in-Leaf t c =
    let at : cond c.seats.result (Some 0) None ≡ position c.args.member.0 (part_tree c.args.self) = ap (λ (b : Bool). cond b (Some 0) None) c.seats.ensures ∙ ap (position c.args.member.0) (sym c.in-Leaf.ensures.1) in
    search (at, rules)

pub returns-in-Some : goal.returns-in-Some
returns-in-Some t c = position-halves c.args.member.0 _ {b = position c.args.member.0 (part_tree c.in-Parent.right)} c.in-Some.ensures refl c.in-Parent.ensures.tree

pub returns-in_err-leaf-in-None : goal.returns-in_err-leaf-in-None
returns-in_err-leaf-in-None t c =
    let e = position-halves c.args.member.0 _ c.in-None.ensures c.in_err-leaf-in-None.ensures c.in-Parent.ensures.tree in
    search (e, rules)

pub returns-in_ok-leaf-in-None : goal.returns-in_ok-leaf-in-None
returns-in_ok-leaf-in-None t c =
    let n : length c.in-Parent.left.nodes.now / 2 + 1 ≡ leaves (part_tree c.in-Parent.left) = omega (arith, leaves-part c.in-Parent.left) in
    ap (λ (k : ℕ). Some (k + c.in_ok-leaf-in-None.leaf.0)) n ∙ position-halves c.args.member.0 _ c.in-None.ensures c.in_ok-leaf-in-None.ensures c.in-Parent.ensures.tree

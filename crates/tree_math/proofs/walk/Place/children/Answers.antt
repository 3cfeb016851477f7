use Rattle.std.proofs.Common.{Some, ap, ◌∙◌, arith, rules}
use Rattle.tree_math.specs.Index.{node_of}
use Rattle.tree_math.proofs.Family.{childless-leaves}
use Rattle.tree_math.proofs.Places as places
use Rattle.tree_math.proofs.walk.Place.children.Goals as goal

pub returns-in_err-height-clause-left : goal.returns-in_err-height-clause-left
returns-in_err-height-clause-left c =
    let childless = childless-leaves c.args.self.depth c.args.self.node.0 (c.args.self.height_is ∙ ap Some (omega (arith, c.in_err-height.ensures))) in
    rw c.from_residual.ensures childless.0

pub returns-in_err-height-clause-right : goal.returns-in_err-height-clause-right
returns-in_err-height-clause-right c =
    let childless = childless-leaves c.args.self.depth c.args.self.node.0 (c.args.self.height_is ∙ ap Some (omega (arith, c.in_err-height.ensures))) in
    rw c.from_residual.ensures childless.1

pub overflow_shl-step : goal.overflow_shl-step
overflow_shl-step c = omega (arith, places.low _ _ _ _ c.args.self.shallow c.args.self.height_is c.in_ok-height.ensures)

pub overflow_sub-left : goal.overflow_sub-left
overflow_sub-left c = places.left-fits _ _ _ _ c.args.self.shallow c.args.self.height_is c.in_ok-height.ensures

pub overflow_add-right : goal.overflow_add-right
overflow_add-right c =
    let b = places.right-fits _ _ _ _ c.args.self.shallow c.args.self.height_is c.in_ok-height.ensures in search rules

pub invariant_of-left : goal.invariant_of-left
invariant_of-left c = record {
  shallow = c.args.self.shallow;
  height_is = places.left-height _ _ _ _ c.args.self.shallow c.args.self.height_is c.in_ok-height.ensures;
  parent_is = ap node_of (places.left-parent _ _ _ _ c.args.self.shallow c.args.self.height_is c.in_ok-height.ensures);
}

pub invariant_of-right : goal.invariant_of-right
invariant_of-right c = record {
  shallow = c.args.self.shallow;
  height_is = places.right-height _ _ _ _ c.args.self.shallow c.args.self.height_is c.in_ok-height.ensures;
  parent_is = ap node_of (places.right-parent _ _ _ _ c.args.self.shallow c.args.self.height_is c.in_ok-height.ensures);
}

pub returns-clause-left : goal.returns-clause-left
returns-clause-left c = places.left-is _ _ _ _ c.args.self.shallow c.args.self.height_is c.in_ok-height.ensures

pub returns-clause-right : goal.returns-clause-right
returns-clause-right c = places.right-is _ _ _ _ c.args.self.shallow c.args.self.height_is c.in_ok-height.ensures

pub returns-clause-apart : goal.returns-clause-apart
returns-clause-apart c =
    let fits = places.left-fits _ _ _ _ c.args.self.shallow c.args.self.height_is c.in_ok-height.ensures in
    let is = places.step-is _ _ _ _ c.args.self.shallow c.args.self.height_is c.in_ok-height.ensures in
    (omega arith, omega arith)

use Rattle.std.proofs.Common.{◌≡◌, ap, ◌∙◌, rules}
use Rattle.tree_math.specs.Index.{root_of, height_of, parent_of, node_of}
use Rattle.tree_math.proofs.Family.{root-has-no-parent}
use Rattle.tree_math.proofs.walk.Place.top.Goals as goal

pub invariant_of-result : goal.invariant_of-result
invariant_of-result c =
    let d = c.args.depth in
    let at : c.in_ok-root.field-0.0 ≡ root_of d = search rules in
    record {
      shallow = search rules;
      height_is = ap (height_of d) at ∙ (root-has-no-parent d).0;
      parent_is = ap (λ i. node_of (parent_of d i)) at ∙ ap node_of (root-has-no-parent d).1;
    }

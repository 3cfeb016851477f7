use Rattle.std.proofs.Common.{rules, ◌≡◌, ◌∙◌, sym, subst, ap, Bor}
use Rattle.theory.specs.Tree.{is_at}
use Rattle.std.specs.Iterator.Runs.{ItemsMapTo}
use Rattle.ratchet_tree.specs.declared.node.Node.{Node}
use Rattle.ratchet_tree.specs.Parts.{part_tree}
use Rattle.ratchet_tree.proofs.Leaves.{seated-line}
use Rattle.ratchet_tree.proofs.Strides.{any_leaf}
use Rattle.ratchet_tree.proofs.part.Part.is_seated.Goals as goal

pub returns : goal.returns
returns c =
    let p = c.any.ensures.runs.0 in
    let q = c.step_by.ensures.runs p p.seen c.any.ensures.runs.1 in
    let r = c.iter.ensures.runs q.0 q.0.seen in
    let same : q.0.from.rest.now ≡ c.args.self.nodes.now = ap (λ i. i.rest.now) q.1 ∙ c.iter.ensures.rest in
    any_leaf p q.0 c.args.self.height c.args.self.nodes.now c.args.self.whole q.2 (subst (λ xs. ItemsMapTo q.0 (λ (y : Bor Node). y.now) xs) same r) (is_at c.args.member.0) _ _ (search rules) (search rules) c.any.result c.any.ensures.runs.2 ∙ sym (seated-line c.args.member.0 (part_tree c.args.self))

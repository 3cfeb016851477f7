use Rattle.std.proofs.Common.{rules, ◌≡◌, ◌∙◌, sym, subst, ap, Bor}
use Rattle.theory.specs.Tree.{is_blank}
use Rattle.std.specs.Iterator.Runs.{ItemsMapTo}
use Rattle.ratchet_tree.specs.declared.node.Node.{Node}
use Rattle.ratchet_tree.specs.Parts.{part_tree}
use Rattle.ratchet_tree.proofs.Leaves.{full-line}
use Rattle.ratchet_tree.proofs.Strides.{every_leaf}
use Rattle.ratchet_tree.proofs.part.Part.is_full.Goals as goal

pub returns : goal.returns
returns c =
    let p = c.all.ensures.runs.0 in
    let q = c.step_by.ensures.runs p p.seen c.all.ensures.runs.1 in
    let r = c.iter.ensures.runs q.0 q.0.seen in
    let same : q.0.from.rest.now ≡ c.args.self.nodes.now = ap (λ i. i.rest.now) q.1 ∙ c.iter.ensures.rest in
    every_leaf p q.0 c.args.self.height c.args.self.nodes.now c.args.self.whole q.2 (subst (λ xs. ItemsMapTo q.0 (λ (y : Bor Node). y.now) xs) same r) is_blank _ _ (search rules) (search rules) c.all.result c.all.ensures.runs.2 ∙ sym (full-line (part_tree c.args.self))

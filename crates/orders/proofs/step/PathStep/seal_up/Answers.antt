use Rattle.std.proofs.Common.{vec_items, sym, refl, ◌∙◌}
use Rattle.std.proofs.lemmas.Bool.{eqb-false}
use Rattle.theory.specs.Tree.{resolution}
use Rattle.ratchet_tree.specs.Parts.{part_tree}
use Rattle.orders.proofs.Making.{sealed-above}
use Rattle.orders.proofs.step.PathStep.seal_up.Goals as goal

pub returns : goal.returns
returns c =
    sealed-above c.args.self.level c.args.self.height.value c.path_slot.result.0 c.key_slot.result.0 _ (resolution (part_tree c.args.self.other))
    (vec_items c.args.out.now) (vec_items c.seal_to.new.out) (vec_items c.rise.new.out) c.rise.result
    (c.deref.ensures.value ∙ c.in_ok-keys.ensures) (λ e. eqb-false _ 0 (sym c.if-is_empty.ensures) (sym c.deref.ensures.len ∙ e)) c.path_slot.ensures c.key_slot.ensures
    (c.in_ok-seal_to.ensures.items refl) c.rise.ensures

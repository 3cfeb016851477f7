use Rattle.std.proofs.Common.{vec_items, refl, ap, ◌∙◌}
use Rattle.vault_theory.specs.Order.{slot_of_key}
use Rattle.ratchet_tree.specs.Parts.{part_tree}
use Rattle.orders.proofs.Following.{opened-here}
use Rattle.orders.proofs.follow.open.Goals as goal

pub returns : goal.returns
returns c =
    opened-here c.args.member.0 c.args.committer.0 (part_tree c.args.sides.own) (part_tree c.args.sides.other) c.path_counts-counts.result
    c.saturating_add.result c.key_slot.result.0 c.path_slot.result.0 c.key_number.result (vec_items c.args.out.now) (vec_items c.give.new.out)
    c.path_counts-counts.ensures.value c.saturating_add.ensures c.key_number.ensures (c.key_slot.ensures ∙ ap slot_of_key c.key_height.ensures.value) c.path_slot.ensures
    (c.in_ok-give.ensures.items refl)

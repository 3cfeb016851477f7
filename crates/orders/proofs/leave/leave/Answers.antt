use Rattle.std.proofs.Common.{true, ◌∷◌, map, vec_items, refl, ap, rules}
use Rattle.vault_theory.specs.Order.{forget, seed_slot, talk_slot}
use Rattle.ratchet_tree.proofs.Appending.{appends-as, appends-two}
use Rattle.ratchet_tree.specs.Parts.{part_tree}
use Rattle.orders.specs.Order.{order_of}
use Rattle.orders.proofs.Taking.{taken-abandoned}
use Rattle.orders.proofs.leave.leave.Goals as goal

pub returns : goal.returns
returns c =
    appends-as (ap (λ l. forget talk_slot ∷ forget seed_slot ∷ l) (taken-abandoned c.args.member.0 (part_tree c.args.part)))
    (appends-two (map order_of (vec_items c.args.out.now)) _ (c.in_ok-give.ensures.items refl) (c.take_keys.ensures (λ _. true) (λ p b e. search rules)))

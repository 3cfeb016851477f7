use Rattle.std.proofs.Common.{vec_items, sym, refl}
use Rattle.std.proofs.lemmas.List.{append-nil}
use Rattle.theory.specs.Tree.{leaf_keys}
use Rattle.ratchet_tree.specs.Parts.{part_tree}
use Rattle.ratchet_tree.proofs.Appending.{leaf_keys-step, leaf_keys-whole}
use Rattle.ratchet_tree.proofs.part.Part.push_leaf_keys.Goals as goal

pub loop-member-init : goal.loop-member-init
unfolding leaf_keys
loop-member-init c = sym (append-nil (vec_items c.args.out.now))

pub loop-member-preserved : goal.loop-member-preserved
loop-member-preserved c =
    leaf_keys-step (vec_items c.args.out.now) _ c.args.members.now c.loop-member.member-index (part_tree c.args.self) c.loop-member.invariant
    _ (record { 0 = 0 }) c.loop-member-test.true (c.in_ok-push_leaf_key.ensures.items refl)

pub returns-then-members-le-FEW : goal.returns-then-members-le-FEW
returns-then-members-le-FEW c =
    record {
      items = λ _. leaf_keys-whole (vec_items c.args.out.now) _ c.args.members.now c.loop-member.member-index (part_tree c.args.self) c.loop-member.invariant c.loop-member-test.false;
    }

pub loop-member-2-init : goal.loop-member-2-init
unfolding leaf_keys
loop-member-2-init c = sym (append-nil (vec_items c.args.out.now))

pub loop-member-2-preserved : goal.loop-member-2-preserved
loop-member-2-preserved c =
    leaf_keys-step (vec_items c.args.out.now) _ c.args.members.now c.loop-member-2.member-index (part_tree c.args.self) c.loop-member-2.invariant
    _ (record { 0 = 0 }) c.loop-member-2-test.true (c.in_ok-push_key_at.ensures.items refl)

pub returns : goal.returns
returns c =
    record {
      items = λ _. leaf_keys-whole (vec_items c.args.out.now) _ c.args.members.now c.loop-member-2.member-index (part_tree c.args.self) c.loop-member-2.invariant c.loop-member-2-test.false;
    }

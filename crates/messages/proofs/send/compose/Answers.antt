use Rattle.std.proofs.Common.{ℕ, List, ◌++◌, flat_map, vec_items, sym, ap, ◌∙◌, refl}
use Rattle.std.proofs.lemmas.Result.{err_from_is_err_and}
use Rattle.theory.specs.Group.{Change, refusal}
use Rattle.ratchet_tree.specs.Trees.{the_tree}
use Rattle.commits.specs.Refusals.{number_of}
use Rattle.messages.proofs.Composing.{composed-is-taken, refused-first, no-leaf, then-seven, made-composed}
use Rattle.commits.specs.declared.refusal.Refusal.TheVariants.{WrongCounts}
use Rattle.wire.specs.Bytes.{key_bytes}
use Rattle.messages.proofs.Missing.{missing}
use Rattle.messages.proofs.PathKeys.{keys-joined}
use Rattle.messages.proofs.send.compose.Goals as goal

pub returns-in-Some : goal.returns-in-Some
returns-in-Some c =
    let h = c.args.handset.now in
    record {
      bytes =
          refused-first h.member.0 h.epoch.0 (the_tree h.tree) c.args.change c.args.answers.halves.now c.args.answers.boxes.now (number_of c.in-Some.refusal)
          (ap (λ (a : Change). refusal h.epoch.0 (record { committer = h.member.0; change = a }) (the_tree h.tree)) (sym c.asked.ensures.value) ∙ sym c.in-Some.ensures.number);
      taken = composed-is-taken;
    }

pub returns-in_err-leaf_key : goal.returns-in_err-leaf_key
returns-in_err-leaf_key c =
    let h = c.args.handset.now in
    let p = err_from_is_err_and c.from_residual.result c.from_residual.ensures.1 in
    let q = missing c.split_first.result c.in_err-leaf_key.field-0.0 WrongCounts c.in_err-leaf_key.ensures.value in
    record {
      bytes = rw (p.1, p.2, q.1)
          (no-leaf h.member.0 h.epoch.0 (the_tree h.tree) c.args.change c.args.answers.halves.now c.args.answers.boxes.now (rw q.0 at c.split_first.ensures.cases)
          (ap (λ (a : Change). refusal h.epoch.0 (record { committer = h.member.0; change = a }) (the_tree h.tree)) (sym c.asked.ensures.value) ∙ sym c.in_default.ensures.number));
      taken = composed-is-taken;
    }

pub returns-in_err-write_all : goal.returns-in_err-write_all
returns-in_err-write_all c =
    let h = c.args.handset.now in
    let p = err_from_is_err_and c.from_residual-in_err-write_all.result c.from_residual-in_err-write_all.ensures.1 in
    record {
      bytes = rw (p.1, p.2)
          (then-seven h.member.0 h.epoch.0 (the_tree h.tree) c.args.change c.args.answers.halves.now c.args.answers.boxes.now
          (ap (λ (a : Change). refusal h.epoch.0 (record { committer = h.member.0; change = a }) (the_tree h.tree)) (sym c.asked.ensures.value) ∙ sym c.in_default.ensures.number));
      taken = composed-is-taken;
    }

pub returns : goal.returns
returns c =
    let cut = rw c.in_ok-leaf_key.ensures.ok_part at c.split_first.ensures.cases in
    record {
      bytes =
          made-composed vec_items c.args.handset.now c.args.change c.args.answers.halves.now c.args.answers.boxes.now c.deref.result.now
          c.in_ok-leaf_key.leaf_key.now c.in_ok-leaf_key.others.now c.make.result cut.0
          (c.deref.ensures.value ∙ c.in_ok-write_all.ensures.items.items refl
          ∙ ap (λ (l : List ℕ). l ++ flat_map key_bytes c.in_ok-leaf_key.others.now) c.new-node_keys.ensures.items
          ∙ keys-joined c.in_ok-leaf_key.others.now) c.make.ensures;
      taken = composed-is-taken;
    }

use Rattle.std.proofs.Common.{rules, ◌≡◌, ℕ, ◌+◌, ◌-◌, ◌/◌, length, replicate, sym, ap, ◌∙◌, subst, arith}
use Rattle.std.specs.Vec.{vec_len}
use Rattle.std.proofs.lemmas.List.{with_items_is, length-replicate}
use Rattle.ratchet_tree.specs.Nodes.{leaf_of}
use Rattle.ratchet_tree.specs.Parts.{part_tree}
use Rattle.ratchet_tree.specs.Seats.{line}
use Rattle.ratchet_tree.specs.declared.seats.Seat.TheVariants.{Nowhere}
use Rattle.ratchet_tree.proofs.Counts.{leaves-part}
use Rattle.ratchet_tree.proofs.Leaves.{line-length}
use Rattle.ratchet_tree.proofs.Seating.{ToldAll, all_none, all_more, all_told, leaf-read}
use Rattle.ratchet_tree.proofs.seats.seats_of.Goals as goal
use Rattle.ratchet_tree.proofs.seats.seats_of.Goals.{then-index-eq0, else-index-eq0}

pub loop-index-init : goal.loop-index-init
loop-index-init c =
    let n = c.from.result + 1 - vec_len c.new-seats.result in
    let e : c.resize.new.self.items ≡ replicate n Nowhere = search rules in
    record {
      told = all_none (line (part_tree c.args.part)) n c.resize.new.self.items e;
      covers = λ k d l. omega (arith, ap length e, length-replicate n Nowhere, c.largest.ensures k d l);
    }

pub note_leaf-requires : goal.note_leaf-requires
note_leaf-requires c = omega (arith, c.loop-index-test.true, (leaves-part c.args.part).1)

pub loop-index-preserved : goal.loop-index-preserved
loop-index-preserved c =
    let xs = line (part_tree c.args.part) in
    let i = c.loop-index.index in
    let before = c.loop-index.invariant in
    elim c.if-index-eq0.branch [
      | then-index-eq0 w ↦
          let leaf = leaf-read c.args.part.height c.args.part.nodes.now c.args.part.whole i c.node-item.result c.loop-index-test.true w.if-index-eq0.true c.node-item.is in
          let now : i / 2 ≡ (i + 1) / 2 = omega (arith, w.if-index-eq0.true) in
          let next : i / 2 + 1 ≡ (i + 1 + 1) / 2 = omega (arith, w.if-index-eq0.true) in
          let items : w.note_leaf.new.seats ≡ c.if-index-eq0.seats.items =
          sym (ap (λ v. v.items) w.seats-is ∙ with_items_is c.loop-index.seats w.note_leaf.new.seats (w.note_leaf.auto.seats ∙ w.deref_mut.ensures.len)) in
          let told : ToldAll xs (i / 2) w.deref_mut.result.now =
          subst (ToldAll xs (i / 2)) (sym w.deref_mut.ensures.value) (subst (λ (k : ℕ). ToldAll xs k c.loop-index.seats.items) (sym now) before.told) in
          record {
            told =
                subst (ToldAll xs ((i + 1 + 1) / 2)) items
                (subst (λ (k : ℕ). ToldAll xs k w.note_leaf.new.seats) next
                (all_more xs (leaf_of c.node-item.result) (i / 2) w.deref_mut.result.now w.note_leaf.new.seats leaf.0 leaf.1 w.note_leaf.auto.seats w.note_leaf.ensures told));
            covers = λ k d l. omega (arith, before.covers k d l, ap length items, w.note_leaf.auto.seats, ap length w.deref_mut.ensures.value);
          }
      | else-index-eq0 w ↦
          let next : (i + 1) / 2 ≡ (i + 1 + 1) / 2 = omega (arith, w.if-index-eq0.false) in
          let same : c.if-index-eq0.seats.items ≡ c.loop-index.seats.items = ap (λ v. v.items) w.seats-is in
          record {
            told = subst (ToldAll xs ((i + 1 + 1) / 2)) (sym same) (subst (λ (k : ℕ). ToldAll xs k c.loop-index.seats.items) next before.told);
            covers = λ k d l. omega (arith, before.covers k d l, ap length same);
          }
    ]

pub returns-clause-told : goal.returns-clause-told
returns-clause-told c =
    all_told (part_tree c.args.part) ((c.loop-index.index + 1) / 2) c.loop-index.seats.items
    (omega (arith, line-length c.args.part.height c.args.part.nodes.now, c.args.part.whole, c.loop-index-test.false)) c.loop-index.invariant.told

use Rattle.std.proofs.Common.{arith, sym, ◌∙◌}
use Rattle.ratchet_tree.specs.Parts.{part_tree}
use Rattle.ratchet_tree.proofs.Appending.{appends-as}
use Rattle.ratchet_tree.proofs.Counts.{leaves-part}
use Rattle.ratchet_tree.proofs.Seating.{leaf_below, key-read, seat-read}
use Rattle.ratchet_tree.proofs.part.Part.push_key_at.Goals as goal

pub bounds-self-leaf : goal.bounds-self-leaf
bounds-self-leaf c =
    let told = seat-read (part_tree c.args.self) c.args.seats.now c.args.member.0 _ c.in-Some-At.leaf c.requires c.in-Some-At.ensures c.in-Some-At.field-0-is in
    leaf_below c.args.self.height c.args.self.nodes.now c.args.self.whole c.in-Some-At.leaf.0 told.0

pub overflow_mul-leaf : goal.overflow_mul-leaf
overflow_mul-leaf c =
    let told = seat-read (part_tree c.args.self) c.args.seats.now c.args.member.0 _ c.in-Some-At.leaf c.requires c.in-Some-At.ensures c.in-Some-At.field-0-is in
    omega (arith, leaf_below c.args.self.height c.args.self.nodes.now c.args.self.whole c.in-Some-At.leaf.0 told.0, (leaves-part c.args.self).1)

pub offset_bounds-self-leaf : goal.offset_bounds-self-leaf
offset_bounds-self-leaf c =
    let told = seat-read (part_tree c.args.self) c.args.seats.now c.args.member.0 _ c.in-Some-At.leaf c.requires c.in-Some-At.ensures c.in-Some-At.field-0-is in
    omega (arith, leaf_below c.args.self.height c.args.self.nodes.now c.args.self.whole c.in-Some-At.leaf.0 told.0, (leaves-part c.args.self).1)

pub returns-in-Some-At : goal.returns-in-Some-At
returns-in-Some-At c =
    let told = seat-read (part_tree c.args.self) c.args.seats.now c.args.member.0 _ c.in-Some-At.leaf c.requires c.in-Some-At.ensures c.in-Some-At.field-0-is in
    appends-as
    (c.leaf_key_of.ensures ∙ key-read c.args.self.height c.args.self.nodes.now c.args.self.whole c.args.member.0 c.in-Some-At.leaf.0 c.index-self-leaf.result told.0 ∙ sym told.1)
    c.push_some.ensures

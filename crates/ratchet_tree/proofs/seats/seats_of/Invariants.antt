use Rattle.std.proofs.Common.{◌+◌, ◌/◌, ◌<◌, length}
use Rattle.std.specs.List.{All}
use Rattle.ratchet_tree.specs.declared.member.MemberId.{MemberId}
use Rattle.ratchet_tree.specs.Parts.{part_tree}
use Rattle.ratchet_tree.specs.Seats.{line}
use Rattle.ratchet_tree.proofs.Seating.{ToldAll}
use Rattle.ratchet_tree.proofs.seats.seats_of.Given as goal

-- the leaves before the index, and an entry for each of the members
abbrev pub invariant-loop-index : goal.invariant-loop-index
invariant-loop-index l = record {
  told : ToldAll (line (part_tree l.part)) ((l.index + 1) / 2) l.seats.items;
  covers : All (λ (m : MemberId). m.0 < length l.seats.items) l.members;
}

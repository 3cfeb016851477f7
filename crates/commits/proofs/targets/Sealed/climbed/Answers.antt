use Rattle.std.proofs.Common.{rules, ◌+◌, not, vec_items, Ok, ap}
use mir.Val.{bool_byte}
use Rattle.std.proofs.lemmas.Iterator.Consumers.{YieldsList-at}
use Rattle.std.proofs.lemmas.Iterator.{YieldsList-from_map, YieldsList-from_slice}
use Rattle.std.proofs.lemmas.Iterator.Adapters.{items_from_extend}
use Rattle.std.specs.declared.alloc.AllocError.{AllocError}
use Rattle.ratchet_tree.specs.Parts.{part_tree}
use Rattle.commits.proofs.Sealing.{seals, target_at}
use Rattle.commits.proofs.targets.Sealed.climbed.Goals as goal

pub returns : goal.returns
returns c =
    let keys = vec_items c.in_ok-keys.keys in
    seals c.args.self.levels _ (vec_items c.args.self.targets) _ (part_tree c.args.other) keys c.in_ok-keys.keys.len c.in_ok-keys.ensures c.in_ok-keys.keys.ok.0
    (items_from_extend {E = AllocError} (Ok c.in_ok-extend.field-0) c.in_ok-extend.ensures.ran
    (YieldsList-from_map _ (target_at c.args.self.levels) (YieldsList-at c.map.ensures.source (YieldsList-from_slice keys cc)) c.map.ensures.closure (λ x r q k. search rules))).0
    (ap (λ b. c.args.self.levels + bool_byte (not b)) c.is_empty.ensures)

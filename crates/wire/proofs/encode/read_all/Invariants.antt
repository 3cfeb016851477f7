use Rattle.std.proofs.Common.{◌≡◌, flat_map, take, All, vec_items}
use Rattle.wire.proofs.encode.read_all.Given as goal

-- the values of the parts so far
abbrev pub invariant-loop-part : goal.invariant-loop-part
invariant-loop-part g l = record {
  bytes : flat_map g.T.Encode.encoded (vec_items l.values) ≡ flat_map (λ x. x) (take l.part-index l.part-items);
  fits : All g.T.Encode.fits (vec_items l.values);
}

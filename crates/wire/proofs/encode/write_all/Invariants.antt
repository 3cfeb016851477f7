use Rattle.std.proofs.Common.{◌≡◌, ◌++◌, flat_map, take, All, vec_items}
use Rattle.wire.proofs.encode.write_all.Given as goal

abbrev pub invariant-loop-value : goal.invariant-loop-value
invariant-loop-value g l = record {
  items : vec_items l.out ≡ vec_items l.fn.out ++ flat_map g.T.Encode.encoded (take l.value-index l.values);
  fits : All g.T.Encode.fits (take l.value-index l.values);
}

use Rattle.std.proofs.Common.{arith}
use Rattle.wire.proofs.encode.write.Goals as goal

pub to_bytes-requires : goal.to_bytes-requires
to_bytes-requires g c = let size = g.met.T.Encode.size in omega arith

pub shared_whole_as_slice-extend_from_slice : goal.shared_whole_as_slice-extend_from_slice
shared_whole_as_slice-extend_from_slice g c = let size = g.met.T.Encode.size in omega arith

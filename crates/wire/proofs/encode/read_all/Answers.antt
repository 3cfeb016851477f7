use Rattle.std.proofs.Common.{◌*◌, ◌<◌, length, flat_map, vec_items, ap, ◌∙◌, arith}
use Rattle.std.proofs.Math.Nat.{mod-lt}
use Rattle.std.proofs.lemmas.List.{take_all}
use Rattle.wire.proofs.Chunks.{chunks-held}
use Rattle.wire.proofs.encode.read_all.Goals as goal

pub as_chunks-requires : goal.as_chunks-requires
as_chunks-requires g c =
    let size = g.met.T.Encode.size in
    let few : g.row.N * 1 < 9223372036854775808 = omega (arith, size.1) in
    (few, size.0)

pub returns : goal.returns
returns g c =
    let chunks = c.as_chunks.ensures in
    record {
      value = record {
        left = c.as_chunks.result.1.now;
        bytes =
            chunks-held g.T.Encode.encoded (vec_items c.loop-part.values) g.row.N c.args.bytes.now c.as_chunks.result.1.now c.as_chunks.result.0.now
            (c.loop-part.invariant.bytes ∙ ap (flat_map (λ x. x)) (take_all c.loop-part.part-index c.as_chunks.result.0.now c.loop-part-test.false))
            chunks.front chunks.back;
        short = rw chunks.back_len (mod-lt (length c.args.bytes.now) g.met.T.Encode.size.0);
        fits = c.loop-part.invariant.fits;
      };
    }

use Rattle.std.proofs.Common.{ℕ, ◌*◌, ◌<◌, ◌≤◌, List, ◌++◌, length, sym, ap, ◌∙◌, arith}
use Rattle.wire.proofs.Fronts.{cut_at, too_short}
use Rattle.wire.proofs.encode.read.Goals as goal

pub split_first_chunk-requires : goal.split_first_chunk-requires
split_first_chunk-requires g c =
    let size = g.met.T.Encode.size in
    let few : g.row.N * 1 < 9223372036854775808 = omega (arith, size.1) in
    few

pub returns-in_err-front : goal.returns-in_err-front
returns-in_err-front g c =
    let none = c.in_err-front.ensures.cases in
    record {
      value = rw c.from_residual.ensures
          (λ x rest f e. too_short c.args.bytes.now (g.T.Encode.encoded x) rest g.row.N none (g.met.T.Encode.width x f) e);
    }

pub returns : goal.returns
returns g c =
    let cut = c.in_ok-front.ensures.cases in
    let h : g.row.N ≤ length c.args.bytes.now = omega (arith, cut.2) in
    record {
      value = (
        c.from_bytes.ensures.fits,
        (cut_at c.args.bytes.now c.in_ok-front.front.now c.in_ok-front.rest.now g.row.N h cut.0 cut.1).1
            ∙ ap (λ (l : List ℕ). l ++ c.in_ok-front.rest.now) (sym c.from_bytes.ensures.value),
      );
    }

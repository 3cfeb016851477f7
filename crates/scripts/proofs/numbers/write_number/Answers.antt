use Rattle.std.proofs.Common.{cond, ◌+◌, ◌++◌, is_ok, vec_items, ap, ◌∙◌, arith}
use Rattle.scripts.proofs.Decimals.{one-digit}
use Rattle.scripts.proofs.numbers.write_number.Goals as goal

pub returns-then-number-lt10 : goal.returns-then-number-lt10
returns-then-number-lt10 c =
    let old = vec_items c.args.out.now in
    record {
      items = c.extend_from_slice.ensures.items ∙ ap (λ t. cond (is_ok c.extend_from_slice.result) (old ++ t) old)
          (one-digit c.args.number (48 + c.args.number) (omega (arith, c.if-number-lt10.true)) c.if-number-lt10.true);
    }

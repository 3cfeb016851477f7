use Rattle.std.proofs.Common.{◌/◌, ◌++◌, length}
use native.Mathlib.Nat.{mul-div_cancel_left}
use Rattle.wire.specs.Bytes.{be16}
use Rattle.wire.proofs.Peeling.{read-run, peel-16}
use Rattle.wire.proofs.run.read_run.Goals as goal

pub returns-in_err-count : goal.returns-in_err-count
returns-in_err-count c =
    record {
      value = rw c.from_residual.ensures
          (λ x rest f e. c.in_err-count.ensures.value (length x / c.args.size.bytes) (x ++ rest) f.few e);
    }

pub returns : goal.returns
returns c =
    record {
      value =
          read-run c.args.size.bytes 65536 be16 peel-16 (λ n. mul-div_cancel_left n c.args.size.some) c.args.bytes.now c.in_ok-count.rest.now c.in_ok-count.count
          c.in_ok-count.ensures.value.0 c.in_ok-count.ensures.value.1 c.split_at_checked.result c.split_at_checked.ensures.cases;
    }

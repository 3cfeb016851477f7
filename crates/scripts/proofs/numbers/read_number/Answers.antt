use Rattle.std.proofs.Common.{◌≡◌, length, arith, rules}
use Rattle.scripts.proofs.Decimals.{read_more, read-stuck, read_all, not-empty, no-zero-first}
use Rattle.scripts.proofs.numbers.read_number.Goals as goal
use Rattle.scripts.proofs.numbers.read_number.Goals.{else-text-gt1-via-then-text-gt1+else-text-eq48, else-text-gt1-via-else-text-gt1}

pub returns-then-is_empty : goal.returns-then-is_empty
returns-then-is_empty c = λ n small e. not-empty n _ small e (search rules)

pub returns-then-text-eq48 : goal.returns-then-text-eq48
returns-then-text-eq48 c = λ n small e. let one : length c.args.text.now ≡ 1 = no-zero-first n _ small e (search rules) in omega arith

pub returns-in_err-number : goal.returns-in_err-number
returns-in_err-number c = rw c.from_residual.ensures (read-stuck c.args.text.now c.loop-byte.byte-index c.loop-byte.number c.loop-byte-test.true c.loop-byte.invariant c.in_err-number.ensures)

pub loop-byte-preserved : goal.loop-byte-preserved
loop-byte-preserved c =
    let e = c.in_ok-number.ensures in
    let r = read_more c.args.text.now c.loop-byte.byte-index c.loop-byte.number c.loop-byte-test.true c.loop-byte.invariant e.0 (omega arith) in
    rw e.1 r

pub returns : goal.returns
returns c =
    (read_all _ _ _ c.loop-byte-test.false c.loop-byte.invariant (search rules) (λ z. elim c.else-text-gt1.branch [ else-text-gt1-via-then-text-gt1+else-text-eq48 w ↦ search rules | else-text-gt1-via-else-text-gt1 w ↦ search rules ]), c.loop-byte.invariant.small)

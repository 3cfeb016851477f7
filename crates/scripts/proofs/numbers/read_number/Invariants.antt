use Rattle.scripts.proofs.Decimals.{Read}
use Rattle.scripts.proofs.numbers.read_number.Given as goal

abbrev pub invariant-loop-byte : goal.invariant-loop-byte
invariant-loop-byte l = Read l.text l.byte-index l.number

use Rattle.std.proofs.Common.{◌≡◌, ◌*◌, length, take}
use Rattle.session.specs.Text.{hex_text}
use Rattle.session.proofs.text.hex_digits.Given as goal

-- the digits of the bytes before
abbrev pub invariant-loop-i : goal.invariant-loop-i
invariant-loop-i l = (length l.digits ≡ 64) × (take (2 * l.i) l.digits ≡ hex_text (take l.i l.bytes))

use Rattle.std.proofs.Common.{rules, ◌+◌, ◌*◌, ◌∷◌, [], sym, ap, ap₂, ◌∙◌, arith}
use Rattle.std.proofs.lemmas.List.{take_all, length-set}
use Rattle.session.specs.Text.{hex_text}
use Rattle.session.proofs.Writing.{digits-more, hex-nothing}
use Rattle.session.proofs.text.hex_digits.Goals as goal

pub loop-i-init : goal.loop-i-init
loop-i-init c = (search rules, sym hex-nothing)

pub loop-i-preserved : goal.loop-i-preserved
loop-i-preserved c = (
  length-set _ (2 * c.loop-i.i + 1) _ ∙ length-set c.loop-i.digits (2 * c.loop-i.i) _ ∙ c.loop-i.invariant.0,
  digits-more c.args.bytes.now c.loop-i.digits c.loop-i.i _ _ 0 (omega (arith, c.loop-i-test.true, c.told-bytes)) (omega (arith, c.loop-i.invariant.0, c.loop-i-test.true))
      (ap₂ (λ a b. a ∷ b ∷ []) c.hex_digit.ensures c.hex_digit-in-loop-i.ensures) c.loop-i.invariant.1,
)

pub returns : goal.returns
returns c =
    sym (take_all (2 * c.loop-i.i) c.loop-i.digits (omega (arith, c.loop-i.invariant.0, c.loop-i-test.false))) ∙ c.loop-i.invariant.1
    ∙ ap hex_text (take_all c.loop-i.i c.args.bytes.now (omega (arith, c.told-bytes, c.loop-i-test.false)))

-- Tests that stop early: the answer of `a || b` and of `a && b` by its first part, then by its second.
-- Assumes nothing.
use Rattle.std.proofs.Common.{◌≡◌, Bool, true, false, ◌&&◌, ◌||◌, sym, ap, ◌∙◌}

pub or-first : {x a : Bool} (b : Bool) → x ≡ a → x ≡ true → x ≡ (a || b)
or-first {x} {a} b e t = t ∙ ap (λ (y : Bool). y || b) (sym t ∙ e)

pub or-second : {x y a b : Bool} → x ≡ a → x ≡ false → y ≡ b → y ≡ (a || b)
or-second {x} {y} {a} {b} e f g = g ∙ ap (λ (z : Bool). z || b) (sym f ∙ e)

pub and_first : {x a : Bool} (b : Bool) → x ≡ a → x ≡ false → x ≡ (a && b)
and_first {x} {a} b e f = f ∙ ap (λ (y : Bool). y && b) (sym f ∙ e)

pub and_second : {x y a b : Bool} → x ≡ a → x ≡ true → y ≡ b → y ≡ (a && b)
and_second {x} {y} {a} {b} e t g = g ∙ ap (λ (z : Bool). z && b) (sym t ∙ e)

-- Bytes appended to some.
-- Assumes nothing.
use Rattle.std.proofs.Common.{◌≡◌, Bool, cond, List, ◌++◌, is_ok, Result, ap, ◌∙◌}
use Rattle.ratchet_tree.specs.Keys.{Appends}

-- an append as the library has it
pub appends-slice : {X T E : Type 0} {a x b : List X} {r : Result T E} → b ≡ cond (is_ok r) (a ++ x) a → Appends a x b r
appends-slice {a = a} {x = x} e = record { items = λ k. e ∙ ap (λ (t : Bool). cond t (a ++ x) a) k }

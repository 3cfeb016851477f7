-- Appends, one after another.
use Rattle.std.proofs.Common.{◌≡◌, List, ◌++◌, ap, ◌∙◌, append_assoc}

-- one append after another
pub then-more : {X : Type 0} (old a b : List X) {mid new : List X} → mid ≡ old ++ a → new ≡ mid ++ b → new ≡ old ++ (a ++ b)
then-more old a b first second = second ∙ ap (λ l. l ++ b) first ∙ append_assoc old a b

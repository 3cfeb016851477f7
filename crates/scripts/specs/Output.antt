-- What an append leaves.
-- `Appends old new bytes r`: new is old with the bytes behind it, or with some others where memory fails.
-- The `Appends` of ratchet_tree says nothing of what is left then; a line that is taken back needs it.
-- Assumes nothing.
use Rattle.std.specs.Prelude.{◌≡◌, ℕ, List, ◌++◌, Result, MatchResult}

-- all the bytes stand behind the old ones where the append succeeds, else some
abbrev pub Appends : {T E : Type 0} → List ℕ → List ℕ → List ℕ → Result T E → Type 0
Appends old new bytes r = MatchResult r (λ _. new ≡ old ++ bytes) (λ _. (some : List ℕ) × (new ≡ old ++ some))

-- The exit of a `?` where a reader found nothing.
-- Assumes nothing.
use Rattle.std.proofs.Common.{◌≡◌, ℕ, Some, None, Err, Option, Result, refl, arith}
use Rattle.std.specs.Option.{ok_or}

pub missing : {T E : Type 0} (o : Option T) (x e : E) → ◌≡◌ {A = Result T E} (Err x) (ok_or o e) → (o ≡ None) × (x ≡ e)
missing None x e p = (refl, let same : x ≡ e = cc in same)
missing (Some t) x e p = let z : ◌≡◌ {A = ℕ} 0 1 = cc in absurd (omega arith)

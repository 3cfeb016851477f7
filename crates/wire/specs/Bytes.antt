-- Numbers and keys as bytes, and what a reader answers.
-- `be16`, `be32`: a number, its high byte first; `key_bytes`: a public half; `Half`: it has its 32 bytes; `Whole`, `run_bytes`: parts of one size in a row, and after their number;
-- `Reads`: what a reader finds at the front of some bytes, or that it isn't there; `ReadsAs`: the same of a value that is seen another way.
-- Assumes nothing.
use Rattle.std.specs.Borrow.{Bor}
use Rattle.std.specs.Prelude.{◌≡◌, ℕ, ◌*◌, ◌/◌, ◌%◌, ◌<◌, List, [], ◌∷◌, ◌++◌, length, Some, None, Option, ◌≢◌, All, flat_map}
use Rattle.ratchet_tree.specs.declared.member.PublicKey.{PublicKey}

abbrev pub be16 : ℕ → List ℕ
be16 n = (n / 256 % 256) ∷ (n % 256) ∷ []

abbrev pub be32 : ℕ → List ℕ
be32 n = (n / 16777216 % 256) ∷ (n / 65536 % 256) ∷ (n / 256 % 256) ∷ (n % 256) ∷ []

abbrev pub key_bytes : PublicKey → List ℕ
key_bytes k = k.0

-- a public half has 32 bytes
abbrev pub Half : PublicKey → Type 0
Half k = length k.0 ≡ 32

-- the bytes are parts of some size, fewer than the limit
pub record Whole (size limit : ℕ) (bs : List ℕ) : Type 0 where
  pub whole : length bs ≡ size * (length bs / size)
  pub few : length bs / size < limit

-- parts of some size after their number in two bytes
abbrev pub run_bytes : ℕ → List ℕ → List ℕ
run_bytes size bs = be16 (length bs / size) ++ bs

-- a value that fits stands at the front, and then the rest; or no such value does
abbrev pub ReadsAs : {C X : Type 0} → (C → X) → (X → Type 0) → (X → List ℕ) → List ℕ → Option (C × Bor (List ℕ)) → Type 0
ReadsAs {X = X} view Fits enc b None = (x : X) (rest : List ℕ) → Fits x → b ≢ enc x ++ rest
ReadsAs view Fits enc b (Some p) = Fits (view p.0) × (b ≡ enc (view p.0) ++ p.1.now)

abbrev pub Reads : {X : Type 0} → (X → Type 0) → (X → List ℕ) → List ℕ → Option (X × Bor (List ℕ)) → Type 0
Reads Fits enc b r = ReadsAs (λ x. x) Fits enc b r

-- the values that stand one after the other in some bytes; what is left is shorter than one
pub record Holds {X : Type 0} (Fits : X → Type 0) (enc : X → List ℕ) (width : ℕ) (xs : List X) (b : List ℕ) : Type 0 where
  pub left : List ℕ
  pub bytes : b ≡ flat_map enc xs ++ left
  pub short : length left < width
  pub fits : All Fits xs

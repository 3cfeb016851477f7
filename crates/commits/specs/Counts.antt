-- How many node keys and boxes a path has.
-- `capped`: a number as sums that stop at the largest one give it; `next_level`: the node keys with those of one parent more;
-- `Counted`: the counts of a path that is laid; `CountsOf`: the counts of a member's path in a tree.
-- Assumes nothing.
use Rattle.std.specs.Prelude.{◌≡◌, ℕ, zero, suc, ◌-◌, ◌^◌, min, length}
use Rattle.theory.specs.Path.{Laid, laid}
use Rattle.theory.specs.Tree.{Tree}
use Rattle.ratchet_tree.specs.declared.member.PublicKey.{PublicKey}
use Rattle.commits.specs.declared.count.Counts.{Counts}

-- the number itself, or the largest of 64 bits where that is less
abbrev pub capped : ℕ → ℕ
capped n = min n (2 ^ 64 - 1)

-- one node key more where there are keys on the other side to seal to
abbrev pub next_level : ℕ → ℕ → ℕ
next_level i zero = i
next_level i (suc n) = suc i

-- the node keys of a path, and its boxes: one for each target
pub record Counted (x : Laid PublicKey) (c : Counts) : Type 0 where
  pub levels : c.node_keys ≡ x.levels
  pub targets : c.boxes ≡ capped (length x.targets)

-- the counts of m's path in a tree, whatever keys are laid
abbrev pub CountsOf : ℕ → Tree PublicKey → Counts → Type 0
CountsOf m t c = (own : PublicKey) (keys : ℕ → PublicKey) → Counted (laid m own keys t) c

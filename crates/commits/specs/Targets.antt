-- Whom a path is sealed to, in the code's own lists.
-- `target_of`: a target as the theory has it; `SealsOther`, `SealsPath`: what one level, and a whole path, appends; `Targets`: the targets of a path.
-- Which keys the path lays does not matter to any of them, so they hold for all.
-- Assumes nothing.
use Rattle.std.specs.Prelude.{◌≡◌, ℕ, List, [], ◌++◌, map, Ok, Err, Result, vec_items}
use Rattle.std.specs.declared.alloc.AllocError.{AllocError}
use Rattle.theory.specs.Path as theory
use Rattle.theory.specs.Tree.{Tree, resolution}
use Rattle.ratchet_tree.specs.declared.member.PublicKey.{PublicKey}
use Rattle.commits.specs.declared.targets.Sealed.{Sealed}
use Rattle.commits.specs.declared.targets.Target.{Target}

abbrev pub target_of : Target → theory.Target PublicKey
target_of t = record { key = t.key; level = t.level }

-- the path secret of level i is sealed to every key of the other side, and n is the level above
pub record SealedOther (i : ℕ) (other : Tree PublicKey) (before after : List Target) (n : ℕ) : Type 0 where
  pub level : n ≡ theory.level_after i (resolution other)
  pub targets : map target_of after ≡ map target_of before ++ theory.sealed_to i (resolution other)

abbrev pub SealsOther : Sealed → Tree PublicKey → Result Sealed AllocError → Type 0
SealsOther s other (Ok r) = SealedOther s.levels other (vec_items s.targets) (vec_items r.targets) r.levels
SealsOther s other (Err e) = Unit {0}

-- the targets of m's path in a tree, which has n levels
pub record SealedPath (m : ℕ) (t : Tree PublicKey) (before after : List Target) (n : ℕ) : Type 0 where
  pub level : (own : PublicKey) (keys : ℕ → PublicKey) → n ≡ (theory.laid m own keys t).levels
  pub targets : (own : PublicKey) (keys : ℕ → PublicKey) → map target_of after ≡ map target_of before ++ (theory.laid m own keys t).targets

abbrev pub SealsPath : ℕ → Tree PublicKey → Result Sealed AllocError → Type 0
SealsPath m t (Ok r) = SealedPath m t [] (vec_items r.targets) r.levels
SealsPath m t (Err e) = Unit {0}

-- these are the targets of m's path in a tree
abbrev pub Targets : ℕ → Tree PublicKey → List Target → Type 0
Targets m t ts = (own : PublicKey) (keys : ℕ → PublicKey) → map target_of ts ≡ (theory.laid m own keys t).targets

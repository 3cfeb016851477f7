-- What writing a tree file does.
-- `countable_at`, `countable`: every list of unmerged members can be counted in two bytes; `Filed`: the bytes that are appended, or why none are.
-- Assumes nothing.
use Rattle.std.specs.Prelude.{◌≡◌, ℕ, Bool, true, ◌&&◌, List, ◌++◌, length, Ok, Err, Result, nat_lt}
use Rattle.theory.specs.Tree.{Tree, leaf, node, Parent, blank_parent, keyed}
use Rattle.ratchet_tree.specs.declared.member.PublicKey.{PublicKey}
use Rattle.tree_files.specs.Verdict.{File, Fits, bytes_of}
use Rattle.messages.specs.declared.message.WriteError.{WriteError}
use Rattle.messages.specs.declared.message.WriteError.TheVariants.{DoesNotFit, OutOfMemory}

abbrev pub countable_at : Parent PublicKey → Bool
countable_at blank_parent = true
countable_at (keyed k un) = nat_lt (length un) 65536

unfoldable pub countable : Tree PublicKey → Bool
countable (leaf x) = true
countable (node p l r) = countable_at p && (countable l && countable r)

-- the file was appended; or it doesn't fit and nothing was; or there was no memory, and nothing is said of what is left
abbrev pub Filed : File → List ℕ → List ℕ → Result (Unit {0}) WriteError → Type 0
Filed f before after (Ok x) = Fits f × (after ≡ before ++ bytes_of f)
Filed f before after (Err DoesNotFit) = (after ≡ before) × (Fits f → ⊥)
Filed f before after (Err OutOfMemory) = Unit {0}

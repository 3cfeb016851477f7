-- What adding answers.
-- `Grown`: a copy of a tree with a blank leaf; `Joined`: the tree with the newcomer, or why there is none.
-- Assumes nothing.
use Rattle.std.specs.Prelude.{◌≡◌, ℕ, true, Ok, Err, Result}
use Rattle.theory.specs.Limits.{max_depth}
use Rattle.theory.specs.Tree.{Tree, full, height, grown, added}
use Rattle.ratchet_tree.specs.Trees.{the_tree}
use Rattle.ratchet_tree.specs.declared.error.TreeError.{TreeError}
use Rattle.ratchet_tree.specs.declared.error.TreeError.TheVariants.{NoRoom, OutOfMemory}
use Rattle.ratchet_tree.specs.declared.member.PublicKey.{PublicKey}
use Rattle.ratchet_tree.specs.declared.tree.RatchetTree.{RatchetTree}

-- why a tree takes nobody: the deepest one is full
abbrev pub Refused : Tree PublicKey → TreeError → Type 0
Refused t NoRoom = (full t ≡ true) × (height t ≡ max_depth)
Refused t OutOfMemory = Unit {0}

-- a copy with a blank leaf, or why there is none
abbrev pub Grown : RatchetTree → Result RatchetTree TreeError → Type 0
Grown t (Ok u) = the_tree u ≡ grown (the_tree t)
Grown t (Err e) = Refused (the_tree t) e

-- the tree with the newcomer
abbrev pub Joined : ℕ → PublicKey → RatchetTree → Result RatchetTree TreeError → Type 0
Joined m k t (Ok u) = the_tree u ≡ added m k (grown (the_tree t))
Joined m k t (Err e) = Refused (the_tree t) e

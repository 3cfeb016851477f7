-- Appending keys to a list, and a node key as it is lent.
-- `Appends`: what a list holds after an append that may find no memory; `IsKeyed`: a parent's key and unmerged members.
-- Assumes nothing.
use Rattle.std.specs.Prelude.{◌≡◌, true, List, ◌++◌, is_ok, Result}
use Rattle.theory.specs.Tree.{Parent, keyed}
use Rattle.ratchet_tree.specs.Nodes.{numbers}
use Rattle.ratchet_tree.specs.declared.keys.Keyed.{Keyed}
use Rattle.ratchet_tree.specs.declared.member.PublicKey.{PublicKey}

-- `more` was appended to `before`; where there was no memory nothing is said of what is left
pub record Appends {X T E : Type 0} (before more after : List X) (r : Result T E) : Type 0 where
  pub items : is_ok r ≡ true → after ≡ before ++ more

-- what was lent is the key and the unmerged members of the parent
abbrev pub IsKeyed : Keyed → Parent PublicKey → Type 0
IsKeyed k p = p ≡ keyed k.key (numbers k.unmerged.now)

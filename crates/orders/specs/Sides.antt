-- The halves of a part as a member below sees them.
-- `SidesOf`: the half that the member is seated in, and the other; who is not in the left half is looked for in the right one.
-- Assumes nothing.
use Rattle.std.specs.Prelude.{◌≡◌, ℕ, cond}
use Rattle.theory.specs.Tree.{seated}
use Rattle.ratchet_tree.specs.Parts.{part_tree}
use Rattle.ratchet_tree.specs.declared.part.Part.{Part}
use Rattle.ratchet_tree.specs.declared.sides.Sides.{Sides}

pub record SidesOf (w : ℕ) (l r : Part) (s : Sides) : Type 0 where
  pub own : part_tree s.own ≡ cond (seated w (part_tree l)) (part_tree l) (part_tree r)
  pub other : part_tree s.other ≡ cond (seated w (part_tree l)) (part_tree r) (part_tree l)
  pub height : s.own.height ≡ cond (seated w (part_tree l)) l.height r.height

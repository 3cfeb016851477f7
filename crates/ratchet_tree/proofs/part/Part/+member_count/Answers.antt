use Rattle.std.proofs.Common.{◌≡◌, ◌+◌, Bool, true, false, cond, not, sym, refl, ap, ◌∙◌, ap₂, arith}
use mir.Val.{bool_byte}
use Rattle.theory.specs.Tree.{members}
use Rattle.ratchet_tree.proofs.Counts.{members-few}
use Rattle.ratchet_tree.proofs.part.Part.+member_count.Goals as goal

-- a test as a number
counts : (b : Bool) → bool_byte (not b) ≡ cond b 0 1
counts true = refl
counts false = refl

pub overflow_add-result : goal.overflow_add-result
overflow_add-result t c =
    omega (
      arith,
      c.member_count.ensures,
      c.member_count-in-Parent.ensures,
      members-few c.in-Parent.left.height c.in-Parent.left.nodes.now c.in-Parent.left.shallow,
      members-few c.in-Parent.right.height c.in-Parent.right.nodes.now c.in-Parent.right.shallow,
    )

pub returns-in-Leaf : goal.returns-in-Leaf
unfolding members
returns-in-Leaf t c = ap bool_byte c.is_occupied.ensures ∙ counts _ ∙ ap members (sym c.in-Leaf.ensures.1)

pub returns-in-Parent : goal.returns-in-Parent
unfolding members
returns-in-Parent t c = ap₂ ◌+◌ c.member_count.ensures c.member_count-in-Parent.ensures ∙ ap members (sym c.in-Parent.ensures.tree)

-- The node keys that are taken from a member.
-- `taken`: of the parents above it for which a test holds, from below.
-- Assumes nothing.
use Rattle.std.specs.Prelude.{ℕ, suc, Bool, cond, List, [], ◌++◌}
use Rattle.theory.specs.Tree.{Tree, leaf, node, seated, height}
use Rattle.vault_theory.specs.Order.{Order}
use Rattle.vault_theory.specs.Orders.{held_forgotten}

unfoldable pub taken : {K : Type 0} → ℕ → (Tree K → Bool) → Tree K → List (Order K)
taken w test (leaf x) = []
taken w test (node p l r) =
    cond (seated w l) (taken w test l) (taken w test r) ++ cond (test (node p l r)) (held_forgotten w p (suc (height l))) []

-- Where a position lies.
-- Assumes nothing.
use Rattle.std.proofs.Common.{◌≡◌, ℕ, not, T, ◌↔◌, List, [], ◌∷◌, Some, None, Option, refl, T_not}
use Rattle.theory.specs.Tree.{Tree, leaf, node, Parent, is_at, seated, leaves, position, or_else}
use Rattle.theory.specs.Places.{Turn, left, right, leaf_at, sits, leaves_before}
use Rattle.theory.specs.Laws.{Positioned, PositionIs}
use Rattle.theory.proofs.Tests.{by_cond, nor}
use Rattle.theory.proofs.Places.{sits-seated}

-- m isn't seated, or has a place and as many leaves before it as its position says
pub data Found {K : Type 0} (m : ℕ) (t : Tree K) : Option ℕ → Type 0 where
  nowhere : T (not (seated m t)) → Found m t None
  at : (p : List Turn) → T (sits m p t) → Found m t (Some (leaves_before p t))

found-node :
    {K : Type 0} (m : ℕ) (c : Parent K) (l r : Tree K) {x y : Option ℕ} → Found m l x → Found m r y →
    Found m (node c l r) (or_else x (leaves l) y)
unfolding seated leaf_at leaves_before
found-node m c l r (nowhere h) (nowhere k) = nowhere (nor (seated m l) (seated m r) h k)
found-node m c l r (nowhere h) (at p s) = at (right ∷ p) s
found-node m c l r (at p s) f = at (left ∷ p) s

pub found : {K : Type 0} (m : ℕ) (t : Tree K) → Found m t (position m t)
unfolding position seated leaf_at leaves_before
found m (leaf x) = by_cond (Found m (leaf x)) (is_at m x) _ _ (λ h. at [] h) (λ h. nowhere h)
found m (node c l r) = found-node m c l r (found m l) (found m r)

found_at :
    {K : Type 0} {m : ℕ} {t : Tree K} {o : Option ℕ} → Found m t o → (i : ℕ) → o ≡ Some i →
    (p : List Turn) × T (sits m p t) × (leaves_before p t ≡ i)
found_at (nowhere h) i e = cc
found_at (at p s) i e = (p, s, cc)

found_none : {K : Type 0} {m : ℕ} {t : Tree K} {o : Option ℕ} → Found m t o → (o ≡ None) ↔ T (not (seated m t))
found_none (nowhere h) = (λ _. h, λ _. refl)
found_none {m} {t} (at p s) =
    (λ e. cc, λ n. absurd (T_not (seated m t) n (sits-seated m p t s)))

pub positioned : {K : Type 0} (m : ℕ) (t : Tree K) → Positioned m t
positioned m t = record { there = found_at (found m t); none = found_none (found m t) }

pub position_is : PositionIs
position_is = positioned

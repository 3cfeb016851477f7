-- Places and who sits at them.
-- Assumes nothing.
use Rattle.std.proofs.Common.{◌≡◌, ℕ, T, List, [], ◌∷◌, refl, ap, inl, inr}
use Rattle.theory.specs.Tree.{Tree, leaf, node, Leaf, Parent, seated}
use Rattle.theory.specs.Places.{Turn, left, right, leaf_at, parent_at, sits, Over, top, down}
use Rattle.theory.proofs.Tests.{or_left, or_right, or_cases}

-- who sits at a place is seated
pub sits-seated : {K : Type 0} (m : ℕ) (p : List Turn) (t : Tree K) → T (sits m p t) → T (seated m t)
unfolding leaf_at seated
sits-seated m [] (leaf x) h = h
sits-seated m [] (node p l r) h = elim h [ ]
sits-seated m (d ∷ w) (leaf x) h = elim h [ ]
sits-seated m (left ∷ w) (node p l r) h = or_left (seated m l) (seated m r) (sits-seated m w l h)
sits-seated m (right ∷ w) (node p l r) h = or_right (seated m l) (seated m r) (sits-seated m w r h)

-- who is seated sits at some place
pub seated-sits : {K : Type 0} (m : ℕ) (t : Tree K) → T (seated m t) → (p : List Turn) × T (sits m p t)
unfolding leaf_at seated
seated-sits m (leaf x) h = ([], h)
seated-sits m (node p l r) h =
    elim (or_cases (seated m l) (seated m r) h) [
      | inl a ↦ (left ∷ (seated-sits m l a).0, (seated-sits m l a).1)
      | inr b ↦ (right ∷ (seated-sits m r b).0, (seated-sits m r b).1)
    ]

-- who is seated under a parent sits at some place below it
pub seated-below :
    {K : Type 0} (m : ℕ) (c : Parent K) (l r : Tree K) → T (seated m (node c l r)) →
    (p : List Turn) × Over [] p × T (sits m p (node c l r))
unfolding leaf_at seated
seated-below m c l r h =
    elim (or_cases (seated m l) (seated m r) h) [
      | inl a ↦ (left ∷ (seated-sits m l a).0, top, (seated-sits m l a).1)
      | inr b ↦ (right ∷ (seated-sits m r b).0, top, (seated-sits m r b).1)
    ]

-- the two trees differ only along the path down to the leaf at a place
pub data Along {K : Type 0} : Tree K → Tree K → List Turn → Type 0 where
  here : {x y : Leaf K} → Along (leaf x) (leaf y) []
  in_left : {c d : Parent K} {l l' r : Tree K} {p : List Turn} → Along l l' p → Along (node c l r) (node d l' r) (left ∷ p)
  in_right : {c d : Parent K} {l r r' : Tree K} {p : List Turn} → Along r r' p → Along (node c l r) (node d l r') (right ∷ p)

pub leaves_kept : {K : Type 0} {t u : Tree K} {p : List Turn} → Along t u p → (q : List Turn) → (q ≡ p → ⊥) → leaf_at q u ≡ leaf_at q t
unfolding leaf_at
leaves_kept here [] h = absurd (h refl)
leaves_kept here (d ∷ q) h = refl
leaves_kept (in_left a) [] h = refl
leaves_kept (in_left a) (left ∷ q) h = leaves_kept a q (λ e. h (ap (λ w. left ∷ w) e))
leaves_kept (in_left a) (right ∷ q) h = refl
leaves_kept (in_right a) [] h = refl
leaves_kept (in_right a) (left ∷ q) h = refl
leaves_kept (in_right a) (right ∷ q) h = leaves_kept a q (λ e. h (ap (λ w. right ∷ w) e))

pub parents-kept :
    {K : Type 0} {t u : Tree K} {p : List Turn} → Along t u p → (q : List Turn) → (Over q p → ⊥) → parent_at q u ≡ parent_at q t
unfolding parent_at
parents-kept here [] h = refl
parents-kept here (d ∷ q) h = refl
parents-kept (in_left a) [] h = absurd (h top)
parents-kept (in_left a) (left ∷ q) h = parents-kept a q (λ o. h (down o))
parents-kept (in_left a) (right ∷ q) h = refl
parents-kept (in_right a) [] h = absurd (h top)
parents-kept (in_right a) (left ∷ q) h = refl
parents-kept (in_right a) (right ∷ q) h = parents-kept a q (λ o. h (down o))

-- What a path does to leaves and parents, by a view of it: `From`.
-- Assumes nothing.
use Rattle.std.proofs.Common.{◌≡◌, ℕ, T, List, [], ◌∷◌, Some, refl, arith, T_not}
use Rattle.theory.specs.Tree.{Tree, leaf, node, occupied, Parent, seated, resolution}
use Rattle.theory.specs.Path.{Target, parent_laid, level_after}
use Rattle.theory.specs.Places.{Turn, left, right, leaf_at, parent_at, sits, Over, top, down, right_half, left_half, under_left, under_right}
use Rattle.theory.specs.Laws.{AbovePath, OverMaker, SitsOnlyAt, PathLaid}
use Rattle.theory.proofs.Places.{sits-seated, seated-sits, Along, leaves_kept, parents-kept}
use Rattle.theory.proofs.Places as along
use Rattle.theory.proofs.Wellformed.{Climbing, climbing}
use Rattle.theory.proofs.Wellformed as climbs

-- m's path from the place makes the second tree of the first, with so many node keys
pub data From {K : Type 0} (m : ℕ) (own : K) (keys : ℕ → K) : Tree K → Tree K → ℕ → List Turn → Type 0 where
  here : {k : K} → From m own keys (leaf (occupied m k)) (leaf (occupied m own)) 0 []
  in_left :
      {c : Parent K} {l l' r : Tree K} {i : ℕ} {p : List Turn} → From m own keys l l' i p →
      From m own keys (node c l r) (node (parent_laid keys i (resolution r)) l' r) (level_after i (resolution r)) (left ∷ p)
  in_right :
      {c : Parent K} {l r r' : Tree K} {i : ℕ} {p : List Turn} → From m own keys r r' i p →
      From m own keys (node c l r) (node (parent_laid keys i (resolution l)) l r') (level_after i (resolution l)) (right ∷ p)

module _ {K : Type 0} {m : ℕ} {own : K} {keys : ℕ → K} where
  pub from :
      {t u : Tree K} {i : ℕ} {ts : List (Target K)} → Climbing m own keys t u i ts →
      (p : List Turn) → T (sits m p t) → ((q : List Turn) → T (sits m q t) → q ≡ p) → From m own keys t u i p
  unfolding leaf_at
  from (climbs.elsewhere {t} h) p s f = absurd (T_not (seated m t) h (sits-seated m p t s))
  from climbs.here [] s f = here
  from climbs.here (d ∷ p) s f = elim s [ ]
  from (climbs.in_left h a) [] s f = elim s [ ]
  from (climbs.in_left h a) (left ∷ p) s f = in_left (from a p s (λ q x. cc (f (left ∷ q) x)))
  from (climbs.in_left {l} h a) (right ∷ p) s f =
      let x = seated-sits m l h in cc (f (left ∷ x.0) x.1)
  from (climbs.in_right h g a) [] s f = elim s [ ]
  from (climbs.in_right {l} h g a) (left ∷ p) s f = absurd (T_not (seated m l) h (sits-seated m p l s))
  from (climbs.in_right h g a) (right ∷ p) s f = in_right (from a p s (λ q x. cc (f (right ∷ q) x)))

  from-leaf : {t u : Tree K} {i : ℕ} {p : List Turn} → From m own keys t u i p → leaf_at p u ≡ Some (occupied m own)
  unfolding leaf_at
  from-leaf here = refl
  from-leaf (in_left a) = from-leaf a
  from-leaf (in_right a) = from-leaf a

  from-along : {t u : Tree K} {i : ℕ} {p : List Turn} → From m own keys t u i p → Along t u p
  from-along here = along.here
  from-along (in_left a) = along.in_left (from-along a)
  from-along (in_right a) = along.in_right (from-along a)

  parents-above :
      {t u : Tree K} {i : ℕ} {p q : List Turn} → From m own keys t u i p → Over q p → AbovePath keys t u i p q
  unfolding parent_at
  parents-above here o = elim o [ ]
  parents-above (in_left {r} {i} a) top = grind (arith, right_half)
  parents-above (in_left {r} {i} a) (down o) = grind (arith, under_left, parents-above a o)
  parents-above (in_right {l} {i} a) top = grind (arith, left_half)
  parents-above (in_right {l} {i} a) (down o) = grind (arith, under_right, parents-above a o)

pub over-maker :
    {K : Type 0} (m : ℕ) (own : K) (keys : ℕ → K) (t : Tree K) (p : List Turn) → SitsOnlyAt m p t → OverMaker m own keys t p
over-maker m own keys t p s =
    let a = from (climbing m own keys t) p s.0 s.1 in
    record {
      renewed = from-leaf a;
      others = leaves_kept (from-along a);
      above = λ q. parents-above a;
      apart = parents-kept (from-along a);
    }

pub path_laid : PathLaid
path_laid = over-maker

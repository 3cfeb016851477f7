-- What an addition does to leaves and parents, by a view of it: `Adding`.
-- Assumes nothing.
use Rattle.std.proofs.Common.{◌≡◌, ℕ, Bool, true, false, not, ◌||◌, T, eqb, List, [], ◌∷◌, Some, None, Option, sym, refl, ap, ◌∙◌, inl, inr, T_not, arith}
use mathlib.Core.Bool.{or_assoc, or_comm}
use lib.Dec.{eqb_refl}
use Rattle.std.specs.Option.{option_map}
use Rattle.theory.specs.Tree.{Tree, leaf, node, Leaf, blank_leaf, occupied, Parent, blank_parent, keyed, is_blank, seated, full, unmerged_at, added}
use Rattle.theory.specs.Held.{is_unmerged}
use Rattle.theory.specs.Places.{Turn, left, right, leaf_at, parent_at, sits, has_key, has_unmerged, Over, top, down, LeftOf, parts, after}
use Rattle.theory.specs.Laws.{Seating, Addition, Unmerged, UnmergedSince}
use Rattle.std.proofs.lemmas.Option.{same_Some}
use Rattle.theory.proofs.Tests.{decided, is_true, is_false, and_left, and_right, nand-right, nor-left, nor-right}
use Rattle.theory.proofs.Places.{sits-seated, Along, leaves_kept, parents-kept}
use Rattle.theory.proofs.Places as along

-- m comes with k into the first tree, which makes the second of it, and takes the place
pub data Adding {K : Type 0} (m : ℕ) (k : K) : Tree K → Tree K → List Turn → Type 0 where
  here : Adding m k (leaf blank_leaf) (leaf (occupied m k)) []
  in_left :
      {c : Parent K} {l l' r : Tree K} {p : List Turn} → Adding m k l l' p →
      Adding m k (node c l r) (node (unmerged_at m c) l' r) (left ∷ p)
  in_right :
      {c : Parent K} {l r r' : Tree K} {p : List Turn} → T (full l) → Adding m k r r' p →
      Adding m k (node c l r) (node (unmerged_at m c) l r') (right ∷ p)

-- a full tree takes nobody
pub added_full : {K : Type 0} (m : ℕ) (k : K) (t : Tree K) → T (full t) → added m k t ≡ t
unfolding added full
added_full m k (leaf blank_leaf) h = elim h [ ]
added_full m k (leaf (occupied w j)) h = refl
added_full m k (node c l r) h = grind arith

-- every other tree has a place
pub adding : {K : Type 0} (m : ℕ) (k : K) (t : Tree K) → T (not (full t)) → (p : List Turn) × Adding m k t (added m k t) p
unfolding added full
adding m k (leaf blank_leaf) h = ([], here)
adding m k (leaf (occupied w j)) h = elim h [ ]
adding m k (node c l r) h =
    elim (decided (full l)) [
      | inl a ↦
          let b : T (not (full r)) = nand-right (full l) (full r) a h in
          rw (is_true (full l) a, is_false (full r) b) (right ∷ (adding m k r b).0, in_right a (adding m k r b).1)
      | inr b ↦ rw (is_false (full l) b) (left ∷ (adding m k l b).0, in_left (adding m k l b).1)
    ]

-- no leaf of a full tree is blank
full-leaf :
    {K : Type 0} (q : List Turn) (t : Tree K) → T (full t) → (x : Leaf K) → leaf_at q t ≡ Some x → T (not (is_blank x))
unfolding leaf_at full
full-leaf [] (leaf y) h x e = rw (same_Some _ _ e) at h
full-leaf [] (node c l r) h x e = cc
full-leaf (d ∷ q) (leaf y) h x e = cc
full-leaf (left ∷ q) (node c l r) h x e = full-leaf q l (and_left (full l) (full r) h) x e
full-leaf (right ∷ q) (node c l r) h x e = full-leaf q r (and_right (full l) (full r) h) x e

pub or-last : (a b c : Bool) → (a || c || b) ≡ (a || b || c)
or-last true b c = refl
or-last false b c = or_comm c b

module _ {K : Type 0} {m : ℕ} {k : K} where
  pub place-free : {t u : Tree K} {p : List Turn} → Adding m k t u p → leaf_at p t ≡ Some blank_leaf
  unfolding leaf_at
  place-free here = refl
  place-free (in_left a) = place-free a
  place-free (in_right f a) = place-free a

  pub place-taken : {t u : Tree K} {p : List Turn} → Adding m k t u p → leaf_at p u ≡ Some (occupied m k)
  unfolding leaf_at
  place-taken here = refl
  place-taken (in_left a) = place-taken a
  place-taken (in_right f a) = place-taken a

  pub before-taken :
      {t u : Tree K} {p q : List Turn} → Adding m k t u p → LeftOf q p → (x : Leaf K) → leaf_at q t ≡ Some x → T (not (is_blank x))
  unfolding leaf_at full
  before-taken here b x e = elim b [ ]
  before-taken (in_left a) (after b) x e = before-taken a b x e
  before-taken (in_right f a) (parts {p}) x e = full-leaf p _ f x e
  before-taken (in_right f a) (after b) x e = before-taken a b x e

  pub adding-along : {t u : Tree K} {p : List Turn} → Adding m k t u p → Along t u p
  adding-along here = along.here
  adding-along (in_left a) = along.in_left (adding-along a)
  adding-along (in_right f a) = along.in_right (adding-along a)

  pub parents-above :
      {t u : Tree K} {p q : List Turn} → Adding m k t u p → Over q p → parent_at q u ≡ option_map (unmerged_at m) (parent_at q t)
  unfolding parent_at
  parents-above here o = elim o [ ]
  parents-above (in_left a) top = refl
  parents-above (in_left a) (down o) = parents-above a o
  parents-above (in_right f a) top = refl
  parents-above (in_right f a) (down o) = parents-above a o

  pub seated-adding : {t u : Tree K} {p : List Turn} → Adding m k t u p → (w : ℕ) → seated w u ≡ (seated w t || eqb m w)
  unfolding seated
  seated-adding here w = refl
  seated-adding (in_left {l} {r} a) w = rw (seated-adding a w) (or-last (seated w l) (seated w r) (eqb m w))
  seated-adding (in_right {l} {r} f a) w =
      rw (seated-adding a w) (sym (or_assoc (seated w l) (seated w r) (eqb m w)))

  pub only-place :
      {t u : Tree K} {p : List Turn} → Adding m k t u p → (q : List Turn) → T (not (seated m t)) → T (sits m q u) → q ≡ p
  unfolding leaf_at seated
  only-place here [] h s = refl
  only-place here (d ∷ q) h s = elim s [ ]
  only-place (in_left a) [] h s = elim s [ ]
  only-place (in_left {l} {r} a) (left ∷ q) h s =
      ap (λ w. left ∷ w) (only-place a q (nor-left (seated m l) (seated m r) h) s)
  only-place (in_left {l} {r} a) (right ∷ q) h s =
      absurd (T_not (seated m r) (nor-right (seated m l) (seated m r) h) (sits-seated m q r s))
  only-place (in_right f a) [] h s = elim s [ ]
  only-place (in_right {l} {r} f a) (left ∷ q) h s =
      absurd (T_not (seated m l) (nor-left (seated m l) (seated m r) h) (sits-seated m q l s))
  only-place (in_right {l} {r} f a) (right ∷ q) h s =
      ap (λ w. right ∷ w) (only-place a q (nor-right (seated m l) (seated m r) h) s)

pub seating : {K : Type 0} (m : ℕ) (k : K) (t : Tree K) → T (not (full t)) → Seating m k t
seating m k t h =
    let a = adding m k t h in
    record {
      place = a.0;
      free = place-free a.1;
      first = λ q x b. before-taken a.1 b x;
      taken = place-taken a.1;
      others = leaves_kept (adding-along a.1);
      above = λ q. parents-above a.1;
      apart = parents-kept (adding-along a.1);
      everybody = seated-adding a.1;
    }

pub addition : Addition
addition m k t = (seating m k t, added_full m k t)

-- a newcomer is unmerged where it was put on the list of a key, and nowhere else if it was on none
keyed-unmerged :
    {K : Type 0} (m : ℕ) (o : Option (Parent K)) → has_unmerged m (option_map (unmerged_at m) o) ≡ has_key o
unfolding is_unmerged
keyed-unmerged m None = refl
keyed-unmerged m (Some blank_parent) = refl
keyed-unmerged m (Some (keyed k un)) = rw (is_true (eqb m m) (eqb_refl m))

pub unmerged :
    {K : Type 0} (m : ℕ) (k : K) (t : Tree K) →
    T (not (full t)) → T (not (seated m t)) → ((q : List Turn) → T (not (has_unmerged m (parent_at q t)))) →
    (p q : List Turn) → T (sits m p (added m k t)) → Unmerged m k t p q
unmerged m k t h absent none p q s =
    let a = adding m k t h in
    let e : p ≡ a.0 = only-place a.1 p absent s in
    record {
      above = λ o. ap (has_unmerged m) (parents-above a.1 (rw e at o)) ∙ keyed-unmerged m (parent_at q t);
      apart = λ n. ap (has_unmerged m) (parents-kept (adding-along a.1) q (λ o. n (rw (← e) at o))) ∙ is_false (has_unmerged m (parent_at q t)) (none q);
    }

pub unmerged_since : UnmergedSince
unmerged_since = unmerged

-- What a removal does to leaves and parents.
-- Assumes nothing.
use Rattle.std.proofs.Common.{◌≡◌, ℕ, Bool, true, false, cond, not, ◌&&◌, ◌||◌, T, eqb, List, [], ◌∷◌, Some, None, Option, refl, ◌∙◌, arith, T_not}
use mathlib.Core.Bool.{and-false}
use lib.Dec.{not_T, eqb_refl}
use Rattle.std.specs.Option.{option_map}
use Rattle.theory.specs.Tree.{Tree, leaf, node, Leaf, blank_leaf, occupied, Parent, blank_parent, is_at, seated, removed}
use Rattle.theory.specs.Places.{Turn, left, right, leaf_at, parent_at, sits, is_there, Over, top, down}
use Rattle.theory.specs.Laws.{Without, Removal}
use Rattle.theory.proofs.Tests.{is_true, is_false}
use Rattle.theory.proofs.Places.{sits-seated, seated-below}

-- a leaf without m
abbrev pub vacated : {K : Type 0} → ℕ → Leaf K → Leaf K
vacated m x = cond (is_at m x) blank_leaf x

-- without m seated there is nothing to remove
pub removed-absent : {K : Type 0} (m : ℕ) (t : Tree K) → T (not (seated m t)) → removed m t ≡ t
unfolding removed seated
removed-absent m (leaf x) h = rw (is_false (is_at m x) h)
removed-absent m (node p l r) h = grind arith

-- so a removal goes through both sides
pub removed-node :
    {K : Type 0} (m : ℕ) (p : Parent K) (l r : Tree K) →
    removed m (node p l r) ≡ node (cond (seated m l || seated m r) blank_parent p) (removed m l) (removed m r)
unfolding removed
removed-node m p l r = grind (arith, removed-absent)

-- each leaf is as it was, or without m
pub leaf-removed :
    {K : Type 0} (m : ℕ) (w : List Turn) (t : Tree K) → leaf_at w (removed m t) ≡ option_map (vacated m) (leaf_at w t)
unfolding leaf_at
leaf-removed m [] (leaf x) = unfold removed in refl
leaf-removed m [] (node p l r) = rw (removed-node m p l r)
leaf-removed m (d ∷ w) (leaf x) = unfold removed in refl
leaf-removed m (left ∷ w) (node p l r) = rw (removed-node m p l r) (leaf-removed m w l)
leaf-removed m (right ∷ w) (node p l r) = rw (removed-node m p l r) (leaf-removed m w r)

vacated-there :
    {K : Type 0} (m : ℕ) (o : Option (Leaf K)) → T (is_there m o) → option_map (vacated m) o ≡ Some blank_leaf
vacated-there m None h = elim h [ ]
vacated-there m (Some x) h = rw (is_true (is_at m x) h)

vacated-elsewhere :
    {K : Type 0} (m : ℕ) (o : Option (Leaf K)) → T (not (is_there m o)) → option_map (vacated m) o ≡ o
vacated-elsewhere m None h = refl
vacated-elsewhere m (Some x) h = rw (is_false (is_at m x) h)

pub leaf-vacated :
    {K : Type 0} (m : ℕ) (w : List Turn) (t : Tree K) → T (sits m w t) → leaf_at w (removed m t) ≡ Some blank_leaf
leaf-vacated m w t h = leaf-removed m w t ∙ vacated-there m (leaf_at w t) h

pub leaf-kept :
    {K : Type 0} (m : ℕ) (w : List Turn) (t : Tree K) → T (not (sits m w t)) → leaf_at w (removed m t) ≡ leaf_at w t
leaf-kept m w t h = leaf-removed m w t ∙ vacated-elsewhere m (leaf_at w t) h

-- everybody else stays seated
and-over : (a b c : Bool) → ((a && c) || (b && c)) ≡ ((a || b) && c)
and-over true true true = refl
and-over true true false = refl
and-over true false true = refl
and-over true false false = refl
and-over false b c = refl

seated-vacated :
    {K : Type 0} (w m : ℕ) (x : Leaf K) → is_at w (vacated m x) ≡ (is_at w x && not (eqb w m))
seated-vacated w m blank_leaf = refl
seated-vacated w m (occupied v k) = grind arith

pub seated-removed :
    {K : Type 0} (w m : ℕ) (t : Tree K) → seated w (removed m t) ≡ (seated w t && not (eqb w m))
unfolding seated
seated-removed w m (leaf x) = unfold removed in seated-vacated w m x
seated-removed w m (node p l r) = search (removed-node, and-over, seated-removed w m l, seated-removed w m r)

pub removed-gone : {K : Type 0} (m : ℕ) (t : Tree K) → T (not (seated m (removed m t)))
removed-gone m t =
    rw (seated-removed m m t, is_true (eqb m m) (eqb_refl m), and-false (seated m t)) tt

-- each parent above m is blank
pub parent-blanked :
    {K : Type 0} (m : ℕ) (t : Tree K) {q p : List Turn} → T (sits m p t) → Over q p →
    parent_at q (removed m t) ≡ Some blank_parent
unfolding leaf_at parent_at seated
parent-blanked m (leaf x) h top = elim h [ ]
parent-blanked m (leaf x) h (down o) = elim h [ ]
parent-blanked m (node c l r) h (top {d} {p}) =
    rw (removed-node m c l r, is_true (seated m l || seated m r) (sits-seated m (d ∷ p) (node c l r) h))
parent-blanked m (node c l r) h (down {d = left} o) = rw (removed-node m c l r) (parent-blanked m l h o)
parent-blanked m (node c l r) h (down {d = right} o) = rw (removed-node m c l r) (parent-blanked m r h o)

-- a parent that is not above m is as it was
pub parent-kept :
    {K : Type 0} (m : ℕ) (q : List Turn) (t : Tree K) → ((p : List Turn) → Over q p → T (not (sits m p t))) →
    parent_at q (removed m t) ≡ parent_at q t
unfolding leaf_at parent_at seated
parent-kept m [] (leaf x) h = unfold removed in refl
parent-kept m [] (node c l r) h =
    let absent : T (not (seated m l || seated m r)) =
    not_T (seated m l || seated m r)
    (λ s. let u = seated-below m c l r s in T_not (sits m u.0 (node c l r)) (h u.0 u.1) u.2)
    in
    rw (removed-node m c l r, is_false (seated m l || seated m r) absent)
parent-kept m (d ∷ q) (leaf x) h = unfold removed in refl
parent-kept m (left ∷ q) (node c l r) h =
    rw (removed-node m c l r) (parent-kept m q l (λ p o. h (left ∷ p) (down o)))
parent-kept m (right ∷ q) (node c l r) h =
    rw (removed-node m c l r) (parent-kept m q r (λ p o. h (right ∷ p) (down o)))

pub without : {K : Type 0} (m : ℕ) (t : Tree K) → Without m t
without m t = search (removed-gone, leaf-vacated, leaf-kept, parent-blanked, parent-kept)

pub removal : Removal
removal = without

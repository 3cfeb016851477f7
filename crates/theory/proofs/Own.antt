-- Who sits in a tree with which leaf key, and that nobody sits twice: what each change makes of that.
-- Assumes nothing.
use Rattle.std.proofs.Common.{◌≡◌, ℕ, ◌≤◌, not, T, eqb, ◌⊎◌, List, [], ◌∷◌, length, sym, refl, ap, inl, inr, arith, eqb→eq, T_not}
use mathlib.Core.List.Memᴰ
use mathlib.Core.List.{Memᴰ}
use lib.Dec.{not_T, eqb_refl}
use Rattle.theory.specs.Tree.{Tree, leaf, node, Leaf, blank_leaf, occupied, Parent, blank_parent, is_at, seated, full, leaf_key, blank_tree, grown, added, removed}
use Rattle.theory.specs.Places.{Turn, Below, whole, in_left, in_right}
use Rattle.theory.proofs.Tests.{by_cond, decided, is_true, is_false, or_cases, or_left, or_right, nor-left, nor-right, and_left}
use Rattle.theory.proofs.Removal.{removed-node, seated-removed}
use Rattle.theory.proofs.Addition.{Adding, adding, added_full, seated-adding}
use Rattle.theory.proofs.Addition as adds
use Rattle.theory.proofs.Growth.{blank-deserted}
use Rattle.theory.proofs.Runs.{Laying, seated-laying}
use Rattle.theory.proofs.Runs as runs

-- w sits in the tree, with the leaf key k
pub data Has {K : Type 0} (w : ℕ) (k : K) : Tree K → Type 0 where
  here : {v : ℕ} {j : K} → v ≡ w → j ≡ k → Has w k (leaf (occupied v j))
  on_left : {p : Parent K} {l r : Tree K} → Has w k l → Has w k (node p l r)
  on_right : {p : Parent K} {l r : Tree K} → Has w k r → Has w k (node p l r)

-- WHO HAS A KEY is seated, and the key is its leaf key.
pub seated-has : {K : Type 0} (w : ℕ) (t : Tree K) → T (seated w t) → (k : K) × Has w k t
unfolding seated
seated-has w (leaf blank_leaf) h = elim h [ ]
seated-has w (leaf (occupied v j)) h = (j, here (eqb→eq v w h) refl)
seated-has w (node p l r) h =
    elim (or_cases (seated w l) (seated w r) h) [
      | inl a ↦ ((seated-has w l a).0, on_left (seated-has w l a).1)
      | inr b ↦ ((seated-has w r b).0, on_right (seated-has w r b).1)
    ]

module _ {K : Type 0} {w : ℕ} {k : K} where
  pub has-seated : {t : Tree K} → Has w k t → T (seated w t)
  unfolding seated
  has-seated (here e d) = rw e (eqb_refl w)
  has-seated (on_left {l} {r} h) = or_left (seated w l) (seated w r) (has-seated h)
  has-seated (on_right {l} {r} h) = or_right (seated w l) (seated w r) (has-seated h)

  pub has-below : {t u : Tree K} → Below t u → Has w k t → Has w k u
  has-below whole h = h
  has-below (in_left b) h = on_left (has-below b h)
  has-below (in_right b) h = on_right (has-below b h)

  pub has_key : {t : Tree K} → Has w k t → Memᴰ k (leaf_key w t)
  unfolding leaf_key
  has_key (here {v} e d) = rw (is_true (eqb v w) (rw e (eqb_refl w))) (Memᴰ.head (sym d))
  has_key (on_left {r} h) = Memᴰ.append_left (leaf_key w r) (has_key h)
  has_key (on_right {l} h) = Memᴰ.append_right (leaf_key w l) (has_key h)

  pub key_has : (t : Tree K) → Memᴰ k (leaf_key w t) → Has w k t
  unfolding leaf_key
  key_has (leaf blank_leaf) m = absurd (Memᴰ.not-nil m)
  key_has (leaf (occupied v j)) m =
      by_cond (λ ks. Memᴰ k ks → Has w k (leaf (occupied v j))) (eqb v w) _ _
      (λ h i. here (eqb→eq v w h) (sym (Memᴰ.eq_of_singleton i))) (λ _ i. absurd (Memᴰ.not-nil i)) m
  key_has (node p l r) m =
      elim (Memᴰ.append_cases (leaf_key w l) m) [ inl a ↦ on_left (key_has l a) | inr b ↦ on_right (key_has r b) ]

pub absent-keys : {K : Type 0} (w : ℕ) (t : Tree K) → T (not (seated w t)) → leaf_key w t ≡ []
unfolding seated leaf_key
absent-keys w (leaf x) h = rw (is_false (is_at w x) h)
absent-keys w (node p l r) h = search (nor-left, nor-right, absent-keys w l, absent-keys w r)

-- NOBODY SITS TWICE.
pub data Once {K : Type 0} : Tree K → Type 0 where
  at_leaf : {x : Leaf K} → Once (leaf x)
  at_node :
      {p : Parent K} {l r : Tree K} → ((w : ℕ) → T (seated w l) → T (seated w r) → ⊥) → Once l → Once r → Once (node p l r)

module _ {K : Type 0} {w : ℕ} where
  pub once-keys : {t : Tree K} {k : K} → Once t → Has w k t → leaf_key w t ≡ k ∷ []
  unfolding leaf_key
  once-keys at_leaf (here {v} e d) = rw (is_true (eqb v w) (rw e (eqb_refl w))) (ap (λ j. j ∷ []) d)
  once-keys (at_node {r} f a b) (on_left h) =
      rw (once-keys a h, absent-keys w r (not_T (seated w r) (f w (has-seated h))))
  once-keys (at_node {l} f a b) (on_right h) =
      rw (absent-keys w l (not_T (seated w l) (λ s. f w s (has-seated h)))) (once-keys b h)

pub once-length : {K : Type 0} (w : ℕ) {t : Tree K} → Once t → length (leaf_key w t) ≤ 1
once-length w {t} o = grind (arith, once-keys, seated-has, absent-keys)

-- A CHANGE seats nobody twice.
blank-once : {K : Type 0} (t : Tree K) → Once (blank_tree t)
unfolding blank_tree
blank-once (leaf x) = at_leaf
blank-once (node p l r) =
    at_node (λ w s _. T_not (seated w (blank_tree l)) (blank-deserted w l) s) (blank-once l) (blank-once r)

pub grown-once : {K : Type 0} (t : Tree K) → Once t → Once (grown t)
grown-once t o =
    by_cond Once (full t) _ _
    (λ _. at_node (λ w _ s. T_not (seated w (blank_tree t)) (blank-deserted w t) s) o (blank-once t)) (λ _. o)

pub removed-once : {K : Type 0} (m : ℕ) {t : Tree K} → Once t → Once (removed m t)
removed-once m (at_leaf {x}) = unfold removed in at_leaf
removed-once m (at_node {p} {l} {r} f a b) =
    rw (removed-node m p l r)
    (at_node {l = removed m l} {r = removed m r}
    (λ w s u.
    f w (and_left (seated w l) (not (eqb w m)) (rw (seated-removed w m l) at s))
    (and_left (seated w r) (not (eqb w m)) (rw (seated-removed w m r) at u)))
    (removed-once m a) (removed-once m b))

module _ {K : Type 0} {m : ℕ} {j : K} where
  adding-seats : {t u : Tree K} {p : List Turn} → Adding m j t u p → (w : ℕ) → T (seated w u) → T (seated w t) ⊎ T (eqb m w)
  adding-seats {t} a w s = or_cases (seated w t) (eqb m w) (rw (seated-adding a w) at s)

  adding-once : {t u : Tree K} {p : List Turn} → Adding m j t u p → T (not (seated m t)) → Once t → Once u
  unfolding seated
  adding-once adds.here h o = at_leaf
  adding-once (adds.in_left {l} {l'} {r} a) h (at_node f x y) =
      at_node {l = l'} {r = r}
      (λ w s u.
      elim (adding-seats a w s) [
        | inl g ↦ f w g u
        | inr e ↦ T_not (seated m r) (nor-right (seated m l) (seated m r) h) (rw (← eqb→eq m w e) at u)
      ])
      (adding-once a (nor-left (seated m l) (seated m r) h) x) y
  adding-once (adds.in_right {l} {r} {r'} g a) h (at_node f x y) =
      at_node {l = l} {r = r'}
      (λ w s u.
      elim (adding-seats a w u) [
        | inl i ↦ f w s i
        | inr e ↦ T_not (seated m l) (nor-left (seated m l) (seated m r) h) (rw (← eqb→eq m w e) at s)
      ])
      x (adding-once a (nor-right (seated m l) (seated m r) h) y)

pub added-once : {K : Type 0} (m : ℕ) (j : K) (t : Tree K) → T (not (seated m t)) → Once t → Once (added m j t)
added-once m j t h o =
    elim (decided (full t)) [
      | inl g ↦ rw (added_full m j t g) o
      | inr g ↦ adding-once (adding m j t g).1 h o
    ]

pub laying-once : {K : Type 0} {m : ℕ} {own : K} {t u : Tree K} → Laying m own t u → Once t → Once u
laying-once (runs.elsewhere h) o = o
laying-once runs.here o = at_leaf
laying-once (runs.in_left {l'} {r} h a) (at_node f x y) =
    at_node {l = l'} {r = r} (λ w s u. f w (rw (seated-laying a w) at s) u) (laying-once a x) y
laying-once (runs.in_right {l} {r'} h a) (at_node f x y) =
    at_node {l = l} {r = r'} (λ w s u. f w s (rw (seated-laying a w) at u)) x (laying-once a y)

-- A CHANGE keeps everybody's leaf key, but for the one that it concerns.
pub blank-has : {K : Type 0} {w : ℕ} {k : K} (t : Tree K) → Has w k (blank_tree t) → ⊥
blank-has {w} t h = T_not (seated w (blank_tree t)) (blank-deserted w t) (has-seated h)

pub grown-has : {K : Type 0} {w : ℕ} {k : K} (t : Tree K) → Has w k (grown t) → Has w k t
grown-has {w} {k} t h =
    by_cond (λ u. Has w k u → Has w k t) (full t) _ _ (λ _ g. from g) (λ _ g. g) h
  where
    from : Has w k (node blank_parent t (blank_tree t)) → Has w k t
    from (on_left g) = g
    from (on_right g) = absurd (blank-has t g)

module _ {K : Type 0} {m : ℕ} {j : K} {w : ℕ} {k : K} where
  pub adding-has : {t u : Tree K} {p : List Turn} → Adding m j t u p → Has w k u → ((m ≡ w) × (j ≡ k)) ⊎ Has w k t
  adding-has adds.here (here e d) = inl (e, d)
  adding-has (adds.in_left a) (on_left h) =
      elim (adding-has a h) [ inl e ↦ inl e | inr g ↦ inr (on_left g) ]
  adding-has (adds.in_left a) (on_right h) = inr (on_right h)
  adding-has (adds.in_right f a) (on_left h) = inr (on_left h)
  adding-has (adds.in_right f a) (on_right h) =
      elim (adding-has a h) [ inl e ↦ inl e | inr g ↦ inr (on_right g) ]

  pub has-adding : {t u : Tree K} {p : List Turn} → Adding m j t u p → Has w k t → Has w k u
  has-adding adds.here h = elim h [ ]
  has-adding (adds.in_left a) (on_left h) = on_left (has-adding a h)
  has-adding (adds.in_left a) (on_right h) = on_right h
  has-adding (adds.in_right f a) (on_left h) = on_left h
  has-adding (adds.in_right f a) (on_right h) = on_right (has-adding a h)

  pub added-has : (t : Tree K) → Has w k (added m j t) → ((m ≡ w) × (j ≡ k)) ⊎ Has w k t
  added-has t h =
      elim (decided (full t)) [
        | inl g ↦ inr (rw (added_full m j t g) at h)
        | inr g ↦ adding-has (adding m j t g).1 h
      ]

-- whoever is left after a removal has the key that it had
pub removed-has : {K : Type 0} {w : ℕ} {k : K} (m : ℕ) (t : Tree K) → Has w k (removed m t) → Has w k t
removed-has {w} {k} m (leaf x) h =
    by_cond (λ y. Has w k (leaf y) → Has w k (leaf x)) (is_at m x) _ _ (λ _ g. none g) (λ _ g. g)
    (unfold removed in h)
  where
    none : Has w k (leaf blank_leaf) → Has w k (leaf x)
    none g = elim g [ ]
removed-has {K} {w} {k} m (node c l r) h =
    elim (both-sides (rw (removed-node m c l r) at h)) [
      | inl a ↦ on_left (removed-has m l a)
      | inr b ↦ on_right (removed-has m r b)
    ]
  where
    both-sides : {d : Parent K} → Has w k (node d (removed m l) (removed m r)) → Has w k (removed m l) ⊎ Has w k (removed m r)
    both-sides (on_left g) = inl g
    both-sides (on_right g) = inr g

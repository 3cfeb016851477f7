-- Where the node keys of a tree come from: a view of paths with their levels, `Path`; who sat below which level, `Had`;
-- and what is kept of every node key, `Keyed`: those merged below it are those that its level was laid over.
-- Assumes nothing.
use Rattle.std.proofs.Common.{◌≡◌, ℕ, suc, ◌<◌, ◌≤◌, not, ◌||◌, T, eqb, ◌⊎◌, ◌↔◌, List, [], ◌∷◌, ◌++◌, sym, refl, inl, inr, arith, T_not}
use mathlib.Core.List.Memᴰ
use mathlib.Core.List.{Memᴰ}
use lib.Dec.{not_T}
use Rattle.theory.specs.Tree.{Tree, leaf, node, Leaf, blank_leaf, occupied, Parent, blank_parent, keyed, seated, full, leaf_keys, resolution, blank_tree, grown, added, removed}
use Rattle.theory.specs.Path.{Target, Laid, sealed_to, parent_laid, level_after, laid}
use Rattle.theory.specs.Held.{is_unmerged}
use Rattle.theory.specs.Places.{Turn, Below, whole, in_left, in_right}
use Rattle.theory.proofs.Tests.{by_cond, decided, nor, nor-left, nor-right}
use Rattle.theory.proofs.Addition.{Adding, adding, added_full}
use Rattle.theory.proofs.Addition as adds
use Rattle.theory.proofs.Own.{Has, on_left, on_right, has-seated, key_has, Once, at_node, adding-has, has-adding}
use Rattle.theory.proofs.Own as seats

-- m's path makes the second tree of the first, lays so many node keys, and has these targets
pub data Path {K : Type 0} (m : ℕ) (own : K) (keys : ℕ → K) : Tree K → Tree K → ℕ → List (Target K) → Type 0 where
  elsewhere : {t : Tree K} → T (not (seated m t)) → Path m own keys t t 0 []
  here : {v : ℕ} {k : K} → T (eqb v m) → Path m own keys (leaf (occupied v k)) (leaf (occupied m own)) 0 []
  left_none :
      {c : Parent K} {l l' r : Tree K} {n : ℕ} {ts : List (Target K)} → T (seated m l) → Path m own keys l l' n ts →
      Path m own keys (node c l r) (node blank_parent l' r) n (ts ++ [])
  left_some :
      {c : Parent K} {l l' r : Tree K} {n : ℕ} {ts : List (Target K)} {ks : List K} →
      ks ≡ resolution r → T (seated m l) → Path m own keys l l' n ts →
      Path m own keys (node c l r) (node (keyed (keys n) []) l' r) (suc n) (ts ++ sealed_to n ks)
  right_none :
      {c : Parent K} {l r r' : Tree K} {n : ℕ} {ts : List (Target K)} → T (seated m r) → Path m own keys r r' n ts →
      Path m own keys (node c l r) (node blank_parent l r') n (ts ++ [])
  right_some :
      {c : Parent K} {l r r' : Tree K} {n : ℕ} {ts : List (Target K)} {ks : List K} →
      ks ≡ resolution l → T (seated m r) → Path m own keys r r' n ts →
      Path m own keys (node c l r) (node (keyed (keys n) []) l r') (suc n) (ts ++ sealed_to n ks)

module _ {K : Type 0} {m : ℕ} {own : K} {keys : ℕ → K} where
  climb-left :
      {c : Parent K} {l l' r : Tree K} {n : ℕ} {ts : List (Target K)} (ks : List K) →
      ks ≡ resolution r → T (seated m l) → Path m own keys l l' n ts →
      Path m own keys (node c l r) (node (parent_laid keys n ks) l' r) (level_after n ks) (ts ++ sealed_to n ks)
  climb-left [] e h a = left_none h a
  climb-left (k ∷ ks) e h a = left_some e h a

  climb-right :
      {c : Parent K} {l r r' : Tree K} {n : ℕ} {ts : List (Target K)} (ks : List K) →
      ks ≡ resolution l → T (seated m r) → Path m own keys r r' n ts →
      Path m own keys (node c l r) (node (parent_laid keys n ks) l r') (level_after n ks) (ts ++ sealed_to n ks)
  climb-right [] e h a = right_none h a
  climb-right (k ∷ ks) e h a = right_some e h a

pub path :
    {K : Type 0} (m : ℕ) (own : K) (keys : ℕ → K) (t : Tree K) →
    Path m own keys t (laid m own keys t).tree (laid m own keys t).levels (laid m own keys t).targets
unfolding laid seated
path m own keys (leaf blank_leaf) = elsewhere tt
path m own keys (leaf (occupied w k)) =
    by_cond (λ x. Path m own keys (leaf (occupied w k)) (leaf x) 0 []) (eqb w m) _ _ (λ h. here h) (λ h. elsewhere h)
path {K} m own keys (node c l r) =
    by_cond (λ (x : Laid K). Path m own keys (node c l r) x.tree x.levels x.targets) (seated m l) _ _
    (λ h. climb-left (resolution r) refl h (path m own keys l))
    (λ h. by_cond (λ (x : Laid K). Path m own keys (node c l r) x.tree x.levels x.targets) (seated m r) _ _
    (λ g. climb-right (resolution l) refl g (path m own keys r))
    (λ g. elsewhere (nor (seated m l) (seated m r) h g)))

module _ {K : Type 0} {m : ℕ} {own : K} {keys : ℕ → K} where
  -- below the node key of level i sat w, with the leaf key k, when the path was laid
  pub Had : {t u : Tree K} {n : ℕ} {ts : List (Target K)} → Path m own keys t u n ts → ℕ → ℕ → K → Type 0
  Had (elsewhere h) i w k = ⊥
  Had (here h) i w k = ⊥
  Had (left_none h a) i w k = Had a i w k
  Had (left_some {l'} {r} {n} e h a) i w k = Had a i w k ⊎ ((i ≡ n) × Has w k (node (keyed (keys n) []) l' r))
  Had (right_none h a) i w k = Had a i w k
  Had (right_some {l} {r'} {n} e h a) i w k = Had a i w k ⊎ ((i ≡ n) × Has w k (node (keyed (keys n) []) l r'))

  module _ (w : ℕ) (k : K) where
    pub had-below : (i : ℕ) {n : ℕ} {t u : Tree K} {ts : List (Target K)} (a : Path m own keys t u n ts) → Had a i w k → i < n
    unfolding Had
    had-below i (elsewhere g) h = elim h [ ]
    had-below i (here g) h = elim h [ ]
    had-below i (left_none g a) h = had-below i a h
    had-below i (left_some {n} e g a) h = grind (arith, had-below i a)
    had-below i (right_none g a) h = had-below i a h
    had-below i (right_some {n} e g a) h = grind (arith, had-below i a)

    pub had-has : (i : ℕ) {n : ℕ} {t u : Tree K} {ts : List (Target K)} (a : Path m own keys t u n ts) → Had a i w k → Has w k u
    unfolding Had
    had-has i (elsewhere g) h = elim h [ ]
    had-has i (here g) h = elim h [ ]
    had-has i (left_none g a) h = on_left (had-has i a h)
    had-has i (left_some e g a) h = elim h [ inl x ↦ on_left (had-has i a x) | inr x ↦ x.1 ]
    had-has i (right_none g a) h = on_right (had-has i a h)
    had-has i (right_some e g a) h = elim h [ inl x ↦ on_right (had-has i a x) | inr x ↦ x.1 ]

    -- who sat below a level sat below every level above
    pub had-up :
        (i j : ℕ) {n : ℕ} {t u : Tree K} {ts : List (Target K)} (a : Path m own keys t u n ts) → Had a i w k → i ≤ j → j < n →
        Had a j w k
    unfolding Had
    had-up i j (elsewhere g) h p q = elim h [ ]
    had-up i j (here g) h p q = elim h [ ]
    had-up i j (left_none g a) h p q = had-up i j a h p q
    had-up i j (left_some {n} e g a) h p q = grind (arith, on_left, had-has, had-up i j a)
    had-up i j (right_none g a) h p q = had-up i j a h p q
    had-up i j (right_some {n} e g a) h p q = grind (arith, on_right, had-has, had-up i j a)

  module _ {w : ℕ} {k : K} where
    -- after a path its maker has the new key, and everybody else the old one
    pub path-has :
        {n : ℕ} {t u : Tree K} {ts : List (Target K)} → Path m own keys t u n ts → Once t → Has w k u →
        ((m ≡ w) × (own ≡ k)) ⊎ ((m ≡ w → ⊥) × Has w k t)
    path-has (elsewhere {t} g) o h = inr (λ e. T_not (seated m t) g (rw (← e) at (has-seated h)), h)
    path-has (here g) o (seats.here e d) = inl (e, d)
    path-has (left_none g a) (at_node f x y) (on_left h) =
        elim (path-has a x h) [ inl e ↦ inl e | inr b ↦ inr (b.0, on_left b.1) ]
    path-has (left_none g a) (at_node f x y) (on_right h) = inr (λ e. f m g (rw (← e) at (has-seated h)), on_right h)
    path-has (left_some _ g a) (at_node f x y) (on_left h) =
        elim (path-has a x h) [ inl e ↦ inl e | inr b ↦ inr (b.0, on_left b.1) ]
    path-has (left_some _ g a) (at_node f x y) (on_right h) = inr (λ e. f m g (rw (← e) at (has-seated h)), on_right h)
    path-has (right_none g a) (at_node f x y) (on_right h) =
        elim (path-has a y h) [ inl e ↦ inl e | inr b ↦ inr (b.0, on_right b.1) ]
    path-has (right_none g a) (at_node f x y) (on_left h) = inr (λ e. f m (rw (← e) at (has-seated h)) g, on_left h)
    path-has (right_some _ g a) (at_node f x y) (on_right h) =
        elim (path-has a y h) [ inl e ↦ inl e | inr b ↦ inr (b.0, on_right b.1) ]
    path-has (right_some _ g a) (at_node f x y) (on_left h) = inr (λ e. f m (rw (← e) at (has-seated h)) g, on_left h)

-- TARGETS. What a path seals goes to the resolution of a part without its maker, and whoever sits there sat below that level.
pub record Sealing {K : Type 0} (m : ℕ) (t : Tree K) (b : Target K) (got : ℕ → K → Type 0) : Type 0 where
  pub part : Tree K
  pub below : Below part t
  pub among : Memᴰ b.key (resolution part)
  pub apart : T (not (seated m part))
  pub gets : (w : ℕ) (k : K) → Has w k part → got w k

of-sealed :
    {K : Type 0} {b : Target K} (n : ℕ) (ks : List K) → Memᴰ b (sealed_to n ks) →
    Memᴰ b.key ks × (b.level ≡ n)
of-sealed {K} n ks x = grind (arith, Memᴰ.of_map)

module _ {K : Type 0} {m : ℕ} {own : K} {keys : ℕ → K} {b : Target K} where
  -- the halves are written out both times: the constructors of Path, Below and Has say which half it is
  pub path-target :
      {n : ℕ} {t u : Tree K} {ts : List (Target K)} (a : Path m own keys t u n ts) → Once t → Memᴰ b ts →
      Sealing m t b (Had a b.level)
  unfolding Had
  path-target (elsewhere g) o x = absurd (Memᴰ.not-nil x)
  path-target (here g) o x = absurd (Memᴰ.not-nil x)
  path-target (left_none {ts} g a) (at_node f p q) x =
      elim (Memᴰ.append_cases ts x) [
        | inl y ↦ (let s = path-target a p y in record { part = s.part; below = in_left s.below; among = s.among; apart = s.apart; gets = s.gets })
        | inr y ↦ absurd (Memᴰ.not-nil y)
      ]
  path-target (left_some {l} {l'} {r} {n} {ts} {ks} e g a) (at_node f p q) x =
      elim (Memᴰ.append_cases ts x) [
        | inl y ↦
            (let s = path-target a p y in
            record { part = s.part; below = in_left s.below; among = s.among; apart = s.apart; gets = λ w k h. inl (s.gets w k h) })
        | inr y ↦
            (let z = of-sealed n ks y in
            record {
              part = r;
              below = in_right whole;
              among = rw e at z.0;
              apart = not_T (seated m r) (f m g);
              gets = λ w k h. inr (z.1, on_right h);
            })
      ]
  path-target (right_none {ts} g a) (at_node f p q) x =
      elim (Memᴰ.append_cases ts x) [
        | inl y ↦ (let s = path-target a q y in record { part = s.part; below = in_right s.below; among = s.among; apart = s.apart; gets = s.gets })
        | inr y ↦ absurd (Memᴰ.not-nil y)
      ]
  path-target (right_some {l} {r} {r'} {n} {ts} {ks} e g a) (at_node f p q) x =
      elim (Memᴰ.append_cases ts x) [
        | inl y ↦
            (let s = path-target a q y in
            record { part = s.part; below = in_right s.below; among = s.among; apart = s.apart; gets = λ w k h. inl (s.gets w k h) })
        | inr y ↦
            (let z = of-sealed n ks y in
            record {
              part = l;
              below = in_left whole;
              among = rw e at z.0;
              apart = not_T (seated m l) (λ s. f m s g);
              gets = λ w k h. inr (z.1, on_left h);
            })
      ]

-- a newcomer is unmerged, and nobody else's place changes
merged-adding :
    {K : Type 0} {m : ℕ} {q j : K} {un : List ℕ} {l r l' r' : Tree K} {p : List Turn} (had : ℕ → K → Type 0) →
    Adding m q (node (keyed j un) l r) (node (keyed j (m ∷ un)) l' r') p →
    T (not (seated m (node (keyed j un) l r))) →
    ((w : ℕ) (k : K) → (T (not (is_unmerged w un)) × Has w k (node (keyed j un) l r)) ↔ had w k) →
    (w : ℕ) (k : K) → (T (not (is_unmerged w (m ∷ un))) × Has w k (node (keyed j (m ∷ un)) l' r')) ↔ had w k
unfolding is_unmerged
merged-adding {m} {j} {un} {l} {r} had a h f w k = grind (arith, adding-has, has-seated, has-adding)

-- the level that a path lays on top of those below it, given what was kept of both: who sits under it, and that the others stay
module _ {K : Type 0} {m : ℕ} {own : K} {keys : ℕ → K} {n : ℕ} {t u : Tree K} {ts : List (Target K)} (a : Path m own keys t u n ts) where
  on-top :
      {has had : ℕ → K → Type 0} → ((w : ℕ) (k : K) → (Had a n w k ⊎ ((n ≡ n) × has w k)) ↔ had w k) →
      (w : ℕ) (k : K) → (Unit {0} × has w k) ↔ had w k
  on-top f w k = grind (arith, had-below)

  lower :
      {i : ℕ} {has had : ℕ → K → Type 0} → i < n → ((w : ℕ) (k : K) → (Had a i w k ⊎ ((i ≡ n) × has w k)) ↔ had w k) →
      (w : ℕ) (k : K) → Had a i w k ↔ had w k
  lower {i} b f w k = grind (arith)

-- NODE KEYS. Each comes from somewhere; those merged below it are those that sat there then, with the same leaf keys.
pub data Keyed {K : Type 0} {I : Type 0} (key : I → K) (had : I → ℕ → K → Type 0) : Tree K → Type 0 where
  at_leaf : {x : Leaf K} → Keyed key had (leaf x)
  at_blank : {l r : Tree K} → Keyed key had l → Keyed key had r → Keyed key had (node blank_parent l r)
  at_keyed :
      {j : K} {un : List ℕ} {l r : Tree K} (o : I) → j ≡ key o →
      ((w : ℕ) (k : K) → (T (not (is_unmerged w un)) × Has w k (node (keyed j un) l r)) ↔ had o w k) →
      Keyed key had l → Keyed key had r → Keyed key had (node (keyed j un) l r)

module _ {K : Type 0} {I : Type 0} {key : I → K} {had : I → ℕ → K → Type 0} where
  pub keyed-left : {c : Parent K} {l r : Tree K} → Keyed key had (node c l r) → Keyed key had l
  keyed-left (at_blank x y) = x
  keyed-left (at_keyed o e f x y) = x

  pub keyed-right : {c : Parent K} {l r : Tree K} → Keyed key had (node c l r) → Keyed key had r
  keyed-right (at_blank x y) = y
  keyed-right (at_keyed o e f x y) = y

  pub keyed-below : {t u : Tree K} → Below t u → Keyed key had u → Keyed key had t
  keyed-below whole x = x
  keyed-below (in_left b) x = keyed-below b (keyed-left x)
  keyed-below (in_right b) x = keyed-below b (keyed-right x)

  keyed-blank : (t : Tree K) → Keyed key had (blank_tree t)
  unfolding blank_tree
  keyed-blank (leaf x) = at_leaf
  keyed-blank (node c l r) = at_blank (keyed-blank l) (keyed-blank r)

  pub keyed-grown : (t : Tree K) → Keyed key had t → Keyed key had (grown t)
  keyed-grown t x = by_cond (Keyed key had) (full t) _ _ (λ _. at_blank x (keyed-blank t)) (λ _. x)

  pub keyed-removed : (m : ℕ) {t : Tree K} → Keyed key had t → Keyed key had (removed m t)
  unfolding removed
  keyed-removed m at_leaf = at_leaf
  keyed-removed m (at_blank {l} {r} x y) =
      by_cond (Keyed key had) (seated m l || seated m r) _ _
      (λ _. at_blank (keyed-removed m x) (keyed-removed m y)) (λ _. at_blank x y)
  keyed-removed m (at_keyed {l} {r} o e f x y) =
      by_cond (Keyed key had) (seated m l || seated m r) _ _
      (λ _. at_blank (keyed-removed m x) (keyed-removed m y)) (λ _. at_keyed o e f x y)

  keyed-adding :
      {m : ℕ} {q : K} {t u : Tree K} {p : List Turn} → Adding m q t u p → T (not (seated m t)) → Keyed key had t → Keyed key had u
  unfolding seated
  keyed-adding adds.here h x = at_leaf
  keyed-adding {m} (adds.in_left {l} {r} a) h (at_blank x y) =
      at_blank (keyed-adding a (nor-left (seated m l) (seated m r) h) x) y
  keyed-adding {m} (adds.in_left {l} {r} a) h (at_keyed o e f x y) =
      at_keyed o e (merged-adding (had o) (adds.in_left a) h f) (keyed-adding a (nor-left (seated m l) (seated m r) h) x) y
  keyed-adding {m} (adds.in_right {l} {r} g a) h (at_blank x y) =
      at_blank x (keyed-adding a (nor-right (seated m l) (seated m r) h) y)
  keyed-adding {m} (adds.in_right {l} {r} g a) h (at_keyed o e f x y) =
      at_keyed o e (merged-adding (had o) (adds.in_right g a) h f) x (keyed-adding a (nor-right (seated m l) (seated m r) h) y)

  pub keyed-added : (m : ℕ) (q : K) (t : Tree K) → T (not (seated m t)) → Keyed key had t → Keyed key had (added m q t)
  keyed-added m q t h x =
      elim (decided (full t)) [
        | inl g ↦ rw (added_full m q t g) x
        | inr g ↦ keyed-adding (adding m q t g).1 h x
      ]

  -- the level on top, and those below it
  pub keyed-path :
      {m : ℕ} {q : K} {keys : ℕ → K} {n : ℕ} {t u : Tree K} {ts : List (Target K)} (a : Path m q keys t u n ts) →
      ((i : ℕ) → i < n → (o : I) × (keys i ≡ key o) × ((w : ℕ) (k : K) → Had a i w k ↔ had o w k)) →
      Keyed key had t → Keyed key had u
  unfolding Had is_unmerged
  keyed-path (elsewhere g) f x = x
  keyed-path (here g) f x = at_leaf
  keyed-path (left_none g a) f x = at_blank (keyed-path a f (keyed-left x)) (keyed-right x)
  keyed-path (left_some {n} e g a) f x =
      let top = f n (omega arith) in
      at_keyed top.0 top.1 (on-top a top.2)
      (keyed-path a (λ i b. let s = f i (omega arith) in (s.0, s.1, lower a b s.2))
      (keyed-left x)) (keyed-right x)
  keyed-path (right_none g a) f x = at_blank (keyed-left x) (keyed-path a f (keyed-right x))
  keyed-path (right_some {n} e g a) f x =
      let top = f n (omega arith) in
      at_keyed top.0 top.1 (on-top a top.2)
      (keyed-left x)
      (keyed-path a (λ i b. let s = f i (omega arith) in (s.0, s.1, lower a b s.2))
      (keyed-right x))

-- RESOLUTIONS. A key of a resolution is the leaf key of somebody seated there, or a node key, and then everybody that its level was laid over is there still.
-- where the keys of several members are looked up
pub leaf-keys-has :
    {K : Type 0} {k : K} (ws : List ℕ) (t : Tree K) → Memᴰ k (leaf_keys ws t) → (w : ℕ) × Has w k t
unfolding leaf_keys
leaf-keys-has [] t x = absurd (Memᴰ.not-nil x)
leaf-keys-has (w ∷ ws) t x =
    elim (Memᴰ.append_cases _ x) [ inl a ↦ (w, key_has t a) | inr b ↦ leaf-keys-has ws t b ]

module _ {K : Type 0} {I : Type 0} {key : I → K} {had : I → ℕ → K → Type 0} {s : K} where
  pub resolution-cases :
      {t : Tree K} → Keyed key had t → Memᴰ s (resolution t) →
      ((w : ℕ) × Has w s t) ⊎ ((o : I) × (s ≡ key o) × ((w : ℕ) (k : K) → had o w k → Has w k t))
  unfolding resolution
  resolution-cases (at_leaf {x = blank_leaf}) y = absurd (Memᴰ.not-nil y)
  resolution-cases (at_leaf {x = occupied w k}) y = inl (w, seats.here refl (sym (Memᴰ.eq_of_singleton y)))
  resolution-cases (at_blank {l} {r} p q) y = grind (arith, Memᴰ.append_cases, on_left, on_right, resolution-cases p, resolution-cases q)
  resolution-cases (at_keyed {j} {un} {l} {r} o e g p q) y = grind (arith, Memᴰ.cases_cons, leaf-keys-has)

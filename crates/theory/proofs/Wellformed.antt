-- What is asked of a tree holds of every tree of a run, by an invariant on trees: `Sound`; and a view of the path that a commit lays: `Climbing`.
-- Assumes nothing.
use Rattle.std.proofs.Common.{◌≡◌, ℕ, zero, suc, ◌<◌, Bool, not, ◌&&◌, ◌||◌, T, eqb, leb, ◌↔◌, List, [], ◌∷◌, ◌++◌, is_some, Some, None, Option, sym, refl, ap, inl, inr, arith, eqb→eq, ltb→lt, lt→ltb, T_not}
use mathlib.Core.Bool.{or_assoc}
use lib.Dec.{not_T, eqb_refl, nleb→lt}
use Rattle.std.proofs.Math.Facts.{T_not-not, yes_and}
use Rattle.theory.specs.Limits.{max_members, nobody, last_epoch}
use Rattle.theory.specs.Secrets.{Secret}
use Rattle.theory.specs.Tree.{Tree, leaf, node, Leaf, blank_leaf, occupied, Parent, blank_parent, keyed, seated, full, members, resolution, blank_tree, grown, unmerged_at, added, removed}
use Rattle.theory.specs.Path.{Target, Laid, sealed_to, parent_laid, level_after, laid}
use Rattle.theory.specs.Held.{is_unmerged}
use Rattle.theory.specs.Group.{Change, renew, remove, add, Commit, Group, first_of, change_refusal, refusal, readied, laid_by, allowed, committed, group}
use Rattle.theory.specs.Places.{Turn, left, right, leaf_at, parent_at, sits, Over, down}
use Rattle.theory.specs.Wellformed.{distinct, all_seated, some_merged, merges, apart, consistent, numbered, well_formed, Merging, Consistent, WellFormed, WellFormedIs, WellFormedKept, Distinct}
use Rattle.theory.proofs.Tests.{nor-left, nor-right, by_cond, decided, or_cases, or_left, or_right, nor, and_left, and_right}
use Rattle.theory.proofs.Places.{sits-seated, seated-sits, seated-below}
use Rattle.theory.proofs.Removal.{seated-removed}
use Rattle.theory.proofs.Addition.{Adding, adding, added_full, or-last, seated-adding}
use Rattle.theory.proofs.Addition as adds
use Rattle.theory.proofs.Level.{not-refused}
use Rattle.theory.proofs.Growth.{grown-full, grown-roomy, blank-deserted}
use Rattle.theory.proofs.Runs.{Laying, seated-laying}
use Rattle.theory.proofs.Runs as runs

-- A COMMIT that isn't refused.
-- what is asked may be done
pub data Fine {K : Type 0} (w : ℕ) (t : Tree K) : Change → Type 0 where
  renewal : Fine w t renew
  removal : {m : ℕ} → T (seated m t) → T (not (eqb m w)) → Fine w t (remove m)
  addition : {m : ℕ} → T (not (seated m t)) → m < nobody → members t < max_members → Fine w t (add m)

pub record Permitted {K : Type 0} (e : ℕ) (c : Commit) (t : Tree K) : Type 0 where
  pub early : e < last_epoch
  pub present : T (seated c.committer t)
  pub asked : Fine c.committer t c.change

fine : {K : Type 0} (w : ℕ) (c : Change) (t : Tree K) → T (not (is_some (change_refusal w c t))) → Fine w t c
fine w renew t h = renewal
fine w (remove m) t h =
    let a = (not-refused (not (seated m t) || eqb m w) 4 None h).0 in
    removal (T_not-not (seated m t) (nor-left (not (seated m t)) (eqb m w) a)) (nor-right (not (seated m t)) (eqb m w) a)
fine w (add m) t h =
    let a = not-refused (seated m t || leb nobody m) 5 (first_of (leb max_members (members t)) 6 None) h in
    let d = not-refused (leb max_members (members t)) 6 None a.1 in
    addition (nor-left (seated m t) (leb nobody m) a.0)
    (nleb→lt nobody m (nor-right (seated m t) (leb nobody m) a.0))
    (nleb→lt max_members (members t) d.0)

pub permitted : {K : Type 0} (e : ℕ) (c : Commit) (t : Tree K) → T (not (is_some (refusal e c t))) → Permitted e c t
permitted e c t h = grind (arith, fine)

-- a run from a founder: what every commit that isn't refused keeps
pub run-from :
    (P : Tree Secret → Type 0) (f : ℕ) →
    ((k : Secret) → P (leaf (occupied f k))) →
    ((e : ℕ) (c : Commit) (t : Tree Secret) → Permitted e c t → (fresh own : Secret) (keys : ℕ → Secret) →
    P t → P (laid_by c fresh own keys t).tree) →
    (commits : ℕ → Commit) (n : ℕ) → P (group f commits n).tree
unfolding group committed
run-from P f start step commits zero = start _
run-from P f start step commits (suc n) =
    by_cond (λ (g : Group). P g.tree) (allowed (commits n) (group f commits n)) _ _
    (λ a.
    step (group f commits n).epoch (commits n) (group f commits n).tree
    (permitted (group f commits n).epoch (commits n) (group f commits n).tree a) _ _ _
    (run-from P f start step commits n))
    (λ _. run-from P f start step commits n)

-- THE PATH. m's path makes the second tree of the first, with so many levels and these targets.
pub data Climbing {K : Type 0} (m : ℕ) (own : K) (keys : ℕ → K) : Tree K → Tree K → ℕ → List (Target K) → Type 0 where
  elsewhere : {t : Tree K} → T (not (seated m t)) → Climbing m own keys t t 0 []
  here : {k : K} → Climbing m own keys (leaf (occupied m k)) (leaf (occupied m own)) 0 []
  in_left :
      {c : Parent K} {l l' r : Tree K} {i : ℕ} {ts : List (Target K)} → T (seated m l) → Climbing m own keys l l' i ts →
      Climbing m own keys (node c l r) (node (parent_laid keys i (resolution r)) l' r) (level_after i (resolution r)) (ts ++ sealed_to i (resolution r))
  in_right :
      {c : Parent K} {l r r' : Tree K} {i : ℕ} {ts : List (Target K)} → T (not (seated m l)) → T (seated m r) → Climbing m own keys r r' i ts →
      Climbing m own keys (node c l r) (node (parent_laid keys i (resolution l)) l r') (level_after i (resolution l)) (ts ++ sealed_to i (resolution l))

-- a path as it is laid
abbrev pub Climbed : {K : Type 0} → ℕ → K → (ℕ → K) → Tree K → Laid K → Type 0
Climbed m own keys t x = Climbing m own keys t x.tree x.levels x.targets

pub climbing : {K : Type 0} (m : ℕ) (own : K) (keys : ℕ → K) (t : Tree K) → Climbed m own keys t (laid m own keys t)
unfolding laid seated
climbing m own keys (leaf blank_leaf) = elsewhere tt
climbing {K} m own keys (leaf (occupied w k)) =
    by_cond (λ x. Climbing m own keys (leaf (occupied w k)) (leaf x) 0 []) (eqb w m) _ _
    (λ h. rw (eqb→eq w m h) here) (λ h. elsewhere h)
climbing {K} m own keys (node c l r) =
    by_cond (Climbed m own keys (node c l r)) (seated m l) _ _
    (λ h. in_left h (climbing m own keys l))
    (λ h.
    by_cond (Climbed m own keys (node c l r)) (seated m r) _ _
    (λ k. in_right h k (climbing m own keys r))
    (λ k. elsewhere (nor (seated m l) (seated m r) h k)))

pub climbing-laying :
    {K : Type 0} {m : ℕ} {own : K} {keys : ℕ → K} {t u : Tree K} {i : ℕ} {ts : List (Target K)} →
    Climbing m own keys t u i ts → Laying m own t u
climbing-laying (elsewhere h) = runs.elsewhere h
climbing-laying here = runs.here
climbing-laying (in_left h a) = runs.in_left h (climbing-laying a)
climbing-laying (in_right h k a) = runs.in_right k (climbing-laying a)

pub seated-climbing :
    {K : Type 0} {m : ℕ} {own : K} {keys : ℕ → K} {t u : Tree K} {i : ℕ} {ts : List (Target K)} →
    Climbing m own keys t u i ts → (w : ℕ) → seated w u ≡ seated w t
seated-climbing a = seated-laying (climbing-laying a)

-- THE INVARIANT. The unmerged of a parent, given who is seated below it.
pub record Merged (un : List ℕ) (who : ℕ → Bool) : Type 0 where
  pub once : T (distinct un)
  pub below : (w : ℕ) → T (is_unmerged w un) → T (who w)
  pub somebody : (w : ℕ) × T (who w) × T (not (is_unmerged w un))

abbrev pub ParentSound : {K : Type 0} → Parent K → (ℕ → Bool) → Type 0
ParentSound blank_parent who = Unit {0}
ParentSound (keyed k un) who = Merged un who

abbrev pub Apart : {K : Type 0} → Tree K → Tree K → Type 0
Apart l r = (w : ℕ) → T (seated w l) → T (seated w r) → ⊥

pub data Sound {K : Type 0} : Tree K → Type 0 where
  at_leaf : {x : Leaf K} → Sound (leaf x)
  at_node :
      {c : Parent K} {l r : Tree K} → Apart l r → ParentSound c (λ w. seated w l || seated w r) → Sound l → Sound r →
      Sound (node c l r)

-- A CHANGE keeps a tree sound.
blank-sound : {K : Type 0} (t : Tree K) → Sound (blank_tree t)
unfolding blank_tree
blank-sound (leaf x) = at_leaf
blank-sound (node c l r) =
    at_node (λ w a b. T_not (seated w (blank_tree l)) (blank-deserted w l) a) tt (blank-sound l) (blank-sound r)

pub grown-sound : {K : Type 0} (t : Tree K) → Sound t → Sound (grown t)
grown-sound t s =
    by_cond Sound (full t) _ _
    (λ _. at_node (λ w a b. T_not (seated w (blank_tree t)) (blank-deserted w t) b) tt s (blank-sound t)) (λ _. s)

-- who is left after a removal was there before, and isn't the one removed
pub was-seated : {K : Type 0} (w m : ℕ) (t : Tree K) → T (seated w (removed m t)) → T (seated w t)
was-seated w m t h = and_left (seated w t) (not (eqb w m)) (rw (seated-removed w m t) at h)

pub is-left : {K : Type 0} (w m : ℕ) (t : Tree K) → T (seated w t) → T (not (eqb w m)) → T (seated w (removed m t))
is-left w m t h n = rw (seated-removed w m t) (yes_and (seated w t) (not (eqb w m)) h n)

pub removed-sound : {K : Type 0} (m : ℕ) {t : Tree K} → Sound t → Sound (removed m t)
unfolding removed
removed-sound m at_leaf = at_leaf
removed-sound m (at_node {l} {r} f g p q) =
    by_cond Sound (seated m l || seated m r) _ _
    (λ _. at_node (λ w a b. f w (was-seated w m l a) (was-seated w m r b)) tt (removed-sound m p) (removed-sound m q))
    (λ _. at_node f g p q)

-- the unmerged when m comes
coming :
    {K : Type 0} (m : ℕ) (c : Parent K) (who then : ℕ → Bool) → T (not (who m)) → ((w : ℕ) → then w ≡ (who w || eqb m w)) →
    ParentSound c who → ParentSound (unmerged_at m c) then
unfolding is_unmerged distinct
coming m blank_parent who then h e s = tt
coming m (keyed k un) who then h e s = grind arith

module _ {K : Type 0} {m : ℕ} {k : K} where
  pub adding-sound : {t u : Tree K} {p : List Turn} → Adding m k t u p → T (not (seated m t)) → Sound t → Sound u
  unfolding seated
  adding-sound adds.here h s = at_leaf
  adding-sound (adds.in_left {c} {l} {l'} {r} a) h (at_node f g p q) =
      at_node {l = l'} {r = r}
      (λ w x y.
      elim (or_cases (seated w l) (eqb m w) (rw (seated-adding a w) at x)) [
        | inl z ↦ f w z y
        | inr z ↦ T_not (seated m r) (nor-right (seated m l) (seated m r) h) (rw (eqb→eq m w z) y)
      ])
      (coming m c (λ w. seated w l || seated w r) (λ w. seated w l' || seated w r) h
      (λ w. rw (seated-adding a w) (or-last (seated w l) (seated w r) (eqb m w))) g)
      (adding-sound a (nor-left (seated m l) (seated m r) h) p) q
  adding-sound (adds.in_right {c} {l} {r} {r'} v a) h (at_node f g p q) =
      at_node {l = l} {r = r'}
      (λ w x y.
      elim (or_cases (seated w r) (eqb m w) (rw (seated-adding a w) at y)) [
        | inl z ↦ f w x z
        | inr z ↦ T_not (seated m l) (nor-left (seated m l) (seated m r) h) (rw (eqb→eq m w z) x)
      ])
      (coming m c (λ w. seated w l || seated w r) (λ w. seated w l || seated w r') h
      (λ w. rw (seated-adding a w) (sym (or_assoc (seated w l) (seated w r) (eqb m w)))) g)
      p (adding-sound a (nor-right (seated m l) (seated m r) h) q)

pub added-sound : {K : Type 0} (m : ℕ) (k : K) (t : Tree K) → T (not (seated m t)) → Sound t → Sound (added m k t)
added-sound m k t h s =
    elim (decided (full t)) [
      | inl a ↦ rw (added_full m k t a) s
      | inr a ↦ adding-sound (adding m k t a).1 h s
    ]

-- growing seats nobody
pub seated-grown : {K : Type 0} (w : ℕ) (t : Tree K) → seated w (grown t) ≡ seated w t
unfolding seated
seated-grown w t = grind (arith, grown-full, blank-deserted, grown-roomy)

-- a parent of the path has nobody unmerged, and m below it
path-sound :
    {K : Type 0} (m : ℕ) (keys : ℕ → K) (i : ℕ) (ks : List K) (who : ℕ → Bool) → T (who m) →
    ParentSound (parent_laid keys i ks) who
unfolding is_unmerged distinct
path-sound m keys i [] who h = tt
path-sound m keys i (k ∷ ks) who h = record { once = tt; below = λ w u. absurd u; somebody = (m, h, tt) }

module _ {K : Type 0} {m : ℕ} {own : K} {keys : ℕ → K} where
  pub climbing-sound : {t u : Tree K} {i : ℕ} {ts : List (Target K)} → Climbing m own keys t u i ts → Sound t → Sound u
  climbing-sound (elsewhere h) s = s
  climbing-sound here s = at_leaf
  climbing-sound (in_left {l} {l'} {r} {i} h a) (at_node f g p q) =
      at_node (λ w x y. f w (rw (seated-climbing a w) at x) y)
      (path-sound m keys i (resolution r) (λ w. seated w l' || seated w r)
      (or_left (seated m l') (seated m r) (rw (seated-climbing a m) h)))
      (climbing-sound a p) q
  climbing-sound (in_right {l} {r} {r'} {i} n h a) (at_node f g p q) =
      at_node (λ w x y. f w x (rw (seated-climbing a w) at y))
      (path-sound m keys i (resolution l) (λ w. seated w l || seated w r')
      (or_right (seated m l) (seated m r') (rw (seated-climbing a m) h)))
      p (climbing-sound a q)

pub readied-sound : {K : Type 0} {w : ℕ} {c : Change} (fresh : K) {t : Tree K} → Fine w t c → Sound t → Sound (readied c fresh t)
readied-sound fresh renewal s = s
readied-sound fresh (removal {m} a b) s = removed-sound m s
readied-sound fresh {t} (addition {m} a b d) s =
    added-sound m fresh (grown t) (rw (seated-grown m t) a) (grown-sound t s)

pub run_sound : (f : ℕ) (commits : ℕ → Commit) (n : ℕ) → Sound (group f commits n).tree
run_sound f =
    run-from Sound f (λ k. at_leaf)
    (λ e c t h fresh own keys s.
    climbing-sound (climbing c.committer own keys (readied c.change fresh t)) (readied-sound fresh h.asked s))

-- NUMBERS.
abbrev pub Numbered : {K : Type 0} → Tree K → Type 0
Numbered t = (w : ℕ) → T (seated w t) → w < nobody

added-numbered : {K : Type 0} (m : ℕ) (k : K) (t : Tree K) → m < nobody → Numbered t → Numbered (added m k t)
added-numbered m k t b s w =
    elim (decided (full t)) [
      | inl a ↦ rw (added_full m k t a) (s w)
      | inr a ↦
          λ h.
          elim (or_cases (seated w t) (eqb m w) (rw (seated-adding (adding m k t a).1 w) at h)) [
            | inl x ↦ s w x
            | inr x ↦ rw (← (eqb→eq m w x)) b
          ]
    ]

pub readied-numbered :
    {K : Type 0} {w : ℕ} {c : Change} (fresh : K) {t : Tree K} → Fine w t c → Numbered t → Numbered (readied c fresh t)
readied-numbered fresh renewal s = s
readied-numbered fresh {t} (removal {m} a b) s = λ w h. s w (was-seated w m t h)
readied-numbered fresh {t} (addition {m} a b d) s =
    added-numbered m fresh (grown t) b (λ w h. s w (rw (seated-grown w t) at h))

founder-numbered : {K : Type 0} (f : ℕ) → f < nobody → (k : K) → Numbered (leaf (occupied f k))
unfolding seated
founder-numbered f b k w h = rw (← (eqb→eq f w h)) b

pub run-numbered : (f : ℕ) → f < nobody → (commits : ℕ → Commit) (n : ℕ) → Numbered (group f commits n).tree
run-numbered f b =
    run-from Numbered f (founder-numbered f b)
    (λ e c t h fresh own keys s w x.
    readied-numbered fresh h.asked s w (rw (seated-climbing (climbing c.committer own keys (readied c.change fresh t)) w) at x))

-- THE TEST says what the invariant says.

pub distinct_tail : (w : ℕ) (ws : List ℕ) → T (distinct (w ∷ ws)) → T (not (is_unmerged w ws)) × T (distinct ws)
unfolding distinct
distinct_tail w ws h = (and_left (not (is_unmerged w ws)) (distinct ws) h, and_right (not (is_unmerged w ws)) (distinct ws) h)

seated-all : {K : Type 0} (ws : List ℕ) (t : Tree K) → T (all_seated ws t) → (w : ℕ) → T (is_unmerged w ws) → T (seated w t)
unfolding all_seated is_unmerged
seated-all [] t h w u = absurd u
seated-all (v ∷ ws) t h w u = grind (arith, seated-all ws t)

all-seated : {K : Type 0} (ws : List ℕ) (t : Tree K) → ((w : ℕ) → T (is_unmerged w ws) → T (seated w t)) → T (all_seated ws t)
unfolding all_seated is_unmerged
all-seated [] t h = tt
all-seated (v ∷ ws) t h = search (yes_and, or_left, eqb_refl, or_right, all-seated ws t)

some-merged :
    {K : Type 0} (un : List ℕ) (t : Tree K) → T (some_merged un t) → (w : ℕ) × T (seated w t) × T (not (is_unmerged w un))
unfolding some_merged seated
some-merged un (leaf blank_leaf) h = absurd h
some-merged un (leaf (occupied w k)) h = (w, eqb_refl w, h)
some-merged un (node p l r) h = grind (arith, some-merged un l, some-merged un r)

merged_some : {K : Type 0} (un : List ℕ) (t : Tree K) (w : ℕ) → T (seated w t) → T (not (is_unmerged w un)) → T (some_merged un t)
unfolding some_merged seated
merged_some un (leaf blank_leaf) w s h = absurd s
merged_some un (leaf (occupied v k)) w s h = rw (eqb→eq v w s) h
merged_some un (node p l r) w s h = grind (arith, merged_some un l w, merged_some un r w)

apart-all : {K : Type 0} (l r : Tree K) → T (apart l r) → Apart l r
unfolding apart seated
apart-all (leaf blank_leaf) r h w a b = absurd a
apart-all (leaf (occupied v k)) r h w a b = T_not (seated v r) h (rw (eqb→eq v w a) b)
apart-all (node p x y) r h w a b = grind (arith, apart-all x r, apart-all y r)

all_apart : {K : Type 0} (l r : Tree K) → Apart l r → T (apart l r)
unfolding apart seated
all_apart (leaf blank_leaf) r h = tt
all_apart (leaf (occupied v k)) r h = not_T (seated v r) (h v (eqb_refl v))
all_apart (node p x y) r h = search (yes_and, or_left, or_right, all_apart x r, all_apart y r)

merging-sound : {K : Type 0} (c p : Parent K) (l r : Tree K) → T (merges c (node p l r)) → ParentSound c (λ w. seated w l || seated w r)
unfolding seated
merging-sound blank_parent p l r h = tt
merging-sound (keyed k un) p l r h =
    let t = node p l r in
    let more = and_right (distinct un) (all_seated un t && some_merged un t) h in
    record {
      once = and_left (distinct un) (all_seated un t && some_merged un t) h;
      below = seated-all un t (and_left (all_seated un t) (some_merged un t) more);
      somebody = some-merged un t (and_right (all_seated un t) (some_merged un t) more);
    }

sound-merging : {K : Type 0} (c p : Parent K) (l r : Tree K) → ParentSound c (λ w. seated w l || seated w r) → T (merges c (node p l r))
unfolding seated
sound-merging blank_parent p l r s = tt
sound-merging (keyed k un) p l r s = search (yes_and, all-seated, merged_some)

-- the test gives the invariant
pub consistent-sound : {K : Type 0} (t : Tree K) → T (consistent t) → Sound t
unfolding consistent
consistent-sound (leaf x) h = at_leaf
consistent-sound (node p l r) h =
    let here = and_left (apart l r && merges p (node p l r)) (consistent l && consistent r) h in
    let below = and_right (apart l r && merges p (node p l r)) (consistent l && consistent r) h in
    at_node (apart-all l r (and_left (apart l r) (merges p (node p l r)) here))
    (merging-sound p p l r (and_right (apart l r) (merges p (node p l r)) here))
    (consistent-sound l (and_left (consistent l) (consistent r) below))
    (consistent-sound r (and_right (consistent l) (consistent r) below))

-- and the invariant gives the test
pub sound-consistent : {K : Type 0} {t : Tree K} → Sound t → T (consistent t)
unfolding consistent
sound-consistent at_leaf = tt
sound-consistent (at_node {c} {l} {r} f g p q) = search (yes_and, all_apart, sound-merging, sound-consistent p, sound-consistent q)

pub numbered-all : {K : Type 0} (t : Tree K) → T (numbered t) → Numbered t
unfolding numbered seated
numbered-all (leaf blank_leaf) h w s = absurd s
numbered-all (leaf (occupied v k)) h w s = rw (← (eqb→eq v w s)) (ltb→lt v nobody h)
numbered-all (node p l r) h w s = grind (arith, numbered-all l, numbered-all r)

pub all-numbered : {K : Type 0} (t : Tree K) → Numbered t → T (numbered t)
unfolding numbered seated
all-numbered (leaf blank_leaf) h = tt
all-numbered (leaf (occupied v k)) h = lt→ltb v nobody (h v (eqb_refl v))
all-numbered (node p l r) h = search (yes_and, or_left, or_right, all-numbered l, all-numbered r)

pub well-formed-kept : WellFormedKept
well-formed-kept f commits n = search (sound-consistent, run_sound, yes_and, all-numbered, run-numbered)

-- THE FACTS, in the words of places.
pub sound-sole :
    {K : Type 0} {t : Tree K} → Sound t → (m : ℕ) (p q : List Turn) → T (sits m p t) → T (sits m q t) → p ≡ q
unfolding leaf_at
sound-sole at_leaf m [] [] a b = refl
sound-sole at_leaf m [] (d ∷ q) a b = absurd b
sound-sole at_leaf m (d ∷ p) q a b = absurd a
sound-sole (at_node f g x y) m [] q a b = absurd a
sound-sole (at_node f g x y) m (d ∷ p) [] a b = absurd b
sound-sole (at_node f g x y) m (left ∷ p) (left ∷ q) a b = ap (λ w. left ∷ w) (sound-sole x m p q a b)
sound-sole (at_node {l} {r} f g x y) m (left ∷ p) (right ∷ q) a b = absurd (f m (sits-seated m p l a) (sits-seated m q r b))
sound-sole (at_node {l} {r} f g x y) m (right ∷ p) (left ∷ q) a b = absurd (f m (sits-seated m q l b) (sits-seated m p r a))
sound-sole (at_node f g x y) m (right ∷ p) (right ∷ q) a b = ap (λ w. right ∷ w) (sound-sole y m p q a b)

-- one who sits below a place
abbrev pub SitsBelow : {K : Type 0} → ℕ → List Turn → Tree K → Type 0
SitsBelow w q t = (p : List Turn) × Over q p × T (sits w p t)

-- the half of a parent that a turn leads into, and what lies there
abbrev half : {K : Type 0} → Turn → Tree K → Tree K → Tree K
half left l r = l
half right l r = r

leaf-half : {K : Type 0} (d : Turn) (p : List Turn) (c : Parent K) (l r : Tree K) → leaf_at (d ∷ p) (node c l r) ≡ leaf_at p (half d l r)
unfolding leaf_at
leaf-half left p c l r = refl
leaf-half right p c l r = refl

parent-half : {K : Type 0} (d : Turn) (p : List Turn) (c : Parent K) (l r : Tree K) → parent_at (d ∷ p) (node c l r) ≡ parent_at p (half d l r)
unfolding parent_at
parent-half left p c l r = refl
parent-half right p c l r = refl

deeper :
    {K : Type 0} (d : Turn) (c : Parent K) (l r : Tree K) (w : ℕ) (q : List Turn) → SitsBelow w q (half d l r) →
    SitsBelow w (d ∷ q) (node c l r)
deeper d c l r w q s = (d ∷ s.0, down s.1, rw (leaf-half d s.0 c l r) s.2)

blank-keyed : {K : Type 0} {b : K} {vs : List ℕ} → ◌≡◌ {A = Option (Parent K)} (Some blank_parent) (Some (keyed b vs)) → ⊥
blank-keyed e = let z : ◌≡◌ {A = ℕ} 0 1 = cc in omega arith

top-merging :
    {K : Type 0} (c : Parent K) (l r : Tree K) → ParentSound c (λ w. seated w l || seated w r) →
    (k : K) (un : List ℕ) → Some c ≡ Some (keyed k un) → Merging [] un (node c l r)
unfolding seated
top-merging blank_parent l r s k un e = absurd (blank-keyed e)
top-merging (keyed j vs) l r s k un e = grind (arith, seated-below)

pub sound-merging-at :
    {K : Type 0} {t : Tree K} → Sound t → (q : List Turn) (k : K) (un : List ℕ) → parent_at q t ≡ Some (keyed k un) → Merging q un t
unfolding parent_at
sound-merging-at at_leaf [] k un e = cc
sound-merging-at at_leaf (d ∷ q) k un e = cc
sound-merging-at (at_node {c} {l} {r} f g x y) [] k un e = top-merging c l r g k un e
sound-merging-at (at_node {c} {l} {r} f g x y) (left ∷ q) k un e = grind (arith, deeper left c l r, sound-merging-at x q k un e)
sound-merging-at (at_node {c} {l} {r} f g x y) (right ∷ q) k un e = grind (arith, deeper right c l r, sound-merging-at y q k un e)

pub sound-facts : {K : Type 0} {t : Tree K} → Sound t → Consistent t
sound-facts s = record { sole = sound-sole s; merging = sound-merging-at s }

-- and back: a tree with these facts is sound
higher :
    {K : Type 0} (d : Turn) (c : Parent K) (l r : Tree K) (w : ℕ) (q : List Turn) {p : List Turn} → Over (d ∷ q) p →
    T (sits w p (node c l r)) → SitsBelow w q (half d l r)
higher d c l r w q (down {p} o) s = (p, o, rw (leaf-half d p c l r) at s)

facts-half : {K : Type 0} (d : Turn) (c : Parent K) (l r : Tree K) → Consistent (node c l r) → Consistent (half d l r)
facts-half d c l r s =
    record {
      sole = λ m p q a b. cc (s.sole m (d ∷ p) (d ∷ q) (rw (leaf-half d p c l r) a) (rw (leaf-half d q c l r) b));
      merging =
          λ q k un e.
          let m = s.merging (d ∷ q) k un (rw (parent-half d q c l r) e) in
          record {
            once = m.once;
            below = λ w u. let b = m.below w u in higher d c l r w q b.1 b.2;
            somebody =
                let b = m.somebody in
                (b.0, b.1, higher d c l r b.0 q b.2.1 b.2.2);
          };
    }

facts-top :
    {K : Type 0} (c d : Parent K) (l r : Tree K) → ((k : K) (un : List ℕ) → Some c ≡ Some (keyed k un) → Merging [] un (node d l r)) →
    ParentSound c (λ w. seated w l || seated w r)
unfolding seated
facts-top blank_parent d l r h = tt
facts-top (keyed k un) d l r h =
    let m = h k un refl in
    record {
      once = m.once;
      below = λ w u. let b = m.below w u in sits-seated w b.0 (node d l r) b.2;
      somebody =
          let b = m.somebody in
          (b.0, sits-seated b.0 b.2.0 (node d l r) b.2.2, b.1);
    }

pub facts-sound : {K : Type 0} (t : Tree K) → Consistent t → Sound t
unfolding leaf_at parent_at
facts-sound (leaf x) s = at_leaf
facts-sound (node c l r) s =
    at_node
    (λ w a b.
    let p = seated-sits w l a in
    let q = seated-sits w r b in
    cc (s.sole w (left ∷ p.0) (right ∷ q.0) p.1 q.1))
    (facts-top c c l r (s.merging []))
    (facts-sound l (facts-half left c l r s)) (facts-sound r (facts-half right c l r s))

pub well-formed-facts : {K : Type 0} (t : Tree K) → T (well_formed t) ↔ WellFormed t
well-formed-facts t = (
  λ h.
      record {
        numbers = numbered-all t (and_left (numbered t) (consistent t) h);
        consistent = sound-facts (consistent-sound t (and_right (numbered t) (consistent t) h));
      },
  λ s. yes_and (numbered t) (consistent t) (all-numbered t s.numbers) (sound-consistent (facts-sound t s.consistent)),
)

pub well_formed_is : WellFormedIs
well_formed_is = well-formed-facts

pub distinct_holds : Distinct
distinct_holds f commits n = sound-sole (run_sound f commits n)

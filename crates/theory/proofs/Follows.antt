-- Who stays, who comes and who commits works out all that it then holds.
-- Assumes nothing.
use Rattle.std.proofs.Common.{◌≡◌, ℕ, zero, suc, Bool, true, false, cond, not, ◌&&◌, ◌||◌, T, eqb, List, [], ◌∷◌, ◌++◌, refl, ap, ◌∙◌, inl, inr, eqb→eq, T_not, arith}
use mathlib.Core.Bool.{or-false}
use mathlib.Core.List.Memᴰ
use mathlib.Core.List.{Memᴰ}
use lib.Dec.{not_T, eqb_refl}
use Rattle.theory.specs.Secrets.{Secret, drawn, newcomer_key, lock, seed, talk, ups, Box, Knows, had, raise, locked, mixed, seeded, talked, opened}
use Rattle.theory.specs.Tree.{Tree, leaf, node, blank_leaf, occupied, Parent, blank_parent, keyed, seated, full, leaf_key, leaf_keys, resolution, blank_tree, grown, unmerged_at, removed}
use Rattle.theory.specs.Path.{Target, Laid, sealed_to, parent_laid, level_after}
use Rattle.theory.specs.Held.{is_unmerged, node_key_held, held}
use Rattle.theory.specs.Group.{Change, renew, remove, add, Commit, Group, readied, newcomer, own_key, path_key, path_at, path_boxes, welcome, boxes_of, moved, allowed, committed, group, message, stock}
use Rattle.theory.specs.Places.{Turn}
use Rattle.theory.specs.Follow.{Follows, entering, Enters, Makes}
use Rattle.theory.proofs.Tests.{decided, is_true, is_false, or_left, or_right, nor-left, nor-right, and_right}
use Rattle.theory.proofs.Removal.{removed-node, seated-removed}
use Rattle.theory.proofs.Addition.{Adding, adding, seated-adding}
use Rattle.theory.proofs.Addition as adds
use Rattle.theory.proofs.Wellformed.{Fine, renewal, removal, addition, Permitted, permitted, Climbing, elsewhere, here, in_left, in_right, climbing, seated-climbing, is-left, seated-grown}

-- WHAT IS HELD, one level at a time.
module _ {K : Type 0} (m : ℕ) (c : Parent K) (l r : Tree K) where
  pub held-left : T (seated m l) → held m (node c l r) ≡ node_key_held m c ++ held m l
  unfolding held
  held-left h = rw (is_true (seated m l) h)

  pub held-right : T (not (seated m l)) → T (seated m r) → held m (node c l r) ≡ node_key_held m c ++ held m r
  unfolding held
  held-right n h = rw (is_false (seated m l) n, is_true (seated m r) h)

-- who is in one of two and not in the first is in the second
in-other : (a b : Bool) → T (not a) → T (a || b) → T b
in-other true b n h = elim n [ ]
in-other false b n h = h

-- EVERY ELEMENT of a list has P.
abbrev pub All : {A : Type 0} → (A → Type 0) → List A → Type 0
All {A} P xs = (s : A) → Memᴰ s xs → P s

module _ {A : Type 0} (P : A → Type 0) where
  pub all_append : (xs ys : List A) → All P xs → All P ys → All P (xs ++ ys)
  all_append xs ys f g s d = grind (arith, Memᴰ.append_cases)

  pub all_one : (x : A) → P x → All P (x ∷ [])
  all_one x p s d = rw (Memᴰ.eq_of_singleton d) p

  pub all_cons : (x : A) (xs : List A) → P x → All P xs → All P (x ∷ xs)
  all_cons x xs p f s d = grind arith

  pub all_nil : All P []
  all_nil s d = absurd (Memᴰ.not-nil d)

  pub all_first : (xs ys : List A) → All P (xs ++ ys) → All P xs
  all_first xs ys f s d = f s (Memᴰ.append_left ys d)

  pub all-last : (xs ys : List A) → All P (xs ++ ys) → All P ys
  all-last xs ys f s d = f s (Memᴰ.append_right xs d)

-- A MEMBER HOLDS A KEY of the resolution of each part that it is seated in.
abbrev pub Common : {A : Type 0} → List A → List A → Type 0
Common {A} xs ys = (s : A) × Memᴰ s xs × Memᴰ s ys

-- its leaf key, which it holds
pub own_held : {K : Type 0} (m : ℕ) (t : Tree K) → T (seated m t) → Common (leaf_key m t) (held m t)
unfolding seated leaf_key
own_held m (leaf blank_leaf) h = absurd h
own_held m (leaf (occupied w k)) h =
    unfold held in rw (is_true (eqb w m) h) (k, Memᴰ.head refl, Memᴰ.head refl)
own_held m (node c l r) h = grind (arith, Memᴰ.append_left, held-left, Memᴰ.append_right, held-right, own_held m l, own_held m r)

-- the leaf keys of several hold those of each
among : {K : Type 0} (m : ℕ) (ms : List ℕ) (t : Tree K) {s : K} → T (is_unmerged m ms) → Memᴰ s (leaf_key m t) → Memᴰ s (leaf_keys ms t)
unfolding is_unmerged leaf_keys
among m [] t u d = absurd u
among m (w ∷ ms) t {s} u d = grind (arith, Memᴰ.append_left, Memᴰ.append_right, among m ms t)

-- the key of the top parent is held by who is seated and not unmerged
top-held :
    {K : Type 0} (m : ℕ) (k : K) (un : List ℕ) (l r : Tree K) → T (seated m l || seated m r) → T (not (is_unmerged m un)) →
    Memᴰ k (held m (node (keyed k un) l r))
top-held m k un l r h n = grind (arith, held-left, Memᴰ.head, held-right)

pub resolution-held : {K : Type 0} (m : ℕ) (t : Tree K) → T (seated m t) → Common (resolution t) (held m t)
unfolding seated resolution
resolution-held m (leaf blank_leaf) h = absurd h
resolution-held m (leaf (occupied w k)) h =
    unfold held in rw (is_true (eqb w m) h) (k, Memᴰ.head refl, Memᴰ.head refl)
resolution-held m (node blank_parent l r) h = grind (arith, Memᴰ.append_left, held-left, Memᴰ.append_right, held-right, resolution-held m l, resolution-held m r)
resolution-held m (node (keyed k un) l r) h =
    elim (decided (is_unmerged m un)) [
      | inl u ↦
          let s = own_held m (node (keyed k un) l r) h in
          (s.0, Memᴰ.tail (among m un (node (keyed k un) l r) u s.1), s.2)
      | inr n ↦ (k, Memᴰ.head refl, top-held m k un l r h n)
    ]

-- A PATH, seen by a member of the tree. What it can work out, as boxes and a stock.
module _ (boxes : List Box) (had : List Secret) (p : Secret) where
  abbrev pub Kn : Secret → Type 0
  Kn = Knows boxes had

  -- the boxes of a path that were sent
  abbrev pub Sent : List (Target Secret) → Type 0
  Sent ts = (x : Target Secret) → Memᴰ x ts → Memᴰ (record { key = x.key; holds = ups x.level p }) boxes

  -- a member of the other side opens the path secret of its level
  reached : (m i : ℕ) (t : Tree Secret) → T (seated m t) → Sent (sealed_to i (resolution t)) → All Kn (held m t) → Kn (ups i p)
  reached m i t h sent f =
      let s = resolution-held m t h in
      opened (record { key = s.0; holds = ups i p })
      (sent (record { key = s.0; level = i }) (Memᴰ.map (λ k. record { key = k; level = i }) s.1))
      (f s.0 s.2)

  -- with its path secret a parent of the path is known, and the path secret above it
  known-parent : (m i : ℕ) (ks : List Secret) → Kn (ups i p) → All Kn (node_key_held m (parent_laid (λ j. lock (ups j p)) i ks))
  unfolding is_unmerged
  known-parent m i [] k = all_nil Kn
  known-parent m i (x ∷ ks) k = all_one Kn (lock (ups i p)) (locked k)

  known-level : (i : ℕ) (ks : List Secret) → Kn (ups i p) → Kn (ups (level_after i ks) p)
  unfolding ups
  known-level i [] k = k
  known-level i (x ∷ ks) k = search (raise)

  -- the keys held in a part
  held-in-left : (m : ℕ) (c : Parent Secret) (l r : Tree Secret) → T (seated m l) → All Kn (held m (node c l r)) → All Kn (held m l)
  held-in-left m c l r h f = all-last Kn (node_key_held m c) (held m l) (rw (held-left m c l r h) at f)

  held-in-right :
      (m : ℕ) (c : Parent Secret) (l r : Tree Secret) → T (not (seated m l)) → T (seated m r) → All Kn (held m (node c l r)) →
      All Kn (held m r)
  held-in-right m c l r n h f = all-last Kn (node_key_held m c) (held m r) (rw (held-right m c l r n h) at f)

  -- one parent more of the path
  held-up-left :
      (m i : ℕ) (ks : List Secret) (l r : Tree Secret) → T (seated m l) → Kn (ups i p) → All Kn (held m l) →
      All Kn (held m (node (parent_laid (λ j. lock (ups j p)) i ks) l r))
  held-up-left m i ks l r h k f =
      let c = parent_laid (λ j. lock (ups j p)) i ks in
      rw (held-left m c l r h) (all_append Kn (node_key_held m c) (held m l) (known-parent m i ks k) f)

  held-up-right :
      (m i : ℕ) (ks : List Secret) (l r : Tree Secret) → T (not (seated m l)) → T (seated m r) → Kn (ups i p) → All Kn (held m r) →
      All Kn (held m (node (parent_laid (λ j. lock (ups j p)) i ks) l r))
  held-up-right m i ks l r n h k f =
      let c = parent_laid (λ j. lock (ups j p)) i ks in
      rw (held-right m c l r n h) (all_append Kn (node_key_held m c) (held m r) (known-parent m i ks k) f)

  -- who isn't the committer follows the path, and gets the path secret at its top
  pub follow-path :
      {w : ℕ} {own : Secret} {t u : Tree Secret} {i : ℕ} {ts : List (Target Secret)} →
      Climbing w own (λ j. lock (ups j p)) t u i ts → (m : ℕ) → T (seated w t) → T (not (eqb w m)) → T (seated m t) →
      Sent ts → All Kn (held m t) → All Kn (held m u) × Kn (ups i p)
  unfolding seated
  follow-path {w} {t} (elsewhere h) m c n s sent f = absurd (T_not (seated w t) h c)
  follow-path {w} here m c n s sent f = absurd (T_not (eqb w m) n s)
  follow-path (in_left {c} {l} {l'} {r} {i} {ts} h a) m d n s sent f =
      elim (decided (seated m l)) [
        | inl x ↦
            let below = follow-path a m h n x (λ y e. sent y (Memᴰ.append_left (sealed_to i (resolution r)) e)) (held-in-left m c l r x f) in (
              held-up-left m i (resolution r) l' r (rw (seated-climbing a m) x) below.1 below.0,
              known-level i (resolution r) below.1,
            )
        | inr x ↦
            let z : T (seated m r) = in-other (seated m l) (seated m r) x s in
            let g = held-in-right m c l r x z f in
            let k = reached m i r z (λ y e. sent y (Memᴰ.append_right ts e)) g in
            (held-up-right m i (resolution r) l' r (rw (seated-climbing a m) x) z k g, known-level i (resolution r) k)
      ]
  follow-path (in_right {c} {l} {r} {r'} {i} {ts} v h a) m d n s sent f =
      elim (decided (seated m l)) [
        | inl x ↦
            let g = held-in-left m c l r x f in
            let k = reached m i l x (λ y e. sent y (Memᴰ.append_right ts e)) g in
            (held-up-left m i (resolution l) l r' x k g, known-level i (resolution l) k)
        | inr x ↦
            let z : T (seated m r) = in-other (seated m l) (seated m r) x s in
            let below =
            follow-path a m h n z (λ y e. sent y (Memᴰ.append_left (sealed_to i (resolution l)) e)) (held-in-right m c l r x z f) in (
              held-up-right m i (resolution l) l r' x (rw (seated-climbing a m) z) below.1 below.0,
              known-level i (resolution l) below.1,
            )
      ]

  -- with the first path secret all are known
  known-ups : Kn p → (i : ℕ) → Kn (ups i p)
  unfolding ups
  known-ups k zero = k
  known-ups k (suc i) = let below = known-ups k i in search (raise)

  -- the committer makes every key of its path
  pub make-path :
      {w : ℕ} {own : Secret} {t u : Tree Secret} {i : ℕ} {ts : List (Target Secret)} →
      Climbing w own (λ j. lock (ups j p)) t u i ts → T (seated w t) → Kn own → Kn p → All Kn (held w u)
  unfolding seated
  make-path {w} {t} (elsewhere h) d o k = absurd (T_not (seated w t) h d)
  make-path {w} {own} here d o k = unfold held in rw (is_true (eqb w w) d) (all_one Kn own o)
  make-path {w} (in_left {l} {l'} {r} {i} h a) d o k =
      held-up-left w i (resolution r) l' r (rw (seated-climbing a w) h) (known-ups k i) (make-path a h o k)
  make-path {w} (in_right {l} {r} {r'} {i} v h a) d o k =
      held-up-right w i (resolution l) l r' v (rw (seated-climbing a w) h) (known-ups k i) (make-path a h o k)

-- WHAT IS ASKED, seen by a member who stays.
-- the newcomer is somebody else
others-unmerged : {K : Type 0} (m j : ℕ) (c : Parent K) → T (not (eqb j m)) → node_key_held m (unmerged_at j c) ≡ node_key_held m c
unfolding is_unmerged
others-unmerged m j blank_parent n = refl
others-unmerged m j (keyed k un) n = rw (is_false (eqb j m) n)

newly-unmerged : {K : Type 0} (j : ℕ) (c : Parent K) → node_key_held j (unmerged_at j c) ≡ []
unfolding is_unmerged
newly-unmerged j blank_parent = refl
newly-unmerged j (keyed i un) = rw (is_true (eqb j j) (eqb_refl j))

module _ {K : Type 0} {j : ℕ} {k : K} where
  pub others-seated : {t u : Tree K} {p : List Turn} → Adding j k t u p → (m : ℕ) → T (not (eqb j m)) → seated m u ≡ seated m t
  others-seated {t} a m n = seated-adding a m ∙ (rw (is_false (eqb j m) n) (or-false (seated m t)))

  pub others-held : {t u : Tree K} {p : List Turn} → Adding j k t u p → (m : ℕ) → T (not (eqb j m)) → held m u ≡ held m t
  unfolding held
  others-held adds.here m n = rw (is_false (eqb j m) n)
  others-held (adds.in_left {c} a) m n = rw (others-seated a m n, others-held a m n, others-unmerged m j c n)
  others-held (adds.in_right {c} f a) m n = rw (others-seated a m n, others-held a m n, others-unmerged m j c n)

  -- the newcomer itself holds its leaf key and no more
  newly-seated : {t u : Tree K} {p : List Turn} → Adding j k t u p → T (seated j u)
  newly-seated {t} a = rw (seated-adding a j) (or_right (seated j t) (eqb j j) (eqb_refl j))

  pub newly-held : {t u : Tree K} {p : List Turn} → Adding j k t u p → T (not (seated j t)) → held j u ≡ k ∷ []
  unfolding seated
  newly-held adds.here n = unfold held in rw (is_true (eqb j j) (eqb_refl j))
  newly-held (adds.in_left {c} {l} {l'} {r} a) n = search (held-left, newly-seated, newly-unmerged, nor-left, newly-held a)
  newly-held (adds.in_right {c} {l} {r} {r'} f a) n = search (held-right, nor-left, newly-seated, newly-unmerged, nor-right, newly-held a)

-- a grown tree has room
not-both : (a b : Bool) → T (not a) → T (not (a && b))
not-both true b h = elim h [ ]
not-both false b h = tt

blank-room : {K : Type 0} (t : Tree K) → T (not (full (blank_tree t)))
unfolding full blank_tree
blank-room (leaf x) = tt
blank-room (node c l r) = not-both (full (blank_tree l)) (full (blank_tree r)) (blank-room l)

pub grown-room : {K : Type 0} (t : Tree K) → T (not (full (grown t)))
unfolding full
grown-room t = grind (arith, blank-room)

pub held_grown : {K : Type 0} (m : ℕ) (t : Tree K) → T (seated m t) → held m (grown t) ≡ held m t
held_grown m t s = grind (arith, held-left)

-- a removal seats nobody
not_left : {K : Type 0} (m x : ℕ) (t : Tree K) → T (not (seated m t)) → T (not (seated m (removed x t)))
not_left m x t h = rw (seated-removed m x t) (not-both (seated m t) (not (eqb m x)) h)

-- one who isn't the one removed holds nothing new
blanked : {K : Type 0} (P : K → Type 0) (m : ℕ) (b : Bool) (c : Parent K) → All P (node_key_held m c) → All P (node_key_held m (cond b blank_parent c))
blanked P m true c f = all_nil P
blanked P m false c f = f

pub held-removed :
    {K : Type 0} (P : K → Type 0) (x m : ℕ) (t : Tree K) → T (not (eqb m x)) → T (seated m t) → All P (held m t) → All P (held m (removed x t))
unfolding seated
held-removed P x m (leaf blank_leaf) n h f = absurd h
held-removed P x m (leaf (occupied w k)) n h f = unfold removed in rw (is_false (eqb w x) (rw (← (eqb→eq w m h)) at n)) f
held-removed P x m (node c l r) n h f =
    let b = seated x l || seated x r in
    let d = cond b blank_parent c in
    rw (removed-node x c l r)
    (elim (decided (seated m l)) [
      | inl s ↦
          let g : All P (node_key_held m c ++ held m l) = rw (held-left m c l r s) at f in
          rw (held-left m d (removed x l) (removed x r) (is-left m x l s n))
          (all_append P (node_key_held m d) (held m (removed x l)) (blanked P m b c (all_first P (node_key_held m c) (held m l) g))
          (held-removed P x m l n s (all-last P (node_key_held m c) (held m l) g)))
      | inr y ↦
          let s : T (seated m r) = in-other (seated m l) (seated m r) y h in
          let g : All P (node_key_held m c ++ held m r) = rw (held-right m c l r y s) at f in
          rw (held-right m d (removed x l) (removed x r) (not_left m x l y) (is-left m x r s n))
          (all_append P (node_key_held m d) (held m (removed x r)) (blanked P m b c (all_first P (node_key_held m c) (held m r) g))
          (held-removed P x m r n s (all-last P (node_key_held m c) (held m r) g)))
    ])

pub other_way : (m w : ℕ) → T (not (eqb m w)) → T (not (eqb w m))
other_way m w n = not_T (eqb w m) (λ e. T_not (eqb m w) n (rw (eqb→eq w m e) (eqb_refl m)))

pub unequal : (m w : ℕ) → (m ≡ w → ⊥) → T (not (eqb m w))
unequal m w n = not_T (eqb m w) (λ e. n (eqb→eq m w e))

-- somebody who is seated is another than one who isn't
pub stranger : {K : Type 0} (j m : ℕ) (t : Tree K) → T (not (seated j t)) → T (seated m t) → T (not (eqb j m))
stranger j m t n h = not_T (eqb j m) (λ e. T_not (seated j t) n (rw (eqb→eq j m e) h))

module _ {K : Type 0} (fresh : K) {w : ℕ} {t : Tree K} where
  -- the committer stays
  pub committer-stays : {c : Change} → Fine w t c → T (seated w t) → T (seated w (readied c fresh t))
  committer-stays renewal h = h
  committer-stays (removal {m} a b) h = is-left w m t h (other_way m w b)
  committer-stays (addition {m} a b d) h =
      rw (seated-adding (adding m fresh (grown t) (grown-room t)).1 w, seated-grown w t) (or_left (seated w t) (eqb m w) h)

  -- who stays holds nothing new before the path
  pub readied-held :
      {c : Change} (P : K → Type 0) (m : ℕ) → Fine w t c → T (seated m t) → T (seated m (readied c fresh t)) →
      All P (held m t) → All P (held m (readied c fresh t))
  readied-held P m renewal h s f = f
  readied-held P m (removal {m = x} a b) h s f =
      held-removed P x m t (and_right (seated m t) (not (eqb m x)) (rw (seated-removed m x t) at s)) h f
  readied-held P m (addition {m = j} a b d) h s f =
      rw (others-held (adding j fresh (grown t) (grown-room t)).1 m (stranger j m t a h), held_grown m t h) f

-- A COMMIT. What a handset holds where it is seated.
pub stock-seated : (m : ℕ) (g : Group) → T (seated m g.tree) → stock m g ≡ talk g.secret ∷ seed g.secret ∷ held m g.tree
stock-seated m g h = rw (is_true (seated m g.tree) h)

-- with the epoch's secret and the keys, all of it
stock-known :
    (P : Secret → Type 0) (m : ℕ) (g : Group) → P (talk g.secret) → P (seed g.secret) → All P (held m g.tree) → All P (stock m g)
stock-known P m g a b f = grind arith

-- what a welcome holds
welcome-holds : (P : Secret → Type 0) (a : Change) (e : ℕ) (s : Secret) → P s → All (λ (b : Box). P b.holds) (welcome a e s)
welcome-holds P renew e s k = all_nil (λ (b : Box). P b.holds)
welcome-holds P (remove m) e s k = all_nil (λ (b : Box). P b.holds)
welcome-holds P (add m) e s k = all_one (λ (b : Box). P b.holds) _ k

module _ (c : Commit) (g : Group) where
  -- the next epoch, the path that leads to it, and the message, if the commit is carried out
  abbrev pub next : ℕ
  next = suc g.epoch

  abbrev pub path : Laid Secret
  path = path_at c next g.tree

  abbrev pub asked : Tree Secret
  asked = readied c.change (drawn newcomer_key (newcomer c.change) next) g.tree

  abbrev pub sends : List Box
  sends = boxes_of g.secret c next path

  abbrev pub after : Group
  after = moved c next g path

  pub path-climbs : Climbing c.committer (own_key c next) (λ i. lock (ups i (path_key c next))) asked path.tree path.levels path.targets
  path-climbs = climbing c.committer (own_key c next) (λ i. lock (ups i (path_key c next))) asked

  path-sent : (stock : List Secret) → Sent sends stock (path_key c next) path.targets
  path-sent stock x d =
      Memᴰ.append_left (welcome c.change next after.secret)
      (Memᴰ.map (λ (t : Target Secret). record { key = t.key; holds = ups t.level (path_key c next) }) d)

  -- the epoch's secret, and the stock that it gives
  turned :
      (boxes : List Box) (old : List Secret) (m : ℕ) → Knows boxes old after.secret → All (Knows boxes old) (held m path.tree) →
      All (Knows boxes old) (stock m after)
  turned boxes old m k f = stock-known (Knows boxes old) m after (talked k) (seeded k) f

  pub follow-commit :
      (m : ℕ) → Permitted g.epoch c g.tree → T (seated m g.tree) → T (seated m path.tree) → T (not (eqb c.committer m)) →
      All (Knows sends (stock m g)) (stock m after)
  follow-commit m ok h s n =
      let P : Secret → Type 0 = Knows sends (stock m g) in
      let fresh = drawn newcomer_key (newcomer c.change) next in
      let old : All P (talk g.secret ∷ seed g.secret ∷ held m g.tree) = λ x d. had (rw (stock-seated m g h) d) in
      let there : T (seated m asked) = rw (seated-climbing path-climbs m) at s in
      let new =
      follow-path sends (stock m g) (path_key c next) path-climbs m (committer-stays fresh ok.asked ok.present) n there
      (path-sent (stock m g))
      (readied-held fresh P m ok.asked h there (λ x d. old x (Memᴰ.tail (Memᴰ.tail d)))) in
      turned sends (stock m g) m (mixed (old (seed g.secret) (Memᴰ.tail (Memᴰ.head refl))) new.1) new.0

  -- what the committer has to make the next epoch from
  abbrev pub mine : List Secret
  mine = own_key c next ∷ path_key c next ∷ stock c.committer g

  mine-path : (i : ℕ) → Knows [] mine (ups i (path_key c next))
  mine-path = known-ups [] mine (path_key c next) (had (Memᴰ.tail (Memᴰ.head refl)))

  mine-secret : Permitted g.epoch c g.tree → Knows [] mine after.secret
  mine-secret ok = grind (arith, mixed, had, Memᴰ.tail, Memᴰ.head, mine-path)

  -- it makes all that it then holds, with no box
  pub make-commit : Permitted g.epoch c g.tree → All (Knows [] mine) (stock c.committer after)
  make-commit ok =
      turned [] mine c.committer (mine-secret ok)
      (make-path [] mine (path_key c next) path-climbs
      (committer-stays (drawn newcomer_key (newcomer c.change) next) ok.asked ok.present) (had (Memᴰ.head refl))
      (had (Memᴰ.tail (Memᴰ.head refl))))

  -- and all that it seals
  pub make-sealed : Permitted g.epoch c g.tree → All (λ (b : Box). Knows [] mine b.holds) sends
  make-sealed ok =
      all_append (λ (b : Box). Knows [] mine b.holds) (path_boxes (path_key c next) path.targets) (welcome c.change next after.secret)
      (λ b d.
      let t =
      Memᴰ.of_map (λ (x : Target Secret). record { key = x.key; holds = ups x.level (path_key c next) }) path.targets d in
      rw (← (ap (λ (b : Box). b.holds) t.2)) (mine-path t.0.level))
      (welcome-holds (Knows [] mine) c.change next after.secret (mine-secret ok))

-- WHO COMES.
newcomer-absent : {K : Type 0} {w j : ℕ} {t : Tree K} → Fine w t (add j) → T (not (seated j t))
newcomer-absent (addition a b d) = a

pub enter-commit :
    (w j : ℕ) (g : Group) → let c : Commit = record { committer = w; change = add j } in
    Permitted g.epoch c g.tree → All (Knows (sends c g) (entering j (next c g))) (stock j (after c g))
enter-commit w j g ok =
    let c : Commit = record { committer = w; change = add j } in
    let fresh = drawn newcomer_key j (next c g) in
    let boxes = sends c g in
    let old = entering j (next c g) in
    let absent = newcomer-absent ok.asked in
    let a = (adding j fresh (grown g.tree) (grown-room g.tree)).1 in
    let absent' : T (not (seated j (grown g.tree))) = rw (seated-grown j g.tree) absent in
    let new =
    follow-path boxes old (path_key c (next c g)) (path-climbs c g) j (committer-stays fresh ok.asked ok.present)
    (other_way j w (stranger j w g.tree absent ok.present)) (newly-seated a) (path-sent c g old)
    (rw (newly-held a absent') (all_one (Knows boxes old) fresh (had (Memᴰ.head refl)))) in
    turned c g boxes old j
    (opened _ (Memᴰ.append_right (path_boxes (path_key c (next c g)) (path c g).targets) (Memᴰ.head refl))
    (had (search (Memᴰ.head, Memᴰ.tail))))
    new.0

-- a commit whose change is known
pub by-change :
    (P : Commit → Type 0) (c : Commit) (a : Change) → c.change ≡ a → P (record { committer = c.committer; change = a }) → P c
by-change P c a e = grind (arith)

enter-any :
    (c : Commit) (j : ℕ) (g : Group) → c.change ≡ add j → Permitted g.epoch c g.tree →
    All (Knows (sends c g) (entering j (suc g.epoch))) (stock j (after c g))
enter-any c j g e =
    by-change
    (λ (d : Commit). Permitted g.epoch d g.tree → All (Knows (sends d g) (entering j (suc g.epoch))) (stock j (after d g)))
    c (add j) e (enter-commit c.committer j g)

-- RUNS. What becomes of the group, and what goes out.
pub committed-done : (c : Commit) (g : Group) → T (allowed c g) → committed c g ≡ after c g
unfolding committed
committed-done c g h = rw (is_true (allowed c g) h)

pub committed-refused : (c : Commit) (g : Group) → T (not (allowed c g)) → committed c g ≡ g
unfolding committed
committed-refused c g h = rw (is_false (allowed c g) h)

module _ (f : ℕ) (commits : ℕ → Commit) (n : ℕ) where
  pub message-done : T (allowed (commits n) (group f commits n)) → message f commits n ≡ sends (commits n) (group f commits n)
  unfolding message
  message-done h = rw (is_true (allowed (commits n) (group f commits n)) h)

  pub message-refused : T (not (allowed (commits n) (group f commits n))) → message f commits n ≡ []
  unfolding message
  message-refused h = rw (is_false (allowed (commits n) (group f commits n)) h)

  pub next-group : group f commits (suc n) ≡ committed (commits n) (group f commits n)
  unfolding group
  next-group = refl

  pub group-done : T (allowed (commits n) (group f commits n)) → group f commits (suc n) ≡ after (commits n) (group f commits n)
  group-done h = next-group ∙ committed-done (commits n) (group f commits n) h

  pub group-refused : T (not (allowed (commits n) (group f commits n))) → group f commits (suc n) ≡ group f commits n
  group-refused h = next-group ∙ committed-refused (commits n) (group f commits n) h

  pub now-permitted :
      T (allowed (commits n) (group f commits n)) → Permitted (group f commits n).epoch (commits n) (group f commits n).tree
  now-permitted = permitted (group f commits n).epoch (commits n) (group f commits n).tree

pub follows : Follows
follows f commits n m h s other x d =
    let c = commits n in
    let g = group f commits n in
    elim (decided (allowed c g)) [
      | inl a ↦
          rw (message-done f commits n a)
          (follow-commit c g m (now-permitted f commits n a) h (rw (group-done f commits n a) at s) (unequal c.committer m other) x
          (rw (group-done f commits n a) at d))
      | inr b ↦ had (rw (group-refused f commits n b) at d)
    ]

pub makes : Makes
makes f commits n =
    let c = commits n in
    let g = group f commits n in
    elim (decided (allowed c g)) [
      | inl a ↦
          record {
            held = λ s d. make-commit c g (now-permitted f commits n a) s (rw (group-done f commits n a) at d);
            sealed = λ b d. make-sealed c g (now-permitted f commits n a) b (rw (message-done f commits n a) at d);
          }
      | inr b ↦
          record {
            held = λ s d. had (Memᴰ.tail (Memᴰ.tail (rw (group-refused f commits n b) at d)));
            sealed = λ b' d. absurd (Memᴰ.not-nil (rw (message-refused f commits n b) at d));
          }
    ]

pub enters : Enters
enters f commits n j e a s d = grind (arith, message-done, enter-any, now-permitted, group-done)

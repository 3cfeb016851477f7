-- To how many keys a renewal is sealed: the resolution of a part has no more keys than members, and one key where the part is whole.
-- Assumes nothing.
use Rattle.std.proofs.Common.{◌≡◌, ℕ, zero, suc, ◌+◌, ◌<◌, ◌≤◌, not, T, eqb, List, [], ◌∷◌, ◌++◌, length, refl, ap, ◌∙◌, inl, inr, arith, eqb→eq, T_not, length-append}
use lib.Dec.{not_T, eqb_refl}
use Rattle.std.proofs.Math.Facts.{yes_and}
use Rattle.theory.specs.Secrets.{Secret}
use Rattle.theory.specs.Tree.{Tree, leaf, node, Leaf, blank_leaf, occupied, blank_parent, keyed, is_at, seated, members, leaf_key, leaf_keys, resolution, removed}
use Rattle.theory.specs.Path.{Target, sealed_to, parent_laid}
use Rattle.theory.specs.Held.{is_unmerged}
use Rattle.theory.specs.Group.{renew, Commit, Group, readied, path_key, path_boxes, allowed, group}
use Rattle.theory.specs.Wellformed.{distinct}
use Rattle.theory.specs.Follow.{Small, whole, Logarithmic}
use Rattle.theory.proofs.Tests.{by_cond, decided, is_true, is_false, or_cases, or_left, or_right, nor-left, nor-right, and_left, and_right}
use Rattle.theory.proofs.Removal.{removed-node, vacated}
use Rattle.theory.proofs.Wellformed.{run-from, Permitted, Climbing, elsewhere, here, in_left, in_right, climbing, seated-climbing, is-left, Merged, Sound, at_leaf, at_node, run_sound, distinct_tail}
use Rattle.theory.proofs.Follows.{committer-stays, message-done, message-refused, group-done, path, sends, next, path-climbs, by-change, now-permitted}
use Rattle.std.proofs.lemmas.Grind.{common_steps}

-- SEATS. One fewer after a removal.
vacated-few : {K : Type 0} (m : ℕ) (x : Leaf K) → members (leaf (vacated m x)) ≤ members (leaf x)
unfolding members
vacated-few {K} m blank_leaf = omega arith
vacated-few {K} m (occupied w k) = grind (arith)

pub removed-few : {K : Type 0} (m : ℕ) (t : Tree K) → members (removed m t) ≤ members t
unfolding members
removed-few m (leaf x) = unfold removed in vacated-few m x
removed-few m (node c l r) =
    rw (removed-node m c l r) (let a = removed-few m l in let b = removed-few m r in omega arith)

pub removed-fewer : {K : Type 0} (m : ℕ) (t : Tree K) → T (seated m t) → members (removed m t) < members t
unfolding members seated
removed-fewer m (leaf blank_leaf) h = absurd h
removed-fewer m (leaf (occupied w k)) h = unfold removed in rw (is_true (eqb w m) h) (omega arith)
removed-fewer m (node c l r) h = grind (arith, removed-node, removed-few, removed-fewer m l, removed-fewer m r)

-- as many different members as are named need as many leaves
pub named-few :
    {K : Type 0} (ws : List ℕ) (t : Tree K) → T (distinct ws) → ((w : ℕ) → T (is_unmerged w ws) → T (seated w t)) →
    length ws ≤ members t
unfolding is_unmerged
named-few [] t h f = omega arith
named-few (w ∷ ws) t h f =
    let e = distinct_tail w ws h in
    let s : T (seated w t) = f w (or_left (eqb w w) (is_unmerged w ws) (eqb_refl w)) in
    let fewer = removed-fewer w t s in
    let rest =
    named-few ws (removed w t) e.1
    (λ v u.
    is-left v w t (f v (or_right (eqb w v) (is_unmerged v ws) u))
    (not_T (eqb v w) (λ q. T_not (is_unmerged w ws) e.0 (rw (← (eqb→eq v w q)) u)))) in
    omega arith

-- KEYS. Nobody has two.
pub leaf_key-absent : {K : Type 0} (m : ℕ) (t : Tree K) → T (not (seated m t)) → leaf_key m t ≡ []
unfolding leaf_key seated
leaf_key-absent m (leaf x) h = rw (is_false (is_at m x) h)
leaf_key-absent m (node c l r) h = search (nor-left, nor-right, leaf_key-absent m l, leaf_key-absent m r)

leaf-one : {K : Type 0} (m : ℕ) (x : Leaf K) → length (leaf_key m (leaf x)) ≤ 1
unfolding leaf_key
leaf-one m blank_leaf = omega arith
leaf-one {K} m (occupied w k) = by_cond (λ (ks : List K). length ks ≤ 1) (eqb w m) _ _ (λ _. omega arith) (λ _. omega arith)

pub leaf_key-one : {K : Type 0} (m : ℕ) {t : Tree K} → Sound t → length (leaf_key m t) ≤ 1
unfolding leaf_key
leaf_key-one m (at_leaf {x}) = leaf-one m x
leaf_key-one m (at_node {l} {r} f g p q) = search (arith, common_steps, leaf_key-absent, leaf_key-one m p, leaf_key-one m q)

pub leaf_keys-few : {K : Type 0} (ms : List ℕ) {t : Tree K} → Sound t → length (leaf_keys ms t) ≤ length ms
unfolding leaf_keys
leaf_keys-few [] s = omega arith
leaf_keys-few (m ∷ ms) {t} s = search (arith, common_steps, leaf_key-one, leaf_keys-few ms s)

-- a part has no more keys in its resolution than members
keyed-few :
    {K : Type 0} (k : K) (un : List ℕ) (t : Tree K) → Sound t → Merged un (λ w. seated w t) → suc (length (leaf_keys un t)) ≤ members t
unfolding distinct is_unmerged
keyed-few k un t s g =
    let w = g.somebody.0 in
    let few = leaf_keys-few un s in
    let named =
    named-few (w ∷ un) t (yes_and (not (is_unmerged w un)) (distinct un) g.somebody.2 g.once)
    (λ v u.
    elim (or_cases (eqb w v) (is_unmerged v un) u) [
      | inl e ↦ rw (← (eqb→eq w v e)) g.somebody.1
      | inr b ↦ g.below v b
    ]) in
    omega arith

pub resolution-few : {K : Type 0} {t : Tree K} → Sound t → length (resolution t) ≤ members t
unfolding resolution members
resolution-few (at_leaf {x = blank_leaf}) = omega arith
resolution-few (at_leaf {x = occupied w k}) = omega arith
resolution-few (at_node {c = blank_parent} {l} {r} f g p q) = search (arith, common_steps, resolution-few p, resolution-few q)
resolution-few (at_node {c = keyed k un} {l} {r} f g p q) = keyed-few k un (node (keyed k un) l r) (at_node {c = keyed k un} f g p q) (unfold seated in g)

-- A PATH is sealed to fewer keys than there are members.
sealed-length : {K : Type 0} (i : ℕ) (ks : List K) → length (sealed_to i ks) ≡ length ks
sealed-length i [] = refl
sealed-length i (k ∷ ks) = ap suc (sealed-length i ks)

pub targets-length : {K : Type 0} (ts : List (Target K)) (i : ℕ) (ks : List K) → length (ts ++ sealed_to i ks) ≡ length ts + length ks
targets-length ts i ks = length-append ts (sealed_to i ks) ∙ ap (λ n. length ts + n) (sealed-length i ks)

pub seated-many : {K : Type 0} (m : ℕ) (t : Tree K) → T (seated m t) → 1 ≤ members t
unfolding members seated
seated-many m (leaf blank_leaf) h = absurd h
seated-many m (leaf (occupied w k)) h = omega arith
seated-many m (node c l r) h = grind (arith, seated-many m l, seated-many m r)

pub path-few :
    {K : Type 0} {m : ℕ} {own : K} {keys : ℕ → K} {t u : Tree K} {i : ℕ} {ts : List (Target K)} →
    Climbing m own keys t u i ts → T (seated m t) → Sound t → length ts < members t
unfolding members seated
path-few {m} {t} (elsewhere h) d s = absurd (T_not (seated m t) h d)
path-few here d s = omega arith
path-few (in_left {r} {i} {ts} h a) d (at_node f g p q) = grind (arith, targets-length, resolution-few, path-few a h p)
path-few (in_right {l} {i} {ts} v h a) d (at_node f g p q) = grind (arith, targets-length, resolution-few, path-few a h q)

-- A WHOLE TREE: one key reaches each part, and the path lays a key at each level.
pub data Whole {K : Type 0} : ℕ → Tree K → Type 0 where
  whole_leaf : {w : ℕ} {k : K} → Whole zero (leaf (occupied w k))
  whole_node : {d : ℕ} {k : K} {l r : Tree K} → Whole d l → Whole d r → Whole (suc d) (node (keyed k []) l r)

pub whole-view : {K : Type 0} (d : ℕ) (t : Tree K) → T (whole d t) → Whole d t
unfolding whole
whole-view zero (leaf blank_leaf) h = absurd h
whole-view zero (leaf (occupied w k)) h = whole_leaf
whole-view zero (node c l r) h = absurd h
whole-view (suc d) (leaf x) h = absurd h
whole-view (suc d) (node blank_parent l r) h = absurd h
whole-view (suc d) (node (keyed k []) l r) h =
    whole_node (whole-view d l (and_left (whole d l) (whole d r) h)) (whole-view d r (and_right (whole d l) (whole d r) h))
whole-view (suc d) (node (keyed k (w ∷ ws)) l r) h = absurd h

pub whole-test : {K : Type 0} {d : ℕ} {t : Tree K} → Whole d t → T (whole d t)
unfolding whole
whole-test whole_leaf = tt
whole-test (whole_node {d} {l} {r} a b) = yes_and (whole d l) (whole d r) (whole-test a) (whole-test b)

pub whole-resolution : {K : Type 0} {d : ℕ} {t : Tree K} → Whole d t → (k : K) × (resolution t ≡ k ∷ [])
unfolding resolution leaf_keys
whole-resolution (whole_leaf {k}) = (k, refl)
whole-resolution (whole_node {k} a b) = (k, refl)

pub path-whole :
    {K : Type 0} {m : ℕ} {own : K} {keys : ℕ → K} {t u : Tree K} {i : ℕ} {ts : List (Target K)} {d : ℕ} →
    Climbing m own keys t u i ts → T (seated m t) → Whole d t → (length ts ≡ d) × Whole d u
path-whole {m} {t} (elsewhere h) s w = absurd (T_not (seated m t) h s)
path-whole here s whole_leaf = (refl, whole_leaf)
path-whole {keys} (in_left {r} {i} {ts} h a) s (whole_node {d} x y) =
    let below = path-whole a h x in
    let e = whole-resolution y in
    let counted : length (ts ++ sealed_to i (resolution r)) ≡ suc d =
    targets-length ts i (resolution r) ∙ (rw (e.1, below.0) (omega arith)) in
    (counted, rw (ap (parent_laid keys i) e.1) (whole_node below.1 y))
path-whole {keys} (in_right {l} {i} {ts} v h a) s (whole_node {d} x y) =
    let below = path-whole a h y in
    let e = whole-resolution x in
    let counted : length (ts ++ sealed_to i (resolution l)) ≡ suc d =
    targets-length ts i (resolution l) ∙ (rw (e.1, below.0) (omega arith)) in
    (counted, rw (ap (parent_laid keys i) e.1) (whole_node x below.1))

-- A RENEWAL. Its boxes are those of its path.
boxes-length : (p : Secret) (ts : List (Target Secret)) → length (path_boxes p ts ++ []) ≡ length ts
boxes-length p [] = refl
boxes-length p (t ∷ ts) = ap suc (boxes-length p ts)

pub renewal-few :
    (c : Commit) (g : Group) → c.change ≡ renew → Permitted g.epoch c g.tree → Sound g.tree →
    length (sends c g) < members g.tree
renewal-few c g e =
    by-change (λ (d : Commit). Permitted g.epoch d g.tree → Sound g.tree → length (sends d g) < members g.tree) c renew e
    (λ ok s.
    let d : Commit = record { committer = c.committer; change = renew } in
    rw (boxes-length (path_key d (next d g)) (path d g).targets) (path-few (path-climbs d g) ok.present s))

pub renewal-whole :
    (c : Commit) (g : Group) (d : ℕ) → c.change ≡ renew → Permitted g.epoch c g.tree → Whole d g.tree →
    (length (sends c g) ≡ d) × Whole d (path c g).tree
renewal-whole c g d e =
    by-change
    (λ (b : Commit). Permitted g.epoch b g.tree → Whole d g.tree → (length (sends b g) ≡ d) × Whole d (path b g).tree)
    c renew e
    (λ ok w.
    let b : Commit = record { committer = c.committer; change = renew } in
    let x = path-whole (path-climbs b g) ok.present w in
    (boxes-length (path_key b (next b g)) (path b g).targets ∙ x.0, x.1))

-- A RUN. Somebody is always seated.
abbrev pub Manned : {K : Type 0} → Tree K → Type 0
Manned t = (w : ℕ) × T (seated w t)

founder-manned : (f : ℕ) (k : Secret) → Manned (leaf (occupied f k))
unfolding seated
founder-manned f k = (f, eqb_refl f)

pub run-manned : (f : ℕ) (commits : ℕ → Commit) (n : ℕ) → Manned (group f commits n).tree
run-manned f =
    run-from Manned f (founder-manned f)
    (λ e c t h fresh own keys s. (
      c.committer,
      rw (seated-climbing (climbing c.committer own keys (readied c.change fresh t)) c.committer)
          (committer-stays fresh h.asked h.present),
    ))

pub small : Small
small f commits n e =
    let c = commits n in
    let g = group f commits n in
    elim (decided (allowed c g)) [
      | inl a ↦
          rw (message-done f commits n a) (renewal-few c g e (now-permitted f commits n a) (run_sound f commits n))
      | inr b ↦
          let w = run-manned f commits n in
          rw (message-refused f commits n b) (seated-many w.0 g.tree w.1)
    ]

pub logarithmic : Logarithmic
logarithmic f commits n d e a h =
    let c = commits n in
    let g = group f commits n in
    let x = renewal-whole c g d e (now-permitted f commits n a) (whole-view d g.tree h) in
    (rw (message-done f commits n a) x.0, rw (group-done f commits n a) (whole-test x.1))

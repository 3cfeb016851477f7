-- The numbers of boxes stay small.
-- Assumes nothing.
use Rattle.std.proofs.Common.{◌≡◌, ℕ, suc, ◌+◌, ◌^◌, ◌<◌, ◌≤◌, Bool, true, false, cond, ◌||◌, T, eqb, List, [], ◌∷◌, ◌++◌, map, length, refl, ap, ap₂, inl, inr, arith, pow_mono}
use mathlib.Core.List.Memᴰ
use native.Mathlib.Nat.{min-eq_left}
use Rattle.theory.specs.Limits.{max_depth}
use Rattle.theory.specs.Tree.{Tree, leaf, node, Parent, blank_parent, keyed, is_blank, seated, members, height, resolution}
use Rattle.theory.specs.Held.{is_unmerged}
use Rattle.theory.specs.Group.{Change, renew, remove, add, Commit, readied}
use Rattle.theory.proofs.Tests.{by_cond, decided, is_true, is_false, or_left}
use Rattle.theory.proofs.Level.{Level, Bounded, removed-level, added-level, grown-bounded}
use Rattle.theory.proofs.Level as level
use Rattle.theory.proofs.Wellformed.{Fine, renewal, removal, addition, permitted, Sound, at_leaf, at_node, readied-sound, consistent-sound}
use Rattle.theory.proofs.Counting.{named-few, resolution-few, seated-many}
use Rattle.theory.proofs.Follows.{All, all_append, all_one, all_cons, all_nil}
use Rattle.vault_theory.specs.Order.{Order, draw, derive, mix, seal, unseal, forget, publish, slot_of_key, slot_of_path}
use Rattle.vault_theory.specs.Numbers.{levels, posted, is_held, before, number_of_key}
use Rattle.vault_theory.specs.Orders.{held_forgotten, dropped, dropped_for, climbed, sealed_up, opened, followed, made, renewed, turned, staying, welcoming, committing, joining, abandoned, taking, orders_of}
use Rattle.vault_theory.specs.Capped.{BoxesThere, BoxesFew, cap, cap_order, CapKeeps}
use Rattle.vault_theory.proofs.Numbering.{other-side, key-found, nth-below}
use Rattle.vault_theory.proofs.Depth.{level-view}

-- HOW MANY.
pub members-few : {K : Type 0} {d : ℕ} {t : Tree K} → Level d t → members t ≤ 2 ^ d
unfolding members
members-few (level.at_leaf {x}) = by_cond (λ n. n ≤ 1) (is_blank x) 0 1 (λ _. omega arith) (λ _. omega arith)
members-few (level.at_node {d} a b) = let x = members-few a in let y = members-few b in omega arith

pub posted-few : {K : Type 0} (c : ℕ) {t : Tree K} → Sound t → posted c t ≤ members t
unfolding posted members
posted-few c at_leaf = omega arith
posted-few c (at_node {l} {r} f g p q) = grind (arith, resolution-few, posted-few c p, posted-few c q)

pub posted-fewer : {K : Type 0} (c : ℕ) {t : Tree K} → Sound t → T (seated c t) → posted c t < members t
unfolding posted members
posted-fewer c (at_leaf {x}) h = seated-many c (leaf x) h
posted-fewer c (at_node {c = k} {l} {r} f g p q) h =
    let u = resolution-few p in
    let v = resolution-few q in
    elim (decided (seated c l)) [
      | inl a ↦ let x = posted-fewer c p a in rw (is_true (seated c l) a) (omega arith)
      | inr a ↦
          let b = other-side (seated c l) (seated c r) a (unfold seated in h) in
          let x = posted-fewer c q b in
          rw (is_false (seated c l) a, is_true (seated c r) b) (omega arith)
    ]

-- the number of a key is no more than the members
before-few : (w : ℕ) (ws : List ℕ) → T (is_unmerged w ws) → before w ws < length ws
unfolding before is_unmerged
before-few w [] h = absurd h
before-few w (v ∷ ws) h = grind (arith, before-few w ws)

pub number-few : {K : Type 0} (w : ℕ) {t : Tree K} → Sound t → number_of_key w t ≤ members t
unfolding number_of_key members
number-few w (at_leaf {x}) = omega arith
number-few w (at_node {c = blank_parent} {l} {r} f g p q) = grind (arith, resolution-few, number-few w p, number-few w q)
number-few w (at_node {c = keyed k un} {l} {r} f g p q) =
    by_cond (λ n. n ≤ members l + members r) (is_unmerged w un) _ _
    (λ h.
    let x = before-few w un h in
    let y : length un ≤ members (node (keyed k un) l r) = named-few un (node (keyed k un) l r) g.once (λ v u. unfold seated in g.below v u) in
    omega arith)
    (λ _. omega arith)

-- NUMBERS BELOW k. An order that opens no box names none.
abbrev pub Under : {K : Type 0} → ℕ → Order K → Type 0
Under k (draw t) = Unit {0}
Under k (derive w s t) = Unit {0}
Under k (mix s p t) = Unit {0}
Under k (seal s j) = Unit {0}
Under k (unseal n s t) = n < k
Under k (forget s) = Unit {0}
Under k (publish s) = Unit {0}

module _ {K : Type 0} (k : ℕ) where
  none : All (Under {K = K} k) []
  none = all_nil (Under k)

  and_then : (o : Order K) (os : List (Order K)) → Under k o → All (Under k) os → All (Under k) (o ∷ os)
  and_then = all_cons (Under k)

  both-lists : (xs ys : List (Order K)) → All (Under k) xs → All (Under k) ys → All (Under k) (xs ++ ys)
  both-lists = all_append (Under k)

  either : (b : Bool) (xs ys : List (Order K)) → All (Under k) xs → All (Under k) ys → All (Under k) (cond b xs ys)
  either b xs ys p q = by_cond (All (Under k)) b xs ys (λ _. p) (λ _. q)

  held_forgotten-under : (w : ℕ) (p : Parent K) (h : ℕ) → All (Under k) (held_forgotten w p h)
  held_forgotten-under w p h = either (is_held w p) (forget (slot_of_key h) ∷ []) [] (and_then (forget (slot_of_key h)) [] tt none) none

  climbed-under : (i h : ℕ) (ks : List K) → All (Under k) (climbed i h ks)
  climbed-under i h [] = none
  climbed-under i h (j ∷ ks) = and_then _ _ tt (and_then _ _ tt (and_then _ _ tt none))

  above-under : (w : ℕ) (p : Parent K) (i h : ℕ) (ks : List K) → All (Under k) (held_forgotten w p h ++ climbed i h ks)
  above-under w p i h ks = both-lists (held_forgotten w p h) (climbed i h ks) (held_forgotten-under w p h) (climbed-under i h ks)

  seals-under : (s : ℕ) (ks : List K) → All (Under k) (map (seal s) ks)
  seals-under s [] = none
  seals-under s (j ∷ ks) = and_then (seal s j) (map (seal s) ks) tt (seals-under s ks)

  sealed_up-under : (i h : ℕ) (ks : List K) → All (Under k) (sealed_up i h ks)
  sealed_up-under i h [] = none
  sealed_up-under i h (j ∷ ks) =
      both-lists (map (seal (slot_of_path i)) (j ∷ ks)) _ (seals-under (slot_of_path i) (j ∷ ks))
      (and_then _ _ tt (and_then _ _ tt (and_then _ _ tt (and_then _ _ tt none))))

  -- a part of the tree, where no box is opened
  dropped-under : (w m : ℕ) (t : Tree K) → All (Under k) (dropped w m t)
  unfolding dropped
  dropped-under w m (leaf x) = none
  dropped-under w m (node p l r) = search (both-lists, either, held_forgotten-under, none, dropped-under w m l, dropped-under w m r)

  made-under : (c : ℕ) (t : Tree K) → All (Under k) (made c t)
  unfolding made
  made-under c (leaf x) = none
  made-under c (node p l r) = search (either, both-lists, held_forgotten-under, sealed_up-under, made-under c l, made-under c r)

  abandoned-under : (w : ℕ) (t : Tree K) → All (Under k) (abandoned w t)
  unfolding abandoned
  abandoned-under w (leaf x) = and_then _ _ tt none
  abandoned-under w (node p l r) = search (both-lists, either, held_forgotten-under, abandoned-under w l, abandoned-under w r)

  dropped_for-under : (w : ℕ) (a : Change) (t : Tree K) → All (Under k) (dropped_for w a t)
  dropped_for-under w renew t = none
  dropped_for-under w (remove m) t = dropped-under w m t
  dropped_for-under w (add m) t = none

  renewed-under : All (Under {K = K} k) renewed
  renewed-under = and_then _ _ tt (and_then _ _ tt (and_then _ _ tt none))

  turned-under : (i : ℕ) (sealing : List (Order K)) → All (Under k) sealing → All (Under k) (turned i sealing)
  turned-under i sealing u =
      and_then _ _ tt (and_then _ _ tt (and_then _ _ tt (and_then _ _ tt (both-lists sealing renewed u renewed-under))))

  welcoming-under : (a : Change) (init : K) → All (Under k) (welcoming a init)
  welcoming-under renew init = none
  welcoming-under (remove m) init = none
  welcoming-under (add m) init = and_then _ _ tt none

-- THE BOX that reaches a member is one of the path.
pub followed-there :
    {K : Type 0} (k w c : ℕ) {d : ℕ} {u : Tree K} → Level d u → Sound u → T (seated w u) → T (seated c u) → posted c u ≤ k →
    All (Under k) (followed w c u)
unfolding followed posted
followed-there k w c level.at_leaf s a b e = none k
followed-there k w c (level.at_node {d} {c = p} {l} {r} x y) (at_node f g m n) a b e =
    elim (decided (seated c l)) [
      | inl h ↦
          let le : posted c l + length (resolution r) ≤ k = rw (is_true (seated c l) h) at e in
          rw (is_true (seated c l) h)
          (both-lists k (cond (seated w l) (followed w c l) (opened w c l r ∷ [])) _
          (by_cond (All (Under k)) (seated w l) _ _
          (λ i. followed-there k w c x m i h (omega arith))
          (λ i.
          let found = key-found w y n (other-side (seated w l) (seated w r) i (unfold seated in a)) in
          let low = nth-below (resolution r) (number_of_key w r) found.key found.numbered in
          all_one (Under k) (opened w c l r) (omega arith)))
          (above-under k w p (levels c l) (suc (height l)) (resolution r)))
      | inr h ↦
          let j = other-side (seated c l) (seated c r) h (unfold seated in b) in
          let le : posted c r + length (resolution l) ≤ k = rw (is_false (seated c l) h, is_true (seated c r) j) at e in
          rw (is_false (seated c l) h)
          (both-lists k (cond (seated w r) (followed w c r) (opened w c r l ∷ [])) _
          (by_cond (All (Under k)) (seated w r) _ _
          (λ i. followed-there k w c y n i j (omega arith))
          (λ i.
          let found = key-found w x m (other-side (seated w r) (seated w l) i (or_swap (seated w l) (seated w r) (unfold seated in a))) in
          let low = nth-below (resolution l) (number_of_key w l) found.key found.numbered in
          all_one (Under k) (opened w c r l) (omega arith)))
          (above-under k w p (levels c r) (suc (height l)) (resolution l)))
    ]
  where
    or_swap : (a b : Bool) → T (a || b) → T (b || a)
    or_swap true true h = tt
    or_swap true false h = tt
    or_swap false b h = or_left b false h

pub boxes_there : BoxesThere
boxes_there d u h s w c a b n i t m = followed-there (posted c u) w c (level-view d u h) (consistent-sound u s) a b (omega arith) (unseal n i t) m

pub boxes_few : BoxesFew
boxes_few d u h s c a = (posted-fewer c (consistent-sound u s) a, members-few (level-view d u h))

-- EVERY NUMBER is no more than the members, whoever is seated.
pub followed-under : {K : Type 0} (k w c : ℕ) {u : Tree K} → Sound u → members u < k → All (Under k) (followed w c u)
unfolding followed members
followed-under k w c at_leaf e = none k
followed-under k w c (at_node {c = p} {l} {r} f g m n) e =
    let h = suc (height l) in
    let x = posted-few c m in
    let y = posted-few c n in
    let i = number-few w m in
    let j = number-few w n in
    either k (seated c l) _ _
    (both-lists k (cond (seated w l) (followed w c l) (opened w c l r ∷ [])) _
    (either k (seated w l) _ _ (followed-under k w c m (omega arith)) (all_one (Under k) (opened w c l r) (omega arith)))
    (above-under k w p (levels c l) h (resolution r)))
    (both-lists k (cond (seated w r) (followed w c r) (opened w c r l ∷ [])) _
    (either k (seated w r) _ _ (followed-under k w c n (omega arith)) (all_one (Under k) (opened w c r l) (omega arith)))
    (above-under k w p (levels c r) h (resolution l)))

module _ {K : Type 0} (k w : ℕ) (c : Commit) (fresh : K) (t : Tree K) (s : Sound (readied c.change fresh t)) (e : members (readied c.change fresh t) < k) where
  staying-under : All (Under k) (staying w c fresh t)
  staying-under = search (both-lists, dropped_for-under, followed-under, turned-under, none)

  joining-under : All (Under k) (joining w c fresh t)
  joining-under =
      let u = readied c.change fresh t in
      let few = posted-few c.committer s in
      and_then k _ _ tt (and_then k _ _ tt (and_then k _ _ tt (and_then k _ _ tt
      (and_then k _ _ (omega arith)
      (and_then k _ _ tt
      (both-lists k (followed w c.committer u) _ (followed-under k w c.committer s e)
      (and_then k _ _ tt (renewed-under k))))))))

  taking-under : (a : Change) → All (Under k) (taking w a c fresh t)
  taking-under renew = staying-under
  taking-under (remove m) =
      either k (eqb m w) _ _ (and_then k _ _ tt (and_then k _ _ tt (abandoned-under k w t))) staying-under
  taking-under (add m) = either k (eqb m w) _ _ joining-under staying-under

  committing-under : (init : K) → All (Under k) (committing c fresh init t)
  committing-under init =
      let u = readied c.change fresh t in
      both-lists k (dropped_for c.committer c.change t) _ (dropped_for-under k c.committer c.change t)
      (and_then k _ _ tt (and_then k _ _ tt (and_then k _ _ tt (and_then k _ _ tt
      (both-lists k (made c.committer u) _ (made-under k c.committer u)
      (turned-under k (levels c.committer u) (welcoming c.change init) (welcoming-under k c.change init)))))))

  pub orders-under : (init : K) → All (Under k) (orders_of w c fresh init t)
  orders-under init = either k (eqb w c.committer) _ _ (committing-under init) (taking-under c.change)

-- CAPPED. A number that is no more than the cap stays.
cap-one : {K : Type 0} (o : Order K) → Under (suc cap) o → cap_order o ≡ o
cap-one (draw t) u = refl
cap-one (derive w s t) u = refl
cap-one (mix s p t) u = refl
cap-one (seal s k) u = refl
cap-one (unseal n s t) u = let le : n ≤ cap = omega arith in ap (λ i. unseal i s t) (min-eq_left le)
cap-one (forget s) u = refl
cap-one (publish s) u = refl

pub cap-keeps-each : {K : Type 0} (os : List (Order K)) → All (Under (suc cap)) os → map cap_order os ≡ os
cap-keeps-each [] u = refl
cap-keeps-each (o ∷ os) u =
    ap₂ ◌∷◌ (cap-one o (u o (Memᴰ.head refl))) (cap-keeps-each os (λ x m. u x (Memᴰ.tail m)))

-- of a readied tree that is sound and no deeper than the limit
pub orders-capped :
    {K : Type 0} (w : ℕ) (c : Commit) (fresh init : K) {d : ℕ} (t : Tree K) →
    Level d (readied c.change fresh t) → d ≤ max_depth → Sound (readied c.change fresh t) →
    map cap_order (orders_of w c fresh init t) ≡ orders_of w c fresh init t
orders-capped w c fresh init {d} t x e s =
    let few = members-few x in
    let most : 2 ^ d ≤ 2 ^ 10 = pow_mono e in
    cap-keeps-each (orders_of w c fresh init t) (orders-under (suc cap) w c fresh t s (omega arith) init)

-- a commit that isn't refused keeps within the limit
readied-bounded : {K : Type 0} {w : ℕ} {c : Change} (fresh : K) {t : Tree K} → Fine w t c → Bounded t → Bounded (readied c fresh t)
readied-bounded fresh renewal b = b
readied-bounded fresh (removal {m} h n) b = (b.0, removed-level m b.1, b.2)
readied-bounded fresh {t} (addition {m} h n room) b = grind (arith, grown-bounded, added-level)

pub cap-keeps : CapKeeps
cap-keeps d t h e s n c ok w fresh init =
    let may = (permitted n c t ok).asked in
    let b = readied-bounded fresh may (d, level-view d t h, e) in
    orders-capped w c fresh init t b.1 b.2 (readied-sound fresh may (consistent-sound t s))

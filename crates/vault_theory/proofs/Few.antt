-- Who stays has few orders: of each parent one for the old node key and three for the new one.
-- Assumes nothing.
use Rattle.std.proofs.Common.{◌≡◌, ℕ, suc, ◌+◌, ◌*◌, ◌≤◌, Bool, cond, not, ◌||◌, T, eqb, List, [], ◌∷◌, ◌++◌, length, refl, ◌∙◌, inl, inr, arith, eqb→eq, T_not}
use mathlib.Core.Bool.{and-true}
use lib.Dec.{not_T, eqb_refl}
use Rattle.theory.specs.Tree.{Tree, leaf, node, Parent, seated, height, resolution, removed}
use Rattle.theory.specs.Group.{Change, renew, remove, add, Commit, readied}
use Rattle.theory.proofs.Tests.{by_cond, decided, is_false, and_right}
use Rattle.theory.proofs.Removal.{removed-absent, removed-node, seated-removed}
use Rattle.theory.proofs.Level.{Level, level-height, removed-level}
use Rattle.theory.proofs.Level as level
use Rattle.theory.proofs.Wellformed.{Apart, Sound, at_node, consistent-sound}
use Rattle.vault_theory.specs.Order.{Order}
use Rattle.vault_theory.specs.Numbers.{levels, is_held}
use Rattle.vault_theory.specs.Orders.{held_forgotten, dropped, dropped_for, climbed, opened, followed, staying, orders_of}
use Rattle.vault_theory.specs.Laws.{is_apart, stays, Few}
use Rattle.vault_theory.proofs.Depth.{level-view, readied-deep}
use Rattle.std.proofs.lemmas.Grind.{common_steps}

-- ONE PARENT.
forget-few : {K : Type 0} (w : ℕ) (p : Parent K) (h : ℕ) → length (held_forgotten w p h) ≤ 1
forget-few {K} w p h = by_cond (λ (os : List (Order K)). length os ≤ 1) (is_held w p) _ _ (λ _. omega arith) (λ _. omega arith)

-- A REMOVAL takes one key of each height at most, and none where the member isn't seated.
pub dropped-few : {K : Type 0} (w m : ℕ) {d : ℕ} {t : Tree K} → Level d t → length (dropped w m t) ≤ d
unfolding dropped
dropped-few w m level.at_leaf = omega arith
dropped-few {K} w m (level.at_node {d} {c = p} {l} {r} a b) = search (arith, common_steps, dropped-few w m a, dropped-few w m b)

pub dropped-absent : {K : Type 0} (w m : ℕ) (t : Tree K) → T (not (seated m t)) → dropped w m t ≡ []
unfolding dropped seated
dropped-absent w m (leaf x) h = refl
dropped-absent {K} w m (node p l r) h = grind (arith, dropped-absent w m l, dropped-absent w m r)

-- THE PATH. The orders of a half and of the parent over it.
abbrev Halved : {K : Type 0} → ℕ → Bool → List (Order K) → Order K → Parent K → ℕ → ℕ → List K → List (Order K)
Halved w b os o p i h ks = cond b os (o ∷ []) ++ (held_forgotten w p h ++ climbed i h ks)

halved-length :
    {K : Type 0} (w : ℕ) (b : Bool) (os : List (Order K)) (o : Order K) (p : Parent K) (i h : ℕ) (ks : List K) →
    length (Halved w b os o p i h ks) ≤ length (cond b os (o ∷ [])) + length (held_forgotten w p h) + 3
halved-length w b os o p i h ks = search (arith, common_steps)

pub followed-few : {K : Type 0} (w c : ℕ) {d : ℕ} {t : Tree K} → Level d t → length (followed w c t) ≤ 4 * d + 1
unfolding followed
followed-few w c level.at_leaf = omega arith
followed-few {K} w c (level.at_node {d} {c = p} {l} {r} a b) =
    by_cond (λ (os : List (Order K)). length os ≤ 4 * suc d + 1) (seated c l) _ _
    (λ _. half (seated w l) (followed w c l) (opened w c l r) (levels c l) (suc (height l)) (resolution r) (followed-few w c a))
    (λ _. half (seated w r) (followed w c r) (opened w c r l) (levels c r) (suc (height l)) (resolution l) (followed-few w c b))
  where
    half :
        (x : Bool) (os : List (Order K)) (o : Order K) (i h : ℕ) (ks : List K) → length os ≤ 4 * d + 1 →
        length (Halved w x os o p i h ks) ≤ 4 * suc d + 1
    half x os o i h ks few =
        let top = halved-length w x os o p i h ks in
        let one = forget-few w p h in
        let below : length (cond x os (o ∷ [])) ≤ 4 * d + 1 =
        by_cond (λ (ys : List (Order K)). length ys ≤ 4 * d + 1) x _ _ (λ _. few) (λ _. omega arith) in
        omega arith

-- WHERE m IS REMOVED, a parent above it is blank: its old node key is forgotten before the path or after it, and not twice.
-- a parent over m, given what holds of its halves
module _ {K : Type 0} (w m c d : ℕ) (n : T (not (eqb w m))) (p : Parent K) (l r : Tree K) where
  abbrev Below : Tree K → Type 0
  Below t = length (dropped w m t) + length (followed w c (removed m t)) ≤ 4 * d + 1

  same-seat : (u : Tree K) → seated w (removed m u) ≡ seated w u
  same-seat u = seated-removed w m u ∙ rw (is_false (eqb w m) n) (and-true (seated w u))

  dropped-over : length (dropped w m (node p l r)) ≤ length (cond (seated w l) (dropped w m l) (dropped w m r)) + 1
  unfolding dropped
  dropped-over = search (arith, common_steps)

  -- the committer in the left half
  met-left :
      (o : Order K) → length (dropped w m r) ≤ d → Below l →
      length (cond (seated w l) (dropped w m l) (dropped w m r))
      + length (cond (seated w (removed m l)) (followed w c (removed m l)) (o ∷ [])) ≤ 4 * d + 1
  met-left o y few = grind (arith, same-seat)

  -- in the right half
  met-right :
      (o : Order K) → Apart l r → length (dropped w m l) ≤ d → length (dropped w m r) ≤ d → Below r →
      length (cond (seated w l) (dropped w m l) (dropped w m r))
      + length (cond (seated w (removed m r)) (followed w c (removed m r)) (o ∷ [])) ≤ 4 * d + 1
  met-right o f x y few = grind (arith, same-seat)

  over-removed :
      T (seated m l || seated m r) → Apart l r → length (dropped w m l) ≤ d → length (dropped w m r) ≤ d → Below l → Below r →
      length (dropped w m (node p l r)) + length (followed w c (removed m (node p l r))) ≤ 4 * suc d + 1
  unfolding followed
  over-removed h f x y a b = grind (arith, removed-node, dropped-over, met-left, halved-length, met-right)

pub dropped-followed :
    {K : Type 0} (w m c : ℕ) → T (not (eqb w m)) → {d : ℕ} {t : Tree K} → Level d t → Sound t →
    length (dropped w m t) + length (followed w c (removed m t)) ≤ 4 * d + 1
dropped-followed w m c n level.at_leaf s = unfold removed followed dropped in omega arith
dropped-followed {K} w m c n (level.at_node {d} {c = p} {l} {r} a b) (at_node f g x y) =
    elim (decided (seated m l || seated m r)) [
      | inl h ↦
          over-removed w m c d n p l r h f (dropped-few w m a) (dropped-few w m b)
          (dropped-followed w m c n a x) (dropped-followed w m c n b y)
      | inr h ↦
          let t = node p l r in
          let none : T (not (seated m t)) = unfold seated in h in
          let few = followed-few w c (level.at_node {c = p} a b) in
          rw (removed-absent m t none, dropped-absent w m t none) (omega arith)
    ]

-- WHO STAYS.
staying-length :
    {K : Type 0} (w : ℕ) (c : Commit) (fresh : K) (t : Tree K) →
    length (staying w c fresh t)
    ≡ length (dropped_for w c.change t) + length (followed w c.committer (readied c.change fresh t)) + 7
staying-length w c fresh t = search (arith, common_steps)

followed-deep :
    {K : Type 0} (w c : ℕ) (a : Change) (fresh : K) {d : ℕ} {t : Tree K} → Level d t →
    length (followed w c (readied a fresh t)) ≤ 4 * height (readied a fresh t) + 1
followed-deep w c a fresh {t} x =
    let deep = readied-deep a fresh x in
    let few = followed-few w c deep.level in
    let high = level-height deep.level in
    omega arith

-- what is forgotten for the change, and what is done with the path
prepared-few :
    {K : Type 0} (w c : ℕ) (a : Change) (fresh : K) {d : ℕ} {t : Tree K} → Level d t → Sound t → T (is_apart w a) →
    length (dropped_for w a t) + length (followed w c (readied a fresh t)) ≤ 4 * height (readied a fresh t) + 1
prepared-few w c renew fresh x s h = let few = followed-deep w c renew fresh x in omega arith
prepared-few w c (remove m) fresh {t} x s h =
    let n : T (not (eqb w m)) = not_T (eqb w m) (λ e. T_not (eqb m w) h (rw (eqb→eq w m e) (eqb_refl m))) in
    let few = dropped-followed w m c n x s in
    let high = level-height (removed-level m x) in
    omega arith
prepared-few w c (add m) fresh x s h = let few = followed-deep w c (add m) fresh x in omega arith

pub orders-stay :
    {K : Type 0} (w : ℕ) (c : Commit) (fresh init : K) (t : Tree K) → T (stays w c) → orders_of w c fresh init t ≡ staying w c fresh t
orders-stay w c fresh init t h = grind arith

pub orders-few :
    {K : Type 0} (w : ℕ) (c : Commit) (fresh init : K) {d : ℕ} {t : Tree K} → Level d t → Sound t → T (stays w c) →
    length (orders_of w c fresh init t) ≤ 4 * height (readied c.change fresh t) + 8
orders-few w c fresh init {t} x s h =
    let b = and_right (not (eqb w c.committer)) (is_apart w c.change) h in
    let few = prepared-few w c.committer c.change fresh x s b in
    let counted = staying-length w c fresh t in
    rw (orders-stay w c fresh init t h) (omega arith)

pub few : Few
few d t h e w c s fresh init = orders-few w c fresh init (level-view d t h) (consistent-sound t e) s

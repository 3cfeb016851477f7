-- Orders name the slots of the tree, and the spare ones.
-- Assumes nothing.
use Rattle.std.proofs.Common.{ℕ, zero, suc, ◌≤◌, Bool, cond, ◌||◌, eqb, List, [], ◌∷◌, map, inl, inr, arith}
use Rattle.theory.specs.Tree.{Tree, Parent, seated, height, resolution}
use Rattle.theory.specs.Group.{Change, renew, remove, add, Commit, readied}
use Rattle.theory.proofs.Tests.{by_cond}
use Rattle.theory.proofs.Level.{Level, at_leaf, at_node, level-height}
use Rattle.theory.proofs.Follows.{All, all_append, all_one, all_cons, all_nil}
use Rattle.vault_theory.specs.Order.{Way, up, lock, Order, draw, derive, mix, seal, unseal, forget, publish, talk_slot, seed_slot, slot_of_key, slot_of_path, epoch_slot, init_slot}
use Rattle.vault_theory.specs.Numbers.{levels, posted, is_held}
use Rattle.vault_theory.specs.Orders.{held_forgotten, dropped, dropped_for, risen, climbed, sealed_up, opened, followed, made, renewed, turned, staying, welcoming, committing, joining, abandoned, leaving, taking, orders_of, founding}
use Rattle.vault_theory.specs.Laws.{slots_of, Within, NamesWithin, Spare}
use Rattle.vault_theory.proofs.Numbering.{height_of_key-low}
use Rattle.vault_theory.proofs.Depth.{level-view, readied-deep}

-- by turns one of two slots
path-spare : (i : ℕ) → (19 ≤ slot_of_path i) × (slot_of_path i ≤ 20)
unfolding slot_of_path
path-spare zero = (omega arith, omega arith)
path-spare (suc i) = let x = path-spare i in (omega arith, omega arith)

module _ (n : ℕ) where
  one : (s : ℕ) → Within n s → All (Within n) (s ∷ [])
  one s a = all_one (Within n) s a

  two : (s t : ℕ) → Within n s → Within n t → All (Within n) (s ∷ t ∷ [])
  two s t a b = all_cons (Within n) s (t ∷ []) a (one t b)

  -- SLOTS.
  key : (h : ℕ) → h ≤ n → Within n (slot_of_key h)
  key h e = inl (omega arith)

  path : (i : ℕ) → Within n (slot_of_path i)
  path i = let x = path-spare i in inr (x.0, omega arith)

  talks : Within n talk_slot
  talks = inl (omega arith)

  seeds : Within n seed_slot
  seeds = inl (omega arith)

  epoch : Within n epoch_slot
  epoch = inr (omega arith, omega arith)

  init-slot : Within n init_slot
  init-slot = inr (omega arith, omega arith)

  own : Within n (slot_of_key 0)
  own = key 0 (omega arith)

  module _ {K : Type 0} where
    abbrev Fits : Order K → Type 0
    Fits o = All (Within n) (slots_of o)

    -- every slot of every order
    abbrev Uses : List (Order K) → Type 0
    Uses os = All Fits os

    -- LISTS of orders.
    none : Uses []
    none = all_nil Fits

    and_then : (o : Order K) (os : List (Order K)) → Fits o → Uses os → Uses (o ∷ os)
    and_then = all_cons Fits

    forgets : (s : ℕ) (os : List (Order K)) → Within n s → Uses os → Uses (forget s ∷ os)
    forgets s os a = and_then (forget s) os (one s a)

    derives : (w : Way) (s t : ℕ) (os : List (Order K)) → Within n s → Within n t → Uses os → Uses (derive w s t ∷ os)
    derives w s t os a b = and_then (derive w s t) os (two s t a b)

    either : (b : Bool) (xs ys : List (Order K)) → Uses xs → Uses ys → Uses (cond b xs ys)
    either b xs ys p q = by_cond Uses b xs ys (λ _. p) (λ _. q)

    -- ONE PARENT.
    held_forgotten-uses : (w : ℕ) (p : Parent K) (h : ℕ) → h ≤ n → Uses (held_forgotten w p h)
    held_forgotten-uses w p h e = either (is_held w p) _ _ (forgets (slot_of_key h) [] (key h e) none) none

    risen-uses : (i h : ℕ) (between : List (Order K)) → h ≤ n → Uses between → Uses (risen i h between)
    risen-uses i h between e u =
        derives lock (slot_of_path i) (slot_of_key h) _ (path i) (key h e)
        (all_append Fits between _ u
        (derives up (slot_of_path i) (slot_of_path (suc i)) _ (path i) (path (suc i)) (forgets (slot_of_path i) [] (path i) none)))

    climbed-uses : (i h : ℕ) (ks : List K) → h ≤ n → Uses (climbed i h ks)
    climbed-uses i h [] e = none
    climbed-uses i h (k ∷ ks) e = risen-uses i h [] e none

    seals-uses : (s : ℕ) (ks : List K) → Within n s → Uses (map (seal s) ks)
    seals-uses s [] a = none
    seals-uses s (k ∷ ks) a = and_then (seal s k) (map (seal s) ks) (one s a) (seals-uses s ks a)

    sealed_up-uses : (i h : ℕ) (ks : List K) → h ≤ n → Uses (sealed_up i h ks)
    sealed_up-uses i h [] e = none
    sealed_up-uses i h (k ∷ ks) e =
        all_append Fits (map (seal (slot_of_path i)) (k ∷ ks)) _ (seals-uses (slot_of_path i) (k ∷ ks) (path i))
        (risen-uses i h _ e (and_then (publish (slot_of_key h)) [] (one (slot_of_key h) (key h e)) none))

    -- A PART of the tree, no deeper than n.
    dropped-uses : (w m : ℕ) {d : ℕ} {t : Tree K} → Level d t → d ≤ n → Uses (dropped w m t)
    unfolding dropped
    dropped-uses w m at_leaf e = none
    dropped-uses w m (at_node {d} {c = p} {l} {r} a b) e =
        let high = level-height a in
        all_append Fits (cond (seated w l) (dropped w m l) (dropped w m r)) _
        (either (seated w l) _ _ (dropped-uses w m a (omega arith)) (dropped-uses w m b (omega arith)))
        (either (seated m l || seated m r) _ _ (held_forgotten-uses w p (suc (height l)) (omega arith)) none)

    opened-fits : (w c : ℕ) (own : Tree K) {d : ℕ} {other : Tree K} → Level d other → d ≤ n → Fits (opened w c own other)
    opened-fits w c own {other} a e = grind (arith, height_of_key-low, two, path)

    followed-uses : (w c : ℕ) {d : ℕ} {t : Tree K} → Level d t → d ≤ n → Uses (followed w c t)
    unfolding followed
    followed-uses w c at_leaf e = none
    followed-uses w c (at_node {d} {c = p} {l} {r} a b) e =
        let high = level-height a in
        let h = suc (height l) in
        let le : h ≤ n = omega arith in
        let low : d ≤ n = omega arith in
        either (seated c l) _ _
        (all_append Fits (cond (seated w l) (followed w c l) (opened w c l r ∷ [])) _
        (either (seated w l) _ _ (followed-uses w c a low) (and_then (opened w c l r) [] (opened-fits w c l b low) none))
        (all_append Fits (held_forgotten w p h) _ (held_forgotten-uses w p h le) (climbed-uses (levels c l) h (resolution r) le)))
        (all_append Fits (cond (seated w r) (followed w c r) (opened w c r l ∷ [])) _
        (either (seated w r) _ _ (followed-uses w c b low) (and_then (opened w c r l) [] (opened-fits w c r a low) none))
        (all_append Fits (held_forgotten w p h) _ (held_forgotten-uses w p h le) (climbed-uses (levels c r) h (resolution l) le)))

    made-uses : (c : ℕ) {d : ℕ} {t : Tree K} → Level d t → d ≤ n → Uses (made c t)
    unfolding made
    made-uses c at_leaf e = none
    made-uses c (at_node {d} {c = p} {l} {r} a b) e =
        let high = level-height a in
        let h = suc (height l) in
        let le : h ≤ n = omega arith in
        either (seated c l) _ _
        (all_append Fits (made c l) _ (made-uses c a (omega arith))
        (all_append Fits (held_forgotten c p h) _ (held_forgotten-uses c p h le) (sealed_up-uses (levels c l) h (resolution r) le)))
        (all_append Fits (made c r) _ (made-uses c b (omega arith))
        (all_append Fits (held_forgotten c p h) _ (held_forgotten-uses c p h le) (sealed_up-uses (levels c r) h (resolution l) le)))

    abandoned-uses : (w : ℕ) {d : ℕ} {t : Tree K} → Level d t → d ≤ n → Uses (abandoned w t)
    unfolding abandoned
    abandoned-uses w at_leaf e = forgets (slot_of_key 0) [] (key 0 (omega arith)) none
    abandoned-uses w (at_node {d} {c = p} {l} {r} a b) e =
        let high = level-height a in
        all_append Fits (cond (seated w l) (abandoned w l) (abandoned w r)) _
        (either (seated w l) _ _ (abandoned-uses w a (omega arith)) (abandoned-uses w b (omega arith)))
        (held_forgotten-uses w p (suc (height l)) (omega arith))

    -- THE ROLES.
    dropped_for-uses : (w : ℕ) (a : Change) {d : ℕ} {t : Tree K} → Level d t → d ≤ n → Uses (dropped_for w a t)
    dropped_for-uses w renew x e = none
    dropped_for-uses w (remove m) x e = dropped-uses w m x e
    dropped_for-uses w (add m) x e = none

    renewed-uses : Uses renewed
    renewed-uses = search (derives, epoch, seeds, talks, forgets, none)

    turned-uses : (i : ℕ) (sealing : List (Order K)) → Uses sealing → Uses (turned i sealing)
    turned-uses i sealing u =
        and_then (mix seed_slot (slot_of_path i) epoch_slot) _
        (all_cons (Within n) seed_slot _ seeds (two (slot_of_path i) epoch_slot (path i) epoch))
        (forgets (slot_of_path i) _ (path i) (forgets talk_slot _ talks (forgets seed_slot _ seeds (all_append Fits sealing renewed u renewed-uses))))

    welcoming-uses : (a : Change) (init : K) → Uses (welcoming a init)
    welcoming-uses renew init = none
    welcoming-uses (remove m) init = none
    welcoming-uses (add m) init = and_then (seal epoch_slot init) [] (one epoch_slot epoch) none

    module _ (w : ℕ) (c : Commit) (fresh : K) {d : ℕ} {t : Tree K} (x : Level d t) (e : d ≤ n) {f : ℕ} (y : Level f (readied c.change fresh t)) (g : f ≤ n) where
      staying-uses : Uses (staying w c fresh t)
      staying-uses =
          all_append Fits (dropped_for w c.change t) _ (dropped_for-uses w c.change x e)
          (all_append Fits (followed w c.committer (readied c.change fresh t)) _ (followed-uses w c.committer y g)
          (turned-uses (levels c.committer (readied c.change fresh t)) [] none))

      joining-uses : Uses (joining w c fresh t)
      joining-uses =
          let u = readied c.change fresh t in
          let i = levels c.committer u in
          and_then (draw (slot_of_key 0)) _ (one (slot_of_key 0) own)
          (and_then (publish (slot_of_key 0)) _ (one (slot_of_key 0) own)
          (and_then (draw init_slot) _ (one init_slot init-slot)
          (and_then (publish init_slot) _ (one init_slot init-slot)
          (and_then (unseal (posted c.committer u) init_slot epoch_slot) _ (two init_slot epoch_slot init-slot epoch)
          (forgets init_slot _ init-slot
          (all_append Fits (followed w c.committer u) _ (followed-uses w c.committer y g)
          (forgets (slot_of_path i) renewed (path i) renewed-uses)))))))

      leaving-uses : Uses (leaving w t)
      leaving-uses = forgets talk_slot _ talks (forgets seed_slot _ seeds (abandoned-uses w x e))

      taking-uses : (a : Change) → Uses (taking w a c fresh t)
      taking-uses renew = staying-uses
      taking-uses (remove m) = either (eqb m w) _ _ leaving-uses staying-uses
      taking-uses (add m) = either (eqb m w) _ _ joining-uses staying-uses

      committing-uses : (init : K) → Uses (committing c fresh init t)
      committing-uses init =
          let u = readied c.change fresh t in
          all_append Fits (dropped_for c.committer c.change t) _ (dropped_for-uses c.committer c.change x e)
          (forgets (slot_of_key 0) _ own
          (and_then (draw (slot_of_key 0)) _ (one (slot_of_key 0) own)
          (and_then (publish (slot_of_key 0)) _ (one (slot_of_key 0) own)
          (and_then (draw (slot_of_path 0)) _ (one (slot_of_path 0) (path 0))
          (all_append Fits (made c.committer u) _ (made-uses c.committer y g)
          (turned-uses (levels c.committer u) (welcoming c.change init) (welcoming-uses c.change init)))))))

      orders-use : (init : K) → Uses (orders_of w c fresh init t)
      orders-use init = either (eqb w c.committer) _ _ (committing-uses init) (taking-uses c.change)

pub orders-within :
    {K : Type 0} (w : ℕ) (c : Commit) (fresh init : K) {d : ℕ} {t : Tree K} → Level d t →
    NamesWithin (height (readied c.change fresh t)) (orders_of w c fresh init t)
orders-within w c fresh init {t} x =
    let y = readied-deep c.change fresh x in
    let high = level-height y.level in
    let deep = y.deep in
    orders-use (height (readied c.change fresh t)) w c fresh x (omega arith) y.level (omega arith) init

pub founding-within : {K : Type 0} → NamesWithin {K = K} 0 founding
founding-within = search (and_then, one, own, epoch, renewed-uses)

pub spare : Spare
spare = (λ d t h w c fresh init. orders-within w c fresh init (level-view d t h), founding-within)

-- What a member knows of the committer's path is what the path has; and the key that is looked up by its number is the one that the member holds.
-- Assumes nothing.
use Rattle.std.proofs.Common.{◌≡◌, ℕ, zero, suc, ◌+◌, ◌<◌, ◌≤◌, Bool, true, false, cond, not, ◌||◌, T, eqb, List, [], ◌∷◌, ◌++◌, length, Some, refl, ap, ◌∙◌, inl, inr, suc-add, zero-add, arith, eqb→eq, T_not}
use lib.Dec.{eqb_refl}
use Rattle.std.proofs.lemmas.Bool.{ne_eqb}
use Rattle.theory.specs.Tree.{Tree, leaf, node, blank_leaf, occupied, Parent, blank_parent, keyed, seated, height, leaf_key, leaf_keys, resolution}
use Rattle.theory.specs.Path.{laid}
use Rattle.theory.specs.Held.{is_unmerged, node_key_held, held_at}
use Rattle.theory.proofs.Tests.{decided, is_true, is_false, or_cases, or_left, or_right}
use Rattle.theory.proofs.Level.{Level, level-height}
use Rattle.theory.proofs.Level as level
use Rattle.theory.proofs.Wellformed.{Sound, at_leaf, at_node}
use Rattle.theory.proofs.Counting.{leaf_key-absent, targets-length}
use Rattle.theory.proofs.Own.{Once, seated-has, once-keys}
use Rattle.theory.proofs.Own as own
use Rattle.vault_theory.specs.Vault.{nth}
use Rattle.vault_theory.specs.Layout.{first}
use Rattle.vault_theory.specs.Numbers.{levels, posted, before, number_of_key, height_of_key}
use Rattle.std.proofs.lemmas.Grind.{common_steps}

-- who sits in one of two halves and not in the first sits in the second
pub other-side : (a b : Bool) → T (not a) → T (a || b) → T b
other-side true b n h = elim n [ ]
other-side false b n h = h

-- THE PATH.
pub levels-laid : {K : Type 0} (c : ℕ) (own : K) (keys : ℕ → K) (t : Tree K) → (laid c own keys t).levels ≡ levels c t
unfolding laid levels
levels-laid c own keys (leaf x) = refl
levels-laid {K} c own keys (node p l r) = grind (arith, levels-laid c own keys l, levels-laid c own keys r)

pub posted-laid : {K : Type 0} (c : ℕ) (own : K) (keys : ℕ → K) (t : Tree K) → length (laid c own keys t).targets ≡ posted c t
unfolding laid posted
posted-laid c own keys (leaf x) = refl
posted-laid {K} c own keys (node p l r) = grind (arith, targets-length, posted-laid c own keys l, posted-laid c own keys r)

-- LISTS by number.
pub nth_left : {A : Type 0} (xs ys : List A) (n : ℕ) (x : A) → nth xs n ≡ Some x → nth (xs ++ ys) n ≡ Some x
unfolding nth
nth_left [] ys n x e = let z : ◌≡◌ {A = ℕ} 0 1 = cc in absurd (omega arith)
nth_left (y ∷ xs) ys zero x e = e
nth_left (y ∷ xs) ys (suc n) x e = nth_left xs ys n x e

pub nth_right : {A : Type 0} (xs ys : List A) (n : ℕ) → nth (xs ++ ys) (length xs + n) ≡ nth ys n
unfolding nth
nth_right [] ys n = ap (nth ys) (zero-add n)
nth_right (x ∷ xs) ys n = ap (nth (x ∷ (xs ++ ys))) (suc-add (length xs) n) ∙ nth_right xs ys n

pub nth-below : {A : Type 0} (xs : List A) (n : ℕ) (x : A) → nth xs n ≡ Some x → n < length xs
unfolding nth
nth-below [] n x e = let z : ◌≡◌ {A = ℕ} 0 1 = cc in absurd (omega arith)
nth-below (y ∷ xs) zero x e = omega arith
nth-below (y ∷ xs) (suc n) x e = let rest = nth-below xs n x e in omega arith

-- LEAF KEYS. Each of the unmerged has one.
pub sound-once : {K : Type 0} {t : Tree K} → Sound t → Once t
sound-once at_leaf = own.at_leaf
sound-once (at_node f g p q) = own.at_node f (sound-once p) (sound-once q)

pub leaf_key-sole : {K : Type 0} (w : ℕ) {t : Tree K} → Sound t → T (seated w t) → (k : K) × (leaf_key w t ≡ k ∷ [])
leaf_key-sole w {t} s h = let k = seated-has w t h in (k.0, once-keys (sound-once s) k.1)

-- below its top, what is held of a tree is what is held of the half that w sits in
held_below :
    {K : Type 0} (w h : ℕ) (p : Parent K) (l r : Tree K) → h ≤ height l →
    held_at w h (node p l r) ≡ cond (seated w l) (held_at w h l) (held_at w h r)
unfolding held_at
held_below w h p l r e = rw (ne_eqb h (suc (height l)) (λ q. omega arith))

-- at height 0 a member holds its leaf key
pub held-leaf : {K : Type 0} (w : ℕ) {t : Tree K} → Sound t → held_at w 0 t ≡ leaf_key w t
unfolding leaf_key
held-leaf w at_leaf = unfold held_at in refl
held-leaf w (at_node {c} {l} {r} f g p q) = search (arith, common_steps, held_below, leaf_key-absent, held-leaf w p, held-leaf w q)

-- among the leaf keys of several, each at its own number
pub keys_found :
    {K : Type 0} (w : ℕ) (ws : List ℕ) {t : Tree K} → Sound t → ((v : ℕ) → T (is_unmerged v ws) → T (seated v t)) → T (is_unmerged w ws) →
    nth (leaf_keys ws t) (before w ws) ≡ first (leaf_key w t)
unfolding leaf_keys before is_unmerged nth
keys_found w [] s f h = absurd h
keys_found w (v ∷ ws) {t} s f h =
    let k = leaf_key-sole v s (f v (or_left (eqb v v) (is_unmerged v ws) (eqb_refl v))) in
    elim (decided (eqb v w)) [
      | inl a ↦ rw (is_true (eqb v w) a, ← (eqb→eq v w a), k.1)
      | inr a ↦
          rw (is_false (eqb v w) a, k.1)
          (keys_found w ws s (λ u x. f u (or_right (eqb v u) (is_unmerged u ws) x))
          (elim (or_cases (eqb v w) (is_unmerged w ws) h) [ inl x ↦ absurd (T_not (eqb v w) a x) | inr x ↦ x ]))
    ]

-- THE KEY that reaches a member.
pub height_of_key-low : {K : Type 0} (w : ℕ) {d : ℕ} {t : Tree K} → Level d t → height_of_key w t ≤ d
unfolding height_of_key
height_of_key-low w level.at_leaf = omega arith
height_of_key-low w (level.at_node {d} {c = blank_parent} {l} {r} a b) = grind (arith, height_of_key-low w a, height_of_key-low w b)
height_of_key-low w (level.at_node {d} {c = keyed k un} {l} {r} a b) = grind (arith, level-height)

-- at its top, the node key
pub held-top :
    {K : Type 0} (w : ℕ) (p : Parent K) (l r : Tree K) → T (seated w (node p l r)) →
    held_at w (suc (height l)) (node p l r) ≡ node_key_held w p
unfolding held_at seated
held-top w p l r h = grind arith

-- the key with a member's number is the key that the member holds at that height
pub record Found {K : Type 0} (w : ℕ) (t : Tree K) : Type 0 where
  pub key : K
  pub numbered : nth (resolution t) (number_of_key w t) ≡ Some key
  pub held : first (held_at w (height_of_key w t) t) ≡ Some key

-- under a blank parent, as in the half that it sits in
found_left : {K : Type 0} (w : ℕ) (l r : Tree K) → height_of_key w l ≤ height l → T (seated w l) → Found w l → Found w (node blank_parent l r)
unfolding number_of_key height_of_key resolution
found_left w l r low x below = grind (arith, nth_left, held_below)

found_right : {K : Type 0} (w : ℕ) (l r : Tree K) → height_of_key w r ≤ height l → T (not (seated w l)) → Found w r → Found w (node blank_parent l r)
unfolding number_of_key height_of_key resolution
found_right w l r low x below = grind (arith, nth_right, held_below)

-- under a parent with a key, its leaf key or the node key
found-unmerged :
    {K : Type 0} (w : ℕ) (k : K) (un : List ℕ) (l r : Tree K) → Sound (node (keyed k un) l r) →
    ((v : ℕ) → T (is_unmerged v un) → T (seated v (node (keyed k un) l r))) → T (is_unmerged w un) → Found w (node (keyed k un) l r)
unfolding number_of_key height_of_key resolution
found-unmerged w k un l r s f x =
    let own = leaf_key-sole w s (f w x) in
    record {
      key = own.0;
      numbered = rw (is_true (is_unmerged w un) x) (unfold nth in keys_found w un s f x ∙ ap first own.1);
      held = rw (is_true (is_unmerged w un) x) (ap first (held-leaf w s ∙ own.1));
    }

found-merged :
    {K : Type 0} (w : ℕ) (k : K) (un : List ℕ) (l r : Tree K) → T (seated w (node (keyed k un) l r)) → T (not (is_unmerged w un)) →
    Found w (node (keyed k un) l r)
unfolding number_of_key height_of_key resolution
found-merged w k un l r h x =
    record {
      key = k;
      numbered = rw (is_false (is_unmerged w un) x) (unfold nth in refl);
      held =
          rw (is_false (is_unmerged w un) x)
          (ap first (held-top w (keyed k un) l r h) ∙ rw (is_false (is_unmerged w un) x));
    }

pub key-found : {K : Type 0} (w : ℕ) {d : ℕ} {t : Tree K} → Level d t → Sound t → T (seated w t) → Found w t
key-found w (level.at_leaf {x = blank_leaf}) s h = unfold seated in absurd h
key-found w (level.at_leaf {x = occupied v k}) s h =
    unfold seated held_at nth number_of_key height_of_key resolution in
    record { key = k; numbered = refl; held = rw (is_true (eqb v w) h) }
key-found w (level.at_node {d} {c = blank_parent} {l} {r} a b) (at_node f g p q) h =
    let high = level-height a in
    elim (decided (seated w l)) [
      | inl x ↦ let low = height_of_key-low w a in found_left w l r (omega arith) x (key-found w a p x)
      | inr x ↦
          let low = height_of_key-low w b in
          found_right w l r (omega arith) x
          (key-found w b q (other-side (seated w l) (seated w r) x (unfold seated in h)))
    ]
key-found w (level.at_node {d} {c = keyed k un} {l} {r} a b) (at_node f g p q) h =
    elim (decided (is_unmerged w un)) [
      | inl x ↦ found-unmerged w k un l r (at_node {c = keyed k un} f g p q) (λ v u. unfold seated in g.below v u) x
      | inr x ↦ found-merged w k un l r h x
    ]

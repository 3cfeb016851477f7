-- A path that is followed: who isn't its committer opens one box, and has the node keys from there up.
-- Assumes nothing.
use Rattle.std.proofs.Common.{◌≡◌, ℕ, zero, suc, ◌+◌, ◌<◌, ◌≤◌, not, T, ◌⊎◌, List, [], ◌∷◌, ◌++◌, length, Some, None, Option, sym, refl, ap, ◌∙◌, inl, inr, arith}
use mathlib.Core.Path.{fun_ext}
use Rattle.std.proofs.lemmas.Option.{same_Some}
use Rattle.theory.specs.Limits.{max_depth}
use Rattle.theory.specs.Secrets as secrets
use Rattle.theory.specs.Secrets.{Secret, ups}
use Rattle.theory.specs.Tree.{Tree, node, Parent, seated, resolution}
use Rattle.theory.specs.Path.{Target, Laid, sealed_to, parent_laid, level_after, laid}
use Rattle.theory.specs.Held.{is_unmerged, node_key_held}
use Rattle.theory.specs.Group.{path_boxes}
use Rattle.theory.proofs.Tests.{is_true, is_false}
use Rattle.theory.proofs.Level.{Level, level-height, laying-level}
use Rattle.theory.proofs.Runs.{laying, seated-laying}
use Rattle.theory.proofs.Wellformed.{Sound}
use Rattle.vault_theory.specs.Order.{Order, lock, up, slot_of_key, slot_of_path, slot_count}
use Rattle.vault_theory.specs.Vault.{Sealed, put, nth}
use Rattle.vault_theory.specs.Numbers.{levels, posted, number_of_key, height_of_key}
use Rattle.vault_theory.specs.Orders.{held_forgotten, risen, climbed, opened, followed}
use Rattle.vault_theory.specs.Layout.{first}
use Rattle.vault_theory.specs.Slots.{seen}
use Rattle.vault_theory.proofs.Steps.{Slots, put_same, put_other, put-swap, vault, Runs, done, one-after, each, then-forget, then-derive, then-unseal, runs-from, runs_to}
use Rattle.vault_theory.proofs.Seats.{Seat, seat-seated, seat-level, Meeting, from_right, from_left, both_left, both_right, meeting-level}
use Rattle.vault_theory.proofs.Slots.{parent_over, over, over-left, over-right, over-read, over-next, read_next, over-held}
use Rattle.vault_theory.proofs.Dropping.{forget-held}
use Rattle.vault_theory.proofs.Numbering.{levels-laid, posted-laid, nth_left, nth_right, height_of_key-low, key-found}

-- THE PATH SLOTS, by turns
pub turns :
    (i : ℕ) → ((slot_of_path i ≡ 19) × (slot_of_path (suc i) ≡ 20)) ⊎ ((slot_of_path i ≡ 20) × (slot_of_path (suc i) ≡ 19))
unfolding slot_of_path
turns zero = inl (refl, refl)
turns (suc i) = grind (arith, turns i)

-- the path slots are empty
pub record Free (b : Slots) : Type 0 where
  pub odd : b 19 ≡ None
  pub even : b 20 ≡ None

pub free-path : (b : Slots) (i : ℕ) → Free b → b (slot_of_path i) ≡ None
free-path b i f = elim (turns i) [ inl a ↦ rw a.0 f.odd | inr a ↦ rw a.0 f.even ]

pub path-small : (i : ℕ) → slot_of_path i < slot_count
path-small i = elim (turns i) [ inl a ↦ omega arith | inr a ↦ omega arith ]

pub path-apart : (i : ℕ) → slot_of_path (suc i) ≡ slot_of_path i → ⊥
path-apart i e = elim (turns i) [ inl a ↦ omega arith | inr a ↦ omega arith ]

pub key-path : (h i : ℕ) → h ≤ max_depth → slot_of_key h ≡ slot_of_path i → ⊥
key-path h i n e = elim (turns i) [ inl a ↦ omega arith | inr a ↦ omega arith ]

pub free-over : {d : ℕ} {t : Tree Secret} (w : ℕ) (b : Slots) → Level d t → d ≤ max_depth → Free b → Free (over w t b)
free-over w b a n f = grind (arith, over-read)

pub free-put : (h : ℕ) (x : Option Secret) (b : Slots) → h ≤ max_depth → Free b → Free (put (slot_of_key h) x b)
free-put h x b n f = grind arith

-- with the path secret of level i in its slot
abbrev pub holding : ℕ → Secret → Slots → Slots
holding i x b = put (slot_of_path i) (Some x) b

-- the slots after one level more
rise-slots :
    (s t k : ℕ) (x y z : Option Secret) (b : Slots) → (t ≡ s → ⊥) → (k ≡ s → ⊥) → b s ≡ None →
    put s None (put t y (put k z (put s x b))) ≡ put t y (put k z b)
rise-slots s t k x y z b m n e = fun_ext (λ i. grind arith)

module _ {boxes : List (Sealed Secret)} {ds : List Secret} {ss : List (Sealed Secret)} {gs : List Secret} where
  -- the orders `between` come when the node key is in its slot
  pub rise :
      (i h : ℕ) (x : Secret) (b : Slots) (between : List (Order Secret)) (hs : List Secret) → h ≤ max_depth → Free b → b (slot_of_key h) ≡ None →
      Runs boxes between (vault (put (slot_of_key h) (Some (secrets.lock x)) (holding i x b)) ds ss gs)
      (vault (put (slot_of_key h) (Some (secrets.lock x)) (holding i x b)) ds ss hs) →
      Runs boxes (risen i h between) (vault (holding i x b) ds ss gs)
      (vault (holding (suc i) (secrets.up x) (put (slot_of_key h) (Some (secrets.lock x)) b)) ds ss hs)
  rise i h x b between hs n f e r =
      let k : slot_of_key h < slot_count = omega arith in
      let p : (slot_of_path (suc i) ≡ slot_of_path i → ⊥) = path-apart i in
      let q : (slot_of_key h ≡ slot_of_path i → ⊥) = key-path h i n in
      let u : (slot_of_key h ≡ slot_of_path (suc i) → ⊥) = key-path h (suc i) n in
      let z : b (slot_of_path (suc i)) ≡ None = free-path b (suc i) f in
      then-derive lock (slot_of_path i) (slot_of_key h) x (put_same (slot_of_path i) (Some x) b) k
      (put_other (slot_of_path i) (slot_of_key h) (Some x) b q ∙ e)
      (one-after r
      (then-derive up (slot_of_path i) (slot_of_path (suc i)) x (grind arith) (path-small (suc i)) (grind arith)
      (then-forget (slot_of_path i) x (grind arith)
      (runs_to done
      (rise-slots (slot_of_path i) (slot_of_path (suc i)) (slot_of_key h) (Some x) (Some (secrets.up x)) (Some (secrets.lock x)) b p q (free-path b i f))))))

  -- the old node key above a part is forgotten, where it is held
  pub turn-over :
      (w : ℕ) (p : Parent Secret) (i : ℕ) (x : Secret) {d : ℕ} (t : Tree Secret) (b : Slots) → Level d t → suc d ≤ max_depth →
      Runs boxes (held_forgotten w p (suc d)) (vault (holding i x (over w t (parent_over w p (suc d) b))) ds ss gs)
      (vault (holding i x (over w t (put (slot_of_key (suc d)) None b))) ds ss gs)
  turn-over w p i x {d} t b a n =
      runs_to
      (forget-held w p (suc d) _
      (put_other (slot_of_path i) (slot_of_key (suc d)) (Some x) (over w t (parent_over w p (suc d) b)) (key-path (suc d) i n) ∙ read_next w (first (node_key_held w p)) b a))
      (put-swap (slot_of_key (suc d)) (slot_of_path i) None (Some x) _ (key-path (suc d) i n)
      ∙ ap (holding i x) (over-next w None (first (node_key_held w p)) b a))

-- BOXES
pub boxes-append : (s : Secret) (xs ys : List (Target Secret)) → seen (path_boxes s (xs ++ ys)) ≡ seen (path_boxes s xs) ++ seen (path_boxes s ys)
boxes-append s [] ys = refl
boxes-append s (x ∷ xs) ys = ap (λ rest. record { key = x.key; holds = ups x.level s } ∷ rest) (boxes-append s xs ys)

pub boxes-each : (s : Secret) (i : ℕ) (ks : List Secret) → seen (path_boxes s (sealed_to i ks)) ≡ each (ups i s) ks
boxes-each s i [] = refl
boxes-each s i (k ∷ ks) = ap (λ rest. record { key = k; holds = ups i s } ∷ rest) (boxes-each s i ks)

pub boxes-length : (s : Secret) (xs : List (Target Secret)) → length (seen (path_boxes s xs)) ≡ length xs
boxes-length s [] = refl
boxes-length s (x ∷ xs) = ap suc (boxes-length s xs)

nth-each : (x : Secret) (ks : List Secret) (n : ℕ) (k : Secret) → nth ks n ≡ Some k → nth (each x ks) n ≡ Some (record { key = k; holds = x })
unfolding nth
nth-each x [] n k e = cc
nth-each x (j ∷ ks) zero k e = ap (λ z. Some (record { key = z; holds = x })) (same_Some _ _ e)
nth-each x (j ∷ ks) (suc n) k e = nth-each x ks n k e

-- THE PATH of c, at secrets, with the path secret s below
module _ (c : ℕ) (own s : Secret) where
  abbrev pub node_key : ℕ → Secret
  node_key i = secrets.lock (ups i s)

  abbrev pub after : Tree Secret → Laid Secret
  after t = laid c own node_key t

  pub after-level : {d : ℕ} {t : Tree Secret} → Level d t → Level d (after t).tree
  after-level {t} a = laying-level (laying c own node_key t) a

  pub after-seated : (w : ℕ) (t : Tree Secret) → seated w (after t).tree ≡ seated w t
  after-seated w t = seated-laying (laying c own node_key t) w

  -- how far the path has come
  abbrev pub reached : Tree Secret → Slots → Slots
  reached t b = holding (levels c t) (ups (levels c t) s) b

  pub after-left :
      (p : Parent Secret) (l r : Tree Secret) → T (seated c l) →
      after (node p l r) ≡ record { tree = node (parent_laid node_key (levels c l) (resolution r)) (after l).tree r; levels = levels c (node p l r); targets = (after l).targets ++ sealed_to (levels c l) (resolution r) }
  unfolding laid levels
  after-left p l r h = rw (is_true (seated c l) h, levels-laid c own node_key l)

  pub after-right :
      (p : Parent Secret) (l r : Tree Secret) → T (not (seated c l)) → T (seated c r) →
      after (node p l r) ≡ record { tree = node (parent_laid node_key (levels c r) (resolution l)) l (after r).tree; levels = levels c (node p l r); targets = (after r).targets ++ sealed_to (levels c r) (resolution l) }
  unfolding laid levels
  after-right p l r n h = rw (is_false (seated c l) n, is_true (seated c r) h, levels-laid c own node_key r)

  module _ {boxes : List (Sealed Secret)} {ds : List Secret} {ss : List (Sealed Secret)} {gs : List Secret} where
    climb-next :
        (w i : ℕ) {d : ℕ} (t : Tree Secret) (b : Slots) (ks : List Secret) → Level d t → suc d ≤ max_depth → Free b →
        Runs boxes (climbed i (suc d) ks) (vault (holding i (ups i s) (over w t (put (slot_of_key (suc d)) None b))) ds ss gs)
        (vault (holding (level_after i ks) (ups (level_after i ks) s) (over w t (parent_over w (parent_laid node_key i ks) (suc d) b))) ds ss gs)
    unfolding is_unmerged ups
    climb-next w i t b [] a n f = done
    climb-next w i {d} t b (k ∷ ks) a n f =
        runs_to
        (rise i (suc d) (ups i s) (over w t (put (slot_of_key (suc d)) None b)) [] gs n
        (free-over w (put (slot_of_key (suc d)) None b) a (omega arith) (free-put (suc d) None b n f))
        (read_next w None b a) done)
        (ap (holding (suc i) (ups (suc i) s)) (over-next w (Some (node_key i)) None b a))

    pass :
        (w : ℕ) (p : Parent Secret) (i : ℕ) {d : ℕ} (t : Tree Secret) (b : Slots) (ks : List Secret) → Level d t → suc d ≤ max_depth → Free b →
        Runs boxes (held_forgotten w p (suc d) ++ climbed i (suc d) ks) (vault (holding i (ups i s) (over w t (parent_over w p (suc d) b))) ds ss gs)
        (vault (holding (level_after i ks) (ups (level_after i ks) s) (over w t (parent_over w (parent_laid node_key i ks) (suc d) b))) ds ss gs)
    pass w p i t b ks a n f = one-after (turn-over w p i (ups i s) t b a n) (climb-next w i t b ks a n f)

  -- a message has the boxes of a path, from the first on
  abbrev pub Boxed : List (Sealed Secret) → List (Target Secret) → Type 0
  Boxed boxes ts = (n : ℕ) (x : Sealed Secret) → nth (seen (path_boxes s ts)) n ≡ Some x → nth boxes n ≡ Some x

  boxed-less : (boxes : List (Sealed Secret)) (xs ys : List (Target Secret)) → Boxed boxes (xs ++ ys) → Boxed boxes xs
  boxed-less boxes xs ys f n x e = f n x (rw (boxes-append s xs ys) (nth_left (seen (path_boxes s xs)) (seen (path_boxes s ys)) n x e))

  boxed_at :
      (boxes : List (Sealed Secret)) (t : Tree Secret) (ks : List Secret) (n : ℕ) (k : Secret) → nth ks n ≡ Some k →
      Boxed boxes ((after t).targets ++ sealed_to (levels c t) ks) →
      nth boxes (posted c t + n) ≡ Some (record { key = k; holds = ups (levels c t) s })
  boxed_at boxes t ks n k e f =
      f (posted c t + n) _
      (rw (boxes-append s (after t).targets (sealed_to (levels c t) ks), ← (posted-laid c own node_key t), ← (boxes-length s (after t).targets))
      (nth_right (seen (path_boxes s (after t).targets)) (seen (path_boxes s (sealed_to (levels c t) ks))) n
      ∙ rw (boxes-each s (levels c t) ks) (nth-each (ups (levels c t) s) ks n k e)))

  module _ {boxes : List (Sealed Secret)} {ds : List Secret} {ss : List (Sealed Secret)} {gs : List Secret} where
    -- w, in one half, opens its box of the path in the other
    open-box :
        {w d : ℕ} (mine other : Tree Secret) (b : Slots) → Seat w d other → Sound other → d ≤ max_depth → Free b →
        Boxed boxes ((after mine).targets ++ sealed_to (levels c mine) (resolution other)) →
        Runs boxes (opened w c mine other ∷ []) (vault (over w other b) ds ss gs) (vault (reached mine (over w other b)) ds ss gs)
    open-box {w} {d} mine other b x y n f boxed =
        let found = key-found w (seat-level x) y (seat-seated x) in
        then-unseal (posted c mine + number_of_key w other) (slot_of_key (height_of_key w other)) (slot_of_path (levels c mine)) found.key (ups (levels c mine) s)
        (over-held (height_of_key w other) b x (height_of_key-low w (seat-level x)) ∙ found.held)
        (boxed_at boxes mine (resolution other) (number_of_key w other) found.key found.numbered boxed)
        (path-small (levels c mine)) (free-path (over w other b) (levels c mine) (free-over w b (seat-level x) n f)) done

    -- the halves are written out both times: what is run in each is another order, and each rewrites by other facts
    pub following :
        {w d : ℕ} {t : Tree Secret} (b : Slots) → Meeting w c d t → d ≤ max_depth → Free b → Boxed boxes (after t).targets →
        Runs boxes (followed w c t) (vault (over w t b) ds ss gs) (vault (reached t (over w (after t).tree b)) ds ss gs)
    unfolding followed levels
    following {w} b (both_left {d} {p} {l} {r} i j a m) n f boxed =
        let e = after-left p l r i in
        let v = meeting-level m in
        rw (e, is_true (seated c l) i, is_true (seated w l) j, level-height v)
        (runs-from (over-left w p l r b j v)
        (runs_to
        (one-after
        (following (parent_over w p (suc d) b) m (omega arith) (free-put (suc d) (first (node_key_held w p)) b n f)
        (boxed-less boxes (after l).targets (sealed_to (levels c l) (resolution r)) (rw e at boxed)))
        (pass w p (levels c l) (after l).tree b (resolution r) (after-level v) n f))
        (ap (holding (level_after (levels c l) (resolution r)) (ups (level_after (levels c l) (resolution r)) s)) (sym
        (over-left w (parent_laid node_key (levels c l) (resolution r)) (after l).tree r b (rw (after-seated w l) j) (after-level v))))))
    following {w} b (both_right {d} {p} {l} {r} i h j k a m) n f boxed =
        let e = after-right p l r i h in
        let v = meeting-level m in
        rw (e, is_false (seated c l) i, is_true (seated c r) h, is_true (seated w r) k, level-height a)
        (runs-from (over-right w p l r b j a)
        (runs_to
        (one-after
        (following (parent_over w p (suc d) b) m (omega arith) (free-put (suc d) (first (node_key_held w p)) b n f)
        (boxed-less boxes (after r).targets (sealed_to (levels c r) (resolution l)) (rw e at boxed)))
        (pass w p (levels c r) (after r).tree b (resolution l) (after-level v) n f))
        (ap (holding (level_after (levels c r) (resolution l)) (ups (level_after (levels c r) (resolution l)) s))
        (sym (over-right w (parent_laid node_key (levels c r) (resolution l)) l (after r).tree b j a)))))
    following {w} b (from_right {d} {p} {l} {r} x i y z) n f boxed =
        let h = seat-seated x in
        let e = after-left p l r h in
        rw (e, is_true (seated c l) h, is_false (seated w l) i, level-height (seat-level x))
        (runs-from (over-right w p l r b i (seat-level x))
        (runs_to
        (one-after
        (open-box l r (parent_over w p (suc d) b) z y (omega arith) (free-put (suc d) (first (node_key_held w p)) b n f) (rw e at boxed))
        (pass w p (levels c l) r b (resolution r) (seat-level z) n f))
        (ap (holding (level_after (levels c l) (resolution r)) (ups (level_after (levels c l) (resolution r)) s))
        (sym
        (over-right w (parent_laid node_key (levels c l) (resolution r)) (after l).tree r b (rw (after-seated w l) i) (after-level (seat-level x)))))))
    following {w} b (from_left {d} {p} {l} {r} i x j y z) n f boxed =
        let h = seat-seated x in
        let e = after-right p l r i h in
        rw (e, is_false (seated c l) i, is_true (seated c r) h, is_false (seated w r) j, level-height (seat-level z))
        (runs-from (over-left w p l r b (seat-seated z) (seat-level z))
        (runs_to
        (one-after
        (open-box r l (parent_over w p (suc d) b) z y (omega arith) (free-put (suc d) (first (node_key_held w p)) b n f) (rw e at boxed))
        (pass w p (levels c r) l b (resolution l) (seat-level z) n f))
        (ap (holding (level_after (levels c r) (resolution l)) (ups (level_after (levels c r) (resolution l)) s))
        (sym (over-left w (parent_laid node_key (levels c r) (resolution l)) l (after r).tree b (seat-seated z) (seat-level z))))))

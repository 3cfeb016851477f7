-- What whoever reads every box and some handsets can work out: a kind of secrets, `Derived`, that has every stock read, is kept by every way forward and by
-- opening every box sent, and has the talk secret of an epoch only where that lies open.
-- Assumes nothing.
use Rattle.std.proofs.Common.{◌≡◌, ℕ, zero, suc, ◌≤◌, T, ◌⊎◌, List, [], ◌∷◌, sym, refl, ap, ◌∙◌, subst, subst₂, inl, inr, arith, T_not}
use mathlib.Core.List.Memᴰ
use mathlib.Core.List.{Memᴰ}
use Rattle.theory.specs.Secrets.{Secret, drawn, leaf_key, path_secret, newcomer_key, init_key, first_epoch, up, lock, mix, seed, talk, ups, Box, Knows, had, raise, locked, mixed, seeded, talked, opened}
use Rattle.theory.specs.Tree.{Tree, seated, resolution}
use Rattle.theory.specs.Path.{Target}
use Rattle.theory.specs.Group.{Change, renew, remove, add, Commit, path_key, path_boxes, welcome, group, stock}
use Rattle.theory.specs.Promise.{Exposure, stocks, Gives, Open, here, on, idle, Main}
use Rattle.theory.proofs.Own.{Has, has-seated, has-below, once-keys}
use Rattle.theory.proofs.Keys.{had-up, had-has, path-target, Keyed, keyed-below, resolution-cases}
use Rattle.theory.proofs.Holding.{holds-had, stock-cases}
use Rattle.theory.proofs.History.{Owns, renewed, came, owns-owner, mixes, at, done, next, over, by-step, after, mixes-epoch, run-once, run-owns, ready-once, all_own, Level, node_key, HadAt, run-keyed, ready-keyed, same-level, had-same}
use Rattle.theory.proofs.History as history

module _ (f : ℕ) (commits : ℕ → Commit) (es : List Exposure) where
  -- an exposure gave a leaf key
  abbrev OfLeaf : Secret → Type 0
  OfLeaf s = (x : Exposure) × Memᴰ x es × Has x.who s (at f commits x.when).tree

  -- an exposure gave a node key, of a level that the handset sat below with the leaf key that it had when read
  abbrev OfNode : Secret → Type 0
  OfNode s =
      (x : Exposure) × Memᴰ x es × (o : Level f commits) × (s ≡ node_key f commits o) × (k : Secret)
      × Has x.who k (at f commits x.when).tree × history.had f commits o x.who k

  -- an exposure gave what is made of the secret of its epoch
  abbrev OfEpoch : Secret → Type 0
  OfEpoch s =
      (x : Exposure) × Memᴰ x es × T (seated x.who (at f commits x.when).tree) × (s ≡ (at f commits x.when).secret)

  -- an exposure gave the level i of the path of commit n: it sat below, with the leaf key that it had when read, and is not the committer
  pub record Gift (n i : ℕ) : Type 0 where
    pub exposure : Exposure
    pub among : Memᴰ exposure es
    pub key : Secret
    pub below : HadAt f commits n i exposure.who key
    pub own : Has exposure.who key (at f commits exposure.when).tree
    pub other : (commits n).committer ≡ exposure.who → ⊥

  -- so a path secret
  abbrev OfPath : Secret → Type 0
  OfPath s = (n i : ℕ) × T (done f commits n) × (s ≡ ups i (path_key (commits n) (next f commits n))) × Gift n i

  -- what the exposures gave, by the form of the secret
  abbrev Told : Secret → Type 0
  Told (drawn leaf_key m e) = OfLeaf (drawn leaf_key m e)
  Told (drawn path_secret m e) = OfPath (drawn path_secret m e)
  Told (drawn newcomer_key m e) = OfLeaf (drawn newcomer_key m e)
  Told (drawn init_key m e) = ⊥
  Told (drawn first_epoch m e) = ⊥
  Told (up s) = OfPath (up s)
  Told (lock s) = OfNode (lock s)
  Told (mix s t) = ⊥
  Told (seed s) = OfEpoch s
  Told (talk s) = OfEpoch s

  -- and what is made of that, forwards
  data Derived : Secret → Type 0 where
    told : {s : Secret} → Told s → Derived s
    raised : {s : Secret} → Derived s → Derived (up s)
    locks : {s : Secret} → Derived s → Derived (lock s)
    mixing : {s t : Secret} → Derived s → Derived t → Derived (mix s t)
    seeding : {s : Secret} → Derived s → Derived (seed s)
    talking : {s : Secret} → Derived s → Derived (talk s)

  -- STOCKS. All that was read is of the kind.
  told-leaf : {b w : ℕ} {s : Secret} → Owns b w s → OfLeaf s → Told s
  told-leaf (renewed h) x = x
  told-leaf (came h) x = x

  told-path : (n i : ℕ) → T (done f commits n) → Gift n i → Told (ups i (path_key (commits n) (next f commits n)))
  unfolding ups
  told-path n zero h g = (n, 0, h, refl, g)
  told-path n (suc i) h g = (n, suc i, h, refl, g)

  stock-told : {s : Secret} (x : Exposure) → Memᴰ x es → Memᴰ s (stock x.who (at f commits x.when)) → Told s
  stock-told {s} x m y =
      let c = stock-cases x.who (at f commits x.when) y in
      elim c.1 [
        | inl e ↦ subst Told (sym e) (x, m, c.0, refl)
        | inr z ↦
            elim z [
              | inl e ↦ subst Told (sym e) (x, m, c.0, refl)
              | inr k ↦
                  elim k [
                    | inl h ↦ told-leaf (run-owns f commits x.when x.who s h) (x, m, h)
                    | inr h ↦
                        (let o = holds-had (run-keyed f commits x.when) h in
                        subst Told (sym o.1) (x, m, o.0, refl, o.2, o.3, o.4))
                  ]
            ]
      ]

  stocks-told :
      {s : Secret} (xs : List Exposure) → ((x : Exposure) → Memᴰ x xs → Memᴰ x es) →
      Memᴰ s (stocks f commits xs) → Told s
  unfolding stocks
  stocks-told [] sub y = absurd (Memᴰ.not-nil y)
  stocks-told (x ∷ xs) sub y =
      elim (Memᴰ.append_cases (stock x.who (at f commits x.when)) y) [
        | inl a ↦ stock-told x (sub x (Memᴰ.head refl)) a
        | inr b ↦ stocks-told xs (λ z m. sub z (Memᴰ.tail m)) b
      ]

  -- INVERSION. How a secret of a form comes to be of the kind.
  of-mix : {s t : Secret} → Derived (mix s t) → Derived s × Derived t
  of-mix (told x) = absurd x
  of-mix (mixing d e) = (d, e)

  of-seed : {s : Secret} → Derived (seed s) → OfEpoch s ⊎ Derived s
  of-seed (told x) = inl x
  of-seed (seeding d) = inr d

  of-leaf : {b w : ℕ} {s : Secret} → Owns b w s → Derived s → OfLeaf s
  of-leaf (renewed h) (told x) = x
  of-leaf (came h) (told x) = x

  no-init : {m e : ℕ} → Derived (drawn init_key m e) → ⊥
  no-init (told x) = x

  no-first : {m e : ℕ} → Derived (drawn first_epoch m e) → ⊥
  no-first (told x) = x

  gift-same : (n i j k : ℕ) → (n ≡ k) × (i ≡ j) → Gift n i → Gift k j
  gift-same n i j k e g = subst₂ Gift e.0 e.1 g

  -- a path secret is derived only from a level at or below it that an exposure gave
  of-path :
      (n i : ℕ) → T (done f commits n) → Derived (ups i (path_key (commits n) (next f commits n))) →
      (j : ℕ) × (j ≤ i) × Gift n j
  unfolding ups
  of-path n zero h (told x) =
      let e = same-level f commits x.0 n x.1 0 x.2 h (sym x.3) in
      (0, omega arith, gift-same x.0 x.1 0 n e x.4)
  of-path n (suc i) h (told x) =
      let e = same-level f commits x.0 n x.1 (suc i) x.2 h (sym x.3) in
      (suc i, omega arith, gift-same x.0 x.1 (suc i) n e x.4)
  of-path n (suc i) h (raised d) = let g = of-path n i h d in let b : g.0 ≤ i = g.1 in (g.0, omega arith, g.2)

  -- THE HEART. Where a key of a part's resolution is of the kind, somebody read sits there, with the leaf key that it had when read.
  abbrev Sitting : Tree Secret → Type 0
  Sitting u =
      (x : Exposure) × Memᴰ x es × (k : Secret) × Has x.who k u × Has x.who k (at f commits x.when).tree

  sitting-leaf : {b w : ℕ} {s : Secret} {u : Tree Secret} → Has w s u → Owns b w s → Derived s → Sitting u
  sitting-leaf {s} {u} h o d =
      let x = of-leaf o d in
      let same = sym (owns-owner o) ∙ owns-owner (run-owns f commits x.0.when x.0.who s x.2) in
      (x.0, x.1, s, rw same at h, x.2)

  -- whoever has a key of a level was there, and is there still
  level-sitting :
      (o : Level f commits) → Derived (node_key f commits o) →
      (x : Exposure) × Memᴰ x es × (k : Secret)
      × history.had f commits o x.who k × Has x.who k (at f commits x.when).tree
  level-sitting o d = grind (arith, same-level, of-path, had-up)

  heart :
      {b : ℕ} {s : Secret} {u : Tree Secret} → Keyed (node_key f commits) (history.had f commits) u →
      ((w : ℕ) (k : Secret) → Has w k u → Owns b w k) → Memᴰ s (resolution u) → Derived s → Sitting u
  heart {s} x own y d = grind (arith, resolution-cases, sitting-leaf, level-sitting)

  -- BOXES. Opening one of the kind gives one of the kind.
  open-target :
      (n : ℕ) → T (done f commits n) → (b : Target Secret) → Memᴰ b (over f commits n).targets → Derived b.key →
      Derived (ups b.level (path_key (commits n) (next f commits n)))
  open-target n h b m d =
      let s = path-target (history.path_of f commits n) (ready-once f commits n h) m in
      let k = keyed-below s.below (ready-keyed f commits n h (run-keyed f commits n)) in
      let z = heart k (λ w j g. all_own f commits n w j (has-below s.below g)) s.among d in
      told (told-path n b.level h
      (record {
        exposure = z.0;
        among = z.1;
        key = z.2;
        below = s.gets z.0.who z.2 z.3;
        own = z.4;
        other = λ e. T_not (seated (commits n).committer s.part) s.apart (rw (← e) at (has-seated z.3));
      }))

  open-welcome : (c : Change) (e : ℕ) (s : Secret) (b : Box) → Memᴰ b (welcome c e s) → Derived b.key → Derived b.holds
  open-welcome renew e s b m d = absurd (Memᴰ.not-nil m)
  open-welcome (remove w) e s b m d = absurd (Memᴰ.not-nil m)
  open-welcome (add w) e s b m d =
      absurd (no-init (subst Derived (ap (λ (x : Box). x.key) (Memᴰ.eq_of_singleton m)) d))

  open-sent : (n : ℕ) (b : Box) → Memᴰ b (at f commits n).sent → Derived b.key → Derived b.holds
  unfolding group
  open-sent zero b m d = absurd (Memᴰ.not-nil m)
  open-sent (suc n) b m d =
      by-step f commits (λ g. Memᴰ b g.sent → Derived b.holds) n
      (λ h y.
      elim (Memᴰ.append_cases (at f commits n).sent y) [
        | inl a ↦ open-sent n b a d
        | inr a ↦
            elim (Memᴰ.append_cases (path_boxes (path_key (commits n) (next f commits n)) (over f commits n).targets) a) [
              | inl x ↦
                  (let p : Target Secret → Box = λ t. record { key = t.key; holds = ups t.level (path_key (commits n) (next f commits n)) } in
                  let z = Memᴰ.of_map p (over f commits n).targets x in
                  subst Derived (ap (λ (q : Box). q.holds) z.2)
                  (open-target n h z.0 z.1 (subst Derived (sym (ap (λ (q : Box). q.key) z.2)) d)))
              | inr x ↦ open-welcome (commits n).change (next f commits n) _ b x d
            ]
      ])
      (λ _ y. open-sent n b y d) m

  derived : (n : ℕ) {s : Secret} → Knows (at f commits n).sent (stocks f commits es) s → Derived s
  derived n (had m) = told (stocks-told es (λ x y. y) m)
  derived n (raise k) = raised (derived n k)
  derived n (locked k) = locks (derived n k)
  derived n (mixed k j) = mixing (derived n k) (derived n j)
  derived n (seeded k) = seeding (derived n k)
  derived n (talked k) = talking (derived n k)
  derived n (opened b m k) = open-sent n b m (derived n k)

  -- THE EPOCHS.
  epoch-open : (n : ℕ) → OfEpoch (at f commits n).secret → Open f commits es n
  epoch-open n x =
      here n x.0 x.1 x.2
      (sym (mixes-epoch f commits x.0.when) ∙ ap mixes (sym x.3) ∙ mixes-epoch f commits n)

  gift-gives : (n i : ℕ) → T (done f commits n) → (g : Gift n i) → Gives f commits n g.exposure
  gift-gives n i h g = grind (arith, after, had-has, has-seated, once-keys, run-once)

  secret-open : (n : ℕ) → Derived (at f commits n).secret → Open f commits es n
  unfolding group
  secret-open zero d = absurd (no-first d)
  secret-open (suc n) d =
      by-step f commits (λ g. Derived g.secret → Open f commits es (suc n)) n
      (λ h y.
      let z = of-mix y in
      let g = of-path n (over f commits n).levels h z.1 in
      on (elim (of-seed z.0) [ inl x ↦ epoch-open n x | inr x ↦ secret-open n x ]) g.2.exposure g.2.among
      (gift-gives n g.0 h g.2))
      (λ h y. idle (secret-open n y) (T_not (done f commits n) h)) d

pub main : Main
main f commits es until n k = grind (arith, derived, epoch-open, secret-open)

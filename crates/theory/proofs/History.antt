-- What holds of every group of a run: epochs count the commits, nobody sits twice, leaf keys are their owners', node keys come from levels of paths.
-- Assumes nothing.
use Rattle.std.proofs.Common.{◌≡◌, ℕ, zero, suc, ◌<◌, ◌≤◌, Bool, not, T, leb, ◌⊎◌, is_some, sym, refl, ap, ◌∙◌, subst₂, inl, inr, arith, T_not}
use Rattle.std.proofs.lemmas.Bool.{cases_lt}
use Rattle.theory.specs.Limits.{last_epoch}
use Rattle.theory.specs.Secrets.{Secret, Purpose, drawn, leaf_key, newcomer_key, up, lock, mix, seed, talk, ups}
use Rattle.theory.specs.Tree.{Tree, seated, grown}
use Rattle.theory.specs.Path.{Laid}
use Rattle.theory.specs.Group.{Change, renew, remove, add, newcomer, Commit, Group, change_refusal, readied, own_key, path_key, path_at, moved, allowed, committed, group}
use Rattle.theory.proofs.Tests.{by_cond}
use Rattle.theory.proofs.Runs.{laying, run-keeps}
use Rattle.theory.proofs.Level.{not-refused}
use Rattle.theory.proofs.Own.{Has, here, has-seated, seated-has, Once, at_leaf, grown-has, added-has, removed-has, grown-once, removed-once, added-once, laying-once}
use Rattle.theory.proofs.Keys.{Path, path, Had, path-has, Keyed, keyed-grown, keyed-removed, keyed-added, keyed-path}
use Rattle.theory.proofs.Keys as keys

-- WHAT IS ASKED, where it isn't refused.
pub asked : (c : Commit) (g : Group) → T (allowed c g) → T (not (is_some (change_refusal c.committer c.change g.tree)))
asked c g h =
    (not-refused (not (seated c.committer g.tree)) 3 _ (not-refused (leb last_epoch g.epoch) 9 _ h).1).1

-- the newcomer of an addition isn't seated
new-absent :
    {K : Type 0} (w m : ℕ) (t : Tree K) → T (not (is_some (change_refusal w (add m) t))) → T (not (seated m (grown t)))
new-absent w m t h = grind (arith, has-seated, grown-has, seated-has)

module _ {K : Type 0} where
  pub readied-once :
      (w : ℕ) (c : Change) (fresh : K) (t : Tree K) → T (not (is_some (change_refusal w c t))) → Once t → Once (readied c fresh t)
  readied-once w renew fresh t h o = o
  readied-once w (remove m) fresh t h o = removed-once m o
  readied-once w (add m) fresh t h o = added-once m fresh (grown t) (new-absent w m t h) (grown-once t o)

  pub readied-keyed :
      {I : Type 0} {key : I → K} {had : I → ℕ → K → Type 0} (w : ℕ) (c : Change) (fresh : K) (t : Tree K) →
      T (not (is_some (change_refusal w c t))) → Keyed key had t → Keyed key had (readied c fresh t)
  readied-keyed w renew fresh t h x = x
  readied-keyed w (remove m) fresh t h x = keyed-removed m x
  readied-keyed w (add m) fresh t h x = keyed-added m fresh (grown t) (new-absent w m t h) (keyed-grown t x)

  -- whoever has a key then had it, or is the newcomer
  pub readied-has :
      {w : ℕ} {k : K} (c : Change) (fresh : K) (t : Tree K) → Has w k (readied c fresh t) →
      Has w k t ⊎ ((newcomer c ≡ w) × (fresh ≡ k))
  readied-has renew fresh t h = inl h
  readied-has (remove m) fresh t h = inl (removed-has m t h)
  readied-has (add m) fresh t h =
      elim (added-has (grown t) h) [ inl e ↦ inr e | inr g ↦ inl (grown-has t g) ]

-- THE PARTS OF A SECRET by which it is told from others.
abbrev pub owner : Secret → ℕ
owner (drawn p m e) = m
owner (up s) = 0
owner (lock s) = 0
owner (mix s t) = 0
owner (seed s) = 0
owner (talk s) = 0

unfoldable pub epoch_of : Secret → ℕ
epoch_of (drawn p m e) = e
epoch_of (up s) = epoch_of s
epoch_of (lock s) = 0
epoch_of (mix s t) = 0
epoch_of (seed s) = 0
epoch_of (talk s) = 0

pub rise : Secret → ℕ
rise (drawn p m e) = 0
rise (up s) = suc (rise s)
rise (lock s) = 0
rise (mix s t) = 0
rise (seed s) = 0
rise (talk s) = 0

-- how many epochs have been mixed into a secret
pub mixes : Secret → ℕ
mixes (drawn p m e) = 0
mixes (up s) = 0
mixes (lock s) = 0
mixes (mix s t) = suc (mixes s)
mixes (seed s) = mixes s
mixes (talk s) = 0

rise-ups : (i : ℕ) (p : Purpose) (m e : ℕ) → rise (ups i (drawn p m e)) ≡ i
unfolding rise ups
rise-ups zero p m e = refl
rise-ups (suc i) p m e = ap suc (rise-ups i p m e)

epoch-ups : (i : ℕ) (p : Purpose) (m e : ℕ) → epoch_of (ups i (drawn p m e)) ≡ e
unfolding epoch_of ups
epoch-ups zero p m e = refl
epoch-ups (suc i) p m e = epoch-ups i p m e

pub same-ups :
    (i j : ℕ) (p q : Purpose) (m n d e : ℕ) → ups i (drawn p m d) ≡ ups j (drawn q n e) → (i ≡ j) × (d ≡ e)
same-ups i j p q m n d e h = (
  sym (rise-ups i p m d) ∙ ap rise h ∙ rise-ups j q n e,
  sym (epoch-ups i p m d) ∙ ap epoch_of h ∙ epoch-ups j q n e,
)

pub lock-same : {s t : Secret} → lock s ≡ lock t → s ≡ t
lock-same e = cc

-- k is a leaf key that w drew for some epoch up to b
pub data Owns (b w : ℕ) : Secret → Type 0 where
  renewed : {e : ℕ} → e ≤ b → Owns b w (drawn leaf_key w e)
  came : {e : ℕ} → e ≤ b → Owns b w (drawn newcomer_key w e)

pub owns-owner : {b w : ℕ} {k : Secret} → Owns b w k → owner k ≡ w
owns-owner (renewed h) = refl
owns-owner (came h) = refl

pub owns-epoch : {b w : ℕ} {k : Secret} → Owns b w k → epoch_of k ≤ b
unfolding epoch_of
owns-epoch (renewed h) = h
owns-epoch (came h) = h

owns-later : {b d w : ℕ} {k : Secret} → b ≤ d → Owns b w k → Owns d w k
owns-later {b} {d} g (renewed {e} h) = renewed (omega arith)
owns-later {b} {d} g (came {e} h) = came (omega arith)

-- RUNS.
module _ (f : ℕ) (commits : ℕ → Commit) where
  abbrev pub at : ℕ → Group
  at n = group f commits n

  -- commit n is carried out
  abbrev pub done : ℕ → Bool
  done n = allowed (commits n) (at n)

  -- the epoch that commit n leads to, if carried out
  abbrev pub next : ℕ → ℕ
  next n = suc (at n).epoch

  -- the tree with what commit n asks, and the path over it
  abbrev pub ready : ℕ → Tree Secret
  ready n = readied (commits n).change (drawn newcomer_key (newcomer (commits n).change) (next n)) (at n).tree

  abbrev pub over : ℕ → Laid Secret
  over n = path_at (commits n) (next n) (at n).tree

  -- what holds after a commit, carried out or not
  pub by-step :
      (P : Group → Type 0) (n : ℕ) → (T (done n) → P (moved (commits n) (next n) (at n) (over n))) → (T (not (done n)) → P (at n)) →
      P (at (suc n))
  unfolding group committed
  by-step P n x y = by_cond P (done n) _ _ x y

  pub after : (n : ℕ) → T (done n) → at (suc n) ≡ moved (commits n) (next n) (at n) (over n)
  after n h =
      by-step (λ g. g ≡ moved (commits n) (next n) (at n) (over n)) n (λ _. refl) (λ i. absurd (T_not (done n) i h))

  pub refused : (n : ℕ) → (T (done n) → ⊥) → at (suc n) ≡ at n
  refused n h = by-step (λ g. g ≡ at n) n (λ i. absurd (h i)) (λ _. refl)

  -- epochs count the commits that are carried out
  epoch-step : (n : ℕ) → (at n).epoch ≤ (at (suc n)).epoch
  epoch-step n = by-step (λ g. (at n).epoch ≤ g.epoch) n (λ _. omega arith) (λ _. omega arith)

  pub epoch-after : (n : ℕ) → T (done n) → (at (suc n)).epoch ≡ next n
  epoch-after n h = ap (λ (g : Group). g.epoch) (after n h)

  pub epochs-grow : (m n : ℕ) → m ≤ n → (at m).epoch ≤ (at n).epoch
  epochs-grow m zero h = let e : m ≡ 0 = omega arith in rw e (omega arith)
  epochs-grow m (suc n) h = grind (arith, epoch-step, epochs-grow m n)

  later : (m n : ℕ) → T (done m) → m < n → (at m).epoch < (at n).epoch
  later m n h l = grind (arith, epochs-grow, epoch-after)

  -- so an epoch has one commit
  pub one-commit : (m n : ℕ) → T (done m) → T (done n) → (at m).epoch ≡ (at n).epoch → m ≡ n
  one-commit m n h g e =
      elim (cases_lt m n) [
        | inl a ↦ absurd (let x : (at m).epoch < (at n).epoch = later m n h a in omega arith)
        | inr b ↦
            elim (cases_lt n m) [
              | inl a ↦ absurd (let x : (at n).epoch < (at m).epoch = later n m g a in omega arith)
              | inr c ↦ omega arith
            ]
      ]

  -- an epoch's secret has as many epochs mixed in
  pub mixes-epoch : (n : ℕ) → mixes (at n).secret ≡ (at n).epoch
  unfolding mixes group
  mixes-epoch zero = refl
  mixes-epoch (suc n) =
      by-step (λ g. mixes g.secret ≡ g.epoch) n (λ _. ap suc (mixes-epoch n)) (λ _. mixes-epoch n)

  -- SEATS AND LEAF KEYS.
  pub run-once : (n : ℕ) → Once (at n).tree
  run-once =
      run-keeps Once (λ m k. at_leaf)
      (λ e c t h fresh own ks o.
      let fits = (not-refused (not (seated c.committer t)) 3 _ (not-refused (leb last_epoch e) 9 _ h).1).1 in
      laying-once (laying c.committer own ks _) (readied-once c.committer c.change fresh t fits o))
      f commits

  pub ready-once : (n : ℕ) → T (done n) → Once (ready n)
  ready-once n h = readied-once (commits n).committer (commits n).change _ (at n).tree (asked (commits n) (at n) h) (run-once n)

  ready-owns :
      (n : ℕ) → ((w : ℕ) (k : Secret) → Has w k (at n).tree → Owns (at n).epoch w k) →
      (w : ℕ) (k : Secret) → Has w k (ready n) → Owns (next n) w k
  ready-owns n f w k h =
      elim (readied-has (commits n).change _ (at n).tree h) [
        | inl g ↦ owns-later (omega arith) (f w k g)
        | inr e ↦ rw (← e.1, e.0) (came {e = next n} (omega arith))
      ]

  -- the path that commit n lays
  pub path_of :
      (n : ℕ) →
      Path (commits n).committer (own_key (commits n) (next n)) (λ i. lock (ups i (path_key (commits n) (next n)))) (ready n)
      (over n).tree (over n).levels (over n).targets
  path_of n = path (commits n).committer (own_key (commits n) (next n)) (λ i. lock (ups i (path_key (commits n) (next n)))) (ready n)

  pub run-owns : (n : ℕ) (w : ℕ) (k : Secret) → Has w k (at n).tree → Owns (at n).epoch w k
  unfolding group
  run-owns zero w k (here e d) = rw (← d, e) (came {e = 0} (omega arith))
  run-owns (suc n) w k h =
      by-step (λ g. Has w k g.tree → Owns g.epoch w k) n
      (λ a g.
      elim (path-has (path_of n) (ready-once n a) g) [
        | inl e ↦ rw (← e.1, e.0) (renewed {e = next n} (omega arith))
        | inr x ↦ ready-owns n (run-owns n) w k x.1
      ])
      (λ _. run-owns n w k) h

  pub all_own : (n : ℕ) (w : ℕ) (k : Secret) → Has w k (ready n) → Owns (next n) w k
  all_own n = ready-owns n (run-owns n)

  -- NODE KEYS. A level of a path that was laid
  pub record Level : Type 0 where
    pub commit : ℕ
    pub level : ℕ
    pub took : T (done commit)
    pub laid : level < (over commit).levels

  abbrev pub node_key : Level → Secret
  node_key o = lock (ups o.level (path_key (commits o.commit) (next o.commit)))

  -- w sat below level i of the path of commit n, with the leaf key k
  abbrev pub HadAt : ℕ → ℕ → ℕ → Secret → Type 0
  HadAt n i w k = Had (path_of n) i w k

  abbrev pub had : Level → ℕ → Secret → Type 0
  had o w k = HadAt o.commit o.level w k

  pub ready-keyed : (n : ℕ) → T (done n) → Keyed node_key had (at n).tree → Keyed node_key had (ready n)
  ready-keyed n h x =
      readied-keyed (commits n).committer (commits n).change _ (at n).tree (asked (commits n) (at n) h) x

  pub run-keyed : (n : ℕ) → Keyed node_key had (at n).tree
  unfolding group
  run-keyed zero = keys.at_leaf
  run-keyed (suc n) =
      by-step (λ g. Keyed node_key had g.tree) n
      (λ a.
      keyed-path (path_of n)
      (λ i b. (record { commit = n; level = i; took = a; laid = b }, refl, λ w k. (λ x. x, λ x. x)))
      (ready-keyed n a (run-keyed n)))
      (λ _. run-keyed n)

  -- one key, one level
  pub same-level :
      (c d i j : ℕ) → T (done c) → T (done d) →
      ups i (path_key (commits c) (next c)) ≡ ups j (path_key (commits d) (next d)) → (c ≡ d) × (i ≡ j)
  same-level c d i j g h e = grind (arith, same-ups, one-commit)

  pub had-same : (c d i j : ℕ) (w : ℕ) (k : Secret) → (c ≡ d) × (i ≡ j) → HadAt c i w k → HadAt d j w k
  had-same c d i j w k e h = subst₂ (λ x y. HadAt x y w k) e.0 e.1 h

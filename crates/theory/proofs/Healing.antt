-- The past stays shut, and a group heals: both from where a talk secret lies open.
-- Assumes nothing.
use Rattle.std.proofs.Common.{◌≡◌, ℕ, zero, suc, ◌<◌, ◌≤◌, T, ◌⊎◌, List, sym, ap, subst, inl, inr, arith, T_not}
use mathlib.Core.List.{Memᴰ}
use Rattle.std.proofs.lemmas.Bool.{cases_lt}
use Rattle.theory.specs.Secrets.{Secret}
use Rattle.theory.specs.Tree.{Tree, seated, removed}
use Rattle.theory.specs.Group.{Change, remove, readied, Commit, Group}
use Rattle.theory.specs.Promise.{Exposure, Open, here, on, idle, Healed, Past, Heals}
use Rattle.theory.proofs.Removal.{removed-gone}
use Rattle.theory.proofs.Own.{Has, has-seated, seated-has, has_key, key_has}
use Rattle.theory.proofs.Keys.{path-has}
use Rattle.theory.proofs.History.{epoch_of, readied-has, owns-epoch, at, done, next, over, by-step, after, epochs-grow, epoch-after, run-owns, ready-once, path_of}
use Rattle.theory.proofs.History as history
use Rattle.theory.proofs.Secrecy.{main}

-- whoever is removed has no key then
removed-none : {K : Type 0} {w : ℕ} {k : K} (c : Change) (fresh : K) (t : Tree K) → c ≡ remove w → Has w k (readied c fresh t) → ⊥
removed-none {K} {w} {k} c fresh t e h =
    let g : Has w k (removed w t) = subst (λ x. Has w k (readied x fresh t)) e h in
    T_not (seated w (removed w t)) (removed-gone w t) (has-seated g)

module _ (f : ℕ) (commits : ℕ → Commit) where
  -- THE PAST. Where a talk secret lies open, a handset was read in that epoch or before.
  read-before : {es : List Exposure} {n : ℕ} → Open f commits es n → (x : Exposure) × Memᴰ x es × ((at f commits x.when).epoch ≤ (at f commits n).epoch)
  read-before (here n x m s e) = (x, m, omega arith)
  read-before (on {n} o x m g) = grind (arith, epochs-grow, read-before o)
  read-before (idle {n} o g) = grind (arith, epochs-grow, read-before o)

  -- LEAF KEYS. After a commit each is as before, or of the new epoch.
  leaf-after : (n : ℕ) {w : ℕ} {k : Secret} → Has w k (at f commits (suc n)).tree → Has w k (at f commits n).tree ⊎ (epoch_of k ≡ next f commits n)
  unfolding epoch_of
  leaf-after n {w} {k} h =
      by-step f commits (λ g. Has w k g.tree → Has w k (at f commits n).tree ⊎ (epoch_of k ≡ next f commits n)) n
      (λ a g.
      elim (path-has (path_of f commits n) (ready-once f commits n a) g) [
        | inl e ↦ inr (ap epoch_of (sym e.1))
        | inr x ↦
            elim (readied-has (commits n).change _ (at f commits n).tree x.1) [
              | inl y ↦ inl y
              | inr e ↦ inr (ap epoch_of (sym e.1))
            ]
      ])
      (λ _ g. inl g) h

  -- one that made a commit, or was removed by it, has no key from before
  leaf-renewed :
      (n : ℕ) {w : ℕ} {k : Secret} → T (done f commits n) → ((commits n).committer ≡ w) ⊎ ((commits n).change ≡ remove w) →
      Has w k (at f commits (suc n)).tree → epoch_of k ≡ next f commits n
  unfolding epoch_of
  leaf-renewed n {w} {k} a b h =
      let g : Has w k (over f commits n).tree = subst (λ t. Has w k t) (ap (λ (x : Group). x.tree) (after f commits n a)) h in
      elim (path-has (path_of f commits n) (ready-once f commits n a) g) [
        | inl e ↦ ap epoch_of (sym e.1)
        | inr x ↦
            elim b [
              | inl e ↦ absurd (x.0 e)
              | inr e ↦ absurd (removed-none (commits n).change _ (at f commits n).tree e x.1)
            ]
      ]

  leaf-since :
      (c n : ℕ) {w : ℕ} {k : Secret} → T (done f commits c) → ((commits c).committer ≡ w) ⊎ ((commits c).change ≡ remove w) →
      c < n → Has w k (at f commits n).tree → next f commits c ≤ epoch_of k
  leaf-since c zero a b l h = absurd (omega arith)
  leaf-since c (suc n) {w} {k} a b l h =
      elim (cases_lt c n) [
        | inl m ↦
            elim (leaf-after n h) [
              | inl g ↦ leaf-since c n a b m g
              | inr e ↦
                  (let x : (at f commits c).epoch ≤ (at f commits n).epoch = epochs-grow f commits c n (omega arith) in
                  let y : epoch_of k ≡ next f commits n = e in
                  omega arith)
            ]
        | inr m ↦
            (let e : n ≡ c = omega arith in
            let g : Has w k (at f commits (suc c)).tree = subst (λ i. Has w k (at f commits (suc i)).tree) e h in
            let x : epoch_of k ≡ next f commits c = leaf-renewed c a b g in
            omega arith)
      ]

  -- HEALING. Where a talk secret lies open, some handset has not healed yet.
  not-healed :
      {es : List Exposure} {n : ℕ} → (N : ℕ) → (heal : (x : Exposure) → Memᴰ x es → Healed f commits N x) → Open f commits es n →
      (x : Exposure) × (m : Memᴰ x es) × ((at f commits n).epoch ≤ (at f commits (heal x m).commit).epoch)
  not-healed N heal (here n x m s e) =
      let b : (at f commits x.when).epoch ≤ (at f commits (heal x m).commit).epoch = epochs-grow f commits x.when (heal x m).commit (heal x m).since in
      (x, m, omega arith)
  not-healed N heal (on {n} o x m g) =
      let z = heal x m in
      elim (cases_lt z.commit (suc n)) [
        | inl l ↦
            (let k = seated-has x.who (at f commits (suc n)).tree g.reached in
            let a : next f commits z.commit ≤ epoch_of k.0 = leaf-since z.commit (suc n) z.took z.by l k.1 in
            let h = key_has (at f commits x.when).tree (subst (Memᴰ k.0) g.same (has_key k.1)) in
            let b : epoch_of k.0 ≤ (at f commits x.when).epoch = owns-epoch (run-owns f commits x.when x.who k.0 h) in
            let c : (at f commits x.when).epoch ≤ (at f commits z.commit).epoch = epochs-grow f commits x.when z.commit z.since in
            absurd (omega arith))
        | inr l ↦ (x, m, epochs-grow f commits (suc n) z.commit l)
      ]
  not-healed N heal (idle {n} o g) =
      let y = not-healed N heal o in
      let e : (at f commits (suc n)).epoch ≡ (at f commits n).epoch = ap (λ (h : Group). h.epoch) (history.refused f commits n g) in
      let b : (at f commits n).epoch ≤ (at f commits (heal y.0 y.1).commit).epoch = y.2 in
      (y.0, y.1, omega arith)

pub past : Past
past f commits es until n later k = grind (arith, read-before, main)

pub heals : Heals
heals f commits es until n heal k =
    let y = not-healed f commits n heal (main f commits es until n k) in
    let z = heal y.0 y.1 in
    let a : (at f commits n).epoch ≤ (at f commits z.commit).epoch = y.2 in
    let b : (at f commits (suc z.commit)).epoch ≤ (at f commits n).epoch = epochs-grow f commits (suc z.commit) n z.before in
    let c : (at f commits (suc z.commit)).epoch ≡ next f commits z.commit = epoch-after f commits z.commit z.took in
    omega arith

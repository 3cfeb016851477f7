-- The tree with what is asked: it keeps the rules, and whoever stays has its slots laid out for it once a removal's keys are forgotten.
-- Assumes nothing.
use Rattle.std.proofs.Common.{◌≡◌, ℕ, suc, ◌≤◌, not, T, eqb, List, None, sym, ◌∙◌, arith}
use Rattle.theory.specs.Limits.{max_depth}
use Rattle.theory.specs.Secrets.{Secret}
use Rattle.theory.specs.Tree.{Tree, seated, grown}
use Rattle.theory.specs.Group.{Change, renew, remove, add, readied}
use Rattle.theory.proofs.Tests.{or_left}
use Rattle.theory.proofs.Level.{Level, removed-level, added-level, Bounded, grown-bounded}
use Rattle.theory.proofs.Addition.{adding, seated-adding}
use Rattle.theory.proofs.Wellformed.{Fine, renewal, removal, addition, Sound, is-left, seated-grown, grown-sound}
use Rattle.theory.proofs.Follows.{grown-room, other_way, stranger}
use Rattle.vault_theory.specs.Order.{slot_of_key}
use Rattle.vault_theory.specs.Vault.{Sealed}
use Rattle.vault_theory.specs.Orders.{dropped_for}
use Rattle.vault_theory.proofs.Steps.{Slots, vault, Runs, done, runs_to}
use Rattle.vault_theory.proofs.Seats.{Seat, seat, seat-seated, seat-level}
use Rattle.vault_theory.proofs.Slots.{over}
use Rattle.vault_theory.proofs.Dropping.{dropping}
use Rattle.vault_theory.proofs.Coming.{over-adding, over-grown}

pub readied-level :
    {w : ℕ} {c : Change} {t : Tree Secret} {d : ℕ} (fresh : Secret) → Fine w t c → Level d t → d ≤ max_depth → Bounded (readied c fresh t)
readied-level {d} fresh renewal a n = (d, a, n)
readied-level {d} fresh (removal {m} x y) a n = (d, removed-level m a, n)
readied-level {t} {d} fresh (addition {m} x y z) a n = grind (arith, grown-bounded, added-level)

-- w isn't the one removed
abbrev pub Stays : ℕ → Change → Type 0
Stays w renew = Unit {0}
Stays w (remove m) = T (not (eqb m w))
Stays w (add m) = Unit {0}

pub stays-seated :
    {v : ℕ} {c : Change} {t : Tree Secret} (fresh : Secret) (w : ℕ) → Fine v t c → Stays w c → T (seated w t) →
    T (seated w (readied c fresh t))
stays-seated fresh w renewal s h = h
stays-seated {t} fresh w (removal {m} x y) s h = is-left w m t h (other_way m w s)
stays-seated {t} fresh w (addition {m} x y z) s h =
    rw (seated-adding (adding m fresh (grown t) (grown-room t)).1 w, seated-grown w t) (or_left (seated w t) (eqb m w) h)

module _ {boxes : List (Sealed Secret)} {ds : List Secret} {ss : List (Sealed Secret)} {gs : List Secret} where
  pub readying :
      {v w d : ℕ} {c : Change} {t : Tree Secret} (fresh : Secret) (b : Slots) → ((h : ℕ) → b (slot_of_key h) ≡ None) → Fine v t c → Stays w c →
      Sound t → d ≤ max_depth → Seat w d t →
      Runs boxes (dropped_for w c t) (vault (over w t b) ds ss gs) (vault (over w (readied c fresh t) b) ds ss gs)
  readying fresh b e renewal s x n y = done
  readying {w} fresh b e (removal {m} f g) s x n y = dropping m b (other_way m w s) y
  readying {w} {d} {t} fresh b e (addition {m} f g z) s x n y =
      let h = seat-seated y in
      let bound = grown-bounded t z (d, seat-level y, n) in
      runs_to done
      (sym
      (over-adding b (adding m fresh (grown t) (grown-room t)).1 (stranger m w t f h)
      (seat w (grown-sound t x) bound.1 (rw (seated-grown w t) h))
      ∙ over-grown b (e (suc d)) y))

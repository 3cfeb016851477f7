-- What every commit keeps, every tree of a run has; and the path that a commit lays, by a view of it: `Laying`.
-- Assumes nothing.
use Rattle.std.proofs.Common.{◌≡◌, ℕ, zero, suc, not, ◌||◌, T, eqb, is_some, refl, ap, eqb→eq, arith}
use Rattle.theory.specs.Secrets.{Secret}
use Rattle.theory.specs.Tree.{Tree, leaf, node, blank_leaf, occupied, Parent, seated}
use Rattle.theory.specs.Path.{Laid, laid}
use Rattle.theory.specs.Group.{Commit, refusal, laid_by, committed, group}
use Rattle.theory.proofs.Tests.{by_cond, nor}

-- a run: what holds of a founder's tree, and is kept by every commit that isn't refused, holds of every tree
pub run-keeps :
    (P : Tree Secret → Type 0) →
    ((m : ℕ) (k : Secret) → P (leaf (occupied m k))) →
    ((e : ℕ) (c : Commit) (t : Tree Secret) → T (not (is_some (refusal e c t))) → (fresh own : Secret) (keys : ℕ → Secret) →
    P t → P (laid_by c fresh own keys t).tree) →
    (f : ℕ) (commits : ℕ → Commit) (n : ℕ) → P (group f commits n).tree
unfolding group committed
run-keeps P start step f commits zero = start f _
run-keeps P start step f commits (suc n) = grind (arith, run-keeps P start step f commits n)

-- m's path makes the second tree of the first: new keys above m, and its own at its leaf
pub data Laying {K : Type 0} (m : ℕ) (own : K) : Tree K → Tree K → Type 0 where
  elsewhere : {t : Tree K} → T (not (seated m t)) → Laying m own t t
  here : {k : K} → Laying m own (leaf (occupied m k)) (leaf (occupied m own))
  in_left : {c d : Parent K} {l l' r : Tree K} → T (seated m l) → Laying m own l l' → Laying m own (node c l r) (node d l' r)
  in_right : {c d : Parent K} {l r r' : Tree K} → T (seated m r) → Laying m own r r' → Laying m own (node c l r) (node d l r')

pub laying : {K : Type 0} (m : ℕ) (own : K) (keys : ℕ → K) (t : Tree K) → Laying m own t (laid m own keys t).tree
unfolding laid seated
laying {K} m own keys (leaf blank_leaf) = elsewhere tt
laying {K} m own keys (leaf (occupied w k)) =
    by_cond (λ x. Laying m own (leaf (occupied w k)) (leaf x)) (eqb w m) _ _
    (λ h. rw (eqb→eq w m h) here) (λ h. elsewhere h)
laying {K} m own keys (node c l r) =
    by_cond (λ (x : Laid K). Laying m own (node c l r) x.tree) (seated m l) _ _
    (λ h. in_left h (laying m own keys l))
    (λ h. by_cond (λ (x : Laid K). Laying m own (node c l r) x.tree) (seated m r) _ _
    (λ k. in_right k (laying m own keys r))
    (λ k. elsewhere (nor (seated m l) (seated m r) h k)))

-- a path seats nobody and unseats nobody
pub seated-laying : {K : Type 0} {m : ℕ} {own : K} {t u : Tree K} → Laying m own t u → (w : ℕ) → seated w u ≡ seated w t
unfolding seated
seated-laying (elsewhere h) w = refl
seated-laying here w = refl
seated-laying (in_left {r} h a) w = ap (λ b. b || seated w r) (seated-laying a w)
seated-laying (in_right {l} h a) w = ap (λ b. seated w l || b) (seated-laying a w)

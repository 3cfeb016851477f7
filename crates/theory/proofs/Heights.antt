-- What a member holds, height by height.
-- Assumes nothing.
use Rattle.std.proofs.Common.{◌≡◌, ℕ, zero, suc, ◌≤◌, Bool, true, false, cond, ◌&&◌, ◌||◌, T, eqb, List, [], ◌++◌, sym, refl, ap, ◌∙◌, ap₂, arith}
use Rattle.std.proofs.lemmas.Bool.{eq-eqb, ne_eqb, cond-true, cond-false}
use Rattle.theory.specs.Held.{held, held_at, node_key_held}
use Rattle.theory.specs.Laws.{held_down, HeldByHeight}
use Rattle.theory.specs.Tree.{Tree, leaf, node, Parent, is_at, key_at, seated, height, is_level}

left-of : (a b : Bool) → T (a && b) → T a
left-of true b t = tt
left-of false b t = t

right_of : (a b : Bool) → T (a && b) → T b
right_of true b t = t
right_of false b t = absurd t

level-height : {K : Type 0} (d : ℕ) (t : Tree K) → T (is_level d t) → height t ≡ d
unfolding is_level height
level-height zero (leaf x) e = refl
level-height zero (node p l r) e = absurd e
level-height (suc d) (leaf x) e = absurd e
level-height (suc d) (node p l r) e = ap suc (level-height d l (left-of (is_level d l) (is_level d r) e))

-- below its top, what is held of a tree is what is held of the half that m sits in
below_top : {K : Type 0} (m h : ℕ) (p : Parent K) (l r : Tree K) → (h ≡ suc (height l) → ⊥) → held_at m h (node p l r) ≡ cond (seated m l) (held_at m h l) (held_at m h r)
unfolding held_at
below_top m h p l r off = search ne_eqb

both : {K : Type 0} (b : Bool) (u v x y : List K) → cond b u v ++ cond b x y ≡ cond b (u ++ x) (v ++ y)
both true u v x y = refl
both false u v x y = refl

down-below : {K : Type 0} (m h : ℕ) (p : Parent K) (l r : Tree K) → h ≤ height l → held_down m h (node p l r) ≡ cond (seated m l) (held_down m h l) (held_down m h r)
unfolding held_down
down-below m zero p l r e = below_top m zero p l r (λ q. omega arith)
down-below m (suc h) p l r e = grind (arith, below_top, down-below m h p l r)

-- who isn't seated holds nothing
absent : {K : Type 0} (m : ℕ) (t : Tree K) → seated m t ≡ false → held m t ≡ []
unfolding seated held
absent m (leaf x) e = cond-false (is_at m x) (key_at x) [] e
absent m (node p l r) e = neither (seated m l) (seated m r) e
  where
    neither : (a b : Bool) → (a || b) ≡ false → cond a (node_key_held m p ++ held m l) (cond b (node_key_held m p ++ held m r) []) ≡ []
    neither true b q = let z : ◌≡◌ {A = ℕ} 0 1 = cc in absurd (omega arith)
    neither false true q = let z : ◌≡◌ {A = ℕ} 0 1 = cc in absurd (omega arith)
    neither false false q = refl

-- the top, and what is held of the half that m sits in
joined : {K : Type 0} (a b : Bool) (k x y : List K) → (b ≡ false → y ≡ []) → cond (a || b) k [] ++ cond a x y ≡ cond a (k ++ x) (cond b (k ++ y) [])
joined true b k x y e = refl
joined false true k x y e = refl
joined false false k x y e = e refl

held-by-height : {K : Type 0} (d m : ℕ) (t : Tree K) → T (is_level d t) → held_down m d t ≡ held m t
unfolding held_down held_at held is_level
held-by-height zero m (leaf x) e = refl
held-by-height zero m (node p l r) e = absurd e
held-by-height (suc d) m (leaf x) e = absurd e
held-by-height (suc d) m (node p l r) e =
    let el = left-of (is_level d l) (is_level d r) e in
    let er = right_of (is_level d l) (is_level d r) e in
    let high : height l ≡ d = level-height d l el in
    ap₂ ◌++◌
    (cond-true (eqb (suc d) (suc (height l))) (cond (seated m l || seated m r) (node_key_held m p) []) (cond (seated m l) (held_at m (suc d) l) (held_at m (suc d) r)) (eq-eqb (suc d) (suc (height l)) (ap suc (sym high))))
    (down-below m d p l r (omega arith) ∙ ap₂ (λ x y. cond (seated m l) x y) (held-by-height d m l el) (held-by-height d m r er))
    ∙ joined (seated m l) (seated m r) (node_key_held m p) (held m l) (held m r) (absent m r)

pub held_by_height_holds : HeldByHeight
held_by_height_holds d m t e = held-by-height d m t e

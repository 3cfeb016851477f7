-- Tests and `cond`.
-- Assumes nothing.
use Rattle.std.proofs.Common.{◌≡◌, Bool, true, false, cond, not, ◌&&◌, ◌||◌, T, ◌⊎◌, refl, inl, inr}

-- what holds of both branches holds of a `cond`
pub by_cond : {A : Type 0} (P : A → Type 0) (b : Bool) (x y : A) → (T b → P x) → (T (not b) → P y) → P (cond b x y)
by_cond P true x y f g = f tt
by_cond P false x y f g = g tt

pub decided : (b : Bool) → T b ⊎ T (not b)
decided true = inl tt
decided false = inr tt

pub is_true : (b : Bool) → T b → b ≡ true
is_true true h = refl
is_true false h = elim h [ ]

pub is_false : (b : Bool) → T (not b) → b ≡ false
is_false true h = elim h [ ]
is_false false h = refl

pub or_cases : (a b : Bool) → T (a || b) → T a ⊎ T b
or_cases true b h = inl tt
or_cases false b h = inr h

pub or_left : (a b : Bool) → T a → T (a || b)
or_left true b h = tt
or_left false b h = elim h [ ]

pub or_right : (a b : Bool) → T b → T (a || b)
or_right true b h = tt
or_right false b h = h

pub nor : (a b : Bool) → T (not a) → T (not b) → T (not (a || b))
nor true b h k = h
nor false b h k = k

pub nor-left : (a b : Bool) → T (not (a || b)) → T (not a)
nor-left true b h = h
nor-left false b h = tt

pub nor-right : (a b : Bool) → T (not (a || b)) → T (not b)
nor-right true b h = elim h [ ]
nor-right false b h = h

pub and_left : (a b : Bool) → T (a && b) → T a
and_left true b h = tt
and_left false b h = h

pub and_right : (a b : Bool) → T (a && b) → T b
and_right true b h = h
and_right false b h = elim h [ ]

pub nand-right : (a b : Bool) → T a → T (not (a && b)) → T (not b)
nand-right true b h k = k
nand-right false b h k = elim h [ ]

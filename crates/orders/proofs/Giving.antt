-- Orders appended one after the other.
-- Assumes nothing.
use Rattle.std.proofs.Common.{◌≡◌, ℕ, cond, List, [], ◌++◌, map, is_ok, Ok, Err, Result, sym, ap, ◌∙◌, ap₂, append_assoc}
use Rattle.std.proofs.lemmas.List.{append-nil, map-append}
use Rattle.std.proofs.lemmas.Bool.{cond-true}
use Rattle.ratchet_tree.specs.declared.member.PublicKey.{PublicKey}
use Rattle.vault_theory.specs.Order as theory
use Rattle.orders.specs.Given.{Gives, GivesTo, Risen}
use Rattle.orders.specs.Order.{order_of}
use Rattle.orders.specs.declared.order.Order.{Order}

-- the code's orders, as they were appended
pub gives-these : {T E : Type 0} (more before : List Order) {after : List Order} (r : Result T E) → after ≡ cond (is_ok r) (before ++ more) before →
    Gives (map order_of more) before after r
gives-these more before r e =
    record { items = λ ok. ap (map order_of) (e ∙ cond-true (is_ok r) (before ++ more) before ok) ∙ map-append order_of before more }

-- nothing given
pub adds_none : {T E : Type 0} {r : Result T E} (a : List Order) {x : List (theory.Order PublicKey)} → [] ≡ x → Gives x a a r
adds_none a f = record { items = λ _. sym (append-nil (map order_of a)) ∙ ap (λ l. map order_of a ++ l) f }

-- nothing given, at the level of a leaf
pub gives_none : (a : List Order) {i : ℕ} {x : List (theory.Order PublicKey)} → 0 ≡ i → [] ≡ x → Risen i x a a 0
gives_none a e f = record { level = e; items = sym (append-nil (map order_of a)) ∙ ap (λ l. map order_of a ++ l) f }

-- a level and a list that are shown another way
module _ {E : Type 0} (a b : List Order) (i j : ℕ) (x y : List (theory.Order PublicKey)) where
  pub gives_as : (r : Result ℕ E) → i ≡ j → x ≡ y → GivesTo i x a b r → GivesTo j y a b r
  gives_as (Ok n) e f h = record { level = h.level ∙ e; items = h.items ∙ ap (λ l. map order_of a ++ l) f }
  gives_as (Err u) e f h = tt

module _ {E : Type 0} (a b c : List Order) where
  -- after orders that answered no level
  pub gives-behind : (to : ℕ) (x y : List (theory.Order PublicKey)) (r : Result ℕ E) → map order_of b ≡ map order_of a ++ x → GivesTo to y b c r → GivesTo to (x ++ y) a c r
  gives-behind to x y (Ok n) e h = record { level = h.level; items = h.items ∙ ap (λ l. l ++ y) e ∙ append_assoc (map order_of a) x y }
  gives-behind to x y (Err u) e h = tt

  -- one level after another: what is given there depends on the level below
  pub gives-above : (i n : ℕ) (x : List (theory.Order PublicKey)) (to : ℕ → ℕ) (y : ℕ → List (theory.Order PublicKey)) (j : ℕ) (z : List (theory.Order PublicKey)) (r : Result ℕ E) →
      Risen i x a b n → GivesTo (to n) (y n) b c r → to i ≡ j → x ++ y i ≡ z → GivesTo j z a c r
  gives-above i n x to y j z (Ok k) below here e f =
      record {
        level = here.level ∙ ap to below.level ∙ e;
        items =
            here.items ∙ ap₂ (λ l (m : ℕ). l ++ y m) below.items below.level ∙ append_assoc (map order_of a) x (y i)
            ∙ ap (λ l. map order_of a ++ l) f;
      }
  gives-above i n x to y j z (Err u) below here e f = tt

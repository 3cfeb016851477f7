-- A part's halves: how high they are, and the two as a member below sees them.
-- Assumes nothing.
use Rattle.std.proofs.Common.{◌≡◌, ℕ, suc, ◌<◌, ◌≤◌, Bool, true, false, cond, ◌||◌, List, [], ◌++◌, Result, sym, refl, ap, ◌∙◌, ap₂, arith}
use Rattle.theory.specs.Limits.{max_depth}
use Rattle.theory.specs.Path.{level_after}
use Rattle.theory.specs.Tree.{height, resolution, seated}
use Rattle.vault_theory.specs.Numbers.{levels}
use Rattle.vault_theory.proofs.Numbering.{levels-laid}
use Rattle.ratchet_tree.specs.Parts.{Halves, part_tree}
use Rattle.ratchet_tree.specs.declared.node.Node.{Node}
use Rattle.ratchet_tree.specs.declared.member.PublicKey.{PublicKey}
use Rattle.ratchet_tree.specs.declared.part.Part.{Part}
use Rattle.ratchet_tree.proofs.Counts.{height-is}
use Rattle.commits.proofs.Counting.{levels-bound}
use Rattle.orders.specs.Given.{GivesTo, Risen}
use Rattle.orders.specs.Sides.{SidesOf}
use Rattle.orders.specs.declared.order.Order.{Order}
use Rattle.ratchet_tree.specs.declared.sides.Sides.{Sides}
use Rattle.orders.proofs.Giving.{gives-above}
use Rattle.vault_theory.specs.Order as theory

pub part-height : (p : Part) → height (part_tree p) ≡ p.height
part-height p = height-is p.height p.nodes.now

-- a parent's height, from its left half
pub parent-height : (p l : Part) → suc l.height ≡ p.height → p.height ≡ suc (height (part_tree l))
parent-height p l e = omega (arith, part-height l)

-- a path in a part has few levels
pub levels-low : (c : ℕ) (p : Part) → levels c (part_tree p) ≤ max_depth
levels-low c p =
    let k : PublicKey = record { 0 = [] } in
    omega (arith, levels-laid c k (λ _. k) (part_tree p), levels-bound c k (λ _. k) p.height p.nodes.now, p.shallow)

-- one way of two that are the same but for which half is which
pub either_side : {A B : Type 0} (f : A → A → B) (b : Bool) (x y : A) → cond b (f x y) (f y x) ≡ f (cond b x y) (cond b y x)
either_side f true x y = refl
either_side f false x y = refl

pub one_side : {A B : Type 0} (f : A → B) (b : Bool) (x y : A) → cond b (f x) (f y) ≡ f (cond b x y)
one_side f true x y = refl
one_side f false x y = refl

side-low : (b : Bool) {x y h n : ℕ} → n ≡ cond b x y → suc x ≡ h → suc y ≡ h → n < h
side-low true e f g = omega arith
side-low false e f g = omega arith

seated-side : {A : Type 0} (f : A → Bool) (x y : A) → (f x || f y) ≡ true → f (cond (f x) x y) ≡ true
seated-side f x y e = elim (f x) as (λ b. (b || f y) ≡ true → f x ≡ b → f (cond b x y) ≡ true) [ true ↦ λ _ q. q | false ↦ λ q _. q ] e refl

level-side : (a b : Bool) (x y : ℕ) → (a || b) ≡ true → cond a x (cond b y 0) ≡ cond a x y
level-side true b x y e = refl
level-side false true x y e = refl
level-side false false x y e = let z : ◌≡◌ {A = ℕ} 0 1 = cc in absurd (omega arith)

-- the half that w sits in, of a part taken apart
module _ (w : ℕ) (p l r : Part) (n : Node) (s : Sides) (h : Halves p l n r) (d : SidesOf w l r s) where
  pub side-below : s.own.height < p.height
  side-below = side-low (seated w (part_tree l)) d.height h.left h.right

  pub own-seated : seated w (part_tree p) ≡ true → seated w (part_tree s.own) ≡ true
  unfolding seated
  own-seated e = ap (seated w) d.own ∙ seated-side (seated w) (part_tree l) (part_tree r) (ap (seated w) (sym h.tree) ∙ e)

  levels-above : seated w (part_tree p) ≡ true → levels w (part_tree p) ≡ level_after (levels w (part_tree s.own)) (resolution (part_tree s.other))
  unfolding seated levels
  levels-above e =
      ap (levels w) h.tree
      ∙ level-side (seated w (part_tree l)) (seated w (part_tree r)) (level_after (levels w (part_tree l)) (resolution (part_tree r))) (level_after (levels w (part_tree r)) (resolution (part_tree l))) (ap (seated w) (sym h.tree) ∙ e)
      ∙ either_side (λ x y. level_after (levels w x) (resolution y)) (seated w (part_tree l)) (part_tree l) (part_tree r)
      ∙ ap₂ (λ x y. level_after (levels w x) (resolution y)) (sym d.own) (sym d.other)

  -- one parent up: what is given below it, and what is given there
  pub rises : {E : Type 0} (a b c : List Order) (i : ℕ) (x : List (theory.Order PublicKey)) (y : ℕ → List (theory.Order PublicKey)) (z : List (theory.Order PublicKey)) (q : Result ℕ E) →
      seated w (part_tree p) ≡ true → Risen (levels w (part_tree s.own)) x a b i → GivesTo (level_after i (resolution (part_tree s.other))) (y i) b c q →
      x ++ y (levels w (part_tree s.own)) ≡ z → GivesTo (levels w (part_tree p)) z a c q
  rises a b c i x y z q e below here f =
      gives-above a b c (levels w (part_tree s.own)) i x (λ j. level_after j (resolution (part_tree s.other))) y (levels w (part_tree p)) z q below here (sym (levels-above e)) f

-- Parents and children, and where each ends.
use Rattle.std.proofs.Common.{◌≡◌, ℕ, zero, suc, ◌+◌, ◌-◌, ◌*◌, ◌/◌, ◌%◌, ◌^◌, ◌⊎◌, mul-le-mul_right, ◌<◌, ◌≤◌, Some, None, sym, ap, ◌∙◌, subst, inl, inr, pow-suc, arith, pow_pos}
use Rattle.std.proofs.lemmas.Bool.{cases_lt, cases_eq}
use Rattle.std.proofs.lemmas.Option.{none-some, same_Some}
use Rattle.tree_math.specs.Index.{root_of, height_of, parent_of, left_of, right_of, from_right}
use Rattle.tree_math.specs.Laws.{node_over, ChildHeights, ChildlessLeaves, ParentOfChildren, ChildrenOfParent, RootHasNoParent, Outside}
use Rattle.tree_math.specs.Span.{span}
use Rattle.tree_math.proofs.Span.{span-suc, span-double, span_pos, middle-span}
use Rattle.tree_math.proofs.Numbering.{height-root, parts-leaves, numbering}
use Rattle.tree_math.proofs.Steps as steps
use Rattle.tree_math.proofs.Steps.{side, before, here, behind}

-- past the last node
pub outside : (d i : ℕ) → span d ≤ i → (height_of d i ≡ None) × (parent_of d i ≡ None) × (left_of d i ≡ None) × (right_of d i ≡ None)
outside zero i l = (steps.height-none i (λ e. omega (arith, span_pos 0)), steps.parent-none i, steps.left-none i, steps.right-none i)
outside (suc h) i l =
    let g : span h < i = omega (arith, span-suc h, span_pos h) in
    let r = outside h (i - (span h + 1)) (omega (arith, span-suc h)) in (
      steps.height-behind h i g ∙ r.0,
      steps.parent-behind h i g (λ e. omega (arith, span-suc h, span_pos h)) ∙ ap (λ o. from_right h o) r.1,
      steps.left_behind h i g ∙ ap (λ o. from_right h o) r.2,
      steps.right-behind h i g ∙ ap (λ o. from_right h o) r.3,
    )

pub outside-holds : Outside
outside-holds = outside

-- a node with a height is in the tree
pub inside : (d i h : ℕ) → height_of d i ≡ Some h → i < span d
inside d i h e =
    elim (cases_lt i (span d)) [ inl l ↦ l | inr g ↦ absurd (none-some h (sym (outside d i g).0 ∙ e)) ]

-- the nodes below a node lie in the tree, 2 ^ h - 1 on either side
pub room : (d i h : ℕ) → height_of d i ≡ Some h → (k : ℕ) × (h ≤ d) × (k < 2 ^ (d - h)) × (i ≡ node_over h k)
room d i h e =
    let r = numbering.1 d i (inside d i h e) in
    let same : r.0 ≡ h = same_Some r.0 h (sym r.4 ∙ e) in
    subst (λ (x : ℕ). (k : ℕ) × (x ≤ d) × (k < 2 ^ (d - x)) × (i ≡ node_over x k)) same (r.1, r.2, r.3, r.5)

-- the way up ends at the root
root-parent : (d : ℕ) → parent_of d (root_of d) ≡ None
root-parent zero = steps.parent-none (root_of 0)
root-parent (suc h) = steps.parent-here h (root_of (suc h)) (middle-span h)

-- which nodes the children are
height-at-zero : (i h : ℕ) → height_of 0 i ≡ Some h → h ≡ 0
height-at-zero i h e =
    elim (cases_eq i 0) [
      | inl z ↦ sym (same_Some 0 h (sym (ap (λ (x : ℕ). height_of 0 x) z ∙ steps.height-zero) ∙ e))
      | inr ne ↦ absurd (none-some h (sym (steps.height-none i ne) ∙ e))
    ]

child-places : (d i h : ℕ) → height_of d i ≡ Some (suc h) → (left_of d i ≡ Some (i - 2 ^ h)) × (right_of d i ≡ Some (i + 2 ^ h))
child-places zero i h e = absurd (omega (arith, height-at-zero i (suc h) e))
child-places (suc d) i h e =
    elim (side (span d) i) [
      | before b ↦
          let r = child-places d i h (sym (steps.height-before d i b) ∙ e) in
          (steps.left-before d i b ∙ r.0, steps.right-before d i b ∙ r.1)
      | here q ↦
          let same : suc d ≡ suc h = same_Some (suc d) (suc h) (sym (steps.height-here d i q) ∙ e) in
          let pows : 2 ^ d ≡ 2 ^ h = ap (λ (x : ℕ). 2 ^ x) (omega arith) in
          (steps.left_here d i q ∙ ap Some (omega (arith, span-double d)), steps.right-here d i q ∙ ap Some (omega (arith, span-double d)))
      | behind j q ↦
          let inner = i - (span d + 1) in
          let e' : height_of d inner ≡ Some (suc h) = sym (steps.height-behind d i (omega arith)) ∙ e in
          let r = child-places d inner h e' in
          let w = room d inner (suc h) e' in (
            steps.left_behind d i (omega arith) ∙ ap (λ o. from_right d o) r.0 ∙ ap Some (omega (arith, w.3, pow_pos h)),
            steps.right-behind d i (omega arith) ∙ ap (λ o. from_right d o) r.1 ∙ ap Some (omega arith),
          )
    ]

pub twice : (h k : ℕ) → k * 2 ^ suc h ≡ k * (2 ^ h * 2)
twice h k = ap (λ (x : ℕ). k * x) (pow-suc 2 h)

-- the children, by their numbers in their row
pub left-number : (h k : ℕ) → node_over (suc h) k - 2 ^ h ≡ node_over h (2 * k)
left-number h k = omega (arith, pow_pos h, twice h k)

pub right-number : (h k : ℕ) → node_over (suc h) k + 2 ^ h ≡ node_over h (2 * k + 1)
right-number h k = omega (arith, pow_pos h, twice h k)

-- a row has twice as many nodes as the one above it
pub row : (d h : ℕ) → suc h ≤ d → 2 ^ (d - h) ≡ 2 * 2 ^ (d - suc h)
row d h l =
    let lower : d - h ≡ suc (d - suc h) = omega arith in
    let pows : 2 ^ (d - h) ≡ 2 ^ suc (d - suc h) = ap (λ (x : ℕ). 2 ^ x) lower in
    omega (arith, pows, pow-suc 2 (d - suc h))

pub child-heights : ChildHeights
child-heights d i h e =
    let p = child-places d i h e in
    let w = room d i (suc h) e in (
      p.0,
      p.1,
      ap (λ (x : ℕ). height_of d (x - 2 ^ h)) w.3 ∙ ap (λ (x : ℕ). height_of d x) (left-number h w.0)
          ∙ numbering.0 d h (2 * w.0) (omega arith) (omega (arith, w.2, row d h w.1)),
      ap (λ (x : ℕ). height_of d (x + 2 ^ h)) w.3 ∙ ap (λ (x : ℕ). height_of d x) (right-number h w.0)
          ∙ numbering.0 d h (2 * w.0 + 1) (omega arith) (omega (arith, w.2, row d h w.1)),
    )

pub childless-leaves : ChildlessLeaves
childless-leaves zero i e = (steps.left-none i, steps.right-none i)
childless-leaves (suc d) i e =
    elim (side (span d) i) [
      | before b ↦
          let r = childless-leaves d i (sym (steps.height-before d i b) ∙ e) in
          (steps.left-before d i b ∙ r.0, steps.right-before d i b ∙ r.1)
      | here q ↦ absurd (omega (arith, same_Some (suc d) 0 (sym (steps.height-here d i q) ∙ e)))
      | behind j q ↦
          let r = childless-leaves d (i - (span d + 1)) (sym (steps.height-behind d i (omega arith)) ∙ e) in
          (steps.left_behind d i (omega arith) ∙ ap (λ o. from_right d o) r.0, steps.right-behind d i (omega arith) ∙ ap (λ o. from_right d o) r.1)
    ]

-- a node that has a parent is not the root
not_root : (d i c : ℕ) → parent_of d c ≡ Some i → c ≡ root_of d → ⊥
not_root d i c e q = none-some i (sym (root-parent d) ∙ ap (λ (x : ℕ). parent_of d x) (sym q) ∙ e)

-- a parent in a part is the parent in the tree
up-before : (d i t : ℕ) → i < span d → parent_of d i ≡ Some t → parent_of (suc d) i ≡ Some t
up-before d i t b up = steps.parent-before d i b (not_root d t i up) ∙ up

up-behind : (d i j t : ℕ) → i ≡ span d + 1 + j → parent_of d j ≡ Some t → parent_of (suc d) i ≡ Some (span d + 1 + t)
up-behind d i j t q up =
    let inner : parent_of d (i - (span d + 1)) ≡ Some t = ap (λ (x : ℕ). parent_of d x) (omega arith) ∙ up in
    steps.parent-behind d i (omega arith) (not_root d t (i - (span d + 1)) inner) ∙ ap (λ o. from_right d o) inner

-- the parent of the n-th node of a row: the k-th of the row above, for n = 2 k and n = 2 k + 1
parents : (e d h k n : ℕ) → d ≡ suc h + e → k < 2 ^ e → 2 * k ≤ n → n ≤ 2 * k + 1 → parent_of d (node_over h n) ≡ Some (node_over (suc h) k)
parents e zero h k n q l a b = absurd (omega arith)
parents zero (suc d) h k n q l a b =
    let first : k ≡ 0 = omega arith in
    let same : d ≡ h = omega arith in
    let none = ap (λ (x : ℕ). x * 2 ^ h) first in
    let wide = ap (λ (x : ℕ). 2 ^ x) same in
    let top : span d ≡ node_over (suc h) k = omega (arith, span-double d, none, wide, twice h k, pow-suc 2 h) in
    elim (cases_eq n 0) [
      | inl z ↦
          let at = ap (λ (x : ℕ). x * 2 ^ h) z in
          steps.parent-before-root d (node_over h n) (omega (arith, span-double d, at, wide, pow_pos h)) (omega (arith, span-double d, at, wide)) ∙ ap Some top
      | inr z ↦
          let second : n ≡ 1 = omega arith in
          let at = ap (λ (x : ℕ). x * 2 ^ h) second in
          steps.parent-behind-root d (node_over h n) (omega (arith, span-double d, at, wide, pow_pos h)) (omega (arith, span-double d, at, wide)) ∙ ap Some top
    ]
parents (suc e) (suc d) h k n q l a b =
    let wide = parts-leaves d (suc h) e (omega arith) in
    elim (cases_lt k (2 ^ e)) [
      | inl low ↦
          let room : suc k * 2 ^ suc h ≤ 2 ^ e * 2 ^ suc h = mul-le-mul_right (2 ^ suc h) low in
          let most : n * 2 ^ h ≤ (2 * k + 1) * 2 ^ h = mul-le-mul_right (2 ^ h) b in
          up-before d (node_over h n) (node_over (suc h) k) (omega (arith, room, most, wide, span-double d, twice h k, pow-suc 2 h, pow_pos h))
          (parents e d h k n (omega arith) low a b)
      | inr high ↦
          let j : ℕ = k - 2 ^ e in
          let m : ℕ = n - 2 * 2 ^ e in
          let split : k ≡ 2 ^ e + j = omega arith in
          let cut : n ≡ 2 * 2 ^ e + m = omega arith in
          let at = ap (λ (x : ℕ). x * 2 ^ h) split in
          let from = ap (λ (x : ℕ). x * 2 ^ h) cut in
          up-behind d (node_over h n) (node_over h m) (node_over (suc h) j) (omega (arith, from, wide, span-double d, twice h (2 ^ e), pow_pos h))
          (parents e d h j m (omega arith) (omega arith) (omega arith) (omega arith))
          ∙ ap Some (omega (arith, at, wide, span-double d, twice h k, twice h j, twice h (2 ^ e), pow_pos h, pow-suc 2 h))
    ]

parent-number : (d h k n : ℕ) → suc h ≤ d → k < 2 ^ (d - suc h) → 2 * k ≤ n → n ≤ 2 * k + 1 → parent_of d (node_over h n) ≡ Some (node_over (suc h) k)
parent-number d h k n l m = parents (d - suc h) d h k n (omega arith) m

-- the parent of a node's child is the node
parent-of-numbered : (d h k c : ℕ) → h ≤ d → k < 2 ^ (d - h) →
    (left_of d (node_over h k) ≡ Some c → parent_of d c ≡ Some (node_over h k)) × (right_of d (node_over h k) ≡ Some c → parent_of d c ≡ Some (node_over h k))
parent-of-numbered d zero k c l m =
    let none = childless-leaves d (node_over 0 k) (numbering.0 d 0 k l m) in
    ((λ e. absurd (none-some c (sym none.0 ∙ e))), (λ e. absurd (none-some c (sym none.1 ∙ e))))
parent-of-numbered d (suc h) k c l m =
    let i : ℕ = node_over (suc h) k in
    let down = child-heights d i h (numbering.0 d (suc h) k l m) in (
      (λ e. ap (λ (x : ℕ). parent_of d x) (same_Some c (i - 2 ^ h) (sym e ∙ down.0) ∙ left-number h k) ∙ parent-number d h k (2 * k) l m (omega arith) (omega arith)),
      (λ e. ap (λ (x : ℕ). parent_of d x) (same_Some c (i + 2 ^ h) (sym e ∙ down.1) ∙ right-number h k) ∙ parent-number d h k (2 * k + 1) l m (omega arith) (omega arith)),
    )

pub parent-of-children : ParentOfChildren
parent-of-children d i c =
    elim (cases_lt i (span d)) [
      | inl l ↦
          let r = numbering.1 d i l in
          subst (λ (x : ℕ). (left_of d x ≡ Some c → parent_of d c ≡ Some x) × (right_of d x ≡ Some c → parent_of d c ≡ Some x)) (sym r.5) (parent-of-numbered d r.0 r.1 c r.2 r.3)
      | inr g ↦
          let none = outside d i g in
          ((λ e. absurd (none-some c (sym none.2 ∙ e))), (λ e. absurd (none-some c (sym none.3 ∙ e))))
    ]

-- a node is the root, or in a row that has one above it
root-or-below : (d i : ℕ) → i < span d →
    (i ≡ root_of d) ⊎ ((h : ℕ) × (n : ℕ) × (suc h ≤ d) × (n / 2 < 2 ^ (d - suc h)) × (i ≡ node_over h n) × (parent_of d i ≡ Some (node_over (suc h) (n / 2))))
root-or-below d i l =
    let r = numbering.1 d i l in
    elim (cases_lt r.0 d) [
      | inl b ↦
          let half : r.1 / 2 < 2 ^ (d - suc r.0) = omega (arith, r.3, row d r.0 b) in
          inr (r.0, r.1, b, half, r.5, ap (λ (x : ℕ). parent_of d x) r.5 ∙ parent-number d r.0 (r.1 / 2) r.1 b half (omega arith) (omega arith))
      | inr g ↦
          let same : d ≡ r.0 = omega arith in
          let top : d - r.0 ≡ 0 = omega arith in
          let first : r.1 ≡ 0 = omega (arith, r.3, ap (λ (x : ℕ). 2 ^ x) top) in
          inl (omega (arith, r.5, span-double d, ap (λ (x : ℕ). x * 2 ^ r.0) first, ap (λ (x : ℕ). 2 ^ x) same, pow_pos r.0))
    ]

only-root : (d i : ℕ) → i < span d → parent_of d i ≡ None → i ≡ root_of d
only-root d i l e =
    elim (root-or-below d i l) [ inl r ↦ r | inr (h, n, b, m, q, up) ↦ absurd (none-some (node_over (suc h) (n / 2)) (sym e ∙ up)) ]

pub root-has-no-parent : RootHasNoParent
root-has-no-parent d = (height-root d, root-parent d, only-root d)

-- a node is a child of its parent
pub children-of-parent : ChildrenOfParent
children-of-parent d i c e =
    elim (cases_lt c (span d)) [
      | inr g ↦ absurd (none-some i (sym (outside d c g).1 ∙ e))
      | inl l ↦
          elim (root-or-below d c l) [
            | inl r ↦ absurd (not_root d i c e r)
            | inr (h, n, b, m, q, up) ↦
                let k : ℕ = n / 2 in
                let at : i ≡ node_over (suc h) k = same_Some i (node_over (suc h) k) (sym e ∙ up) in
                let down = child-heights d (node_over (suc h) k) h (numbering.0 d (suc h) k b m) in
                elim (cases_eq (n % 2) 0) [
                  | inl z ↦ inl (ap (λ (x : ℕ). left_of d x) at ∙ down.0 ∙ ap Some (left-number h k ∙ ap (λ (x : ℕ). node_over h x) (omega arith) ∙ sym q))
                  | inr z ↦ inr (ap (λ (x : ℕ). right_of d x) at ∙ down.1 ∙ ap Some (right-number h k ∙ ap (λ (x : ℕ). node_over h x) (omega arith) ∙ sym q))
                ]
          ]
    ]

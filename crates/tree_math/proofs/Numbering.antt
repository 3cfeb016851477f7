-- Which index each node has.
use Rattle.std.proofs.Common.{◌≡◌, ℕ, zero, suc, ◌+◌, ◌-◌, ◌*◌, ◌^◌, ◌<◌, ◌≤◌, Some, ap, ◌∙◌, inl, inr, mul-le-mul_right, mul_comm, arith, pow_pos, pow_mono, pow-add}
use Rattle.std.proofs.lemmas.Bool.{cases_lt}
use Rattle.tree_math.specs.Index.{root_of, height_of}
use Rattle.tree_math.specs.Laws.{node_over, Numbering}
use Rattle.tree_math.specs.Span.{span}
use Rattle.tree_math.proofs.Span.{span-double, middle-span}
use Rattle.tree_math.proofs.Steps.{side, before, here, behind, height-zero, height-before, height-here, height-behind}

-- in the right part, by the index in that part
pub height-right : (h j : ℕ) → height_of (suc h) (span h + 1 + j) ≡ height_of h j
height-right h j = height-behind h (span h + 1 + j) (omega arith) ∙ ap (λ (x : ℕ). height_of h x) (omega arith)

pub height-root : (d : ℕ) → height_of d (root_of d) ≡ Some d
unfolding span
height-root zero = height-zero
height-root (suc h) = height-here h (root_of (suc h)) (middle-span h)

-- the leaves of a tree, as those of its parts of one height
pub parts-leaves : (d h e : ℕ) → d ≡ h + e → 2 ^ d ≡ 2 ^ e * 2 ^ h
parts-leaves d h e q = ap (λ (x : ℕ). 2 ^ x) q ∙ pow-add 2 h e ∙ mul_comm (2 ^ h) (2 ^ e)

split : (k n : ℕ) → n ≤ k → k ≡ n + (k - n)
split k n l = omega arith

numbered : (e d h k : ℕ) → d ≡ h + e → k < 2 ^ e → height_of d (node_over h k) ≡ Some h
numbered zero d h k q l =
    let z : k ≡ 0 = omega arith in
    let same : d ≡ h = omega arith in
    let root : node_over h k ≡ root_of d = omega (arith, span-double d, ap (λ (x : ℕ). x * 2 ^ h) z, ap (λ (x : ℕ). 2 ^ x) same, pow_pos h) in
    ap (λ (x : ℕ). height_of d x) root ∙ height-root d ∙ ap Some (omega arith)
numbered (suc e) zero h k q l = absurd (omega arith)
numbered (suc e) (suc d) h k q l =
    elim (cases_lt k (2 ^ e)) [
      | inl low ↦
          let room : suc k * 2 ^ h ≤ 2 ^ e * 2 ^ h = mul-le-mul_right (2 ^ h) low in
          height-before d (node_over h k) (omega (arith, room, span-double d, parts-leaves d h e (omega arith), pow_pos h)) ∙ numbered e d h k (omega arith) low
      | inr high ↦
          let moved : node_over h k ≡ span d + 1 + node_over h (k - 2 ^ e) =
          omega (arith, span-double d, parts-leaves d h e (omega arith), pow_pos h, ap (λ (x : ℕ). x * 2 ^ h) (split k (2 ^ e) high)) in
          ap (λ (x : ℕ). height_of (suc d) x) moved ∙ height-right d (node_over h (k - 2 ^ e)) ∙ numbered e d h (k - 2 ^ e) (omega arith) (omega arith)
    ]

-- each index is that of a node
numbers : (d i : ℕ) → i < span d → (h : ℕ) × (k : ℕ) × (h ≤ d) × (k < 2 ^ (d - h)) × (height_of d i ≡ Some h) × (i ≡ node_over h k)
unfolding span
numbers zero i l = (0, 0, omega arith, omega arith, ap (λ (x : ℕ). height_of 0 x) (omega arith) ∙ height-zero, omega arith)
numbers (suc d) i l =
    elim (side (span d) i) [
      | before b ↦ let r = numbers d i b in
          let more : d - r.0 ≤ suc d - r.0 = omega arith in
          (r.0, r.1, omega arith, omega (arith, pow_mono more), height-before d i b ∙ r.4, r.5)
      | here q ↦ (suc d, 0, omega arith, pow_pos (suc d - suc d), height-here d i q, omega (arith, span-double d))
      | behind j q ↦
          let r = numbers d j (omega arith) in
          let e : suc d - r.0 ≡ suc (d - r.0) = omega arith in (
            r.0,
            2 ^ (d - r.0) + r.1,
            omega arith,
            omega (arith, ap (λ (x : ℕ). 2 ^ x) e),
            ap (λ (x : ℕ). height_of (suc d) x) q ∙ height-right d j ∙ r.4,
            omega (arith, span-double d, parts-leaves d r.0 (d - r.0) (omega arith), pow_pos r.0),
          )
    ]

pub numbering : Numbering
numbering = ((λ d h k l m. numbered (d - h) d h k (omega arith) m), numbers)

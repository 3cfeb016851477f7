-- How many members and leaves a part can have, and where a member can sit in it.
-- Assumes nothing.
use Rattle.std.proofs.Common.{◌≡◌, ℕ, zero, suc, ◌+◌, ◌*◌, ◌<◌, ◌≤◌, Bool, true, false, cond, List, length, take, drop, Some, None, Option, sym, refl, ap, ap₂, ◌∙◌, arith}
use Rattle.theory.specs.Limits.{max_depth}
use Rattle.theory.specs.Tree.{Tree, Parent, leaf, node, is_at, is_blank, members, leaves, position, height, or_else}
use Rattle.tree_math.specs.Span.{span}
use Rattle.tree_math.proofs.Span.{span-bound}
use Rattle.ratchet_tree.specs.declared.node.Node.{Node}
use Rattle.ratchet_tree.specs.Nodes.{tree_of}
use Rattle.ratchet_tree.specs.declared.part.Part.{Part}
use Rattle.ratchet_tree.specs.Parts.{part_tree}
use Rattle.ratchet_tree.specs.declared.member.PublicKey.{PublicKey}

one-or-none : (b : Bool) → cond b 0 1 ≤ 1
one-or-none true = omega arith
one-or-none false = omega arith

-- half the nodes of a part, and one more, are leaves
pub leaves-span : (h : ℕ) (ns : List Node) → 2 * leaves (tree_of h ns) ≡ span h + 1
unfolding tree_of leaves span
leaves-span zero ns = refl
leaves-span (suc h) ns = omega (arith, leaves-span h (take (span h) ns), leaves-span h (drop (span h + 1) ns))

-- the same of the code's part, with a bound
pub leaves-part : (p : Part) → (2 * leaves (part_tree p) ≡ length p.nodes.now + 1) × (length p.nodes.now ≤ 2047)
leaves-part p =
    (leaves-span p.height p.nodes.now ∙ ap (λ (n : ℕ). n + 1) (sym p.whole), omega (arith, p.whole, span-bound p.height p.shallow))

pub height-is : (h : ℕ) (ns : List Node) → height (tree_of h ns) ≡ h
unfolding tree_of height
height-is zero ns = refl
height-is (suc h) ns = ap suc (height-is h (take (span h) ns))

members-leaves : (t : Tree PublicKey) → members t ≤ leaves t
unfolding members leaves
members-leaves (leaf x) = one-or-none (is_blank x)
members-leaves (node p l r) = omega (arith, members-leaves l, members-leaves r)

-- no part has more members than the largest tree has nodes
pub members-few : (h : ℕ) (ns : List Node) → h ≤ max_depth → members (tree_of h ns) ≤ 2047
members-few h ns l = omega (arith, members-leaves (tree_of h ns), leaves-span h ns, span-bound h l)

some-leaf : (b : Bool) (i : ℕ) → cond b (Some 0) None ≡ Some i → i < 1
some-leaf true i e = let z : 0 ≡ i = cc in omega arith
some-leaf false i e = let z : ◌≡◌ {A = ℕ} 0 1 = cc in absurd (omega arith)

either_side : (n k : ℕ) (a b : Option ℕ) (i : ℕ) → ((j : ℕ) → a ≡ Some j → j < n) → ((j : ℕ) → b ≡ Some j → j < k) → or_else a n b ≡ Some i → i < n + k
either_side n k (Some j) b i f g e = let z : j ≡ i = cc in omega (arith, f j refl)
either_side n k None (Some j) i f g e = let z : n + j ≡ i = cc in omega (arith, g j refl)
either_side n k None None i f g e = let z : ◌≡◌ {A = ℕ} 0 1 = cc in absurd (omega arith)

-- a member sits at one of the leaves
pub position-below : (m : ℕ) (t : Tree PublicKey) (i : ℕ) → position m t ≡ Some i → i < leaves t
unfolding position leaves
position-below m (leaf x) i e = some-leaf (is_at m x) i e
position-below m (node p l r) i e = either_side (leaves l) (leaves r) (position m l) (position m r) i (position-below m l) (position-below m r) e

-- where a member sits in a part, by where it sits in its halves
pub position-halves : (m : ℕ) {t : Tree PublicKey} (p : Parent PublicKey) {l r : Tree PublicKey} {a b : Option ℕ} → a ≡ position m l → b ≡ position m r → t ≡ node p l r →
    or_else a (leaves l) b ≡ position m t
unfolding position
position-halves m p {l} a b e = ap₂ (λ (x y : Option ℕ). or_else x (leaves l) y) a b ∙ ap (position m) (sym e)

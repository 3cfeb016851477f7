-- A line of nodes as a tree: its top, its halves, and what a write to one of them leaves.
-- Assumes nothing.
use Rattle.std.proofs.Common.{◌≡◌, ℕ, zero, suc, ◌+◌, ◌-◌, ◌<◌, List, length, get_or, take, drop, sym, refl, ap, ◌∙◌, arith}
use Rattle.std.proofs.lemmas.List.{get_or_default}
use Rattle.tree_math.specs.Span.{span, middle, left_half, right_half}
use Rattle.tree_math.proofs.Span.{span_pos, left-half-is, right-half-is, left-length, right-length, middle-is}
use Rattle.theory.specs.Tree.{leaf, node}
use Rattle.ratchet_tree.specs.declared.node.Node.{Node}
use Rattle.ratchet_tree.specs.Nodes.{leaf_of, parent_of, tree_of, no_node}

-- what `suc h - 1` is, as the code writes the height below
pub height-below : (h : ℕ) → suc h - 1 ≡ h
height-below h = omega arith

pub tree-suc : (h : ℕ) (ns : List Node) → tree_of (suc h) ns ≡ node (parent_of (get_or ns (span h) no_node)) (tree_of h (take (span h) ns)) (tree_of h (drop (span h + 1) ns))
unfolding tree_of
tree-suc h ns = refl

-- a part of height 0 is the leaf at the line's first node, by whatever default that is read
pub tree-leaf : (h : ℕ) (ns : List Node) (x : Node) → h ≡ 0 → length ns ≡ span h → x ≡ get_or ns 0 x → tree_of h ns ≡ leaf (leaf_of x)
unfolding tree_of
tree-leaf zero ns x e len is = ap (λ (n : Node). leaf (leaf_of n)) (sym (is ∙ get_or_default ns 0 x no_node (omega (arith, span_pos 0))))
tree-leaf (suc h) ns x e len is = absurd (omega arith)

-- the same, read by some default
pub tree-first : (h : ℕ) (ns : List Node) (d : Node) → h ≡ 0 → length ns ≡ span h → tree_of h ns ≡ leaf (leaf_of (get_or ns 0 d))
tree-first h ns d e len = tree-leaf h ns (get_or ns 0 d) e len (get_or_default ns 0 d (get_or ns 0 d) (omega (arith, span_pos h)))

-- a line has a first node
pub first_below : (h : ℕ) (ns : List Node) → length ns ≡ span h → 0 < length ns
first_below h ns len = omega (arith, span_pos h)

-- the halves of a line and the node between them, as calls hand them back
module _ (h : ℕ) (ns : List Node) (above : h ≡ 0 → ⊥) (len : length ns ≡ span h) where
  pub tree-node : {l r : List Node} {x : Node} → l ≡ left_half ns → r ≡ right_half ns → x ≡ get_or ns (middle (length ns)) x →
      tree_of h ns ≡ node (parent_of x) (tree_of (h - 1) l) (tree_of (h - 1) r)
  tree-node {l} {r} {x} il ir ix = rw (il, ir) (at h above len)
    where
      at : (h : ℕ) → (h ≡ 0 → ⊥) → length ns ≡ span h →
          tree_of h ns ≡ node (parent_of x) (tree_of (h - 1) (left_half ns)) (tree_of (h - 1) (right_half ns))
      at zero a e = absurd (a refl)
      at (suc n) a e =
          let top : x ≡ get_or ns (span n) no_node =
          ix ∙ get_or_default ns (middle (length ns)) x no_node (omega (arith, span_pos (suc n)))
          ∙ ap (λ (i : ℕ). get_or ns i no_node) (middle-is n ns e) in
          rw (height-below n, left-half-is n ns e, right-half-is n ns e, top) (tree-suc n ns)

  pub left-span : {l : List Node} → l ≡ left_half ns → length l ≡ span (h - 1)
  left-span il = ap length il ∙ at h above len
    where
      at : (h : ℕ) → (h ≡ 0 → ⊥) → length ns ≡ span h → length (left_half ns) ≡ span (h - 1)
      at zero a e = absurd (a refl)
      at (suc n) a e = rw (height-below n) (left-length n ns e)

  pub right-span : {r : List Node} → r ≡ right_half ns → length r ≡ span (h - 1)
  right-span ir = ap length ir ∙ at h above len
    where
      at : (h : ℕ) → (h ≡ 0 → ⊥) → length ns ≡ span h → length (right_half ns) ≡ span (h - 1)
      at zero a e = absurd (a refl)
      at (suc n) a e = rw (height-below n) (right-length n ns e)

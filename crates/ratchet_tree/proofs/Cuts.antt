-- A line of nodes cut at its middle node, and what stands where after a part of it was written.
-- `Cut g ns l x r`: the line ns is l, then x, then r, each half of height g. One write after another keeps a cut.
-- Assumes nothing.
use Rattle.std.proofs.Common.{◌≡◌, ℕ, zero, suc, ◌+◌, ◌-◌, ◌/◌, ◌<◌, ◌≤◌, List, ◌∷◌, ◌++◌, length, get_or, take, drop, set, sym, refl, ap, ◌∙◌, arith}
use borrow.Rule.Slice.PartMut.{put_mid, post_of}
use Rattle.std.proofs.lemmas.List.{take_all, get_or-set_same, length-append}
use Rattle.tree_math.specs.Span.{span, left_half, right_half}
use Rattle.tree_math.proofs.Span.{span-suc, span_pos, split-nodes, take-length, drop-length, built-left, built-middle, built-right, built-length, middle-set-is, left-write-is, right-write-is}
use Rattle.theory.specs.Tree.{leaf, node}
use Rattle.ratchet_tree.specs.declared.node.Node.{Node}
use Rattle.ratchet_tree.specs.Nodes.{leaf_of, parent_of, tree_of, no_node}
use Rattle.ratchet_tree.proofs.Trees.{tree-suc}

pub record Cut {A : Type 0} (g : ℕ) (ns l : List A) (x : A) (r : List A) : Type 0 where
  pub is : ns ≡ l ++ x ∷ r
  pub left : length l ≡ span g
  pub right : length r ≡ span g

-- every line of more than one level can be cut
pub cut_of : {A : Type 0} (g : ℕ) (ns : List A) (d : A) → length ns ≡ span (suc g) →
    Cut g ns (take (span g) ns) (get_or ns (span g) d) (drop (span g + 1) ns)
cut_of g ns d len = record { is = split-nodes g ns len d; left = take-length g ns len; right = drop-length g ns len }

module _ {A : Type 0} {g : ℕ} {ns l : List A} {x : A} {r : List A} (c : Cut g ns l x r) where
  pub cut-length : length ns ≡ span (suc g)
  cut-length = ap length c.is ∙ built-length g l x r c.left c.right

  pub cut-middle : length ns / 2 ≡ span g
  cut-middle = omega (arith, cut-length, span-suc g)

  -- the halves, as slices of the line
  pub cut-take : (n : ℕ) → n ≡ span g → take n ns ≡ l
  cut-take n e = ap (λ (k : ℕ). take k ns) e ∙ ap (λ s. take (span g) s) c.is ∙ built-left g l x r c.left

  pub cut-drop : (n : ℕ) → n ≡ span g + 1 → drop n ns ≡ r
  cut-drop n e = ap (λ (k : ℕ). drop k ns) e ∙ ap (λ s. drop (span g + 1) s) c.is ∙ built-right g l x r c.left

  pub cut-rest : (k n : ℕ) → n ≡ span g + 1 → k ≡ length ns - n → take k (drop n ns) ≡ r
  cut-rest k n e f = ap (λ s. take k s) (cut-drop n e) ∙ take_all k r (omega (arith, cut-length, span-suc g, c.right))

  pub cut-get : (n : ℕ) (d : A) → n ≡ span g → get_or ns n d ≡ x
  cut-get n d e = ap (λ (k : ℕ). get_or ns k d) e ∙ ap (λ s. get_or s (span g) d) c.is ∙ built-middle g l x r c.left d

  -- the middle node is written
  pub cut-set : (n : ℕ) (y : A) → n ≡ span g → Cut g (set ns n y) l y r
  cut-set n y e =
      record {
        is =
            ap (λ (k : ℕ). set ns k y) e ∙ middle-set-is g ns cut-length y
            ∙ ap (λ s. s ++ y ∷ drop (span g + 1) ns) (cut-take (span g) refl) ∙ ap (λ s. l ++ y ∷ s) (cut-drop (span g + 1) refl);
        left = c.left;
        right = c.right;
      }

  -- the left half is written
  pub cut-write-left : (k : ℕ) (ys : List A) → k ≡ span g → length ys ≡ span g → Cut g (ys ++ post_of 0 k ns) ys x r
  cut-write-left k ys e n =
      record {
        is =
            left-write-is g k ns ys cut-length e n x ∙ ap (λ y. ys ++ y ∷ drop (span g + 1) ns) (cut-get (span g) x refl)
            ∙ ap (λ s. ys ++ x ∷ s) (cut-drop (span g + 1) refl);
        left = n;
        right = c.right;
      }

  -- the right half is written
  pub cut-write-right : (a k : ℕ) (zs : List A) → a ≡ span g + 1 → k ≡ span g → length zs ≡ span g → Cut g (put_mid a k ns zs) l x zs
  cut-write-right a k zs e f n =
      record {
        is =
            right-write-is g a k ns zs cut-length e f n x ∙ ap (λ y. take (span g) ns ++ y ∷ zs) (cut-get (span g) x refl)
            ∙ ap (λ s. s ++ x ∷ zs) (cut-take (span g) refl);
        left = c.left;
        right = n;
      }

-- the tree of a line that is cut
pub cut-tree : {g : ℕ} {ns l : List Node} {x : Node} {r : List Node} → Cut g ns l x r → tree_of (suc g) ns ≡ node (parent_of x) (tree_of g l) (tree_of g r)
cut-tree {g} {ns} {l} {x} {r} c =
    tree-suc g ns
    ∙ ap (λ y. node (parent_of y) (tree_of g (take (span g) ns)) (tree_of g (drop (span g + 1) ns))) (cut-get c (span g) no_node refl)
    ∙ ap (λ s. node (parent_of x) (tree_of g s) (tree_of g (drop (span g + 1) ns))) (cut-take c (span g) refl)
    ∙ ap (λ s. node (parent_of x) (tree_of g l) (tree_of g s)) (cut-drop c (span g + 1) refl)

-- a height that isn't 0 is one above the height below it
pub above-0 : (h : ℕ) → (h ≡ 0 → ⊥) → suc (h - 1) ≡ h
above-0 zero a = absurd (a refl)
above-0 (suc h) a = omega arith

-- the cut that a recursion on a line of height h begins with
module _ (h : ℕ) (ns : List Node) (above : h ≡ 0 → ⊥) (len : length ns ≡ span h) where
  pub lower-length : length ns ≡ span (suc (h - 1))
  lower-length = len ∙ ap span (sym (above-0 h above))

  pub cut-start : Cut (h - 1) ns (take (span (h - 1)) ns) (get_or ns (span (h - 1)) no_node) (drop (span (h - 1) + 1) ns)
  cut-start = cut_of (h - 1) ns no_node lower-length

  pub middle-at : length ns / 2 ≡ span (h - 1)
  middle-at = cut-middle cut-start

  pub middle-within : length ns / 2 < length ns
  middle-within = omega (arith, span_pos h, len)

-- a line handed back as its left half and the rest, and the rest taken apart
pub handed-back : (h : ℕ) (ns l s : List Node) (x : Node) (r : List Node) → (h ≡ 0 → ⊥) → length ns ≡ span h →
    ns ≡ l ++ s → length l ≡ length ns / 2 → s ≡ x ∷ r → Cut (h - 1) ns l x r
handed-back h ns l s x r above len whole half rest =
    let is : ns ≡ l ++ x ∷ r = whole ∙ ap (λ t. l ++ t) rest in
    record {
      is = is;
      left = half ∙ middle-at h ns above len;
      right = omega (arith, half, ap length is, length-append l (x ∷ r), lower-length h ns above len, span-suc (h - 1));
    }

-- a rest is there
pub rest-there : (h : ℕ) (ns l s : List Node) → (h ≡ 0 → ⊥) → length ns ≡ span h → ns ≡ l ++ s → length l ≡ length ns / 2 → length s ≡ 0 → ⊥
rest-there h ns l s above len whole half z = omega (arith, z, ap length whole, length-append l s, half, middle-within h ns above len)

-- the tree of height h of a line that is cut
pub cut-tree-at : (h : ℕ) → (h ≡ 0 → ⊥) → {ns l : List Node} {x : Node} {r : List Node} → Cut (h - 1) ns l x r →
    tree_of h ns ≡ node (parent_of x) (tree_of (h - 1) l) (tree_of (h - 1) r)
cut-tree-at h above {ns} c = ap (λ (k : ℕ). tree_of k ns) (sym (above-0 h above)) ∙ cut-tree c

-- a line of one node, written
pub leaf-set : (h : ℕ) (ns : List Node) (x : Node) → h ≡ 0 → length ns ≡ span h → tree_of h (set ns 0 x) ≡ leaf (leaf_of x)
unfolding tree_of span
leaf-set zero ns x e len = ap (λ (y : Node). leaf (leaf_of y)) (get_or-set_same ns 0 x no_node (omega (arith, len)))
leaf-set (suc h) ns x e len = absurd (omega arith)

-- the line with its middle node written
abbrev pub marked : List Node → Node → List Node
marked ns y = set ns (length ns / 2) y

-- what stands behind the middle, as a slice of a line that is as long
abbrev pub behind : List Node → List Node → List Node
behind ns ms = take (length ms - (length ns / 2 + 1)) (drop (length ns / 2 + 1) ms)

-- the line with its left half written, or its right half, after some other writes
abbrev pub left_put : List Node → List Node → List Node → List Node
left_put ns ms ys = ys ++ post_of 0 (length ns / 2 - 0) ms

abbrev pub right_put : List Node → List Node → List Node → List Node
right_put ns ms zs = put_mid (length ns / 2 + 1) (length ms - (length ns / 2 + 1)) ms zs

module _ (h : ℕ) (ns : List Node) (above : h ≡ 0 → ⊥) (len : length ns ≡ span h) where
  at-half : length ns / 2 - 0 ≡ span (h - 1)
  at-half = omega (arith, middle-at h ns above len)

  at-past : length ns / 2 + 1 ≡ span (h - 1) + 1
  at-past = omega (arith, middle-at h ns above len)

  pub start-tree : tree_of h ns ≡ node (parent_of (get_or ns (span (h - 1)) no_node)) (tree_of (h - 1) (take (span (h - 1)) ns)) (tree_of (h - 1) (drop (span (h - 1) + 1) ns))
  start-tree = cut-tree-at h above (cut-start h ns above len)

  pub marked-cut : (y : Node) → Cut (h - 1) (marked ns y) (take (span (h - 1)) ns) y (drop (span (h - 1) + 1) ns)
  marked-cut y = cut-set (cut-start h ns above len) (length ns / 2) y (middle-at h ns above len)

  -- the halves that are handed back
  pub left-half-at : left_half ns ≡ take (span (h - 1)) ns
  left-half-at = cut-take (cut-start h ns above len) (length ns / 2) (middle-at h ns above len)

  pub right-half-at : right_half ns ≡ drop (span (h - 1) + 1) ns
  right-half-at = cut-drop (cut-start h ns above len) (length ns / 2 + 1) at-past

  -- the middle node, read by whatever default
  pub middle-node : (d : Node) → get_or ns (length ns / 2) d ≡ get_or ns (span (h - 1)) no_node
  middle-node d = cut-get (cut-start h ns above len) (length ns / 2) d (middle-at h ns above len)

  module _ {ms l : List Node} {x : Node} {r : List Node} (c : Cut (h - 1) ms l x r) where
    -- the left half of a line that is as long, and its length
    pub left_is : take (length ns / 2 - 0) ms ≡ l
    left_is = cut-take c (length ns / 2 - 0) at-half

    pub left-long : length (take (length ns / 2 - 0) ms) ≡ span (h - 1)
    left-long = ap length left_is ∙ c.left

    pub right_is : behind ns ms ≡ r
    right_is = cut-rest c (length ms - (length ns / 2 + 1)) (length ns / 2 + 1) at-past refl

    pub right-long : length (behind ns ms) ≡ span (h - 1)
    right-long = ap length right_is ∙ c.right

    pub past-middle : length ns / 2 + 1 ≤ length ms
    past-middle = omega (arith, cut-length c, at-past, span-suc (h - 1))

    pub left-put : (ys : List Node) → length ys ≡ length (take (length ns / 2 - 0) ms) → Cut (h - 1) (left_put ns ms ys) ys x r
    left-put ys e = cut-write-left c (length ns / 2 - 0) ys at-half (e ∙ left-long)

    pub right-put : (zs : List Node) → length zs ≡ length (behind ns ms) → Cut (h - 1) (right_put ns ms zs) l x zs
    right-put zs e =
        cut-write-right c (length ns / 2 + 1) (length ms - (length ns / 2 + 1)) zs at-past (omega (arith, cut-length c, at-past, span-suc (h - 1))) (e ∙ right-long)

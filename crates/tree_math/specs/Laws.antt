-- The laws of the numbering, above the walks; each is the contract of a function of the same name.
-- `Numbering`: which index a node has; `Covers`: which leaves it stands over; `LeafPlaces`: the leaves; `ChildHeights`, `ChildlessLeaves`: the nodes below a node;
-- `ParentOfChildren`, `ChildrenOfParent`: up and down again; `RootHasNoParent`: where the way up ends; `Outside`: past the last node.
-- Assumes nothing.
use Rattle.std.specs.Prelude.{◌≡◌, ℕ, zero, suc, ◌+◌, ◌-◌, ◌*◌, ◌%◌, ◌^◌, ◌<◌, ◌≤◌, ◌⊎◌, ◌↔◌, Some, None, Option}
use Rattle.tree_math.specs.Index.{root_of, height_of, parent_of, left_of, right_of, leaf_of}
use Rattle.tree_math.specs.Span.{span}

-- the index of the k-th node of height h, the one over the leaves a to a + 2 ^ h - 1 for a = k * 2 ^ h
abbrev pub node_over : ℕ → ℕ → ℕ
node_over h k = 2 * (k * 2 ^ h) + 2 ^ h - 1

-- that index has height h in every tree with so many nodes of the height, and each index in a tree is one of them
abbrev pub Numbering : Type 0
Numbering =
    ((d h k : ℕ) → h ≤ d → k < 2 ^ (d - h) → height_of d (node_over h k) ≡ Some h)
    × ((d i : ℕ) → i < span d → (h : ℕ) × (k : ℕ) × (h ≤ d) × (k < 2 ^ (d - h)) × (height_of d i ≡ Some h) × (i ≡ node_over h k))

-- on from an index that is there
abbrev pub onward : Option ℕ → (ℕ → Option ℕ) → Option ℕ
onward None f = None
onward (Some i) f = f i

-- the node that n steps to the left lead down to, and n steps to the right
unfoldable pub leftmost : ℕ → ℕ → ℕ → Option ℕ
leftmost d zero i = Some i
leftmost d (suc n) i = onward (left_of d i) (leftmost d n)

unfoldable pub rightmost : ℕ → ℕ → ℕ → Option ℕ
rightmost d zero i = Some i
rightmost d (suc n) i = onward (right_of d i) (rightmost d n)

-- the node stands over the leaves a to a + 2 ^ h - 1, a = k * 2 ^ h: its first leaf is a, its last a + 2 ^ h - 1
abbrev pub Covers : Type 0
Covers =
    (d h k : ℕ) → h ≤ d → k < 2 ^ (d - h)
    → (leftmost d h (node_over h k) ≡ Some (2 * (k * 2 ^ h))) × (rightmost d h (node_over h k) ≡ Some (2 * (k * 2 ^ h + 2 ^ h - 1)))

-- the k-th leaf stands at 2 k, there are 2 ^ d of them, and the nodes at even indices are the leaves
abbrev pub LeafPlaces : Type 0
LeafPlaces =
    ((d k : ℕ) → k < 2 ^ d → (leaf_of d k ≡ Some (2 * k)) × (height_of d (2 * k) ≡ Some 0))
    × ((d k : ℕ) → 2 ^ d ≤ k → leaf_of d k ≡ None)
    × ((d i : ℕ) → i < span d → (height_of d i ≡ Some 0) ↔ (i % 2 ≡ 0))

-- a node above the leaves has both children, 2 ^ h before and behind it, each of one height less
abbrev pub ChildHeights : Type 0
ChildHeights =
    (d i h : ℕ) → height_of d i ≡ Some (suc h)
    → (left_of d i ≡ Some (i - 2 ^ h)) × (right_of d i ≡ Some (i + 2 ^ h)) × (height_of d (i - 2 ^ h) ≡ Some h) × (height_of d (i + 2 ^ h) ≡ Some h)

-- a leaf has none
abbrev pub ChildlessLeaves : Type 0
ChildlessLeaves = (d i : ℕ) → height_of d i ≡ Some 0 → (left_of d i ≡ None) × (right_of d i ≡ None)

-- the parent of a node's child is the node
abbrev pub ParentOfChildren : Type 0
ParentOfChildren =
    (d i c : ℕ) → (left_of d i ≡ Some c → parent_of d c ≡ Some i) × (right_of d i ≡ Some c → parent_of d c ≡ Some i)

-- a node is a child of its parent
abbrev pub ChildrenOfParent : Type 0
ChildrenOfParent = (d i c : ℕ) → parent_of d c ≡ Some i → (left_of d i ≡ Some c) ⊎ (right_of d i ≡ Some c)

-- the root is of the tree's height, and it is the one node without a parent
abbrev pub RootHasNoParent : Type 0
RootHasNoParent =
    (d : ℕ)
    → (height_of d (root_of d) ≡ Some d) × (parent_of d (root_of d) ≡ None) × ((i : ℕ) → i < span d → parent_of d i ≡ None → i ≡ root_of d)

-- an index past the last node has no height, no parent and no children
abbrev pub Outside : Type 0
Outside =
    (d i : ℕ) → span d ≤ i
    → (height_of d i ≡ None) × (parent_of d i ≡ None) × (left_of d i ≡ None) × (right_of d i ≡ None)

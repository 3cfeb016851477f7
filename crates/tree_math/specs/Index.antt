-- The places of a tree's nodes, each found by a walk from the top: compare with the middle node, then go on in the part on that side.
-- `root_of`: the root; `height_of`, `parent_of`, `left_of`, `right_of`: of the node at an index, none outside the tree;
-- `leaf_of`: the node index of the leaf at a position; `by_side`, `from_right`: a step of the walk;
-- `in_depth`, `node_of`: as the code answers.
-- Assumes nothing.
use Rattle.std.specs.Prelude.{ℕ, zero, suc, ◌+◌, ◌-◌, ◌^◌, cond, Some, None, Option, ◌==◌, nat_le, nat_lt}
use Rattle.std.specs.Option.{option_map}
use Rattle.theory.specs.Limits.{max_depth}
use Rattle.tree_math.specs.declared.index.NodeIndex.{NodeIndex}
use Rattle.tree_math.specs.Span.{span, middle}

-- the first where index i stands before the middle node, the second at that node, the third where it stands behind
abbrev pub by_side : {X : Type 0} → ℕ → ℕ → X → X → X → X
by_side mid i before here behind = cond (i == mid) here (cond (nat_lt i mid) before behind)

-- an index in the right part of a tree of height h + 1, as an index in the tree
abbrev pub from_right : ℕ → Option ℕ → Option ℕ
from_right h o = option_map (λ n. span h + 1 + n) o

-- the index of the root: the middle node
abbrev pub root_of : ℕ → ℕ
root_of d = middle (span d)

-- how far the node is above the leaves
unfoldable pub height_of : ℕ → ℕ → Option ℕ
height_of zero i = cond (i == 0) (Some 0) None
height_of (suc h) i = by_side (span h) i (height_of h i) (Some (suc h)) (height_of h (i - (span h + 1)))

-- the node above: for the root of either part it is the middle node
unfoldable pub parent_of : ℕ → ℕ → Option ℕ
parent_of zero i = None
parent_of (suc h) i =
    by_side (span h) i (cond (i == root_of h) (Some (span h)) (parent_of h i)) None
    (cond (i - (span h + 1) == root_of h) (Some (span h)) (from_right h (parent_of h (i - (span h + 1)))))

-- the child on the left: the root of the part before the node
unfoldable pub left_of : ℕ → ℕ → Option ℕ
left_of zero i = None
left_of (suc h) i = by_side (span h) i (left_of h i) (Some (root_of h)) (from_right h (left_of h (i - (span h + 1))))

-- the child on the right: the root of the part behind the node
unfoldable pub right_of : ℕ → ℕ → Option ℕ
right_of zero i = None
right_of (suc h) i =
    by_side (span h) i (right_of h i) (Some (span h + 1 + root_of h)) (from_right h (right_of h (i - (span h + 1))))

-- the node index of the k-th leaf: each of the two parts has 2 ^ h of them
unfoldable pub leaf_of : ℕ → ℕ → Option ℕ
leaf_of zero k = cond (k == 0) (Some 0) None
leaf_of (suc h) k = cond (nat_lt k (2 ^ h)) (leaf_of h k) (from_right h (leaf_of h (k - 2 ^ h)))

-- the answer for a tree of depth d, none where it is too deep
abbrev pub in_depth : {X : Type 0} → ℕ → Option X → Option X
in_depth d o = cond (nat_le d max_depth) o None

-- an index as the code has it
abbrev pub node_of : Option ℕ → Option NodeIndex
node_of o = option_map (λ n. record { 0 = n }) o

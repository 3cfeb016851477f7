-- The tree that a line of nodes stands for.
-- `leaf_of`, `parent_of`: a node taken as a leaf or as a parent; `seen`: both; `tree_of`: the tree of a height in a line of nodes.
-- Assumes nothing.
use Rattle.std.specs.Prelude.{ℕ, zero, suc, ◌+◌, List, map, take, drop, vec_items, slice_index_or}
use Rattle.tree_math.specs.Span.{span}
use Rattle.theory.specs.Tree as theory
use Rattle.ratchet_tree.specs.declared.member.MemberId.{MemberId}
use Rattle.ratchet_tree.specs.declared.member.PublicKey.{PublicKey}
use Rattle.ratchet_tree.specs.declared.node.Leaf as leaf
use Rattle.ratchet_tree.specs.declared.node.Parent as parent
use Rattle.ratchet_tree.specs.declared.node.Node as node

-- the number of each member
abbrev pub numbers : List MemberId → List ℕ
numbers ms = map (λ (m : MemberId). m.0) ms

abbrev pub as_leaf : leaf.Leaf → theory.Leaf PublicKey
as_leaf leaf.TheVariants.Blank = theory.blank_leaf
as_leaf (leaf.TheVariants.Occupied m k) = theory.occupied m.0 k

abbrev pub as_parent : parent.Parent → theory.Parent PublicKey
as_parent parent.TheVariants.Blank = theory.blank_parent
as_parent (parent.TheVariants.Keyed k un) = theory.keyed k (numbers (vec_items un))

-- a node where a leaf is due; a parent there counts as a blank leaf
abbrev pub leaf_of : node.Node → theory.Leaf PublicKey
leaf_of (node.TheVariants.Leaf x) = as_leaf x
leaf_of (node.TheVariants.Parent p) = theory.blank_leaf

-- a node where a parent is due; a leaf there counts as a blank parent
abbrev pub parent_of : node.Node → theory.Parent PublicKey
parent_of (node.TheVariants.Leaf x) = theory.blank_parent
parent_of (node.TheVariants.Parent p) = as_parent p

-- all that a tree can show of a node
abbrev pub seen : node.Node → theory.Leaf PublicKey × theory.Parent PublicKey
seen n = (leaf_of n, parent_of n)

-- what stands past the end of a line
abbrev pub no_node : node.Node
no_node = node.TheVariants.Leaf leaf.TheVariants.Blank

-- the tree of height h that the first nodes of a line stand for: the middle node is its top
unfoldable pub tree_of : ℕ → List node.Node → theory.Tree PublicKey
tree_of zero ns = theory.leaf (leaf_of (slice_index_or ns 0 no_node))
tree_of (suc h) ns =
    theory.node (parent_of (slice_index_or ns (span h) no_node)) (tree_of h (take (span h) ns)) (tree_of h (drop (span h + 1) ns))

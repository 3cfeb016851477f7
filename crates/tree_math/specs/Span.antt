-- How many nodes a part of a tree has, and its halves in a line of nodes.
-- `span h`: the nodes of a part of height h; `left_half`, `right_half`, `middle`: a node list cut at its middle node.
-- Assumes nothing.
use Rattle.std.specs.Prelude.{ℕ, zero, suc, ◌+◌, ◌/◌, List, length, take, drop}

-- the nodes of a part of height h: two parts of one height less, and the node between them
unfoldable pub span : ℕ → ℕ
span zero = 1
span (suc h) = span h + 1 + span h

-- the index of the middle node of a line of n nodes
abbrev pub middle : ℕ → ℕ
middle n = n / 2

-- what stands before the middle node, and what stands behind it
abbrev pub left_half : {A : Type 0} → List A → List A
left_half ns = take (middle (length ns)) ns

abbrev pub right_half : {A : Type 0} → List A → List A
right_half ns = drop (middle (length ns) + 1) ns

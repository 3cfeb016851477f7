-- The lines that are printed: one for each commit, or the number of a refusal.
-- `led_by b words`: words, each behind a byte; `behind_bytes ms`, `members_bytes ms`: members' numbers with commas between;
-- `cell_bytes c`, `nodes_bytes cs`: a tree's nodes; `cell_at i n`: the node n at index i of a line;
-- `counts_bytes e b k`, `report_bytes e b k t`: the line of a commit; `refusal_bytes n`: the line of a refusal.
-- Assumes nothing.
use Rattle.std.specs.Prelude.{ℕ, ◌%◌, cond, List, [], ◌∷◌, ◌++◌, map, ◌==◌}
use Rattle.theory.specs.Tree.{Tree}
use Rattle.theory.specs.Worked.{Cell, blank, seat, star, cells, leaf_cell, parent_cell}
use Rattle.ratchet_tree.specs.Nodes.{leaf_of, parent_of}
use Rattle.ratchet_tree.specs.declared.node.Node.{Node}
use Rattle.scripts.specs.Decimal.{decimal}

-- words, each behind the byte b
abbrev pub led_by : ℕ → List (List ℕ) → List ℕ
led_by b [] = []
led_by b (word ∷ words) = b ∷ word ++ led_by b words

-- members' numbers, each behind a comma
abbrev pub behind_bytes : List ℕ → List ℕ
behind_bytes ms = led_by 44 (map decimal ms)

-- members' numbers with commas between
abbrev pub members_bytes : List ℕ → List ℕ
members_bytes [] = []
members_bytes (m ∷ ms) = decimal m ++ behind_bytes ms

-- a node: `.` where it is blank, a leaf's member, or `*` and the unmerged members of a parent
abbrev pub cell_bytes : Cell → List ℕ
cell_bytes blank = 46 ∷ []
cell_bytes (seat m) = decimal m
cell_bytes (star unmerged) = 42 ∷ members_bytes unmerged

-- the node at an index of a line: a leaf at an even one, a parent at an odd one
abbrev pub cell_at : ℕ → Node → Cell
cell_at i n = cond (i % 2 == 0) (leaf_cell (leaf_of n)) (parent_cell (parent_of n))

-- nodes, each behind a space
abbrev pub nodes_bytes : List Cell → List ℕ
nodes_bytes cs = led_by 32 (map cell_bytes cs)

-- three numbers one space apart
abbrev pub counts_bytes : ℕ → ℕ → ℕ → List ℕ
counts_bytes epoch boxes keys = decimal epoch ++ 32 ∷ decimal boxes ++ 32 ∷ decimal keys

-- the epoch, how many boxes and how many node keys, and behind them the tree's nodes
abbrev pub report_bytes : {K : Type 0} → ℕ → ℕ → ℕ → Tree K → List ℕ
report_bytes epoch boxes keys t = counts_bytes epoch boxes keys ++ nodes_bytes (cells t) ++ 10 ∷ []

-- the number of a refusal alone
abbrev pub refusal_bytes : ℕ → List ℕ
refusal_bytes n = decimal n ++ 10 ∷ []

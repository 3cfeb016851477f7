-- A tree file as bytes.
-- `leaf_bytes`, `members_bytes`, `parent_bytes`, `nodes_bytes`: the nodes from index 0; `encode_tree`: the file of an epoch, a depth and a tree;
-- `FitsLeaf`, `FitsMembers`, `FitsParent`, `FitsPart`, `FitsTree`: every number fits its width, every half has 32 bytes, and every leaf lies at the same depth;
-- `FitsFile`, `file_head`, `file_head_bytes`: the front of a file; `Parsed`: what reading answers; `FindsParent`, `Grew`, `FindsPart`: its steps.
-- Assumes nothing.
use Rattle.std.specs.Borrow.{Bor}
use Rattle.std.specs.Prelude.{◌≡◌, ℕ, zero, suc, ◌<◌, ◌≤◌, List, [], ◌∷◌, ◌++◌, length, Ok, Err, Result, ◌≢◌}
use Rattle.theory.specs.Limits.{max_depth}
use Rattle.theory.specs.Tree.{Tree, leaf, node, Leaf, blank_leaf, occupied, Parent, blank_parent, keyed}
use Rattle.tree_math.specs.Span.{span}
use Rattle.ratchet_tree.specs.Nodes.{as_parent, tree_of}
use Rattle.ratchet_tree.specs.declared.member.PublicKey.{PublicKey}
use Rattle.ratchet_tree.specs.declared.node.Node.{Node}
use Rattle.ratchet_tree.specs.declared.node.Parent as parent
use Rattle.wire.specs.Bytes.{be16, be32, key_bytes, Half}
use Rattle.commits.specs.declared.change.Epoch.{Epoch}
use Rattle.ratchet_tree.specs.Trees.{the_tree}
use Rattle.ratchet_tree.specs.declared.tree.RatchetTree.{RatchetTree}
use Rattle.messages.specs.declared.tree_file.FileHeader.{FileHeader}
use Rattle.messages.specs.declared.tree_file.FileError.{FileError}
use Rattle.messages.specs.declared.tree_file.FileError.TheVariants.{Malformed, OutOfMemory}

abbrev pub leaf_bytes : Leaf PublicKey → List ℕ
leaf_bytes blank_leaf = 0 ∷ []
leaf_bytes (occupied m k) = 1 ∷ be16 m ++ key_bytes k

abbrev pub members_bytes : List ℕ → List ℕ
members_bytes [] = []
members_bytes (m ∷ ms) = be16 m ++ members_bytes ms

abbrev pub parent_bytes : Parent PublicKey → List ℕ
parent_bytes blank_parent = 0 ∷ []
parent_bytes (keyed k un) = 1 ∷ key_bytes k ++ (be16 (length un) ++ members_bytes un)

-- leaves and parents in turn
unfoldable pub nodes_bytes : Tree PublicKey → List ℕ
nodes_bytes (leaf x) = leaf_bytes x
nodes_bytes (node p l r) = nodes_bytes l ++ (parent_bytes p ++ nodes_bytes r)

abbrev pub file_head : ℕ → ℕ → List ℕ
file_head e d = 6 ∷ be32 e ++ d ∷ []

unfoldable pub encode_tree : ℕ → ℕ → Tree PublicKey → List ℕ
encode_tree e d t = file_head e d ++ nodes_bytes t

abbrev pub FitsLeaf : Leaf PublicKey → Type 0
FitsLeaf blank_leaf = Unit {0}
FitsLeaf (occupied m k) = (m < 65536) × Half k

abbrev pub FitsMembers : List ℕ → Type 0
FitsMembers [] = Unit {0}
FitsMembers (m ∷ ms) = (m < 65536) × FitsMembers ms

abbrev pub FitsParent : Parent PublicKey → Type 0
FitsParent blank_parent = Unit {0}
FitsParent (keyed k un) = Half k × (length un < 65536) × FitsMembers un

-- a tree of that height
unfoldable pub FitsPart : ℕ → Tree PublicKey → Type 0
FitsPart zero (leaf x) = FitsLeaf x
FitsPart zero (node p l r) = ⊥
FitsPart (suc h) (leaf x) = ⊥
FitsPart (suc h) (node p l r) = FitsPart h l × FitsParent p × FitsPart h r

pub record FitsTree (e d : ℕ) (t : Tree PublicKey) : Type 0 where
  pub epoch : e < 4294967296
  pub depth : d ≤ max_depth
  pub nodes : FitsPart d t

-- the front of a file
abbrev pub FitsFile : FileHeader → Type 0
FitsFile h = (h.epoch.0 < 4294967296) × (h.depth ≤ max_depth)

abbrev pub file_head_bytes : FileHeader → List ℕ
file_head_bytes h = file_head h.epoch.0 h.depth

-- the bytes are those of an epoch and a tree, or of none
abbrev pub Parsed : List ℕ → Result (Epoch × RatchetTree) FileError → Type 0
Parsed b (Ok p) = FitsTree p.0.0 p.1.depth (the_tree p.1) × (b ≡ encode_tree p.0.0 p.1.depth (the_tree p.1))
Parsed b (Err Malformed) = (e d : ℕ) (t : Tree PublicKey) → FitsTree e d t → b ≢ encode_tree e d t
Parsed b (Err OutOfMemory) = Unit {0}

-- a parent at the front of some bytes
abbrev pub FindsParent : List ℕ → Result (parent.Parent × Bor (List ℕ)) FileError → Type 0
FindsParent b (Ok p) = FitsParent (as_parent p.0) × (b ≡ parent_bytes (as_parent p.0) ++ p.1.now)
FindsParent b (Err Malformed) = (p : Parent PublicKey) (rest : List ℕ) → FitsParent p → b ≢ parent_bytes p ++ rest
FindsParent b (Err OutOfMemory) = Unit {0}

-- the nodes of a part of some height were appended
pub record Grew (h : ℕ) (b : List ℕ) (before after : List Node) (rest : List ℕ) : Type 0 where
  pub new : List Node
  pub items : after ≡ before ++ new
  pub len : length new ≡ span h
  pub fits : FitsPart h (tree_of h new)
  pub bytes : b ≡ nodes_bytes (tree_of h new) ++ rest

abbrev pub FindsPart : ℕ → List ℕ → List Node → List Node → Result (Bor (List ℕ)) FileError → Type 0
FindsPart h b before after (Ok rest) = Grew h b before after rest.now
FindsPart h b before after (Err Malformed) = (t : Tree PublicKey) (rest : List ℕ) → FitsPart h t → b ≢ nodes_bytes t ++ rest
FindsPart h b before after (Err OutOfMemory) = Unit {0}

-- The path that the code lays.
-- `is_none`: is there no key to seal to; `key_from`: the node key of a level; `path_laid`: a tree with a member's path of these keys;
-- `left_tree`, `right_tree`: the halves of a line of nodes, as trees; `IsOwnHalf`: the half that a member sits in.
-- Assumes nothing.
use Rattle.std.specs.Prelude.{◌≡◌, ℕ, ◌+◌, ◌-◌, ◌/◌, Bool, true, false, not, List, [], ◌∷◌, length, take, drop, Option, Some, None, slice_index_or, ◌⊎◌}
use Rattle.theory.specs.Path.{Laid, laid}
use Rattle.theory.specs.Tree.{Tree, resolution, seated}
use Rattle.tree_math.specs.Span.{span}
use Rattle.ratchet_tree.specs.Nodes.{tree_of}
use Rattle.ratchet_tree.specs.declared.node.Node.{Node}
use Rattle.ratchet_tree.specs.declared.member.MemberId.{MemberId}
use Rattle.ratchet_tree.specs.declared.member.PublicKey.{PublicKey}
use Rattle.commits.specs.declared.path.OwnHalf.{OwnHalf}
use Rattle.commits.specs.declared.path.PathKeys.{PathKeys}

abbrev pub is_none : {K : Type 0} → List K → Bool
is_none [] = true
is_none (k ∷ ks) = false

-- the i-th key from below; the leaf key past the last one
abbrev pub key_from : PathKeys → ℕ → PublicKey
key_from k i = slice_index_or k.nodes.now i k.leaf

-- the tree with m's path, by these keys
abbrev pub path_laid : MemberId → PathKeys → Tree PublicKey → Laid PublicKey
path_laid m k t = laid m.0 k.leaf (key_from k) t

-- the halves of a line of nodes of height h, as trees
abbrev pub left_tree : ℕ → List Node → Tree PublicKey
left_tree h ns = tree_of (h - 1) (take (span (h - 1)) ns)

abbrev pub right_tree : ℕ → List Node → Tree PublicKey
right_tree h ns = tree_of (h - 1) (drop (span (h - 1) + 1) ns)

pub record InLeft (m h : ℕ) (ns : List Node) (o : OwnHalf) : Type 0 where
  pub seat : seated m (left_tree h ns) ≡ true
  pub start : o.nodes.start ≡ 0
  pub end : o.nodes.end ≡ length ns / 2
  pub reached : o.reached ≡ not (is_none (resolution (right_tree h ns)))

pub record InRight (m h : ℕ) (ns : List Node) (o : OwnHalf) : Type 0 where
  pub not_left : seated m (left_tree h ns) ≡ false
  pub seat : seated m (right_tree h ns) ≡ true
  pub start : o.nodes.start ≡ length ns / 2 + 1
  pub end : o.nodes.end ≡ length ns
  pub reached : o.reached ≡ not (is_none (resolution (left_tree h ns)))

pub record InNeither (m h : ℕ) (ns : List Node) : Type 0 where
  pub not_left : seated m (left_tree h ns) ≡ false
  pub not_right : seated m (right_tree h ns) ≡ false

-- the half that m sits in, the left one first; a part of height 0 has no halves
abbrev pub IsOwnHalf : ℕ → ℕ → List Node → Option OwnHalf → Type 0
IsOwnHalf m h ns None = (h ≡ 0 → ⊥) → InNeither m h ns
IsOwnHalf m h ns (Some o) = InLeft m h ns o ⊎ InRight m h ns o

-- A part of a tree file: its left, the node between, its right.
-- Assumes nothing.
use Rattle.std.proofs.Common.{◌≡◌, ℕ, zero, suc, ◌+◌, List, [], ◌∷◌, ◌++◌, take, drop, Ok, Err, Result, sym, refl, ap, ◌∙◌, subst, ap₂, append_assoc, arith, Bor}
use Rattle.theory.specs.Tree.{Tree, leaf, node, Leaf, Parent}
use Rattle.tree_math.specs.Span.{span}
use Rattle.tree_math.proofs.Span.{built-left, built-middle, built-right, built-length}
use Rattle.ratchet_tree.specs.Nodes.{as_leaf, as_parent, parent_of, tree_of, no_node}
use Rattle.ratchet_tree.proofs.Trees.{tree-suc}
use Rattle.ratchet_tree.specs.declared.member.PublicKey.{PublicKey}
use Rattle.ratchet_tree.specs.declared.node.Leaf as leaf-code
use Rattle.ratchet_tree.specs.declared.node.Parent as parent-code
use Rattle.ratchet_tree.specs.declared.node.Node.{Node}
use Rattle.ratchet_tree.specs.declared.node.Node.TheVariants as node-code
use Rattle.messages.specs.TreeFile.{leaf_bytes, parent_bytes, nodes_bytes, FitsLeaf, FitsParent, FitsPart, Grew, FindsPart, FindsParent}
use Rattle.messages.specs.declared.tree_file.FileError.{FileError}
use Rattle.messages.specs.declared.tree_file.FileError.TheVariants.{Malformed, OutOfMemory}
use Rattle.messages.proofs.Nodes.{node-bytes, peel-part, peel-parent}

-- a leaf
pub leaf-refused : (h : ℕ) (b : List ℕ) → h ≡ 0 → ((x : Leaf PublicKey) (rest : List ℕ) → FitsLeaf x → b ≡ leaf_bytes x ++ rest → ⊥) →
    (t : Tree PublicKey) (rest : List ℕ) → FitsPart h t → b ≡ nodes_bytes t ++ rest → ⊥
unfolding FitsPart nodes_bytes
leaf-refused zero b z none (leaf x) rest f e = none x rest f e
leaf-refused zero b z none (node p l r) rest f e = f
leaf-refused (suc h) b z none t rest f e = absurd (omega arith)

pub leaf-grew : (h : ℕ) (b rest : List ℕ) (before after : List Node) (x : leaf-code.Leaf) → h ≡ 0 → FitsLeaf (as_leaf x) → b ≡ leaf_bytes (as_leaf x) ++ rest →
    after ≡ before ++ node-code.Leaf x ∷ [] → Grew h b before after rest
unfolding FitsPart nodes_bytes tree_of span
leaf-grew zero b rest before after x z f e i = record { new = node-code.Leaf x ∷ []; items = i; len = refl; fits = f; bytes = e }
leaf-grew (suc h) b rest before after x z f e i = absurd (omega arith)

-- the same at a height that is written another way
pub finds-at : (h k : ℕ) (b : List ℕ) (before after : List Node) (r : Result (Bor (List ℕ)) FileError) → suc k ≡ h → FindsPart (suc k) b before after r → FindsPart h b before after r
finds-at h k b before after r e f = subst (λ (n : ℕ). FindsPart n b before after r) e f

-- what isn't a left half is no part
pub left-refused : (k : ℕ) (b : List ℕ) (before after : List Node) (e : FileError) → FindsPart k b before after (Err e) → FindsPart (suc k) b before after (Err e)
unfolding FitsPart
left-refused k b before after Malformed none = λ t rest f g. at t rest f g
  where
    at : (t : Tree PublicKey) (rest : List ℕ) → FitsPart (suc k) t → b ≡ nodes_bytes t ++ rest → ⊥
    at (leaf x) rest f g = f
    at (node p l r) rest f g = none l (parent_bytes p ++ (nodes_bytes r ++ rest)) f.0 (g ∙ node-bytes p l r rest)
left-refused k b before after OutOfMemory none = none

-- a left half was read
module _ (k : ℕ) (b rest₁ : List ℕ) (before nodes₁ : List Node) (g : Grew k b before nodes₁ rest₁) where
  pub left-peeled : (p : Parent PublicKey) (l r : Tree PublicKey) (rest : List ℕ) → FitsPart k l → b ≡ nodes_bytes (node p l r) ++ rest → rest₁ ≡ parent_bytes p ++ (nodes_bytes r ++ rest)
  left-peeled p l r rest f e = (peel-part k (tree_of k g.new) l rest₁ (parent_bytes p ++ (nodes_bytes r ++ rest)) g.fits f (sym g.bytes ∙ e ∙ node-bytes p l r rest)).1

  -- what isn't a parent behind it is no part
  pub parent-refused : (after : List Node) (e : FileError) → FindsParent rest₁ (Err e) → FindsPart (suc k) b before after (Err e)
  unfolding FitsPart
  parent-refused after Malformed none = λ t rest f h. at t rest f h
    where
      at : (t : Tree PublicKey) (rest : List ℕ) → FitsPart (suc k) t → b ≡ nodes_bytes t ++ rest → ⊥
      at (leaf x) rest f h = f
      at (node p l r) rest f h = none p (nodes_bytes r ++ rest) f.1 (left-peeled p l r rest f.0 h)
  parent-refused after OutOfMemory none = none

  -- a parent was read too
  module _ (x : parent-code.Parent) (rest₂ : List ℕ) (nodes₂ : List Node) (fx : FitsParent (as_parent x)) (ex : rest₁ ≡ parent_bytes (as_parent x) ++ rest₂) (ix : nodes₂ ≡ nodes₁ ++ node-code.Parent x ∷ []) where
    right-grew : (nodes₃ : List Node) (rest₃ : List ℕ) → Grew k rest₂ nodes₂ nodes₃ rest₃ → Grew (suc k) b before nodes₃ rest₃
    unfolding FitsPart
    right-grew nodes₃ rest₃ r =
        let line : List Node = g.new ++ node-code.Parent x ∷ r.new in
        let is : tree_of (suc k) line ≡ node (as_parent x) (tree_of k g.new) (tree_of k r.new) =
        tree-suc k line
        ∙ ap (λ (n : Node). node (parent_of n) (tree_of k (take (span k) line)) (tree_of k (drop (span k + 1) line))) (built-middle k g.new (node-code.Parent x) r.new g.len no_node)
        ∙ ap₂ (λ (u v : List Node). node (as_parent x) (tree_of k u) (tree_of k v)) (built-left k g.new (node-code.Parent x) r.new g.len) (built-right k g.new (node-code.Parent x) r.new g.len) in
        record {
          new = line;
          items = r.items ∙ ap (λ (l : List Node). l ++ r.new) (ix ∙ ap (λ (l : List Node). l ++ node-code.Parent x ∷ []) g.items ∙ append_assoc before g.new (node-code.Parent x ∷ []))
              ∙ append_assoc before (g.new ++ node-code.Parent x ∷ []) r.new ∙ ap (λ (l : List Node). before ++ l) (append_assoc g.new (node-code.Parent x ∷ []) r.new);
          len = built-length k g.new (node-code.Parent x) r.new g.len r.len;
          fits = subst (λ (t : Tree PublicKey). FitsPart (suc k) t) (sym is) (g.fits, fx, r.fits);
          bytes = g.bytes ∙ ap (λ (l : List ℕ). nodes_bytes (tree_of k g.new) ++ l) (ex ∙ ap (λ (l : List ℕ). parent_bytes (as_parent x) ++ l) r.bytes)
              ∙ sym (node-bytes (as_parent x) (tree_of k g.new) (tree_of k r.new) rest₃) ∙ ap (λ (t : Tree PublicKey). nodes_bytes t ++ rest₃) (sym is);
        }

    pub right-finds : (nodes₃ : List Node) (r : Result (Bor (List ℕ)) FileError) → FindsPart k rest₂ nodes₂ nodes₃ r → FindsPart (suc k) b before nodes₃ r
    unfolding FitsPart
    right-finds nodes₃ (Ok rest₃) f = right-grew nodes₃ rest₃.now f
    right-finds nodes₃ (Err Malformed) none = λ t rest f h. at t rest f h
      where
        at : (t : Tree PublicKey) (rest : List ℕ) → FitsPart (suc k) t → b ≡ nodes_bytes t ++ rest → ⊥
        at (leaf y) rest f h = f
        at (node p l r) rest f h =
            none r rest f.2 (peel-parent (as_parent x) p rest₂ (nodes_bytes r ++ rest) fx f.1 (sym ex ∙ left-peeled p l r rest f.0 h)).1
    right-finds nodes₃ (Err OutOfMemory) none = none

-- A whole tree file: its front, then its nodes, and nothing more.
-- Assumes nothing.
use Rattle.std.proofs.Common.{◌≡◌, ℕ, ◌<◌, List, [], ◌∷◌, ◌++◌, Err, sym, ap, ◌∙◌, subst, arith}
use Rattle.std.proofs.lemmas.List.{append-nil}
use Rattle.theory.specs.Tree.{Tree}
use Rattle.ratchet_tree.specs.Nodes.{tree_of}
use Rattle.ratchet_tree.specs.declared.member.PublicKey.{PublicKey}
use Rattle.ratchet_tree.specs.declared.node.Node.{Node}
use Rattle.messages.specs.Message.{Message, encode}
use Rattle.messages.specs.TreeFile.{nodes_bytes, file_head, encode_tree, FitsPart, FitsTree, FitsFile, file_head_bytes, Grew, FindsPart, Parsed}
use Rattle.messages.specs.declared.tree_file.FileHeader.{FileHeader}
use Rattle.messages.specs.declared.tree_file.FileError.{FileError}
use Rattle.messages.specs.declared.tree_file.FileError.TheVariants.{Malformed, OutOfMemory}
use Rattle.messages.proofs.Nodes.{peel-part}
use Rattle.wire.proofs.Peeling.{peel-byte, peel-32}

peel-file : (e d e' d' : ℕ) (r s : List ℕ) → e < 4294967296 → e' < 4294967296 → file_head e d ++ r ≡ file_head e' d' ++ s → (e ≡ e') × (d ≡ d') × (r ≡ s)
peel-file e d e' d' r s x y q =
    let a = peel-byte _ _ _ _ q in
    let b = peel-32 e e' (d ∷ r) (d' ∷ s) x y a.1 in
    let c = peel-byte _ _ _ _ b.1 in
    (b.0, c.0, c.1)

-- one reading of a file
pub one-tree : (e d e' d' : ℕ) (t u : Tree PublicKey) → FitsTree e d t → FitsTree e' d' u → encode_tree e d t ≡ encode_tree e' d' u → (e ≡ e') × (d ≡ d') × (t ≡ u)
unfolding encode_tree
one-tree e d e' d' t u f g q =
    let a = peel-file e d e' d' (nodes_bytes t) (nodes_bytes u) f.epoch g.epoch q in
    let p = peel-part d t u [] [] f.nodes (subst (λ (n : ℕ). FitsPart n u) (sym a.1) g.nodes) (append-nil (nodes_bytes t) ∙ a.2 ∙ sym (append-nil (nodes_bytes u))) in
    (a.0, a.1, p.0)

head_of : ℕ → ℕ → FileHeader
head_of e d = record { epoch = record { 0 = e }; depth = d }

pub no_front : (b : List ℕ) → ((h : FileHeader) (rest : List ℕ) → FitsFile h → b ≡ file_head_bytes h ++ rest → ⊥) → (e d : ℕ) (t : Tree PublicKey) → FitsTree e d t → b ≡ encode_tree e d t → ⊥
unfolding encode_tree head_of
no_front b none e d t f g = none (head_of e d) (nodes_bytes t) (f.epoch, f.depth) g

module _ (b : List ℕ) (h : FileHeader) (r : List ℕ) (p : FitsFile h × (b ≡ file_head_bytes h ++ r)) where
  behind : (e d : ℕ) (t : Tree PublicKey) → FitsTree e d t → b ≡ encode_tree e d t → FitsPart h.depth t × (r ≡ nodes_bytes t)
  unfolding encode_tree
  behind e d t f g =
      let a = peel-file h.epoch.0 h.depth e d r (nodes_bytes t) p.0.0 f.epoch (sym p.1 ∙ g) in
      (subst (λ (n : ℕ). FitsPart n t) (sym a.1) f.nodes, a.2)

  pub no-nodes : (before after : List Node) (x : FileError) → FindsPart h.depth r before after (Err x) → Parsed b (Err x)
  no-nodes before after Malformed none = λ e d t f g. let a = behind e d t f g in none t [] a.0 (a.1 ∙ sym (append-nil (nodes_bytes t)))
  no-nodes before after OutOfMemory none = none

  module _ (before after : List Node) (s : List ℕ) (w : Grew h.depth r before after s) where
    pub no_more : (s ≡ [] → ⊥) → (e d : ℕ) (t : Tree PublicKey) → FitsTree e d t → b ≡ encode_tree e d t → ⊥
    no_more some e d t f g =
        let a = behind e d t f g in
        some (peel-part h.depth (tree_of h.depth w.new) t s [] w.fits a.0 (sym w.bytes ∙ a.1 ∙ sym (append-nil (nodes_bytes t)))).1

    pub all_read : before ≡ [] → s ≡ [] → FitsTree h.epoch.0 h.depth (tree_of h.depth after) × (b ≡ encode_tree h.epoch.0 h.depth (tree_of h.depth after))
    unfolding encode_tree
    all_read none end =
        let is : after ≡ w.new = w.items ∙ ap (λ (l : List Node). l ++ w.new) none in
        let t : Tree PublicKey = tree_of h.depth w.new in
        let same : tree_of h.depth after ≡ tree_of h.depth w.new = ap (tree_of h.depth) is in (
          record { epoch = p.0.0; depth = p.0.1; nodes = subst (λ (u : Tree PublicKey). FitsPart h.depth u) (sym same) w.fits },
          p.1 ∙ ap (λ (l : List ℕ). file_head_bytes h ++ l) (w.bytes ∙ ap (λ (l : List ℕ). nodes_bytes (tree_of h.depth w.new) ++ l) end ∙ append-nil (nodes_bytes (tree_of h.depth w.new)) ∙ ap nodes_bytes (sym same)),
        )

pub no-message-is-a-tree : (m : Message) (e d : ℕ) (t : Tree PublicKey) → encode m ≡ encode_tree e d t → ⊥
unfolding encode encode_tree
no-message-is-a-tree m e d t q = let z : ◌≡◌ {A = ℕ} 5 6 = (peel-byte _ _ _ _ q).0 in omega arith

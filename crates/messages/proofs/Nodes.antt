-- The nodes of a tree file, one after the other.
-- Assumes nothing.
use Rattle.std.proofs.Common.{◌≡◌, ℕ, zero, suc, ◌-◌, ◌<◌, ◌≤◌, List, [], ◌∷◌, ◌++◌, length, get_or, take, drop, sym, refl, ap, ◌∙◌, ap₂, append_assoc, arith}
use Rattle.theory.specs.Tree.{Tree, leaf, node, Leaf, blank_leaf, occupied, Parent, blank_parent, keyed}
use Rattle.ratchet_tree.specs.declared.member.PublicKey.{PublicKey}
use Rattle.wire.specs.Bytes.{be16, key_bytes, Half, run_bytes}
use Rattle.messages.specs.TreeFile.{leaf_bytes, parent_bytes, members_bytes, nodes_bytes, FitsLeaf, FitsParent, FitsMembers, FitsPart}
use Rattle.wire.proofs.Fronts.{front-1}
use Rattle.messages.proofs.Members.{members_run}
use Rattle.wire.proofs.Peeling.{peel-byte, peel-16, peel-key}

-- the bytes behind a tag
pub tagged : (b : List ℕ) (n : ℕ) → 1 ≤ length b → get_or b 0 0 ≡ n → b ≡ n ∷ take (length b - 1) (drop 1 b)
tagged b n h e = front-1 b h ∙ ap (λ (k : ℕ). k ∷ take (length b - 1) (drop 1 b)) e

-- an occupied leaf
pub record LeafIs (r rest : List ℕ) : Type 0 where
  pub member : ℕ
  pub key : PublicKey
  pub number : member < 65536
  pub half : Half key
  pub bytes : r ≡ be16 member ++ (key_bytes key ++ rest)

pub leaf-is : (b r : List ℕ) (x : Leaf PublicKey) (rest : List ℕ) → b ≡ 1 ∷ r → FitsLeaf x → b ≡ leaf_bytes x ++ rest → LeafIs r rest
leaf-is b r blank_leaf rest e f g = absurd (omega (arith, (peel-byte _ _ _ _ (sym e ∙ g)).0))
leaf-is b r (occupied m k) rest e f g = record { member = m; key = k; number = f.0; half = f.1; bytes = (peel-byte _ _ _ _ (sym e ∙ g)).1 }

-- a keyed parent
pub record ParentIs (r rest : List ℕ) : Type 0 where
  pub key : PublicKey
  pub unmerged : List ℕ
  pub half : Half key
  pub few : length unmerged < 65536
  pub numbers : FitsMembers unmerged
  pub bytes : r ≡ key_bytes key ++ (run_bytes 2 (members_bytes unmerged) ++ rest)

keyed-bytes : (k : PublicKey) (un rest : List ℕ) →
    (key_bytes k ++ (be16 (length un) ++ members_bytes un)) ++ rest ≡ key_bytes k ++ (run_bytes 2 (members_bytes un) ++ rest)
keyed-bytes k un rest =
    append_assoc (key_bytes k) (be16 (length un) ++ members_bytes un) rest ∙ ap (λ (l : List ℕ). key_bytes k ++ (l ++ rest)) (members_run un)

pub parent_is : (b r : List ℕ) (p : Parent PublicKey) (rest : List ℕ) → b ≡ 1 ∷ r → FitsParent p → b ≡ parent_bytes p ++ rest → ParentIs r rest
parent_is b r blank_parent rest e f g = absurd (omega (arith, (peel-byte _ _ _ _ (sym e ∙ g)).0))
parent_is b r (keyed k un) rest e f g =
    record { key = k; unmerged = un; half = f.0; few = f.1; numbers = f.2; bytes = (peel-byte _ _ _ _ (sym e ∙ g)).1 ∙ keyed-bytes k un rest }

-- a keyed parent from its parts
pub parent-built : (b r s t u : List ℕ) (k : PublicKey) (un : List ℕ) → b ≡ 1 ∷ r → r ≡ key_bytes k ++ s → s ≡ run_bytes 2 t ++ u → members_bytes un ≡ t → b ≡ parent_bytes (keyed k un) ++ u
parent-built b r s t u k un e f g h =
    e ∙ ap (λ (l : List ℕ). 1 ∷ l) (f ∙ ap (λ (l : List ℕ). key_bytes k ++ l) (g ∙ ap (λ (l : List ℕ). run_bytes 2 l ++ u) (sym h)) ∙ sym (keyed-bytes k un u))

peel-leaf : (x y : Leaf PublicKey) (r s : List ℕ) → FitsLeaf x → FitsLeaf y → leaf_bytes x ++ r ≡ leaf_bytes y ++ s → (x ≡ y) × (r ≡ s)
peel-leaf blank_leaf blank_leaf r s f g e = (refl, (peel-byte _ _ _ _ e).1)
peel-leaf blank_leaf (occupied m k) r s f g e = absurd (omega (arith, (peel-byte _ _ _ _ e).0))
peel-leaf (occupied n i) blank_leaf r s f g e = absurd (omega (arith, (peel-byte _ _ _ _ e).0))
peel-leaf (occupied n i) (occupied m k) r s f g e =
    let p = peel-16 n m (key_bytes i ++ r) (key_bytes k ++ s) f.0 g.0 (peel-byte _ _ _ _ e).1 in
    let q = peel-key i k r s f.1 g.1 p.1 in
    (ap₂ (λ (a : ℕ) (b : PublicKey). occupied a b) p.0 q.0, q.1)

peel-members : (ms ns : List ℕ) (r s : List ℕ) → length ms ≡ length ns → FitsMembers ms → FitsMembers ns → members_bytes ms ++ r ≡ members_bytes ns ++ s → (ms ≡ ns) × (r ≡ s)
peel-members [] [] r s l f g e = (refl, e)
peel-members [] (n ∷ ns) r s l f g e = absurd (omega arith)
peel-members (m ∷ ms) [] r s l f g e = absurd (omega arith)
peel-members (m ∷ ms) (n ∷ ns) r s l f g e =
    let p = peel-16 m n (members_bytes ms ++ r) (members_bytes ns ++ s) f.0 g.0 e in
    let q = peel-members ms ns r s (omega arith) f.1 g.1 p.1 in
    (ap₂ (λ (a : ℕ) (b : List ℕ). a ∷ b) p.0 q.0, q.1)

pub peel-parent : (x y : Parent PublicKey) (r s : List ℕ) → FitsParent x → FitsParent y → parent_bytes x ++ r ≡ parent_bytes y ++ s → (x ≡ y) × (r ≡ s)
peel-parent blank_parent blank_parent r s f g e = (refl, (peel-byte _ _ _ _ e).1)
peel-parent blank_parent (keyed k un) r s f g e = absurd (omega (arith, (peel-byte _ _ _ _ e).0))
peel-parent (keyed k un) blank_parent r s f g e = absurd (omega (arith, (peel-byte _ _ _ _ e).0))
peel-parent (keyed i ms) (keyed k ns) r s f g e =
    let p = peel-key i k (be16 (length ms) ++ (members_bytes ms ++ r)) (be16 (length ns) ++ (members_bytes ns ++ s)) f.0 g.0
    (sym (append_assoc (key_bytes i) (be16 (length ms) ++ members_bytes ms) r) ∙ (peel-byte _ _ _ _ e).1 ∙ append_assoc (key_bytes k) (be16 (length ns) ++ members_bytes ns) s) in
    let q = peel-16 (length ms) (length ns) (members_bytes ms ++ r) (members_bytes ns ++ s) f.1 g.1 p.1 in
    let m = peel-members ms ns r s q.0 f.2 g.2 q.1 in
    (ap₂ (λ (a : PublicKey) (b : List ℕ). keyed a b) p.0 m.0, m.1)

-- the bytes of a node: its left, itself, its right
pub node-bytes : (p : Parent PublicKey) (l r : Tree PublicKey) (rest : List ℕ) → nodes_bytes (node p l r) ++ rest ≡ nodes_bytes l ++ (parent_bytes p ++ (nodes_bytes r ++ rest))
unfolding nodes_bytes
node-bytes p l r rest =
    append_assoc (nodes_bytes l) (parent_bytes p ++ nodes_bytes r) rest ∙ ap (λ (x : List ℕ). nodes_bytes l ++ x) (append_assoc (parent_bytes p) (nodes_bytes r) rest)

-- one reading of a tree of some height
pub peel-part : (h : ℕ) (t u : Tree PublicKey) (r s : List ℕ) → FitsPart h t → FitsPart h u → nodes_bytes t ++ r ≡ nodes_bytes u ++ s → (t ≡ u) × (r ≡ s)
unfolding FitsPart nodes_bytes
peel-part zero (leaf x) (leaf y) r s f g e = let p = peel-leaf x y r s f g e in (ap leaf p.0, p.1)
peel-part zero (leaf x) (node p l m) r s f g e = absurd g
peel-part zero (node p l m) u r s f g e = absurd f
peel-part (suc h) (leaf x) u r s f g e = absurd f
peel-part (suc h) (node p l m) (leaf y) r s f g e = absurd g
peel-part (suc h) (node p l m) (node q i j) r s f g e =
    let a = peel-part h l i (parent_bytes p ++ (nodes_bytes m ++ r)) (parent_bytes q ++ (nodes_bytes j ++ s)) f.0 g.0 (sym (node-bytes p l m r) ∙ e ∙ node-bytes q i j s) in
    let b = peel-parent p q (nodes_bytes m ++ r) (nodes_bytes j ++ s) f.1 g.1 a.1 in
    let c = peel-part h m j r s f.2 g.2 b.1 in
    (ap₂ (λ (x y : Tree PublicKey). node p x y) a.0 c.0 ∙ ap (λ (x : Parent PublicKey). node x i j) b.0, c.1)

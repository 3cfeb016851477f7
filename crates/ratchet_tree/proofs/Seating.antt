-- A table of who sits where, filled leaf by leaf, and a member's leaf key looked up by it.
-- Assumes nothing.
use Rattle.std.proofs.Common.{◌≡◌, ℕ, ◌+◌, ◌*◌, ◌/◌, ◌%◌, ◌<◌, false, List, [], ◌∷◌, ◌++◌, length, get_or, take, replicate, sym, refl, ap, ◌∙◌, subst, ap₂, append_assoc, arith}
use Rattle.std.proofs.lemmas.List.{append-nil, take_more, take_all, get_or_default, get_or-replicate, length-replicate}
use Rattle.std.proofs.lemmas.Bool.{cond_both, cond-false}
use Rattle.theory.specs.Tree.{Tree, Leaf, leaf, node, blank_leaf, is_at, key_at, leaf_key}
use Rattle.tree_math.specs.Span.{span}
use Rattle.tree_math.specs.declared.index.LeafIndex.{LeafIndex}
use Rattle.ratchet_tree.specs.declared.node.Node.{Node}
use Rattle.ratchet_tree.specs.Nodes.{leaf_of, tree_of, no_node}
use Rattle.ratchet_tree.specs.declared.seats.Seat as seat
use Rattle.ratchet_tree.specs.declared.seats.Seat.TheVariants.{Nowhere, At, Several}
use Rattle.ratchet_tree.specs.Seats.{line, own_key, Seat, Seats, one_more, noted, Noted}
use Rattle.ratchet_tree.proofs.Leaves.{line-length, line_at}

-- the leaf keys of m at some leaves
pub keys_of : {K : Type 0} → ℕ → List (Leaf K) → List K
keys_of m [] = []
keys_of m (x ∷ xs) = own_key m x ++ keys_of m xs

keys-append : {K : Type 0} (m : ℕ) (xs ys : List (Leaf K)) → keys_of m (xs ++ ys) ≡ keys_of m xs ++ keys_of m ys
unfolding keys_of
keys-append m [] ys = refl
keys-append m (x ∷ xs) ys = ap (λ l. own_key m x ++ l) (keys-append m xs ys) ∙ sym (append_assoc (own_key m x) (keys_of m xs) (keys_of m ys))

keys-line : {K : Type 0} (m : ℕ) (t : Tree K) → leaf_key m t ≡ keys_of m (line t)
unfolding keys_of line leaf_key
keys-line m (leaf x) = sym (append-nil (own_key m x))
keys-line m (node p l r) = ap₂ (λ a b. a ++ b) (keys-line m l) (keys-line m r) ∙ sym (keys-append m (line l) (line r))

-- what m's entry tells of the first i leaves
abbrev pub Told : {K : Type 0} → List (Leaf K) → ℕ → ℕ → seat.Seat → Type 0
Told xs i m Nowhere = keys_of m (take i xs) ≡ []
Told xs i m (At j) = (j.0 < i) × (keys_of m (take i xs) ≡ own_key m (get_or xs j.0 blank_leaf))
Told xs i m Several = Unit {0}

-- and each entry of a table
abbrev pub ToldAll : {K : Type 0} → List (Leaf K) → ℕ → List seat.Seat → Type 0
ToldAll xs i es = (m : ℕ) → m < length es → Told xs i m (get_or es m Nowhere)

module _ {K : Type 0} (xs : List (Leaf K)) (i m : ℕ) (b : i < length xs) where
  keys-more : keys_of m (take (i + 1) xs) ≡ keys_of m (take i xs) ++ own_key m (get_or xs i blank_leaf)
  unfolding keys_of
  keys-more =
      ap (keys_of m) (take_more xs i blank_leaf b) ∙ keys-append m (take i xs) (get_or xs i blank_leaf ∷ [])
      ∙ ap (λ l. keys_of m (take i xs) ++ l) (append-nil (own_key m (get_or xs i blank_leaf)))

  -- m doesn't sit at the leaf
  elsewhere : is_at m (get_or xs i blank_leaf) ≡ false → keys_of m (take (i + 1) xs) ≡ keys_of m (take i xs)
  elsewhere n =
      keys-more ∙ ap (λ l. keys_of m (take i xs) ++ l) (cond-false (is_at m (get_or xs i blank_leaf)) (key_at (get_or xs i blank_leaf)) [] n)
      ∙ append-nil (keys_of m (take i xs))

  told_same : (e : seat.Seat) → is_at m (get_or xs i blank_leaf) ≡ false → Told xs i m e → Told xs (i + 1) m e
  told_same Nowhere n told = elsewhere n ∙ told
  told_same (At j) n told = (omega (arith, told.0), elsewhere n ∙ told.1)
  told_same Several n told = tt

  -- m sits at the leaf
  told_there : (e : seat.Seat) → Told xs i m e → Told xs (i + 1) m (one_more (record { 0 = i }) e)
  told_there Nowhere told = (omega arith, keys-more ∙ ap (λ k. k ++ own_key m (get_or xs i blank_leaf)) told)
  told_there (At j) told = tt
  told_there Several told = tt

  told_more : (e f : seat.Seat) → f ≡ noted (is_at m (get_or xs i blank_leaf)) (record { 0 = i }) e → Told xs i m e → Told xs (i + 1) m f
  told_more e f is told =
      subst (Told xs (i + 1) m) (sym is)
      (cond_both (is_at m (get_or xs i blank_leaf)) (one_more (record { 0 = i }) e) e (Told xs (i + 1) m) (λ a. told_there e told) (λ n. told_same e n told))

-- one leaf more
pub all_more : {K : Type 0} (xs : List (Leaf K)) (x : Leaf K) (i : ℕ) (es fs : List seat.Seat) → i < length xs → x ≡ get_or xs i blank_leaf → length fs ≡ length es →
    Noted x (record { 0 = i }) es fs → ToldAll xs i es → ToldAll xs (i + 1) fs
all_more xs x i es fs b is len noted-all told m l =
    told_more xs i m b (get_or es m Nowhere) (get_or fs m Nowhere) (noted-all m (omega arith) ∙ ap (λ (y : Leaf _). noted (is_at m y) (record { 0 = i }) (get_or es m Nowhere)) is) (told m (omega arith))

-- no leaf yet
pub all_none : {K : Type 0} (xs : List (Leaf K)) (n : ℕ) (es : List seat.Seat) → es ≡ replicate n Nowhere → ToldAll xs 0 es
unfolding keys_of
all_none xs n es e m l = subst (Told xs 0 m) (sym (ap (λ (l : List seat.Seat). get_or l m Nowhere) e ∙ get_or-replicate n m Nowhere Nowhere (omega (arith, ap length e, length-replicate n Nowhere)))) refl

seat-told : {K : Type 0} (t : Tree K) (i m : ℕ) (e : seat.Seat) → i ≡ length (line t) → Told (line t) i m e → Seat t m e
seat-told t i m Nowhere b told = keys-line m t ∙ ap (keys_of m) (sym (take_all i (line t) (omega arith))) ∙ told
seat-told t i m (At j) b told = (omega (arith, told.0), keys-line m t ∙ ap (keys_of m) (sym (take_all i (line t) (omega arith))) ∙ told.1)
seat-told t i m Several b told = tt

pub all_told : {K : Type 0} (t : Tree K) (i : ℕ) (es : List seat.Seat) → i ≡ length (line t) → ToldAll (line t) i es → Seats t es
all_told t i es b told m l = seat-told t i m (get_or es m Nowhere) b (told m l)

-- an entry that was looked up
pub seat-read : {K : Type 0} (t : Tree K) (es : List seat.Seat) (m : ℕ) (e : seat.Seat) (i : LeafIndex) → Seats t es → (m < length es) × (e ≡ get_or es m Nowhere) → e ≡ At i → Seat t m (At i)
seat-read t es m e i told read is = subst (Seat t m) (sym read.1 ∙ is) (told m read.0)

-- the node of a leaf, and its key if the member sits there
module _ (h : ℕ) (ns : List Node) (len : length ns ≡ span h) where
  pub leaf_below : (j : ℕ) → j < length (line (tree_of h ns)) → 2 * j < length ns
  leaf_below j b = omega (arith, line-length h ns)

  pub key-read : (m j : ℕ) (d : Node) → j < length (line (tree_of h ns)) → own_key m (leaf_of (get_or ns (2 * j) d)) ≡ own_key m (get_or (line (tree_of h ns)) j blank_leaf)
  key-read m j d b =
      ap (λ n. own_key m (leaf_of n)) (get_or_default ns (2 * j) d no_node (leaf_below j b)) ∙ ap (own_key m) (sym (line_at h ns j (omega (arith, leaf_below j b, len))))

  -- the leaf of the node at an even index
  pub leaf-read : (i : ℕ) (x : Node) → i < length ns → i % 2 ≡ 0 → x ≡ get_or ns i x → (i / 2 < length (line (tree_of h ns))) × (leaf_of x ≡ get_or (line (tree_of h ns)) (i / 2) blank_leaf)
  leaf-read i x b even is =
      let twice : 2 * (i / 2) ≡ i = omega arith in
      (omega (arith, line-length h ns), ap leaf_of (is ∙ get_or_default ns i x no_node b ∙ ap (λ (k : ℕ). get_or ns k no_node) (sym twice)) ∙ sym (line_at h ns (i / 2) (omega (arith, b, len))))

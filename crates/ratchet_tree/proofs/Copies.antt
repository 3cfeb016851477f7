-- Lines of nodes that show the same: copies, and blank nodes.
-- Assumes nothing.
use Rattle.std.proofs.Common.{◌≡◌, ℕ, zero, suc, ◌+◌, ◌-◌, ◌≤◌, List, [], ◌∷◌, ◌++◌, map, length, get_or, take, drop, replicate, sym, refl, ap, ◌∙◌, ap₂, append_assoc, arith}
use Rattle.std.proofs.lemmas.List.{map-append, replicate_more, length-map, length-append, length-replicate, take-replicate, drop-replicate, get_or-replicate}
use Rattle.theory.specs.Tree.{Tree, Leaf, Parent, leaf, node, blank_leaf, blank_parent, blank_tree}
use Rattle.tree_math.specs.Span.{span}
use Rattle.tree_math.proofs.Span.{span-suc, span_pos, built-left, built-middle, built-right}
use Rattle.ratchet_tree.specs.declared.member.PublicKey.{PublicKey}
use Rattle.ratchet_tree.specs.declared.node.Node.{Node}
use Rattle.ratchet_tree.specs.Nodes.{seen, tree_of, no_node}

abbrev pub Seen : Type 0
Seen = Leaf PublicKey × Parent PublicKey

abbrev pub blank_seen : Seen
blank_seen = (blank_leaf, blank_parent)

-- one blank node more
pub blanks-more : (xs xs' : List Node) (before : List Seen) (x : Node) (k n : ℕ) → xs' ≡ xs ++ x ∷ [] → map seen xs ≡ before ++ replicate k blank_seen → seen x ≡ blank_seen → n ≡ k + 1 →
    map seen xs' ≡ before ++ replicate n blank_seen
blanks-more xs xs' before x k n e m s h =
    ap (map seen) e ∙ map-append seen xs (x ∷ []) ∙ ap₂ (λ a b. a ++ b ∷ []) m s
    ∙ append_assoc before (replicate k blank_seen) (blank_seen ∷ [])
    ∙ ap (λ l. before ++ l) (replicate_more k blank_seen ∙ ap (λ (j : ℕ). replicate j blank_seen) (sym h))

-- the tree of a line, from what it shows
tree_seen : ℕ → List Seen → Tree PublicKey
tree_seen zero ns = leaf (get_or ns 0 blank_seen).0
tree_seen (suc h) ns = node (get_or ns (span h) blank_seen).1 (tree_seen h (take (span h) ns)) (tree_seen h (drop (span h + 1) ns))

map-take : (n : ℕ) (ns : List Node) → map seen (take n ns) ≡ take n (map seen ns)
map-take zero ns = refl
map-take (suc n) [] = refl
map-take (suc n) (x ∷ xs) = ap (λ l. seen x ∷ l) (map-take n xs)

map-drop : (n : ℕ) (ns : List Node) → map seen (drop n ns) ≡ drop n (map seen ns)
map-drop zero ns = refl
map-drop (suc n) [] = refl
map-drop (suc n) (x ∷ xs) = map-drop n xs

-- past the end too, since what stands there shows as blank
get_or-seen : (ns : List Node) (i : ℕ) → seen (get_or ns i no_node) ≡ get_or (map seen ns) i blank_seen
get_or-seen [] i = refl
get_or-seen (x ∷ xs) zero = refl
get_or-seen (x ∷ xs) (suc i) = get_or-seen xs i

tree-seen : (h : ℕ) (ns : List Node) → tree_of h ns ≡ tree_seen h (map seen ns)
unfolding tree_of tree_seen
tree-seen zero ns = ap (λ (s : Seen). leaf s.0) (get_or-seen ns 0)
tree-seen (suc h) ns =
    ap (λ (s : Seen). node s.1 (tree_of h (take (span h) ns)) (tree_of h (drop (span h + 1) ns))) (get_or-seen ns (span h))
    ∙ ap₂ (λ a b. node (get_or (map seen ns) (span h) blank_seen).1 a b)
    (tree-seen h (take (span h) ns) ∙ ap (tree_seen h) (map-take (span h) ns))
    (tree-seen h (drop (span h + 1) ns) ∙ ap (tree_seen h) (map-drop (span h + 1) ns))

-- lines that show the same are the same tree
pub same-tree : (h : ℕ) (xs ns : List Node) → map seen xs ≡ map seen ns → tree_of h xs ≡ tree_of h ns
same-tree h xs ns e = tree-seen h xs ∙ ap (tree_seen h) e ∙ sym (tree-seen h ns)

-- and are as long
pub same_length : (xs ns : List Node) → map seen xs ≡ map seen ns → length xs ≡ length ns
same_length xs ns e = sym (length-map xs seen) ∙ ap length e ∙ length-map ns seen

-- a line of blank nodes is the blank tree of its height
blanks-tree : (h n : ℕ) (ns : List Node) → span h ≤ n → tree_seen h (replicate n blank_seen) ≡ blank_tree (tree_of h ns)
unfolding tree_seen tree_of blank_tree
blanks-tree zero n ns l = ap (λ (s : Seen). leaf s.0) (get_or-replicate n 0 blank_seen blank_seen (omega (arith, span_pos 0)))
blanks-tree (suc h) n ns l =
    ap (λ (s : Seen). node s.1 (tree_seen h (take (span h) (replicate n blank_seen))) (tree_seen h (drop (span h + 1) (replicate n blank_seen)))) (get_or-replicate n (span h) blank_seen blank_seen (omega (arith, span-suc h)))
    ∙ ap₂ (λ a b. node blank_parent a b)
    (ap (tree_seen h) (take-replicate (span h) n blank_seen (omega (arith, span-suc h))) ∙ blanks-tree h (span h) (take (span h) ns) (omega arith))
    (ap (tree_seen h) (drop-replicate (span h + 1) n blank_seen) ∙ blanks-tree h (n - (span h + 1)) (drop (span h + 1) ns) (omega (arith, span-suc h)))

-- a line with a blank parent and as many blank nodes behind it is the tree that grew
pub doubled-tree : (h : ℕ) (ns xs : List Node) → length ns ≡ span h → map seen xs ≡ map seen ns ++ replicate (length ns + 1) blank_seen →
    tree_of (suc h) xs ≡ node blank_parent (tree_of h ns) (blank_tree (tree_of h ns))
unfolding tree_seen
doubled-tree h ns xs len e =
    let front : length (map seen ns) ≡ span h = length-map ns seen ∙ len in
    let one : length ns + 1 ≡ suc (length ns) = omega arith in
    let is : map seen xs ≡ map seen ns ++ blank_seen ∷ replicate (length ns) blank_seen = e ∙ ap (λ (k : ℕ). map seen ns ++ replicate k blank_seen) one in
    tree-seen (suc h) xs ∙ ap (tree_seen (suc h)) is
    ∙ ap (λ (s : Seen). node s.1 (tree_seen h (take (span h) (map seen ns ++ blank_seen ∷ replicate (length ns) blank_seen))) (tree_seen h (drop (span h + 1) (map seen ns ++ blank_seen ∷ replicate (length ns) blank_seen))))
    (built-middle h (map seen ns) blank_seen (replicate (length ns) blank_seen) front blank_seen)
    ∙ ap₂ (λ a b. node blank_parent (tree_seen h a) (tree_seen h b))
    (built-left h (map seen ns) blank_seen (replicate (length ns) blank_seen) front)
    (built-right h (map seen ns) blank_seen (replicate (length ns) blank_seen) front)
    ∙ ap₂ (λ a b. node blank_parent a b) (sym (tree-seen h ns)) (blanks-tree h (length ns) ns (omega (arith, len)))

pub doubled-length : (h : ℕ) (ns xs : List Node) → length ns ≡ span h → map seen xs ≡ map seen ns ++ replicate (length ns + 1) blank_seen → length xs ≡ span (suc h)
doubled-length h ns xs len e =
    sym (length-map xs seen) ∙ ap length e ∙ length-append (map seen ns) (replicate (length ns + 1) blank_seen)
    ∙ omega (arith, length-map ns seen, length-replicate (length ns + 1) blank_seen, span-suc h)

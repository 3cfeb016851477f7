-- The leaves of a line of nodes, from the left: what is asked of a tree, asked of them one by one.
-- Assumes nothing.
use Rattle.std.proofs.Common.{◌≡◌, ℕ, zero, suc, ◌+◌, ◌-◌, ◌*◌, ◌<◌, Bool, true, false, not, ◌&&◌, ◌||◌, List, [], ◌∷◌, ◌++◌, length, get_or, take, drop, sym, refl, ap, ◌∙◌, ap₂, inl, inr, arith}
use Rattle.std.proofs.lemmas.List.{get_or-take, get_or-drop, length-append, get_or_append_left, get_or-append_right}
use Rattle.std.proofs.lemmas.Bool.{or_left, or_right, or_from, cases_lt}
use Rattle.theory.specs.Tree.{Tree, Leaf, leaf, node, blank_leaf, is_at, is_blank, seated, full}
use Rattle.tree_math.specs.Span.{span}
use Rattle.ratchet_tree.specs.declared.member.PublicKey.{PublicKey}
use Rattle.ratchet_tree.specs.declared.node.Node.{Node}
use Rattle.ratchet_tree.specs.Nodes.{leaf_of, tree_of, no_node}
use Rattle.ratchet_tree.specs.Seats.{line}

-- half the nodes of a part, and one more, are leaves
pub line-length : (h : ℕ) (ns : List Node) → 2 * length (line (tree_of h ns)) ≡ span h + 1
unfolding line tree_of span
line-length zero ns = refl
line-length (suc h) ns =
    omega (
      arith,
      length-append (line (tree_of h (take (span h) ns))) (line (tree_of h (drop (span h + 1) ns))),
      line-length h (take (span h) ns),
      line-length h (drop (span h + 1) ns),
    )

-- leaves stand at the even indices
pub line_at : (h : ℕ) (ns : List Node) (i : ℕ) → 2 * i < span h → get_or (line (tree_of h ns)) i blank_leaf ≡ leaf_of (get_or ns (2 * i) no_node)
unfolding line tree_of span
line_at zero ns zero b = refl
line_at zero ns (suc i) b = absurd (omega arith)
line_at (suc h) ns i b =
    let left : List (Leaf PublicKey) = line (tree_of h (take (span h) ns)) in
    let right : List (Leaf PublicKey) = line (tree_of h (drop (span h + 1) ns)) in
    let long : 2 * length left ≡ span h + 1 = line-length h (take (span h) ns) in
    elim (cases_lt i (length left)) [
      | inl a ↦
          get_or_append_left left right blank_leaf i a ∙ line_at h (take (span h) ns) i (omega arith)
          ∙ ap leaf_of (get_or-take (span h) ns (2 * i) no_node (omega arith))
      | inr a ↦
          get_or-append_right left right (length left) i blank_leaf refl a ∙ line_at h (drop (span h + 1) ns) (i - length left) (omega arith)
          ∙ ap leaf_of (get_or-drop (span h + 1) ns (2 * (i - length left)) no_node)
          ∙ let same : span h + 1 + 2 * (i - length left) ≡ 2 * i = omega arith in ap (λ (k : ℕ). leaf_of (get_or ns k no_node)) same
    ]

-- some leaf passes a test; every leaf does
pub some : {K : Type 0} → (Leaf K → Bool) → List (Leaf K) → Bool
some f [] = false
some f (x ∷ xs) = f x || some f xs

some-append : {K : Type 0} (f : Leaf K → Bool) (xs ys : List (Leaf K)) → some f (xs ++ ys) ≡ (some f xs || some f ys)
unfolding some
some-append f [] ys = refl
some-append f (x ∷ xs) ys = ap (λ (b : Bool). f x || b) (some-append f xs ys) ∙ or_assoc (f x) (some f xs) (some f ys)
  where
    or_assoc : (a b c : Bool) → (a || (b || c)) ≡ ((a || b) || c)
    or_assoc true b c = refl
    or_assoc false b c = refl

pub some_at : {K : Type 0} (f : Leaf K → Bool) (xs : List (Leaf K)) (i : ℕ) → i < length xs → f (get_or xs i blank_leaf) ≡ true → some f xs ≡ true
unfolding some
some_at f [] i b e = absurd (omega arith)
some_at f (x ∷ xs) zero b e = or_left (f x) (some f xs) e
some_at f (x ∷ xs) (suc i) b e = or_right (f x) (some f xs) (some_at f xs i (omega arith) e)

pub some-none : {K : Type 0} (f : Leaf K → Bool) (xs : List (Leaf K)) → ((i : ℕ) → i < length xs → f (get_or xs i blank_leaf) ≡ false) → some f xs ≡ false
unfolding some
some-none f [] h = refl
some-none f (x ∷ xs) h = or_from (f x) (some f xs) (h zero (omega arith)) (some-none f xs (λ i b. h (suc i) (omega arith)))

pub seated-line : {K : Type 0} (m : ℕ) (t : Tree K) → seated m t ≡ some (is_at m) (line t)
unfolding some line seated
seated-line m (leaf x) = or-false (is_at m x)
  where
    or-false : (b : Bool) → b ≡ (b || false)
    or-false true = refl
    or-false false = refl
seated-line m (node p l r) = ap₂ (λ (a b : Bool). a || b) (seated-line m l) (seated-line m r) ∙ sym (some-append (is_at m) (line l) (line r))

pub full-line : {K : Type 0} (t : Tree K) → full t ≡ not (some is_blank (line t))
unfolding some line full
full-line (leaf x) = not-or (is_blank x)
  where
    not-or : (b : Bool) → not b ≡ not (b || false)
    not-or true = refl
    not-or false = refl
full-line (node p l r) =
    ap₂ (λ (a b : Bool). a && b) (full-line l) (full-line r) ∙ neither (some is_blank (line l)) (some is_blank (line r))
    ∙ ap not (sym (some-append is_blank (line l) (line r)))
  where
    neither : (a b : Bool) → (not a && not b) ≡ not (a || b)
    neither true b = refl
    neither false b = refl

-- The bytes of members and of nodes, put together.
use Rattle.std.proofs.Common.{◌≡◌, ℕ, zero, suc, ◌+◌, ◌-◌, ◌%◌, ◌<◌, ◌≤◌, cond, eqb, List, [], ◌∷◌, ◌++◌, map, length, get_or, take, drop, sym, refl, ap, ◌∙◌, inl, inr, append_assoc, arith}
use Rattle.std.proofs.lemmas.List.{append-nil, map-append, take_more, take_all, length-append, get_or_default, get_or_append_left, get_or-append_right, get_or-take, get_or-drop}
use Rattle.std.proofs.lemmas.Bool.{cases_lt, cond-false, ne_eqb}
use Rattle.tree_math.specs.Span.{span}
use Rattle.tree_math.proofs.Span.{span-double}
use Rattle.theory.specs.Worked.{Cell, blank, cells, leaf_cell, parent_cell}
use Rattle.ratchet_tree.specs.Nodes.{leaf_of, numbers, no_node, parent_of, tree_of}
use Rattle.ratchet_tree.specs.declared.member.MemberId.{MemberId}
use Rattle.ratchet_tree.specs.declared.node.Node.{Node}
use Rattle.scripts.specs.Decimal.{decimal}
use Rattle.playback.specs.Report.{led_by, behind_bytes, cell_at, cell_bytes, nodes_bytes}

pub led-append : (b : ℕ) (us vs : List (List ℕ)) → led_by b (us ++ vs) ≡ led_by b us ++ led_by b vs
led-append b [] vs = refl
led-append b (u ∷ us) vs = ap (λ l. b ∷ u ++ l) (led-append b us vs) ∙ sym (append_assoc (b ∷ u) (led_by b us) (led_by b vs))

-- one member more
pub behind_more : (ms : List MemberId) (i : ℕ) (d : MemberId) → i < length ms → behind_bytes (numbers (take (i + 1) ms)) ≡ behind_bytes (numbers (take i ms)) ++ 44 ∷ decimal (get_or ms i d).0
behind_more ms i d h =
    ap (λ l. behind_bytes (numbers l)) (take_more ms i d h)
    ∙ ap behind_bytes (map-append (λ (m : MemberId). m.0) (take i ms) (get_or ms i d ∷ []))
    ∙ ap (led_by 44) (map-append decimal (numbers (take i ms)) ((get_or ms i d).0 ∷ []))
    ∙ led-append 44 (map decimal (numbers (take i ms))) (decimal (get_or ms i d).0 ∷ [])
    ∙ ap (λ l. behind_bytes (numbers (take i ms)) ++ l) (append-nil (44 ∷ decimal (get_or ms i d).0))

nodes-append : (a b : List Cell) → nodes_bytes (a ++ b) ≡ nodes_bytes a ++ nodes_bytes b
nodes-append a b = ap (led_by 32) (map-append cell_bytes a b) ∙ led-append 32 (map cell_bytes a) (map cell_bytes b)

-- one node more
pub nodes-more : (cs : List Cell) (i : ℕ) (d : Cell) → i < length cs → nodes_bytes (take (i + 1) cs) ≡ nodes_bytes (take i cs) ++ 32 ∷ cell_bytes (get_or cs i d)
nodes-more cs i d h =
    ap nodes_bytes (take_more cs i d h) ∙ nodes-append (take i cs) (get_or cs i d ∷ [])
    ∙ ap (λ l. nodes_bytes (take i cs) ++ l) (append-nil (32 ∷ cell_bytes (get_or cs i d)))

-- a tree has a cell for each node of its line
pub cells-length : (h : ℕ) (ns : List Node) → length (cells (tree_of h ns)) ≡ span h
unfolding cells tree_of span
cells-length zero ns = refl
cells-length (suc h) ns =
    omega (
      arith,
      length-append (cells (tree_of h (take (span h) ns))) (parent_cell (parent_of (get_or ns (span h) no_node)) ∷ cells (tree_of h (drop (span h + 1) ns))),
      cells-length h (take (span h) ns),
      cells-length h (drop (span h + 1) ns),
    )

-- the middle node of a line is a parent
middle-cell : (h : ℕ) (n : Node) → parent_cell (parent_of n) ≡ cell_at (span h) n
middle-cell h n =
    sym (cond-false (eqb (span h % 2) 0) (leaf_cell (leaf_of n)) (parent_cell (parent_of n)) (ne_eqb (span h % 2) 0 (λ e. omega (arith, span-double h))))

-- and the halves lie to it as they lie to themselves
same-cell : (i j : ℕ) (n : Node) → i % 2 ≡ j % 2 → cell_at i n ≡ cell_at j n
same-cell i j n e = ap (λ (k : ℕ). cond (eqb k 0) (leaf_cell (leaf_of n)) (parent_cell (parent_of n))) e

-- the cell at an index is that of the node there
pub cells_at : (h : ℕ) (ns : List Node) (i : ℕ) → i < span h → get_or (cells (tree_of h ns)) i blank ≡ cell_at i (get_or ns i no_node)
unfolding cells tree_of span
cells_at zero ns zero b = refl
cells_at zero ns (suc i) b = absurd (omega arith)
cells_at (suc h) ns i b =
    let left : List Cell = cells (tree_of h (take (span h) ns)) in
    let right : List Cell = cells (tree_of h (drop (span h + 1) ns)) in
    let top : Node = get_or ns (span h) no_node in
    let long : length left ≡ span h = cells-length h (take (span h) ns) in
    elim (cases_lt i (span h)) [
      | inl a ↦
          get_or_append_left left (parent_cell (parent_of top) ∷ right) blank i (omega arith) ∙ cells_at h (take (span h) ns) i a
          ∙ ap (cell_at i) (get_or-take (span h) ns i no_node a)
      | inr a ↦
          get_or-append_right left (parent_cell (parent_of top) ∷ right) (span h) i blank long a
          ∙ elim (cases_lt (span h) i) [
            | inl past ↦
                let one : i - span h ≡ suc (i - (span h + 1)) = omega arith in
                let same : span h + 1 + (i - (span h + 1)) ≡ i = omega arith in
                ap (λ (k : ℕ). get_or (parent_cell (parent_of top) ∷ right) k blank) one
                ∙ cells_at h (drop (span h + 1) ns) (i - (span h + 1)) (omega arith)
                ∙ ap (cell_at (i - (span h + 1))) (get_or-drop (span h + 1) ns (i - (span h + 1)) no_node ∙ ap (λ (k : ℕ). get_or ns k no_node) same)
                ∙ same-cell (i - (span h + 1)) i (get_or ns i no_node) (omega (arith, span-double h))
            | inr at ↦
                let none : i - span h ≡ 0 = omega arith in
                let same : span h ≡ i = omega arith in
                ap (λ (k : ℕ). get_or (parent_cell (parent_of top) ∷ right) k blank) none
                ∙ middle-cell h top ∙ ap (λ (k : ℕ). cell_at k (get_or ns k no_node)) same
          ]
    ]

-- a line of nodes, written one after the other
module _ (h : ℕ) (ns : List Node) (len : length ns ≡ span h) (before : List ℕ) where
  pub written-more : (out out' : List ℕ) (i : ℕ) (n : Node) → i < length ns → n ≡ get_or ns i n → out ≡ before ++ nodes_bytes (take i (cells (tree_of h ns))) →
      out' ≡ out ++ 32 ∷ cell_bytes (cell_at i n) → out' ≡ before ++ nodes_bytes (take (i + 1) (cells (tree_of h ns)))
  written-more out out' i n b is e e' =
      let there : cell_at i n ≡ get_or (cells (tree_of h ns)) i blank =
      ap (cell_at i) (is ∙ get_or_default ns i n no_node b) ∙ sym (cells_at h ns i (omega arith)) in
      e' ∙ ap (λ l. l ++ 32 ∷ cell_bytes (cell_at i n)) e
      ∙ append_assoc before (nodes_bytes (take i (cells (tree_of h ns)))) (32 ∷ cell_bytes (cell_at i n))
      ∙ ap (λ l. before ++ l)
      (ap (λ c. nodes_bytes (take i (cells (tree_of h ns))) ++ 32 ∷ cell_bytes c) there ∙ sym (nodes-more (cells (tree_of h ns)) i blank (omega (arith, cells-length h ns))))

  pub written_all : (out : List ℕ) (i : ℕ) → length ns ≤ i → out ≡ before ++ nodes_bytes (take i (cells (tree_of h ns))) → out ≡ before ++ nodes_bytes (cells (tree_of h ns))
  written_all out i b e = e ∙ ap (λ cs. before ++ nodes_bytes cs) (take_all i (cells (tree_of h ns)) (omega (arith, cells-length h ns)))

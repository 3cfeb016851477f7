use Rattle.std.proofs.Common.{◌≡◌, ℕ, suc, ◌+◌, true, false, List, ◌++◌, map, length, replicate, vec_items, sym, refl, ap, ◌∙◌, add-one, arith}
use Rattle.std.proofs.lemmas.Bool.{cond-true, cond-false}
use Rattle.theory.specs.Tree.{node, blank_parent, blank_tree, full, grown}
use Rattle.tree_math.specs.Span.{span}
use Rattle.ratchet_tree.specs.declared.node.Node.{Node}
use Rattle.ratchet_tree.specs.Nodes.{seen, tree_of}
use Rattle.ratchet_tree.proofs.Copies.{same-tree, same_length, doubled-tree, doubled-length, blank_seen}
use Rattle.ratchet_tree.proofs.Counts.{height-is}
use Rattle.ratchet_tree.proofs.tree.RatchetTree.with_room.Goals as goal

-- a copy of a line is the same tree
module _ (d : ℕ) (ns items copy : List Node) (lent : ns ≡ items) (same : map seen copy ≡ map seen ns) where
  copy-tree : tree_of d copy ≡ tree_of d items
  copy-tree = same-tree d copy ns same ∙ ap (tree_of d) lent

  copy-length : length copy ≡ length items
  copy-length = same_length copy ns same ∙ ap length lent

  not-grown : full (tree_of d items) ≡ false → tree_of d copy ≡ grown (tree_of d items)
  not-grown f = copy-tree ∙ sym (cond-false (full (tree_of d items)) (node blank_parent (tree_of d items) (blank_tree (tree_of d items))) (tree_of d items) f)

  doubled : (xs : List Node) → length items ≡ span d → map seen xs ≡ map seen copy ++ replicate (length copy + 1) blank_seen → full (tree_of d items) ≡ true →
      tree_of (d + 1) xs ≡ grown (tree_of d items)
  doubled xs len e f =
      ap (λ (k : ℕ). tree_of k xs) (add-one d) ∙ doubled-tree d copy xs (copy-length ∙ len) e
      ∙ ap (λ t. node blank_parent t (blank_tree t)) copy-tree
      ∙ sym (cond-true (full (tree_of d items)) (node blank_parent (tree_of d items) (blank_tree (tree_of d items))) (tree_of d items) f)

pub invariant_of-result : goal.invariant_of-result
invariant_of-result c = record { whole = omega (arith, same_length (vec_items c.in_ok-nodes.nodes) c.deref.result.now c.in_ok-nodes.ensures, c.deref.ensures.len, c.in_ok-nodes.nodes.ok.0); shallow = c.args.self.now.shallow }

pub returns-then-not-is_full : goal.returns-then-not-is_full
returns-then-not-is_full c =
    not-grown c.args.self.now.depth c.deref.result.now (vec_items c.args.self.now.nodes) (vec_items c.in_ok-nodes.nodes) c.deref.ensures.value c.in_ok-nodes.ensures
    (ap full (sym c.as_part.ensures) ∙ sym c.if-not-is_full.ensures)

pub returns-then-depth-ge-MAX_DEPTH : goal.returns-then-depth-ge-MAX_DEPTH
returns-then-depth-ge-MAX_DEPTH c = (
  ap full (sym c.as_part.ensures) ∙ sym c.if-not-is_full.ensures,
  omega (arith, height-is c.args.self.now.depth (vec_items c.args.self.now.nodes), c.args.self.now.shallow),
)

pub invariant_of-result-2 : goal.invariant_of-result-2
invariant_of-result-2 c =
    let items : List Node = vec_items c.args.self.now.nodes in
    let long : length items ≡ span c.args.self.now.depth = omega (arith, c.args.self.now.nodes.ok.0, c.args.self.now.whole) in
    let twice : length (vec_items c.double.new.nodes) ≡ span (suc c.args.self.now.depth) =
    doubled-length c.args.self.now.depth (vec_items c.in_ok-nodes.nodes) (vec_items c.double.new.nodes)
    (copy-length c.args.self.now.depth c.deref.result.now items (vec_items c.in_ok-nodes.nodes) c.deref.ensures.value c.in_ok-nodes.ensures ∙ long)
    (c.in_ok-double.ensures.items refl) in
    record { whole = omega (arith, c.double.new.nodes.ok.0, ap span (add-one c.args.self.now.depth)); shallow = omega arith }

pub returns : goal.returns
returns c =
    doubled c.args.self.now.depth c.deref.result.now (vec_items c.args.self.now.nodes) (vec_items c.in_ok-nodes.nodes) c.deref.ensures.value c.in_ok-nodes.ensures
    (vec_items c.double.new.nodes) (omega (arith, c.args.self.now.nodes.ok.0, c.args.self.now.whole)) (c.in_ok-double.ensures.items refl)
    (ap full (sym c.as_part.ensures) ∙ sym c.if-not-is_full.ensures)

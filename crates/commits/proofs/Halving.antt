-- The half of a part that a member sits in, from the halves that the part is taken apart into.
-- Assumes nothing.
use Rattle.std.proofs.Common.{◌≡◌, ℕ, ◌+◌, ◌/◌, Bool, true, false, not, length, sym, refl, ap, ◌∙◌, arith}
use Rattle.theory.specs.Tree.{resolution, seated}
use Rattle.ratchet_tree.specs.declared.node.Node.{Node}
use Rattle.ratchet_tree.specs.declared.part.Part.{Part}
use Rattle.ratchet_tree.specs.Parts.{Halves, part_tree}
use Rattle.ratchet_tree.proofs.Cuts.{start-tree}
use Rattle.commits.specs.Path.{InLeft, InRight, InNeither, is_none, left_tree, right_tree}

module _ (p l r : Part) (n : Node) (x : Halves p l n r) (m : ℕ) where
  above : p.height ≡ 0 → ⊥
  above e = omega (arith, x.left)

  left-is : part_tree l ≡ left_tree p.height p.nodes.now
  left-is = let e = sym x.tree ∙ start-tree p.height p.nodes.now above p.whole in cc

  right-is : part_tree r ≡ right_tree p.height p.nodes.now
  right-is = let e = sym x.tree ∙ start-tree p.height p.nodes.now above p.whole in cc

  pub in-left : {b : Bool} → true ≡ seated m (part_tree l) → b ≡ not (is_none (resolution (part_tree r))) →
      InLeft m p.height p.nodes.now (record { nodes = record { start = 0; end = length p.nodes.now / 2 }; reached = b })
  in-left s q = record { seat = ap (seated m) (sym left-is) ∙ sym s; start = refl; end = refl; reached = q ∙ ap (λ t. not (is_none (resolution t))) right-is }

  pub in-right : {b : Bool} → false ≡ seated m (part_tree l) → true ≡ seated m (part_tree r) → b ≡ not (is_none (resolution (part_tree l))) →
      InRight m p.height p.nodes.now (record { nodes = record { start = length p.nodes.now / 2 + 1; end = length p.nodes.now }; reached = b })
  in-right s s2 q =
      record {
        not_left = ap (seated m) (sym left-is) ∙ sym s;
        seat = ap (seated m) (sym right-is) ∙ sym s2;
        start = refl;
        end = refl;
        reached = q ∙ ap (λ t. not (is_none (resolution t))) left-is;
      }

  pub in-neither : false ≡ seated m (part_tree l) → false ≡ seated m (part_tree r) → InNeither m p.height p.nodes.now
  in-neither s s2 = record { not_left = ap (seated m) (sym left-is) ∙ sym s; not_right = ap (seated m) (sym right-is) ∙ sym s2 }

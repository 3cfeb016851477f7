-- The node keys that are taken from a member, one parent more; a removal takes them.
-- Assumes nothing.
use Rattle.std.proofs.Common.{◌≡◌, ℕ, suc, Bool, true, false, cond, [], ◌∷◌, ◌++◌, sym, refl, ap, ◌∙◌, ap₂}
use Rattle.std.proofs.lemmas.List.{append-nil}
use Rattle.std.proofs.lemmas.Bool.{cond-true, cond-false}
use Rattle.theory.specs.Tree.{Tree, leaf, node, Leaf, height, seated}
use Rattle.vault_theory.specs.Order.{forget, slot_of_key}
use Rattle.vault_theory.specs.Orders.{abandoned, dropped, held_forgotten}
use Rattle.ratchet_tree.specs.Nodes.{parent_of}
use Rattle.ratchet_tree.specs.Parts.{Halves, part_tree}
use Rattle.ratchet_tree.specs.declared.member.PublicKey.{PublicKey}
use Rattle.ratchet_tree.specs.declared.node.Node.{Node}
use Rattle.ratchet_tree.specs.declared.part.Part.{Part}
use Rattle.orders.specs.Sides.{SidesOf}
use Rattle.orders.specs.Taken.{taken}
use Rattle.ratchet_tree.specs.declared.sides.Sides.{Sides}
use Rattle.orders.proofs.Halves.{one_side, parent-height}

pub taken-leaf : {K : Type 0} (w : ℕ) (test : Tree K → Bool) (t : Tree K) (x : Leaf K) → t ≡ leaf x → [] ≡ taken w test t
unfolding taken
taken-leaf w test t x e = ap (taken w test) (sym e)

module _ (w k : ℕ) (test : Tree PublicKey → Bool) (p l r : Part) (n : Node) (s : Sides) (h : Halves p l n r) (d : SidesOf w l r s) (high : k ≡ p.height) where
  above : taken w test (part_tree s.own) ++ cond (test (part_tree p)) (held_forgotten w (parent_of n) k) [] ≡ taken w test (part_tree p)
  unfolding taken
  above =
      ap₂ (λ x i. taken w test (part_tree s.own) ++ cond x (held_forgotten w (parent_of n) i) []) (ap test h.tree) (high ∙ parent-height p l h.left)
      ∙ ap (λ u. u ++ cond (test (node (parent_of n) (part_tree l) (part_tree r))) (held_forgotten w (parent_of n) (suc (height (part_tree l)))) [])
      (ap (taken w test) d.own ∙ sym (one_side (taken w test) (seated w (part_tree l)) (part_tree l) (part_tree r)))
      ∙ ap (taken w test) (sym h.tree)

  pub taken-here : test (part_tree p) ≡ true → taken w test (part_tree s.own) ++ held_forgotten w (parent_of n) k ≡ taken w test (part_tree p)
  taken-here e = ap (λ x. taken w test (part_tree s.own) ++ x) (sym (cond-true (test (part_tree p)) (held_forgotten w (parent_of n) k) [] e)) ∙ above

  pub taken-elsewhere : test (part_tree p) ≡ false → taken w test (part_tree s.own) ≡ taken w test (part_tree p)
  taken-elsewhere e =
      sym (append-nil (taken w test (part_tree s.own)))
      ∙ ap (λ x. taken w test (part_tree s.own) ++ x) (sym (cond-false (test (part_tree p)) (held_forgotten w (parent_of n) k) [] e)) ∙ above

-- the removal of m takes those above m
pub taken-dropped : {K : Type 0} (w m : ℕ) (t : Tree K) → taken w (seated m) t ≡ dropped w m t
unfolding taken dropped seated
taken-dropped w m (leaf x) = refl
taken-dropped w m (node p l r) =
    ap₂ (λ a b. cond (seated w l) a b ++ cond (seated m (node p l r)) (held_forgotten w p (suc (height l))) []) (taken-dropped w m l) (taken-dropped w m r)

-- one's own removal takes all, and the leaf key before them
pub taken-abandoned : {K : Type 0} (w : ℕ) (t : Tree K) → forget (slot_of_key 0) ∷ taken w (λ _. true) t ≡ abandoned w t
unfolding taken abandoned
taken-abandoned w (leaf x) = refl
taken-abandoned w (node p l r) =
    ap (λ u. u ++ held_forgotten w p (suc (height l)))
    (sym (one_side (λ u. forget (slot_of_key 0) ∷ u) (seated w l) (taken w (λ _. true) l) (taken w (λ _. true) r))
    ∙ ap₂ (λ a b. cond (seated w l) a b) (taken-abandoned w l) (taken-abandoned w r))

-- A path that is made, one parent more.
-- Assumes nothing.
use Rattle.std.proofs.Common.{◌≡◌, ℕ, suc, ◌+◌, ◌<◌, List, Result, [], ◌∷◌, ◌++◌, map, length, get_or, take, sym, refl, ap, ◌∙◌, ap₂, append_assoc}
use Rattle.std.proofs.lemmas.List.{map-append, take_more}
use Rattle.theory.specs.Path.{level_after}
use Rattle.theory.specs.Tree.{Tree, leaf, Leaf, height, resolution, seated}
use Rattle.vault_theory.specs.Order as theory
use Rattle.vault_theory.specs.Numbers.{levels}
use Rattle.vault_theory.specs.Orders.{held_forgotten, made, risen, sealed_up}
use Rattle.ratchet_tree.specs.declared.member.PublicKey.{PublicKey}
use Rattle.orders.specs.Given.{GivesTo}
use Rattle.orders.specs.Sides.{SidesOf}
use Rattle.orders.specs.Order.{order_of}
use Rattle.orders.specs.declared.order.Order.{Order}
use Rattle.orders.proofs.Giving.{gives_as, gives-behind}
use Rattle.orders.proofs.Halves.{either_side, parent-height}
use Rattle.ratchet_tree.specs.declared.sides.Sides.{Sides}
use Rattle.ratchet_tree.specs.Nodes.{parent_of}
use Rattle.ratchet_tree.specs.Parts.{Halves, part_tree}
use Rattle.ratchet_tree.specs.declared.node.Node.{Node}
use Rattle.ratchet_tree.specs.declared.part.Part.{Part}

-- one box more
pub sealed-more : (before : List (theory.Order PublicKey)) (out out' : List Order) (keys : List PublicKey) (x : Order) (i s : ℕ) (d : PublicKey) → out' ≡ out ++ x ∷ [] →
    map order_of out ≡ before ++ map (theory.seal s) (take i keys) → order_of x ≡ theory.seal s (get_or keys i d) → i < length keys →
    map order_of out' ≡ before ++ map (theory.seal s) (take (i + 1) keys)
sealed-more before out out' keys x i s d e m f h =
    ap (map order_of) e ∙ map-append order_of out (x ∷ []) ∙ ap₂ (λ a b. a ++ b ∷ []) m f
    ∙ append_assoc before (map (theory.seal s) (take i keys)) (theory.seal s (get_or keys i d) ∷ [])
    ∙ ap (λ l. before ++ l) (sym (map-append (theory.seal s) (take i keys) (get_or keys i d ∷ [])) ∙ ap (map (theory.seal s)) (sym (take_more keys i d h)))

-- the node key of a parent, after its boxes, where there are any
pub sealed-above : (i h path key : ℕ) (keys other : List PublicKey) (a b c : List Order) {E : Type 0} (r : Result ℕ E) → keys ≡ other → (length keys ≡ 0 → ⊥) →
    path ≡ theory.slot_of_path i → key ≡ theory.slot_of_key h →
    map order_of b ≡ map order_of a ++ map (theory.seal path) keys → GivesTo (suc i) (risen i h (theory.publish key ∷ [])) b c r →
    GivesTo (level_after i other) (sealed_up i h other) a c r
sealed-above i h path key [] other a b c r is some p q boxes here = absurd (some refl)
sealed-above i h path key (k ∷ ks) other a b c r is some p q boxes here =
    gives_as a c (suc i) (level_after i other) _ _ r (ap (level_after i) is)
    (ap (λ z. map (theory.seal path) (k ∷ ks) ++ risen i h (theory.publish z ∷ [])) q
    ∙ ap (λ s. map (theory.seal s) (k ∷ ks) ++ risen i h (theory.publish (theory.slot_of_key h) ∷ [])) p ∙ ap (sealed_up i h) is)
    (gives-behind a b c (suc i) (map (theory.seal path) (k ∷ ks)) (risen i h (theory.publish key ∷ [])) r boxes here)

pub made-leaf : {K : Type 0} (c : ℕ) (t : Tree K) (x : Leaf K) → t ≡ leaf x → (0 ≡ levels c t) × ([] ≡ made c t)
unfolding levels made
made-leaf c t x e = (ap (levels c) (sym e), ap (made c) (sym e))

pub made-above : (c k : ℕ) (p l r : Part) (n : Node) (s : Sides) → Halves p l n r → SidesOf c l r s → k ≡ p.height →
    made c (part_tree s.own) ++ (held_forgotten c (parent_of n) k ++ sealed_up (levels c (part_tree s.own)) k (resolution (part_tree s.other))) ≡ made c (part_tree p)
unfolding made
made-above c k p l r n s h d high =
    let f : Tree PublicKey → Tree PublicKey → List (theory.Order PublicKey) =
    λ x y. made c x ++ (held_forgotten c (parent_of n) (suc (height (part_tree l))) ++ sealed_up (levels c x) (suc (height (part_tree l))) (resolution y)) in
    ap (λ i. made c (part_tree s.own) ++ (held_forgotten c (parent_of n) i ++ sealed_up (levels c (part_tree s.own)) i (resolution (part_tree s.other)))) (high ∙ parent-height p l h.left)
    ∙ ap₂ f d.own d.other ∙ sym (either_side f (seated c (part_tree l)) (part_tree l) (part_tree r)) ∙ ap (made c) (sym h.tree)

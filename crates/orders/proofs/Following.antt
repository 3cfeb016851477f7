-- A path that is followed, one parent more.
-- Assumes nothing.
use Rattle.std.proofs.Common.{◌≡◌, ℕ, suc, ◌+◌, Bool, true, false, cond, List, [], ◌∷◌, ◌++◌, map, sym, ap, ◌∙◌, ap₂, arith}
use Rattle.std.proofs.lemmas.Bool.{cond-true, cond-false}
use Rattle.theory.specs.Tree.{Tree, leaf, Leaf, height, resolution, seated}
use Rattle.vault_theory.specs.Order.{Order, unseal, slot_of_key, slot_of_path}
use Rattle.vault_theory.specs.Numbers.{height_of_key, number_of_key, levels, posted}
use Rattle.vault_theory.specs.Orders.{climbed, followed, held_forgotten, opened}
use Rattle.vault_theory.proofs.Numbering.{levels-laid, posted-laid}
use Rattle.ratchet_tree.specs.declared.member.PublicKey.{PublicKey}
use Rattle.commits.specs.Counts.{CountsOf, capped}
use Rattle.commits.specs.declared.count.Counts.{Counts}
use Rattle.vault_theory.specs.Capped.{cap_order}
use Rattle.orders.specs.Given.{Risen}
use Rattle.orders.specs.Order.{order_of}
use Rattle.orders.specs.declared.order.Order as order
use Rattle.orders.proofs.Capping.{capped-then, plain-passed}
use Rattle.orders.proofs.Halves.{either_side, parent-height}
use Rattle.orders.specs.Sides.{SidesOf}
use Rattle.ratchet_tree.specs.declared.sides.Sides.{Sides}
use Rattle.ratchet_tree.specs.Nodes.{parent_of}
use Rattle.ratchet_tree.specs.Parts.{Halves, part_tree}
use Rattle.ratchet_tree.specs.declared.node.Node.{Node}
use Rattle.ratchet_tree.specs.declared.part.Part.{Part}

-- what the committer's path has, from the counts of the code
pub counts-are : (c : ℕ) (t : Tree PublicKey) (n : Counts) → CountsOf c t n → (n.node_keys ≡ levels c t) × (n.boxes ≡ capped (posted c t))
counts-are c t n counted =
    let k : PublicKey = record { 0 = [] } in
    let x = counted k (λ _. k) in
    (x.levels ∙ levels-laid c k (λ _. k) t, x.targets ∙ ap capped (posted-laid c k (λ _. k) t))

box-is : {K : Type 0} {n k s n' k' s' : ℕ} → n ≡ n' → k ≡ k' → s ≡ s' → ◌≡◌ {A = List (Order K)} (unseal n k s ∷ []) (unseal n' k' s' ∷ [])
box-is {K} {k = k} {s} {n'} {k'} e f g =
    ap (λ (x : ℕ). unseal x k s ∷ []) e ∙ ap (λ (x : ℕ). unseal n' x s ∷ []) f ∙ ap (λ (x : ℕ). unseal n' k' x ∷ []) g

-- a sum of two counts that stop at the largest number
sum-capped : {n a b : ℕ} (x y : ℕ) → n ≡ capped (a + b) → a ≡ capped x → b ≡ capped y → n ≡ capped (x + y)
sum-capped x y e f g = omega arith

-- a box that is opened, by its number, its key and its place
pub opened-here : (w c : ℕ) (own other : Tree PublicKey) (n : Counts) (number key slot more : ℕ) (a b : List order.Order) → CountsOf c own n →
    number ≡ capped (n.boxes + more) → more ≡ capped (number_of_key w other) → key ≡ slot_of_key (height_of_key w other) → slot ≡ slot_of_path n.node_keys →
    map order_of b ≡ map order_of a ++ unseal number key slot ∷ [] → Risen (levels c own) (map cap_order (opened w c own other ∷ [])) a b n.node_keys
opened-here w c own other n number key slot more a b counted e f g h items =
    let is = counts-are c own n counted in
    record {
      level = is.0;
      items = items ∙ ap (λ l. map order_of a ++ l) (box-is (sum-capped (posted c own) (number_of_key w other) e is.1 f) g (h ∙ ap slot_of_path is.0));
    }

pub at_leaf : {K : Type 0} (w c : ℕ) (t : Tree K) (x : Leaf K) → t ≡ leaf x → (0 ≡ levels c t) × ([] ≡ map cap_order (followed w c t))
unfolding levels followed
at_leaf w c t x e = (ap (levels c) (sym e), ap (λ u. map cap_order (followed w c u)) (sym e))

-- what was done below, of two ways
module _ {to : ℕ} {a b b' : List order.Order} {i i' : ℕ} (q : Bool) (x y : List (Order PublicKey)) (same : b ≡ b') (level : i ≡ i') where
  pub chosen-first : q ≡ true → Risen to (map cap_order x) a b' i' → Risen to (map cap_order (cond q x y)) a b i
  chosen-first e h = record { level = level ∙ h.level; items = ap (map order_of) same ∙ h.items ∙ ap (λ l. map order_of a ++ map cap_order l) (sym (cond-true q x y e)) }

  pub chosen-second : q ≡ false → Risen to (map cap_order y) a b' i' → Risen to (map cap_order (cond q x y)) a b i
  chosen-second e h = record { level = level ∙ h.level; items = ap (map order_of) same ∙ h.items ∙ ap (λ l. map order_of a ++ map cap_order l) (sym (cond-false q x y e)) }

module _ (w c k : ℕ) (p l r : Part) (n : Node) (s : Sides) (h : Halves p l n r) (d : SidesOf c l r s) (high : k ≡ p.height) where
  -- what is given at the parent
  abbrev here : List (Order PublicKey)
  here = held_forgotten w (parent_of n) k ++ climbed (levels c (part_tree s.own)) k (resolution (part_tree s.other))

  -- what is given below it
  abbrev below : Bool → List (Order PublicKey)
  below b = cond b (followed w c (part_tree s.own)) (opened w c (part_tree s.own) (part_tree s.other) ∷ [])

  above : followed w c (part_tree p) ≡ below (seated w (part_tree s.own)) ++ here
  unfolding followed
  above =
      let f : Tree PublicKey → Tree PublicKey → List (Order PublicKey) =
      λ x y. cond (seated w x) (followed w c x) (opened w c x y ∷ []) ++ (held_forgotten w (parent_of n) (suc (height (part_tree l))) ++ climbed (levels c x) (suc (height (part_tree l))) (resolution y)) in
      ap (followed w c) h.tree ∙ either_side f (seated c (part_tree l)) (part_tree l) (part_tree r) ∙ ap₂ f (sym d.own) (sym d.other)
      ∙ ap (λ i. below (seated w (part_tree s.own)) ++ (held_forgotten w (parent_of n) i ++ climbed (levels c (part_tree s.own)) i (resolution (part_tree s.other)))) (sym (high ∙ parent-height p l h.left))

  pub followed-above : (b : Bool) → b ≡ seated w (part_tree s.own) → map cap_order (below b) ++ here ≡ map cap_order (followed w c (part_tree p))
  followed-above b e =
      sym (ap (map cap_order) (above ∙ ap (λ x. below x ++ here) (sym e))
      ∙ capped-then (below b) here (plain-passed w (parent_of n) (levels c (part_tree s.own)) k (resolution (part_tree s.other))))

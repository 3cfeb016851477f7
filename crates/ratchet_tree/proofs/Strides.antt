-- A chain over every other node of a line, from the first on: what it gave is the leaves.
-- Assumes nothing.
use Rattle.std.proofs.Common.{◌≡◌, ℕ, ◌*◌, ◌<◌, Bool, true, false, not, Option, Some, None, List, length, get_or, Bor, sym, ap, ◌∙◌, arith}
use Rattle.std.specs.Bool.{IsTrue, MatchBool}
use Rattle.std.specs.Fn.{Mut, Called}
use Rattle.std.specs.Iterator.Runs.{Run, IsStepByRun, ItemsMapTo, AllItemsGive, AnyItemGives, CallKeepsClosure}
use Rattle.std.specs.Option.{IfSome, IsSomeAnd, option_map}
use Rattle.theory.specs.Tree.{Leaf, blank_leaf}
use Rattle.tree_math.specs.Span.{span}
use Rattle.ratchet_tree.specs.declared.member.PublicKey.{PublicKey}
use Rattle.ratchet_tree.specs.declared.node.Node.{Node}
use Rattle.ratchet_tree.specs.Nodes.{leaf_of, tree_of, no_node}
use Rattle.ratchet_tree.specs.Seats.{line}
use Rattle.ratchet_tree.proofs.Leaves.{some, some_at, some-none, line_at, line-length}

given : (P : Bor Node → Type 0) (o : Option (Bor Node)) (y : Node) → option_map (λ (x : Bor Node). x.now) o ≡ Some y → IfSome o P → (x : Bor Node) × P x × (x.now ≡ y)
given P None y e h = absurd (grind arith)
given P (Some x) y e h = (x, h, grind arith)

flip : (a b : Bool) → b ≡ not a → a ≡ not b
flip true b e = ap not (sym e)
flip false b e = ap not (sym e)

some_given : {A : Type 0} (P : A → Type 0) (o : Option A) → IsSomeAnd o P → IfSome o P
some_given P None h = absurd h
some_given P (Some x) h = h

module _ {S T F : Type 0} {steps : S → Option (Bor Node) → S → Type 0} {source : T → Option (Bor Node) → T → Type 0} (p : Run steps) (q : Run source) (h : ℕ) (ns : List Node)
    (len : length ns ≡ span h) (by_two : IsStepByRun p q 2) (is : ItemsMapTo q (λ (y : Bor Node). y.now) ns)
    (f : Leaf PublicKey → Bool) (g : Mut F (Bor Node × Unit {0}) Bool) (e : F) (keeps : CallKeepsClosure g e) where
  -- place k has the node of leaf k
  node_given : (k : ℕ) → k * 2 < q.len → option_map (λ (x : Bor Node). x.now) (p.at k) ≡ Some (get_or ns (k * 2) no_node)
  node_given k b = ap (option_map (λ (x : Bor Node). x.now)) (by_two.4 k) ∙ is.2 (k * 2) no_node b

  leaf_given : (k : ℕ) (x : Node) → k * 2 < q.len → x ≡ get_or ns (k * 2) no_node → get_or (line (tree_of h ns)) k blank_leaf ≡ leaf_of x
  leaf_given k x b s =
      let twice : 2 * k ≡ k * 2 = omega arith in
      line_at h ns k (omega (arith, is.0, len)) ∙ ap (λ (j : ℕ). leaf_of (get_or ns j no_node)) twice ∙ ap leaf_of (sym s)

  -- a call of the closure at a node that passes, and at each node that doesn't
  leaf_passes : (r : Bool) → ((x : Bor Node) → Called g e (x, tt) r e → f (leaf_of x.now) ≡ true) → AnyItemGives p g e r → some f (line (tree_of h ns)) ≡ true
  leaf_passes r tells any =
      let a = any keeps in
      let b : a.0 * 2 < q.len = omega (arith, a.1, by_two.3) in
      let t = given _ (p.at a.0) _ (node_given a.0 b) (some_given _ (p.at a.0) a.2) in
      some_at f (line (tree_of h ns)) a.0 (omega (arith, line-length h ns, b, is.0, len)) (ap f (leaf_given a.0 t.0.now b t.2) ∙ tells t.0 t.1)

  none_passes : (r : Bool) → ((x : Bor Node) → Called g e (x, tt) r e → f (leaf_of x.now) ≡ false) → p.whole ≡ true → AllItemsGive p g e r → some f (line (tree_of h ns)) ≡ false
  none_passes r tells w all =
      some-none f (line (tree_of h ns))
      (λ k l.
      let b : k * 2 < q.len = omega (arith, line-length h ns, is.1 (by_two.0 ∙ w), len) in
      let t = given _ (p.at k) _ (node_given k b) (all keeps k) in
      ap f (leaf_given k t.0.now b t.2) ∙ tells t.0 t.1)

  -- the closure answers whether a leaf passes, and the chain whether any does
  pub any_leaf : ((x : Bor Node) (b : Bool) → Called g e (x, tt) b e → b ≡ f (leaf_of x.now)) → (r : Bool) →
      MatchBool r (AnyItemGives p g e true) (IsTrue p.whole × AllItemsGive p g e false) → r ≡ some f (line (tree_of h ns))
  any_leaf tells true m = sym (leaf_passes true (λ x c. sym (tells x true c)) m)
  any_leaf tells false m = sym (none_passes false (λ x c. sym (tells x false c)) m.0 m.1)

  -- the closure answers whether a leaf doesn't, and the chain whether all don't
  pub every_leaf : ((x : Bor Node) (b : Bool) → Called g e (x, tt) b e → b ≡ not (f (leaf_of x.now))) → (r : Bool) →
      MatchBool r (IsTrue p.whole × AllItemsGive p g e true) (AnyItemGives p g e false) → r ≡ not (some f (line (tree_of h ns)))
  every_leaf tells true m = ap not (sym (none_passes true (λ x c. flip _ true (tells x true c)) m.0 m.1))
  every_leaf tells false m = ap not (sym (leaf_passes false (λ x c. flip _ false (tells x false c)) m))

-- Whether there is anybody to seal to, from how a part is taken apart.
-- Assumes nothing.
use Rattle.std.proofs.Common.{◌≡◌, ℕ, true, not, ◌||◌, List, [], ◌∷◌, ◌++◌, Option, Some, None, is_some, MatchOption, sym, refl, ap, ◌∙◌}
use Rattle.theory.specs.Tree.{Tree, Leaf, Parent, node, leaf, blank_leaf, occupied, blank_parent, keyed, is_blank, resolution}
use Rattle.ratchet_tree.specs.Keys.{IsKeyed}
use Rattle.ratchet_tree.specs.Nodes.{numbers}
use Rattle.ratchet_tree.specs.declared.keys.Keyed.{Keyed}
use Rattle.ratchet_tree.specs.declared.member.PublicKey.{PublicKey}
use Rattle.ratchet_tree.proofs.Appending.{resolution-keyed, resolution-blank}
use Rattle.commits.specs.Path.{is_none}

pub reached-leaf : {K : Type 0} (x : Leaf K) (t : Tree K) → t ≡ leaf x → not (is_blank x) ≡ not (is_none (resolution t))
unfolding resolution
reached-leaf blank_leaf t e = ap (λ u. not (is_none (resolution u))) (sym e)
reached-leaf (occupied m k) t e = ap (λ u. not (is_none (resolution u))) (sym e)

pub reached-keyed : {K : Type 0} (t : Tree K) (p : Parent K) (l r : Tree K) (k : K) (un : List ℕ) → t ≡ node p l r → p ≡ keyed k un → true ≡ not (is_none (resolution t))
reached-keyed t p l r k un e q = ap (λ s. not (is_none s)) (resolution-keyed t p l r k un e q)

none-append : {K : Type 0} (xs ys : List K) → (not (is_none xs) || not (is_none ys)) ≡ not (is_none (xs ++ ys))
none-append [] ys = refl
none-append (x ∷ xs) ys = refl

pub reached-blank : {K : Type 0} (t : Tree K) (p : Parent K) (l r : Tree K) → t ≡ node p l r → p ≡ blank_parent →
    (not (is_none (resolution l)) || not (is_none (resolution r))) ≡ not (is_none (resolution t))
reached-blank t p l r e q = none-append (resolution l) (resolution r) ∙ ap (λ s. not (is_none s)) (resolution-blank t p l r e q)

-- whether a parent reaches anybody: by its own key, or else by its halves
pub reached-parent : (k : Option Keyed) (t : Tree PublicKey) (p : Parent PublicKey) (l r : Tree PublicKey) → t ≡ node p l r →
    MatchOption k (p ≡ blank_parent) (λ x. IsKeyed x p) →
    (is_some k || (not (is_none (resolution l)) || not (is_none (resolution r)))) ≡ not (is_none (resolution t))
reached-parent None t p l r e q = reached-blank t p l r e q
reached-parent (Some x) t p l r e q = reached-keyed t p l r x.key (numbers x.unmerged.now) e q

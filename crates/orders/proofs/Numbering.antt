-- Which key of a resolution reaches a member: looked for among the unmerged, and counted.
-- Assumes nothing.
use Rattle.std.proofs.Common.{◌≡◌, ℕ, zero, suc, ◌+◌, ◌<◌, true, false, cond, eqb, List, [], ◌∷◌, Some, None, Option, length, get_or, sym, ap, ◌∙◌, add-one, arith}
use Rattle.std.proofs.lemmas.Bool.{cond-true, cond-false, eq-eqb, ne_eqb}
use Rattle.std.specs.List.{AllWithin, HoldsAt}
use Rattle.std.specs.Option.{MatchOption}
use Rattle.theory.specs.Held.{is_unmerged}
use Rattle.theory.specs.Tree.{Tree, leaf, node, Leaf, Parent, blank_parent, keyed, seated, height, resolution}
use Rattle.vault_theory.specs.Numbers.{before, number_of_key, height_of_key}
use Rattle.ratchet_tree.specs.Nodes.{numbers}
use Rattle.ratchet_tree.specs.declared.member.MemberId.{MemberId}
use Rattle.ratchet_tree.proofs.Appending.{among-at, among_none}

-- the first place at which w stands
before_at : (w : ℕ) (ms : List MemberId) (i : ℕ) (d : MemberId) → i < length ms → ((k : ℕ) → k < i → (get_or ms k d).0 ≡ w → ⊥) → (get_or ms i d).0 ≡ w →
    before w (numbers ms) ≡ i
unfolding before
before_at w [] i d h f e = absurd (omega arith)
before_at w (m ∷ ms) zero d h f e = cond-true (eqb m.0 w) 0 (suc (before w (numbers ms))) (eq-eqb m.0 w e)
before_at w (m ∷ ms) (suc i) d h f e =
    cond-false (eqb m.0 w) 0 (suc (before w (numbers ms))) (ne_eqb m.0 w (f zero (omega arith)))
    ∙ ap suc (before_at w ms i d (omega arith) (λ k l. f (suc k) (omega arith)) e)

-- the first place at which w stands, counted behind the node key
pub unmerged-number : (w : ℕ) (ms : List MemberId) (d : MemberId) (o : Option ℕ) (n : ℕ) →
    MatchOption o (AllWithin (λ (m : MemberId). m.0 ≡ w → ⊥) ms 0 (length ms)) (λ i. (i < length ms) × HoldsAt (λ (m : MemberId). m.0 ≡ w) ms i × AllWithin (λ (m : MemberId). m.0 ≡ w → ⊥) ms 0 i) →
    MatchOption o (n ≡ 0) (λ i. n ≡ i + 1) → n ≡ cond (is_unmerged w (numbers ms)) (suc (before w (numbers ms))) 0
unmerged-number w ms d None n at is = is ∙ sym (cond-false (is_unmerged w (numbers ms)) (suc (before w (numbers ms))) 0 (among_none w ms d (λ k h. at k d (omega arith) h)))
unmerged-number w ms d (Some i) n at is =
    is ∙ add-one i ∙ ap suc (sym (before_at w ms i d at.0 (λ k h. at.2 k d (omega arith) h) (at.1 d)))
    ∙ sym (cond-true (is_unmerged w (numbers ms)) (suc (before w (numbers ms))) 0 (among-at w ms i d at.0 (at.1 d)))

-- by what stands at the top of a part
module _ {K : Type 0} (w : ℕ) (t : Tree K) where
  pub at_leaf : (x : Leaf K) → t ≡ leaf x → (0 ≡ number_of_key w t) × (0 ≡ height_of_key w t)
  unfolding number_of_key height_of_key
  at_leaf x e = (ap (number_of_key w) (sym e), ap (height_of_key w) (sym e))

  module _ (p : Parent K) (l r : Tree K) (e : t ≡ node p l r) where
    pub under-key : (k : K) (un : List ℕ) → p ≡ keyed k un →
        (cond (is_unmerged w un) (suc (before w un)) 0 ≡ number_of_key w t) × (cond (is_unmerged w un) 0 (suc (height l)) ≡ height_of_key w t)
    unfolding number_of_key height_of_key
    under-key k un q =
        let at : t ≡ node (keyed k un) l r = e ∙ ap (λ (x : Parent K). node x l r) q in
        (ap (number_of_key w) (sym at), ap (height_of_key w) (sym at))

    pub height-unmerged : (k : K) (un : List ℕ) → p ≡ keyed k un → is_unmerged w un ≡ true → 0 ≡ height_of_key w t
    height-unmerged k un q u = sym (cond-true (is_unmerged w un) 0 (suc (height l)) u) ∙ (under-key k un q).1

    pub height-merged : (k : K) (un : List ℕ) → p ≡ keyed k un → is_unmerged w un ≡ false → suc (height l) ≡ height_of_key w t
    height-merged k un q u = sym (cond-false (is_unmerged w un) 0 (suc (height l)) u) ∙ (under-key k un q).1

    -- under a blank parent, by the half that w sits in
    at-blank : p ≡ blank_parent → t ≡ node blank_parent l r
    at-blank q = e ∙ ap (λ (x : Parent K). node x l r) q

    pub number-left : p ≡ blank_parent → seated w l ≡ true → number_of_key w l ≡ number_of_key w t
    unfolding number_of_key
    number-left q s = sym (cond-true (seated w l) (number_of_key w l) (length (resolution l) + number_of_key w r) s) ∙ ap (number_of_key w) (sym (at-blank q))

    pub number-right : p ≡ blank_parent → seated w l ≡ false → length (resolution l) + number_of_key w r ≡ number_of_key w t
    unfolding number_of_key
    number-right q s = sym (cond-false (seated w l) (number_of_key w l) (length (resolution l) + number_of_key w r) s) ∙ ap (number_of_key w) (sym (at-blank q))

    pub height-left : p ≡ blank_parent → seated w l ≡ true → height_of_key w l ≡ height_of_key w t
    unfolding height_of_key
    height-left q s = sym (cond-true (seated w l) (height_of_key w l) (height_of_key w r) s) ∙ ap (height_of_key w) (sym (at-blank q))

    pub height-right : p ≡ blank_parent → seated w l ≡ false → height_of_key w r ≡ height_of_key w t
    unfolding height_of_key
    height-right q s = sym (cond-false (seated w l) (height_of_key w l) (height_of_key w r) s) ∙ ap (height_of_key w) (sym (at-blank q))

-- Laying a path, by which half the committer sits in: on trees, and on a line of nodes.
-- Assumes nothing.
use Rattle.std.proofs.Common.{◌≡◌, ℕ, zero, suc, ◌+◌, ◌-◌, ◌/◌, ◌<◌, ◌≤◌, Bool, true, false, cond, not, ◌||◌, List, [], ◌∷◌, length, Option, Some, None, MatchOption, get_or, take, drop, set, sym, refl, ap, ◌∙◌, ap₂, add-one, arith}
use borrow.Rule.Slice.PartMut.{put_mid}
use mathlib.Core.Logic.{◌⊎◌, inl, inr}
use mir.Val.{bool_byte}
use Rattle.std.specs.Bool.{then_some}
use Rattle.std.proofs.lemmas.Bool.{cond-true, cond-false, cond_both}
use Rattle.theory.specs.Tree.{Tree, node, Parent, blank_parent, keyed, seated, resolution}
use Rattle.theory.specs.Path.{Laid, laid, climbed, parent_laid, level_after}
use Rattle.tree_math.specs.Span.{span}
use Rattle.ratchet_tree.specs.declared.member.PublicKey.{PublicKey}
use Rattle.ratchet_tree.specs.declared.node.Node.{Node}
use Rattle.ratchet_tree.specs.Nodes.{parent_of, tree_of, no_node}
use Rattle.ratchet_tree.proofs.Cuts.{Cut, behind, left_put, right_put, cut-length, cut-start, cut-set, cut-tree-at, lower-length, start-tree, middle-at, middle-within, left_is, right_is, left-put, right-put}
use Rattle.commits.specs.Path.{InLeft, InRight, InNeither, is_none, left_tree, right_tree}
use Rattle.commits.specs.declared.path.OwnHalf.{OwnHalf}

module _ {K : Type 0} (m : ℕ) (own : K) (keys : ℕ → K) (p : Parent K) (l r : Tree K) where
  via_left : Laid K
  via_left = climbed keys (laid m own keys l) (resolution r) (λ q t. node q t r)

  via_right : Laid K
  via_right = climbed keys (laid m own keys r) (resolution l) (λ q t. node q l t)

  nowhere : Laid K
  nowhere = record { tree = node p l r; levels = 0; targets = [] }

  pub laid-left : seated m l ≡ true → laid m own keys (node p l r) ≡ climbed keys (laid m own keys l) (resolution r) (λ q t. node q t r)
  unfolding laid via_left via_right nowhere
  laid-left e = cond-true (seated m l) via_left (cond (seated m r) via_right nowhere) e

  pub laid-right : seated m l ≡ false → seated m r ≡ true → laid m own keys (node p l r) ≡ climbed keys (laid m own keys r) (resolution l) (λ q t. node q l t)
  unfolding laid via_left via_right nowhere
  laid-right e f = cond-false (seated m l) via_left (cond (seated m r) via_right nowhere) e ∙ cond-true (seated m r) via_right nowhere f

  pub laid-nowhere : seated m l ≡ false → seated m r ≡ false → laid m own keys (node p l r) ≡ record { tree = node p l r; levels = 0; targets = [] }
  unfolding laid via_left via_right nowhere
  laid-nowhere e f = cond-false (seated m l) via_left (cond (seated m r) via_right nowhere) e ∙ cond-false (seated m r) via_right nowhere f

-- the same by the side that the member sits in
module _ {K : Type 0} (m : ℕ) (t : Tree K) (p : Parent K) (l r : Tree K) (is : t ≡ node p l r) where
  chosen : {A : Type 0} (b c : Bool) (x y z : A) → true ≡ (b || c) → cond b x (cond c y z) ≡ cond b x y
  chosen true c x y z e = refl
  chosen false true x y z e = refl
  chosen false false x y z e = cc

  neither : {A : Type 0} (b c : Bool) (x y z : A) → false ≡ (b || c) → cond b x (cond c y z) ≡ z
  neither true c x y z e = cc
  neither false true x y z e = cc
  neither false false x y z e = refl

  -- a half put back in its place, beside the other
  pub put-back : Parent K → Tree K → Tree K
  put-back q u = cond (seated m l) (node q u r) (node q l u)

  by-test : (own : K) (keys : ℕ → K) (b : Bool) →
      climbed keys (laid m own keys (cond b l r)) (resolution (cond b r l)) (λ q u. cond b (node q u r) (node q l u))
      ≡ cond b (climbed keys (laid m own keys l) (resolution r) (λ q u. node q u r)) (climbed keys (laid m own keys r) (resolution l) (λ q u. node q l u))
  by-test own keys true = refl
  by-test own keys false = refl

  pub laid-side : (s o : Tree K) → true ≡ (seated m l || seated m r) → s ≡ cond (seated m l) l r → o ≡ cond (seated m l) r l →
      (own : K) (keys : ℕ → K) → laid m own keys t ≡ climbed keys (laid m own keys s) (resolution o) put-back
  unfolding laid put-back
  laid-side s o e f g own keys =
      ap (laid m own keys) is
      ∙ chosen (seated m l) (seated m r) _ _ _ e
      ∙ sym (by-test own keys (seated m l))
      ∙ ap₂ (λ u v. climbed keys (laid m own keys u) (resolution v) put-back) (sym f) (sym g)

  pub laid-neither : false ≡ (seated m l || seated m r) → (own : K) (keys : ℕ → K) → laid m own keys t ≡ record { tree = node p l r; levels = 0; targets = [] }
  unfolding laid
  laid-neither e own keys = ap (laid m own keys) is ∙ neither (seated m l) (seated m r) _ _ _ e

-- the parent and the level above a part, from a test of the other side
pub parent-laid : {K : Type 0} (keys : ℕ → K) (i : ℕ) (b : Bool) (other : List K) → b ≡ not (is_none other) → cond b (keyed (keys i) []) blank_parent ≡ parent_laid keys i other
parent-laid keys i b [] e = ap (λ (x : Bool). cond x (keyed (keys i) []) blank_parent) e
parent-laid keys i b (k ∷ ks) e = ap (λ (x : Bool). cond x (keyed (keys i) []) blank_parent) e

pub level-after : {K : Type 0} (i : ℕ) (b : Bool) (other : List K) → b ≡ not (is_none other) → i + bool_byte b ≡ level_after i other
level-after i b [] e = ap (λ (x : Bool). i + bool_byte x) e ∙ omega arith
level-after i b (k ∷ ks) e = ap (λ (x : Bool). i + bool_byte x) e ∙ add-one i

level-rise : {K : Type 0} (i n : ℕ) (other : List K) → i ≤ n → level_after i other ≤ suc n
level-rise i n [] h = omega arith
level-rise i n (k ∷ ks) h = omega arith

-- a path lays at most one key for each level of the tree that a line of nodes stands for
pub levels-bound : (m : ℕ) (own : PublicKey) (keys : ℕ → PublicKey) (h : ℕ) (ns : List Node) → (laid m own keys (tree_of h ns)).levels ≤ h
unfolding tree_of laid
levels-bound m own keys zero ns = omega arith
levels-bound m own keys (suc h) ns =
    let l = tree_of h (take (span h) ns) in
    let r = tree_of h (drop (span h + 1) ns) in
    cond_both (seated m l) _ _ (λ (x : Laid PublicKey). x.levels ≤ suc h) (λ _. level-rise (laid m own keys l).levels h (resolution r) (levels-bound m own keys h (take (span h) ns)))
    (λ _. cond_both (seated m r) _ _ (λ (x : Laid PublicKey). x.levels ≤ suc h) (λ _. level-rise (laid m own keys r).levels h (resolution l) (levels-bound m own keys h (drop (span h + 1) ns))) (λ _. omega arith))

one-or-none : (b : Bool) → bool_byte b ≤ 1
one-or-none true = omega arith
one-or-none false = omega arith

-- so the code's sum fits
pub level-small : (m : ℕ) (own : PublicKey) (keys : ℕ → PublicKey) (h : ℕ) (ns : List Node) (i : ℕ) (b : Bool) → i ≡ (laid m own keys (tree_of h ns)).levels → h ≤ 10 → i + bool_byte b ≤ 11
level-small m own keys h ns i b e l = omega (arith, levels-bound m own keys h ns, one-or-none b)

-- the parent that is laid where a key is given, and where none is
laid-parent : {K : Type 0} (b : Bool) (k : K) (key : Option K) (p : Parent K) → key ≡ then_some b k →
    MatchOption key (p ≡ blank_parent) (λ x. p ≡ keyed x []) → p ≡ cond b (keyed k []) blank_parent
laid-parent true k None p e q = cc
laid-parent true k (Some x) p e q = cc
laid-parent false k None p e q = q
laid-parent false k (Some x) p e q = cc

-- a line, and the half of it that the committer sits in
module _ (h : ℕ) (ns : List Node) (above : h ≡ 0 → ⊥) (len : length ns ≡ span h) (m : ℕ) where
  abbrev pub own_nodes : OwnHalf → List Node
  own_nodes o = take (o.nodes.end - o.nodes.start) (drop o.nodes.start ns)

  -- the line after that half was written
  abbrev pub own_put : OwnHalf → List Node → List Node
  own_put o ys = put_mid o.nodes.start (o.nodes.end - o.nodes.start) ns ys

  from-left : (o : OwnHalf) → InLeft m h ns o → own_nodes o ≡ take (length ns / 2 - 0) ns
  from-left o x = ap₂ (λ (a e : ℕ). take (e - a) (drop a ns)) x.start x.end

  from-right : (o : OwnHalf) → InRight m h ns o → own_nodes o ≡ behind ns ns
  from-right o x = ap₂ (λ (a e : ℕ). take (e - a) (drop a ns)) x.start x.end

  is-left : (o : OwnHalf) → InLeft m h ns o → own_nodes o ≡ take (span (h - 1)) ns
  is-left o x = from-left o x ∙ left_is h ns above len (cut-start h ns above len)

  is-right : (o : OwnHalf) → InRight m h ns o → own_nodes o ≡ drop (span (h - 1) + 1) ns
  is-right o x = from-right o x ∙ right_is h ns above len (cut-start h ns above len)

  pub own-long : (o : OwnHalf) → InLeft m h ns o ⊎ InRight m h ns o → length (own_nodes o) ≡ span (h - 1)
  own-long o (inl x) = ap length (is-left o x) ∙ (cut-start h ns above len).left
  own-long o (inr x) = ap length (is-right o x) ∙ (cut-start h ns above len).right

  module _ (ys : List Node) (o : OwnHalf) (long : length ys ≡ length (own_nodes o)) where
    left-line : InLeft m h ns o → own_put o ys ≡ left_put ns ns ys
    left-line x = ap₂ (λ (a e : ℕ). put_mid a (e - a) ns ys) x.start x.end

    right-line : InRight m h ns o → own_put o ys ≡ right_put ns ns ys
    right-line x = ap₂ (λ (a e : ℕ). put_mid a (e - a) ns ys) x.start x.end

    left-cut : (x : InLeft m h ns o) → Cut (h - 1) (left_put ns ns ys) ys (get_or ns (span (h - 1)) no_node) (drop (span (h - 1) + 1) ns)
    left-cut x = left-put h ns above len (cut-start h ns above len) ys (long ∙ ap length (from-left o x))

    right-cut : (x : InRight m h ns o) → Cut (h - 1) (right_put ns ns ys) (take (span (h - 1)) ns) (get_or ns (span (h - 1)) no_node) ys
    right-cut x = right-put h ns above len (cut-start h ns above len) ys (long ∙ ap length (from-right o x))

    -- it still has its middle node
    pub middle-left : InLeft m h ns o ⊎ InRight m h ns o → length ns / 2 < length (own_put o ys)
    middle-left (inl x) = omega (arith, ap length (left-line x), cut-length (left-cut x), lower-length h ns above len, middle-within h ns above len)
    middle-left (inr x) = omega (arith, ap length (right-line x), cut-length (right-cut x), lower-length h ns above len, middle-within h ns above len)

    module _ (own : PublicKey) (keys : ℕ → PublicKey) (i : ℕ) (k : PublicKey) (key : Option PublicKey) (y : Node)
        (ky : k ≡ keys i) (given : key ≡ then_some o.reached k) (py : MatchOption key (parent_of y ≡ blank_parent) (λ x. parent_of y ≡ keyed x [])) where
      parent_is : (other : List PublicKey) (j : ℕ) → i ≡ j → o.reached ≡ not (is_none other) → parent_of y ≡ parent_laid keys j other
      parent_is other j e q =
          laid-parent o.reached k key (parent_of y) given py ∙ ap (λ z. cond o.reached (keyed z []) blank_parent) (ky ∙ ap keys e) ∙ parent-laid keys j o.reached other q

      lay-side : (s other : Tree PublicKey) (put : Parent PublicKey → Tree PublicKey → Tree PublicKey) →
          laid m own keys (tree_of h ns) ≡ climbed keys (laid m own keys s) (resolution other) put →
          tree_of h (set (own_put o ys) (length ns / 2) y) ≡ put (parent_of y) (tree_of (h - 1) ys) →
          tree_of (h - 1) ys ≡ (laid m own keys s).tree → i ≡ (laid m own keys s).levels → o.reached ≡ not (is_none (resolution other)) →
          (tree_of h (set (own_put o ys) (length ns / 2) y) ≡ (laid m own keys (tree_of h ns)).tree) × (i + bool_byte o.reached ≡ (laid m own keys (tree_of h ns)).levels)
      lay-side s other put all cut t v q = (
        cut ∙ ap₂ put (parent_is (resolution other) (laid m own keys s).levels v q) t ∙ ap (λ (x : Laid PublicKey). x.tree) (sym all),
        ap (λ (j : ℕ). j + bool_byte o.reached) v ∙ level-after (laid m own keys s).levels o.reached (resolution other) q ∙ ap (λ (x : Laid PublicKey). x.levels) (sym all),
      )

      -- the path in the line, from the path in that half
      pub lay-own : InLeft m h ns o ⊎ InRight m h ns o →
          tree_of (h - 1) ys ≡ (laid m own keys (tree_of (h - 1) (own_nodes o))).tree → i ≡ (laid m own keys (tree_of (h - 1) (own_nodes o))).levels →
          (tree_of h (set (own_put o ys) (length ns / 2) y) ≡ (laid m own keys (tree_of h ns)).tree) × (i + bool_byte o.reached ≡ (laid m own keys (tree_of h ns)).levels)
      lay-own (inl x) t v =
          lay-side (left_tree h ns) (right_tree h ns) (λ z u. node z u (right_tree h ns))
          (ap (laid m own keys) (start-tree h ns above len) ∙ laid-left m own keys _ (left_tree h ns) (right_tree h ns) x.seat)
          (ap (λ l. tree_of h (set l (length ns / 2) y)) (left-line x) ∙ cut-tree-at h above (cut-set (left-cut x) (length ns / 2) y (middle-at h ns above len)))
          (t ∙ ap (λ u. (laid m own keys (tree_of (h - 1) u)).tree) (is-left o x)) (v ∙ ap (λ u. (laid m own keys (tree_of (h - 1) u)).levels) (is-left o x)) x.reached
      lay-own (inr x) t v =
          lay-side (right_tree h ns) (left_tree h ns) (λ z u. node z (left_tree h ns) u)
          (ap (laid m own keys) (start-tree h ns above len) ∙ laid-right m own keys _ (left_tree h ns) (right_tree h ns) x.not_left x.seat)
          (ap (λ l. tree_of h (set l (length ns / 2) y)) (right-line x) ∙ cut-tree-at h above (cut-set (right-cut x) (length ns / 2) y (middle-at h ns above len)))
          (t ∙ ap (λ u. (laid m own keys (tree_of (h - 1) u)).tree) (is-right o x)) (v ∙ ap (λ u. (laid m own keys (tree_of (h - 1) u)).levels) (is-right o x)) x.reached

  -- nothing is laid where the committer sits in neither half
  pub lay-neither : InNeither m h ns → (own : PublicKey) (keys : ℕ → PublicKey) →
      (tree_of h ns ≡ (laid m own keys (tree_of h ns)).tree) × (0 ≡ (laid m own keys (tree_of h ns)).levels)
  lay-neither x own keys =
      let all : laid m own keys (tree_of h ns) ≡ _ =
      ap (laid m own keys) (start-tree h ns above len) ∙ laid-nowhere m own keys _ (left_tree h ns) (right_tree h ns) x.not_left x.not_right in
      (start-tree h ns above len ∙ ap (λ (x : Laid PublicKey). x.tree) (sym all), ap (λ (x : Laid PublicKey). x.levels) (sym all))

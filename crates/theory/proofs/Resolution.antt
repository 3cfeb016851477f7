-- The resolution of a part is empty exactly if nobody is seated there: in every tree of a run each key has somebody below it.
-- Assumes nothing.
use Rattle.std.proofs.Common.{◌≡◌, ℕ, ◌||◌, T, List, [], ◌∷◌, ◌++◌, Some, refl, inl, inr, arith}
use lib.Dec.{eqb_refl}
use Rattle.theory.specs.Tree.{Tree, leaf, node, Leaf, blank_leaf, occupied, Parent, blank_parent, keyed, seated, full, resolution, blank_tree, grown, added, removed}
use Rattle.theory.specs.Group.{Change, renew, remove, add, readied}
use Rattle.theory.specs.Places.{Turn, has_key, Below, whole, in_left, in_right}
use Rattle.theory.specs.Laws.{Deserted, ResolutionEmpty}
use Rattle.theory.proofs.Tests.{by_cond, decided, or_left, or_right}
use Rattle.theory.proofs.Addition.{Adding, adding, added_full}
use Rattle.theory.proofs.Addition as adds
use Rattle.theory.proofs.Runs.{Laying, laying, seated-laying, run-keeps}
use Rattle.theory.proofs.Runs as runs

-- every keyed parent has somebody seated below it
pub data Peopled {K : Type 0} : Tree K → Type 0 where
  at_leaf : {x : Leaf K} → Peopled (leaf x)
  at_node :
      {c : Parent K} {l r : Tree K} →
      (T (has_key (Some c)) → (w : ℕ) × T (seated w (node c l r))) → Peopled l → Peopled r → Peopled (node c l r)

-- A PART. Nobody is seated where the resolution is empty, and the other way round in a peopled tree.
nil-parts : {A : Type 0} (a b : List A) → a ++ b ≡ [] → (a ≡ []) × (b ≡ [])
nil-parts [] b e = (refl, e)
nil-parts (x ∷ a) b e = let z : ◌≡◌ {A = ℕ} 0 1 = cc in absurd (omega arith)

not-nil : {A : Type 0} {x : A} {a : List A} → x ∷ a ≡ [] → ⊥
not-nil e = let z : ◌≡◌ {A = ℕ} 0 1 = cc in omega arith

pub empty-deserted : {K : Type 0} (t : Tree K) → resolution t ≡ [] → Deserted t
unfolding resolution seated
empty-deserted (leaf blank_leaf) e = λ w s. s
empty-deserted (leaf (occupied v k)) e = absurd (not-nil e)
empty-deserted (node blank_parent l r) e = grind (arith, nil-parts, empty-deserted l, empty-deserted r)
empty-deserted (node (keyed k un) l r) e = absurd (not-nil e)

pub deserted-empty : {K : Type 0} {t : Tree K} → Peopled t → Deserted t → resolution t ≡ []
unfolding resolution seated
deserted-empty (at_leaf {x = blank_leaf}) d = refl
deserted-empty (at_leaf {x = occupied v k}) d = absurd (d v (eqb_refl v))
deserted-empty (at_node {c = blank_parent} {l} {r} f p q) d = grind (arith, deserted-empty p, deserted-empty q)
deserted-empty (at_node {c = keyed k un} f p q) d = absurd (d (f tt).0 (f tt).1)

pub peopled-below : {K : Type 0} {t u : Tree K} → Below t u → Peopled u → Peopled t
peopled-below whole p = p
peopled-below (in_left b) (at_node f p q) = peopled-below b p
peopled-below (in_right b) (at_node f p q) = peopled-below b q

-- A CHANGE keeps a tree peopled.
blank-peopled : {K : Type 0} (t : Tree K) → Peopled (blank_tree t)
unfolding blank_tree
blank-peopled (leaf x) = at_leaf
blank-peopled (node c l r) = at_node (λ h. absurd h) (blank-peopled l) (blank-peopled r)

pub grown-peopled : {K : Type 0} (t : Tree K) → Peopled t → Peopled (grown t)
grown-peopled t p = by_cond Peopled (full t) _ _ (λ _. at_node (λ h. absurd h) p (blank-peopled t)) (λ _. p)

pub removed-peopled : {K : Type 0} (m : ℕ) {t : Tree K} → Peopled t → Peopled (removed m t)
unfolding removed
removed-peopled m at_leaf = at_leaf
removed-peopled m (at_node {l} {r} f p q) =
    by_cond Peopled (seated m l || seated m r) _ _
    (λ _. at_node (λ h. absurd h) (removed-peopled m p) (removed-peopled m q)) (λ _. at_node f p q)

module _ {K : Type 0} {m : ℕ} {k : K} where
  newcomer-seated : {t u : Tree K} {p : List Turn} → Adding m k t u p → T (seated m u)
  unfolding seated
  newcomer-seated adds.here = eqb_refl m
  newcomer-seated (adds.in_left {l'} {r} a) = or_left (seated m l') (seated m r) (newcomer-seated a)
  newcomer-seated (adds.in_right {l} {r'} f a) = or_right (seated m l) (seated m r') (newcomer-seated a)

  adding-peopled : {t u : Tree K} {p : List Turn} → Adding m k t u p → Peopled t → Peopled u
  unfolding seated
  adding-peopled adds.here p = at_leaf
  adding-peopled (adds.in_left {l'} {r} a) (at_node f p q) =
      at_node (λ _. (m, or_left (seated m l') (seated m r) (newcomer-seated a))) (adding-peopled a p) q
  adding-peopled (adds.in_right {l} {r'} h a) (at_node f p q) =
      at_node (λ _. (m, or_right (seated m l) (seated m r') (newcomer-seated a))) p (adding-peopled a q)

pub added-peopled : {K : Type 0} (m : ℕ) (k : K) (t : Tree K) → Peopled t → Peopled (added m k t)
added-peopled m k t p =
    elim (decided (full t)) [
      | inl h ↦ rw (added_full m k t h) p
      | inr h ↦ adding-peopled (adding m k t h).1 p
    ]

pub laying-peopled : {K : Type 0} {m : ℕ} {own : K} {t u : Tree K} → Laying m own t u → Peopled t → Peopled u
unfolding seated
laying-peopled (runs.elsewhere h) p = p
laying-peopled runs.here p = at_leaf
laying-peopled {m} (runs.in_left {l'} {r} h a) (at_node f p q) =
    at_node (λ _. (m, or_left (seated m l') (seated m r) (rw (seated-laying a m) h))) (laying-peopled a p) q
laying-peopled {m} (runs.in_right {l} {r'} h a) (at_node f p q) =
    at_node (λ _. (m, or_right (seated m l) (seated m r') (rw (seated-laying a m) h))) p (laying-peopled a q)

pub readied-peopled : {K : Type 0} (c : Change) (fresh : K) (t : Tree K) → Peopled t → Peopled (readied c fresh t)
readied-peopled renew fresh t p = p
readied-peopled (remove m) fresh t p = removed-peopled m p
readied-peopled (add m) fresh t p = added-peopled m fresh (grown t) (grown-peopled t p)

pub resolution_empty : ResolutionEmpty
resolution_empty f commits n t b = (
  empty-deserted t,
  deserted-empty
      (peopled-below b
      (run-keeps Peopled (λ m k. at_leaf)
      (λ e c u _ fresh own keys p. laying-peopled (laying c.committer own keys _) (readied-peopled c.change fresh u p))
      f commits n)),
)

-- What a handset holds, taken apart: its leaf key, and node keys at which it is merged.
-- Assumes nothing.
use Rattle.std.proofs.Common.{◌≡◌, ℕ, not, T, eqb, ◌⊎◌, List, sym, inl, inr, eqb→eq, arith}
use mathlib.Core.List.Memᴰ
use mathlib.Core.List.{Memᴰ}
use Rattle.theory.specs.Secrets.{Secret, seed, talk}
use Rattle.theory.specs.Tree.{Tree, leaf, node, blank_leaf, occupied, Parent, blank_parent, keyed, seated}
use Rattle.theory.specs.Held.{is_unmerged, node_key_held, held}
use Rattle.theory.specs.Group.{Group, stock}
use Rattle.theory.proofs.Tests.{by_cond, or_left, or_right}
use Rattle.theory.proofs.Own.{Has, here, on_left, on_right, seated-has}
use Rattle.theory.proofs.Keys.{Keyed, at_keyed, keyed-left, keyed-right}

-- somewhere above m, who is merged there, lies the node key s
pub data Holds {K : Type 0} (m : ℕ) (s : K) : Tree K → Type 0 where
  at_top :
      {j : K} {un : List ℕ} {l r : Tree K} → j ≡ s → T (not (is_unmerged m un)) → T (seated m (node (keyed j un) l r)) →
      Holds m s (node (keyed j un) l r)
  in_left : {c : Parent K} {l r : Tree K} → Holds m s l → Holds m s (node c l r)
  in_right : {c : Parent K} {l r : Tree K} → Holds m s r → Holds m s (node c l r)

module _ {K : Type 0} {m : ℕ} {s : K} where
  node-holds :
      (c : Parent K) (l r : Tree K) → T (seated m (node c l r)) → Memᴰ s (node_key_held m c) → Holds m s (node c l r)
  node-holds blank_parent l r h x = absurd (Memᴰ.not-nil x)
  node-holds (keyed j un) l r h x =
      by_cond (λ ks. Memᴰ s ks → Holds m s (node (keyed j un) l r)) (is_unmerged m un) _ _
      (λ _ y. absurd (Memᴰ.not-nil y)) (λ g y. at_top (sym (Memᴰ.eq_of_singleton y)) g h) x

  pub held-cases : (t : Tree K) → Memᴰ s (held m t) → Has m s t ⊎ Holds m s t
  unfolding held seated
  held-cases (leaf blank_leaf) x = absurd (Memᴰ.not-nil x)
  held-cases (leaf (occupied v j)) x =
      by_cond (λ ks. Memᴰ s ks → Has m s (leaf (occupied v j)) ⊎ Holds m s (leaf (occupied v j))) (eqb v m) _ _
      (λ h i. inl (here (eqb→eq v m h) (sym (Memᴰ.eq_of_singleton i)))) (λ _ i. absurd (Memᴰ.not-nil i)) x
  held-cases (node c l r) x =
      by_cond (λ ks. Memᴰ s ks → Has m s (node c l r) ⊎ Holds m s (node c l r)) (seated m l) _ _
      (λ h y.
      elim (Memᴰ.append_cases (node_key_held m c) y) [
        | inl a ↦ inr (node-holds c l r (or_left (seated m l) (seated m r) h) a)
        | inr b ↦ elim (held-cases l b) [ inl p ↦ inl (on_left p) | inr q ↦ inr (in_left q) ]
      ])
      (λ _ y.
      by_cond (λ ks. Memᴰ s ks → Has m s (node c l r) ⊎ Holds m s (node c l r)) (seated m r) _ _
      (λ h z.
      elim (Memᴰ.append_cases (node_key_held m c) z) [
        | inl a ↦ inr (node-holds c l r (or_right (seated m l) (seated m r) h) a)
        | inr b ↦ elim (held-cases r b) [ inl p ↦ inl (on_right p) | inr q ↦ inr (in_right q) ]
      ])
      (λ _ z. absurd (Memᴰ.not-nil z)) y)
      x

  -- a node key that m holds comes from somewhere that m was, with the leaf key that it has
  pub holds-had :
      {I : Type 0} {key : I → K} {had : I → ℕ → K → Type 0} {t : Tree K} → Keyed key had t → Holds m s t →
      (o : I) × (s ≡ key o) × (k : K) × Has m k t × had o m k
  holds-had (at_keyed {j} {un} {l} {r} o e f x y) (at_top d g h) = grind (arith, seated-has)
  holds-had x (in_left h) =
      let y = holds-had (keyed-left x) h in (y.0, y.1, y.2, on_left y.3, y.4)
  holds-had x (in_right h) =
      let y = holds-had (keyed-right x) h in (y.0, y.1, y.2, on_right y.3, y.4)

-- STOCKS. What is in the handset of one who is seated: the talk secret, the seed, its leaf key, and node keys.
pub stock-cases :
    {s : Secret} (m : ℕ) (g : Group) → Memᴰ s (stock m g) →
    T (seated m g.tree)
    × ((s ≡ talk g.secret) ⊎ ((s ≡ seed g.secret) ⊎ (Has m s g.tree ⊎ Holds m s g.tree)))
stock-cases {s} m g x = grind (arith, held-cases)

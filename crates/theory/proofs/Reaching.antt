-- Who is seated in a part of a tree holds one of the keys of its resolution, and nobody else holds any.
-- Assumes nothing.
use Rattle.std.proofs.Common.{◌≡◌, ℕ, not, T, eqb, ◌⊎◌, List, [], ◌∷◌, ◌++◌, sym, refl, ◌∙◌, inl, inr, arith, eqb→eq}
use mathlib.Core.List.Memᴰ
use mathlib.Core.List.{Memᴰ}
use lib.Dec.{not_T, eqb_refl}
use Rattle.theory.specs.Secrets.{Secret, lock, seed, talk}
use Rattle.theory.specs.Tree.{Tree, leaf, node, blank_leaf, occupied, Parent, blank_parent, keyed, seated, leaf_key, leaf_keys, resolution}
use Rattle.theory.specs.Held.{is_unmerged, node_key_held, held}
use Rattle.theory.specs.Group.{Commit, Group, stock}
use Rattle.theory.specs.Places.{Below, whole}
use Rattle.theory.specs.Places as places
use Rattle.theory.specs.Promise.{Reaches}
use Rattle.theory.proofs.Tests.{decided, is_true, is_false, or_cases, or_left, or_right}
use Rattle.theory.proofs.Own.{Has, here, on_left, on_right, has-seated, seated-has, has-below, has_key, Once, at_leaf, at_node}
use Rattle.theory.proofs.Keys.{keyed-below, resolution-cases}
use Rattle.theory.proofs.Holding.{Holds, at_top, in_left, in_right, holds-had, stock-cases}
use Rattle.theory.proofs.History.{Owns, owns-owner, at, run-once, run-owns, run-keyed, same-level, had-same}
use Rattle.theory.proofs.History as history

-- WHO SITS THERE.
-- an unmerged member's leaf key is among the leaf keys of the unmerged
unmerged-key :
    {K : Type 0} {m : ℕ} {k : K} (un : List ℕ) {t : Tree K} → T (is_unmerged m un) → Has m k t → Memᴰ k (leaf_keys un t)
unfolding is_unmerged leaf_keys
unmerged-key [] g h = elim g [ ]
unmerged-key {m} {k} (w ∷ ws) {t} g h =
    elim (or_cases (eqb w m) (is_unmerged m ws) g) [
      | inl e ↦ Memᴰ.append_left (leaf_keys ws t) (rw (eqb→eq w m e) (has_key h))
      | inr i ↦ Memᴰ.append_right (leaf_key w t) (unmerged-key ws i h)
    ]

module _ {K : Type 0} {s : K} (m : ℕ) where
  -- what m holds below a parent it holds above it
  held-left :
      (c : Parent K) (l r : Tree K) → T (seated m l) → Memᴰ s (node_key_held m c ++ held m l) →
      Memᴰ s (held m (node c l r))
  unfolding held
  held-left c l r h x = rw (is_true (seated m l) h) x

  held-right :
      (c : Parent K) (l r : Tree K) → T (not (seated m l)) → T (seated m r) → Memᴰ s (node_key_held m c ++ held m r) →
      Memᴰ s (held m (node c l r))
  unfolding held
  held-right c l r g h x = rw (is_false (seated m l) g, is_true (seated m r) h) x

  merged-key : {j : K} (un : List ℕ) → j ≡ s → T (not (is_unmerged m un)) → Memᴰ s (node_key_held m (keyed j un))
  merged-key un e g = rw (is_false (is_unmerged m un) g) (Memᴰ.head (sym e))

module _ {K : Type 0} {m : ℕ} where
  -- a key of the resolution is m's leaf key, or a node key where m is merged
  pub reached : (t : Tree K) → T (seated m t) → (s : K) × Memᴰ s (resolution t) × (Has m s t ⊎ Holds m s t)
  unfolding resolution seated
  reached (leaf blank_leaf) h = elim h [ ]
  reached (leaf (occupied w k)) h = (k, Memᴰ.head refl, inl (here (eqb→eq w m h) refl))
  reached (node blank_parent l r) h = grind (arith, Memᴰ.append_left, on_left, in_left, Memᴰ.append_right, on_right, in_right, reached l, reached r)
  reached (node (keyed j un) l r) h =
      elim (decided (is_unmerged m un)) [
        | inl a ↦
            (let k = seated-has m (node (keyed j un) l r) h in
            (k.0, Memᴰ.tail (unmerged-key un a k.1), inl k.1))
        | inr a ↦ (j, Memᴰ.head refl, inr (at_top refl a h))
      ]

  module _ {s : K} where
    pub holds-below : {t u : Tree K} → Below t u → Holds m s t → Holds m s u
    holds-below whole h = h
    holds-below (places.in_left b) h = in_left (holds-below b h)
    holds-below (places.in_right b) h = in_right (holds-below b h)

    pub leaf-held : {t : Tree K} → Once t → Has m s t → Memᴰ s (held m t)
    leaf-held at_leaf (here {v} e d) = unfold held in rw (is_true (eqb v m) (rw e (eqb_refl m))) (Memᴰ.head (sym d))
    leaf-held (at_node {p} {l} {r} f x y) (on_left h) =
        held-left m p l r (has-seated h) (Memᴰ.append_right (node_key_held m p) (leaf-held x h))
    leaf-held (at_node {p} {l} {r} f x y) (on_right h) = search (held-right, not_T, has-seated, Memᴰ.append_right, leaf-held y h)

    holds-seated : {t : Tree K} → Holds m s t → T (seated m t)
    unfolding seated
    holds-seated (at_top e g h) = h
    holds-seated (in_left {l} {r} h) = or_left (seated m l) (seated m r) (holds-seated h)
    holds-seated (in_right {l} {r} h) = or_right (seated m l) (seated m r) (holds-seated h)

    pub node-held : {t : Tree K} → Once t → Holds m s t → Memᴰ s (held m t)
    unfolding seated
    node-held at_leaf h = elim h [ ]
    node-held (at_node {l} {r} f x y) (at_top {j} {un} e g h) = grind (arith, held-left, Memᴰ.append_left, merged-key, held-right)
    node-held (at_node {p} {l} {r} f x y) (in_left h) =
        held-left m p l r (holds-seated h) (Memᴰ.append_right (node_key_held m p) (node-held x h))
    node-held (at_node {p} {l} {r} f x y) (in_right h) = search (held-right, not_T, holds-seated, Memᴰ.append_right, node-held y h)

held-stock : {s : Secret} (m : ℕ) (g : Group) → T (seated m g.tree) → Memᴰ s (held m g.tree) → Memᴰ s (stock m g)
held-stock m g h x = rw (is_true (seated m g.tree) h) (Memᴰ.tail (Memᴰ.tail x))

-- WHO DOESN'T. A leaf key is no other kind of secret.
no-lock : {b w : ℕ} {s : Secret} → Owns b w (lock s) → ⊥
no-lock o = elim o [ ]

no-seed : {b w : ℕ} {s : Secret} → Owns b w (seed s) → ⊥
no-seed o = elim o [ ]

no-talk : {b w : ℕ} {s : Secret} → Owns b w (talk s) → ⊥
no-talk o = elim o [ ]

module _ (f : ℕ) (commits : ℕ → Commit) (n : ℕ) where
  holder :
      (m : ℕ) (t : Tree Secret) → Below t (at f commits n).tree → T (seated m t) →
      (s : Secret) × Memᴰ s (resolution t) × Memᴰ s (stock m (at f commits n))
  holder m t b h = grind (arith, reached, seated-has, held-stock, has-seated, has-below, leaf-held, run-once, node-held, holds-below)

  stranger :
      (m : ℕ) (t : Tree Secret) → Below t (at f commits n).tree → (T (seated m t) → ⊥) → (s : Secret) →
      Memᴰ s (resolution t) → Memᴰ s (stock m (at f commits n)) → ⊥
  stranger m t b out s x y =
      let c = stock-cases m (at f commits n) y in
      elim (resolution-cases (keyed-below b (run-keyed f commits n)) x) [
        | inl a ↦
            (let o = run-owns f commits n a.0 s (has-below b a.1) in
            elim c.1 [
              | inl e ↦ no-talk (rw e at o)
              | inr z ↦
                  elim z [
                    | inl e ↦ no-seed (rw e at o)
                    | inr k ↦
                        elim k [
                          | inl h ↦
                              (let e : a.0 ≡ m = sym (owns-owner o) ∙ owns-owner (run-owns f commits n m s h) in
                              out (rw e at (has-seated a.1)))
                          | inr h ↦ no-lock (rw (holds-had (run-keyed f commits n) h).1 at o)
                        ]
                  ]
            ])
        | inr a ↦
            elim c.1 [
              | inl e ↦ (let p = a.1 in let q : ◌≡◌ {A = ℕ} 0 1 = cc in omega arith)
              | inr z ↦
                  elim z [
                    | inl e ↦ (let p = a.1 in let q : ◌≡◌ {A = ℕ} 0 1 = cc in omega arith)
                    | inr k ↦
                        elim k [
                          | inl h ↦ no-lock (rw a.1 at (run-owns f commits n m s h))
                          | inr h ↦
                              (let y = holds-had (run-keyed f commits n) h in
                              let o = a.0 in
                              let p = y.0 in
                              let e = same-level f commits p.commit o.commit p.level o.level p.took o.took
                              (history.lock-same (sym y.1 ∙ a.1)) in
                              out (has-seated (a.2 m y.2
                              (had-same f commits p.commit o.commit p.level o.level m y.2 e y.4))))
                        ]
                  ]
            ]
      ]

pub reaches : Reaches
reaches f commits n t b m = (holder f commits n m t b, stranger f commits n m t b)

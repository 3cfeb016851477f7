-- Sealing along a path: one target more, one level more.
-- Assumes nothing.
use Rattle.std.proofs.Common.{◌≡◌, ℕ, ◌+◌, ◌≤◌, cond, not, eqb, length, List, [], ◌∷◌, ◌++◌, map, Ok, Err, Result, vec_items, sym, refl, ap, ◌∙◌, ap₂, append_assoc, arith}
use mir.Val.{bool_byte}
use Rattle.std.proofs.lemmas.Bool.{eq-eqb, ne_eqb}
use Rattle.std.proofs.lemmas.List.{map-append}
use Rattle.std.specs.declared.alloc.AllocError.{AllocError}
use Rattle.theory.specs.Limits.{max_depth}
use Rattle.theory.specs.Path.{Laid, laid, climbed, level_after, sealed_to}
use Rattle.theory.specs.Tree.{Tree, Leaf, Parent, leaf, occupied, is_at, resolution}
use Rattle.ratchet_tree.specs.declared.member.PublicKey.{PublicKey}
use Rattle.ratchet_tree.specs.declared.part.Part.{Part}
use Rattle.ratchet_tree.specs.Parts.{part_tree}
use Rattle.commits.specs.declared.targets.Sealed.{Sealed}
use Rattle.commits.specs.declared.targets.Target.{Target}
use Rattle.commits.specs.Path.{is_none}
use Rattle.commits.specs.Targets.{target_of, SealedOther, SealsOther, SealedPath, SealsPath}
use Rattle.commits.proofs.Laying.{level-after, levels-bound}

-- a key and a level, as a target of the code
abbrev pub target_at : ℕ → PublicKey → Target
target_at n k = record { key = k; level = n }

targets-at : (n : ℕ) (keys : List PublicKey) → map target_of (map (target_at n) keys) ≡ sealed_to n keys
targets-at n [] = refl
targets-at n (k ∷ ks) = ap (λ l. record { key = k; level = n } ∷ l) (targets-at n ks)

-- targets that were appended
sealed-keys : (n : ℕ) (keys : List PublicKey) (before after : List Target) → after ≡ before ++ map (target_at n) keys →
    map target_of after ≡ map target_of before ++ sealed_to n keys
sealed-keys n keys before after e =
    ap (map target_of) e ∙ map-append target_of before (map (target_at n) keys) ∙ ap (λ l. map target_of before ++ l) (targets-at n keys)

some-keys : {K : Type 0} (n : ℕ) (keys : List K) → n ≡ length keys → not (eqb n 0) ≡ not (is_none keys)
some-keys n [] e = ap not (eq-eqb n 0 e)
some-keys n (k ∷ ks) e = ap not (ne_eqb n 0 (λ z. omega arith))

-- one parent more, from the keys of its other side
pub seals : (i j : ℕ) (before after : List Target) (other : Tree PublicKey) (keys : List PublicKey) (n : ℕ) → keys ≡ resolution other → n ≡ length keys →
    after ≡ before ++ map (target_at i) keys → j ≡ i + bool_byte (not (eqb n 0)) → SealedOther i other before after j
seals i j before after other keys n is many e f =
    record {
      level = f ∙ level-after i (not (eqb n 0)) keys (some-keys n keys many) ∙ ap (level_after i) is;
      targets = sealed-keys i keys before after e ∙ ap (λ l. map target_of before ++ sealed_to i l) is;
    }

-- a path that has climbed one parent more
module _ (m : ℕ) (t half other : Tree PublicKey) (put : Parent PublicKey → Tree PublicKey → Tree PublicKey)
    (is : (own : PublicKey) (keys : ℕ → PublicKey) → laid m own keys t ≡ climbed keys (laid m own keys half) (resolution other) put) where
  climb : (a b c : List Target) (n k : ℕ) → SealedPath m half a b n → SealedOther n other b c k → SealedPath m t a c k
  climb a b c n k below here =
      record {
        level = λ own keys.
            here.level ∙ ap (λ (i : ℕ). level_after i (resolution other)) (below.level own keys) ∙ ap (λ (x : Laid PublicKey). x.levels) (sym (is own keys));
        targets = λ own keys.
            here.targets
            ∙ ap₂ (λ l (i : ℕ). l ++ sealed_to i (resolution other)) (below.targets own keys) (below.level own keys)
            ∙ append_assoc (map target_of a) (laid m own keys half).targets (sealed_to (laid m own keys half).levels (resolution other))
            ∙ ap (λ (x : Laid PublicKey). map target_of a ++ x.targets) (sym (is own keys));
      }

  -- the same from what the code made of the half
  pub climbs : (s : Sealed) (r : Result Sealed AllocError) → SealsPath m half (Ok s) → SealsOther s other r → SealsPath m t r
  climbs s (Ok x) below here = climb [] (vec_items s.targets) (vec_items x.targets) s.levels x.levels below here
  climbs s (Err e) below here = tt

-- no path, and so no level and no target, where the member sits in neither half or at a leaf
pub sealed-none : (m : ℕ) (t : Tree PublicKey) (u : PublicKey → Tree PublicKey) (s : Sealed) → s.levels ≡ 0 → vec_items s.targets ≡ [] →
    ((own : PublicKey) (keys : ℕ → PublicKey) → laid m own keys t ≡ record { tree = u own; levels = 0; targets = [] }) → SealsPath m t (Ok s)
sealed-none m t u s e f is =
    record {
      level = λ own keys. e ∙ ap (λ (x : Laid PublicKey). x.levels) (sym (is own keys));
      targets = λ own keys. ap (map target_of) f ∙ ap (λ (x : Laid PublicKey). x.targets) (sym (is own keys));
    }

pub laid-leaf : (m : ℕ) (t : Tree PublicKey) (x : Leaf PublicKey) → t ≡ leaf x → (own : PublicKey) (keys : ℕ → PublicKey) →
    laid m own keys t ≡ record { tree = leaf (cond (is_at m x) (occupied m own) x); levels = 0; targets = [] }
unfolding laid
laid-leaf m t x e own keys = ap (laid m own keys) e

-- a path in a part has few levels
pub few-levels : (m : ℕ) (p : Part) (s : Sealed) → SealsPath m (part_tree p) (Ok s) → s.levels ≤ max_depth
few-levels m p s x =
    let k : PublicKey = record { 0 = [] } in
    omega (arith, x.level k (λ _. k), levels-bound m k (λ _. k) p.height p.nodes.now, p.shallow)

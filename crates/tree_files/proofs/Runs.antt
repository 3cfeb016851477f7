-- The tree of every run fits its file.
-- Assumes nothing.
use Rattle.std.proofs.Common.{ℕ, zero, suc, ◌^◌, ◌<◌, ◌≤◌, Bool, cond, T, eqb, List, [], ◌∷◌, sym, subst, arith, pow_mono}
use lib.Dec.{eqb_refl}
use Rattle.theory.specs.Group.{Commit, Group, group, committed, allowed}
use Rattle.theory.specs.Held.{is_unmerged}
use Rattle.theory.specs.Limits.{max_depth, nobody, last_epoch}
use Rattle.theory.specs.Natural.{map_tree, map_leaf, map_parent}
use Rattle.theory.specs.Secrets.{Secret}
use Rattle.theory.specs.Tree.{Tree, node, Leaf, blank_leaf, occupied, Parent, blank_parent, keyed, is_at, is_blank, seated, members}
use Rattle.theory.proofs.Counting.{named-few}
use Rattle.theory.proofs.Level.{Level, level-height, run-bounded}
use Rattle.theory.proofs.Level as level
use Rattle.theory.proofs.Natural.{well_formed-map}
use Rattle.theory.proofs.Tests.{by_cond, or_left, or_right}
use Rattle.theory.proofs.Wellformed.{Sound, at_node, ParentSound, Numbered, permitted, run_sound, run-numbered, well-formed-kept}
use Rattle.ratchet_tree.specs.declared.member.PublicKey.{PublicKey}
use Rattle.wire.specs.Bytes.{Half}
use Rattle.messages.specs.TreeFile.{FitsLeaf, FitsMembers, FitsParent, FitsPart}
use Rattle.tree_files.specs.Verdict.{Fits}
use Rattle.tree_files.specs.Laws.{RunsFiled, run_file}
use Rattle.tree_files.proofs.Verdicts.{kept}

-- as many members as leaves, at most
one_at_most : (b : Bool) → cond b 0 1 ≤ 1
one_at_most b = by_cond (λ (n : ℕ). n ≤ 1) b 0 1 (λ _. omega arith) (λ _. omega arith)

level-few : {d : ℕ} {t : Tree Secret} → Level d t → members t ≤ 2 ^ d
unfolding members
level-few (level.at_leaf {x}) = one_at_most (is_blank x)
level-few (level.at_node {d} {l} {r} a b) = let x = level-few a in let y = level-few b in omega arith

all_fit : (un : List ℕ) → ((w : ℕ) → T (is_unmerged w un) → w < nobody) → FitsMembers un
unfolding is_unmerged
all_fit [] f = tt
all_fit (w ∷ ws) f =
    let first = f w (or_left (eqb w w) (is_unmerged w ws) (eqb_refl w)) in
    (omega arith, all_fit ws (λ v u. f v (or_right (eqb w v) (is_unmerged v ws) u)))

module _ (half : Secret → PublicKey) (long : (s : Secret) → Half (half s)) where
  leaf-fits : (x : Leaf Secret) → ((w : ℕ) → T (is_at w x) → w < nobody) → FitsLeaf (map_leaf half x)
  leaf-fits blank_leaf n = tt
  leaf-fits (occupied m k) n = let small = n m (eqb_refl m) in (omega arith, long k)

  parent-fits : (p : Parent Secret) (t : Tree Secret) → ParentSound p (λ w. seated w t) → Numbered t → members t < 65536 → FitsParent (map_parent half p)
  parent-fits blank_parent t s n few = tt
  parent-fits (keyed k un) t s n few =
      let named = named-few un t s.once s.below in
      (long k, omega arith, all_fit un (λ w u. n w (s.below w u)))

  part-fits : {d : ℕ} {t : Tree Secret} → Level d t → Sound t → Numbered t → members t < 65536 → FitsPart d (map_tree half t)
  unfolding FitsPart map_tree seated members
  part-fits (level.at_leaf {x}) s n few = leaf-fits x n
  part-fits (level.at_node {d} {c} {l} {r} a b) (at_node f g p q) n few =
      let left = part-fits a p (λ w h. n w (or_left (seated w l) (seated w r) h)) (omega arith) in
      let right = part-fits b q (λ w h. n w (or_right (seated w l) (seated w r) h)) (omega arith) in
      (left, parent-fits c (node c l r) g n few, right)

-- no epoch is past the last
epoch-few : (f : ℕ) (commits : ℕ → Commit) (n : ℕ) → (group f commits n).epoch ≤ last_epoch
unfolding group committed
epoch-few f commits zero = omega arith
epoch-few f commits (suc n) =
    by_cond (λ (g : Group). g.epoch ≤ last_epoch) (allowed (commits n) (group f commits n)) _ _
    (λ a. let early = (permitted (group f commits n).epoch (commits n) (group f commits n).tree a).early in omega arith)
    (λ _. epoch-few f commits n)

pub runs-filed : RunsFiled
runs-filed half long f small commits n =
    let b = run-bounded f commits n in
    let g = group f commits n in
    let high = level-height b.1 in
    let epoch = epoch-few f commits n in
    let few = level-few b.1 in
    let most = pow_mono {i = b.0} {j = max_depth} b.2 in
    let nodes = part-fits half long b.1 (run_sound f commits n) (run-numbered f small commits n) (omega arith) in
    let fits : Fits (run_file half f commits n) = record { epoch = omega arith; depth = rw high b.2; nodes = subst (λ (h : ℕ). FitsPart h (map_tree half g.tree)) (sym high) nodes } in
    kept (run_file half f commits n) fits (subst (λ (x : Bool). T x) (sym (well_formed-map half g.tree)) ((well-formed-kept f commits n).1 small))

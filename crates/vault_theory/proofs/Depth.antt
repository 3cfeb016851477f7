-- Level trees: the test gives the view, and a change that is readied makes no tree less deep.
-- Assumes nothing.
use Rattle.std.proofs.Common.{ℕ, zero, suc, ◌≤◌, T, inl, inr, arith}
use Rattle.theory.specs.Tree.{Tree, leaf, node, full, is_level, grown}
use Rattle.theory.specs.Group.{Change, renew, remove, add, readied}
use Rattle.theory.proofs.Tests.{decided, and_left, and_right}
use Rattle.theory.proofs.Growth.{grown-full, grown-roomy}
use Rattle.theory.proofs.Level.{Level, at_leaf, at_node, blank-level, removed-level, added-level}

pub level-view : {K : Type 0} (d : ℕ) (t : Tree K) → T (is_level d t) → Level d t
unfolding is_level
level-view zero (leaf x) h = at_leaf
level-view zero (node p l r) h = absurd h
level-view (suc d) (leaf x) h = absurd h
level-view (suc d) (node p l r) h = search (at_node, and_left, and_right, level-view d l, level-view d r)

-- level, and at least so deep
pub record Deep {K : Type 0} (d : ℕ) (t : Tree K) : Type 0 where
  pub depth : ℕ
  pub level : Level depth t
  pub deep : d ≤ depth

pub grown-deep : {K : Type 0} {d : ℕ} {t : Tree K} → Level d t → Deep d (grown t)
grown-deep {d} {t} a =
    elim (decided (full t)) [
      | inl h ↦ rw (grown-full t h) (record { depth = suc d; level = at_node a (blank-level a); deep = omega arith })
      | inr h ↦ rw (grown-roomy t h) (record { depth = d; level = a; deep = omega arith })
    ]

pub readied-deep : {K : Type 0} (c : Change) (fresh : K) {d : ℕ} {t : Tree K} → Level d t → Deep d (readied c fresh t)
readied-deep renew fresh {d} a = record { depth = d; level = a; deep = omega arith }
readied-deep (remove m) fresh {d} a = record { depth = d; level = removed-level m a; deep = omega arith }
readied-deep (add m) fresh {t} a =
    let g = grown-deep a in
    record { depth = g.depth; level = added-level m fresh (grown t) g.level; deep = g.deep }

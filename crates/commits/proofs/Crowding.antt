-- A full tree of the largest depth has as many members as a group may have, so an add to it is refused before.
-- Assumes nothing.
use Rattle.std.proofs.Common.{◌≡◌, ℕ, ◌≤◌, Bool, true, false, cond, not, ◌||◌, leb, List, None, Option, Ok, Err, sym, refl, ap, subst, ◌∙◌, arith}
use Rattle.std.specs.Prelude.{Result, IsErrAnd}
use Rattle.std.proofs.lemmas.Bool.{and_parts, leb-false}
use Rattle.theory.specs.Group.{Change, renew, remove, add, Commit, change_refusal, first_of, refusal}
use Rattle.theory.specs.Limits.{max_members, nobody, last_epoch}
use Rattle.theory.specs.Tree.{Tree, leaf, node, Leaf, blank_leaf, occupied, full, height, is_blank, leaves, members, seated}
use Rattle.tree_math.specs.Span.{span}
use Rattle.ratchet_tree.specs.declared.error.TreeError.{TreeError}
use Rattle.ratchet_tree.specs.declared.error.TreeError.TheVariants.{NoRoom, OutOfMemory}
use Rattle.ratchet_tree.specs.declared.member.PublicKey.{PublicKey}
use Rattle.ratchet_tree.specs.declared.node.Node.{Node}
use Rattle.ratchet_tree.specs.declared.tree.RatchetTree.{RatchetTree}
use Rattle.ratchet_tree.specs.Nodes.{tree_of}
use Rattle.ratchet_tree.proofs.Counts.{height-is, leaves-span}
use Rattle.commits.specs.Apply.{Crowded, Ready, Stopped}
use Rattle.commits.specs.Errors.{told}
use Rattle.commits.specs.declared.error.CommitError.{CommitError}

none_first : (b : Bool) (n : ℕ) (o : Option ℕ) → first_of b n o ≡ None → (b ≡ false) × (o ≡ None)
none_first true n o e = let z : ◌≡◌ {A = ℕ} 0 1 = cc in absurd (omega arith)
none_first false n o e = (refl, e)

full-leaf : (x : Leaf PublicKey) → not (is_blank x) ≡ true → ◌≡◌ {A = ℕ} (cond (is_blank x) 0 1) 1
full-leaf blank_leaf e = let z : ◌≡◌ {A = ℕ} 0 1 = cc in absurd (omega arith)
full-leaf (occupied m k) e = refl

-- in a full tree everybody has a leaf, and every leaf somebody
full-members : (t : Tree PublicKey) → full t ≡ true → members t ≡ leaves t
unfolding full members leaves
full-members (leaf x) e = full-leaf x e
full-members (node p l r) e =
    omega (arith, full-members l (and_parts (full l) (full r) e).0, full-members r (and_parts (full l) (full r) e).1)

module _ (h : ℕ) (ns : List Node) where
  crowd : full (tree_of h ns) ≡ true → height (tree_of h ns) ≡ 10 → max_members ≤ members (tree_of h ns)
  unfolding span
  crowd f e =
      let ten : h ≡ 10 = sym (height-is h ns) ∙ e in
      omega (arith, full-members (tree_of h ns) f, leaves-span h ns, ap span ten)

  no_room : (w : ℕ) (c : Change) → change_refusal w c (tree_of h ns) ≡ None → Crowded c (tree_of h ns) NoRoom → ⊥
  no_room w renew e x = x
  no_room w (remove m) e x = x
  no_room w (add m) e x =
      let last = (none_first (seated m (tree_of h ns) || leb nobody m) 5 (first_of (leb max_members (members (tree_of h ns))) 6 None) e).1 in
      let few = (none_first (leb max_members (members (tree_of h ns))) 6 None last).0 in
      omega (arith, leb-false max_members (members (tree_of h ns)) few, crowd x.0 x.1)

  -- an allowed commit finds room
  pub room : (e : ℕ) (c : Commit) → refusal e c (tree_of h ns) ≡ None → Crowded c.change (tree_of h ns) NoRoom → ⊥
  room e c a x =
      let seated-first = (none_first (leb last_epoch e) 9 (first_of (not (seated c.committer (tree_of h ns))) 3 (change_refusal c.committer c.change (tree_of h ns))) a).1 in
      no_room c.committer c.change (none_first (not (seated c.committer (tree_of h ns))) 3 (change_refusal c.committer c.change (tree_of h ns)) seated-first).1 x

  -- an error of what is asked, told one layer up
  pub stopped : (e : ℕ) (c : Commit) (fresh : PublicKey) (x : TreeError) (r : Result RatchetTree CommitError) → refusal e c (tree_of h ns) ≡ None →
      Crowded c.change (tree_of h ns) x → IsErrAnd r (λ y. y ≡ told x) → Ready e c fresh (tree_of h ns) r
  stopped e c fresh x (Ok u) a w i = absurd i
  stopped e c fresh NoRoom (Err y) a w i = absurd (room e c a w)
  stopped e c fresh OutOfMemory (Err y) a w i = subst (λ (z : CommitError). Stopped e c (tree_of h ns) z) (sym i) a

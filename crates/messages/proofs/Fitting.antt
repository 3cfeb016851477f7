-- The letter of a commit that is allowed fits its format: a path lays a key at each level at most, and is sealed to fewer keys than the deepest tree has leaves.
-- Assumes nothing.
use Rattle.std.proofs.Common.{◌≡◌, ℕ, suc, ◌*◌, ◌/◌, ◌^◌, ◌<◌, ◌≤◌, T, List, [], ◌∷◌, length, sym, ap, ◌∙◌, subst, arith, pow_mono}
use Rattle.theory.specs.Group.{Change, renew, remove, add, Commit, Group, newcomer, own_key, path_key, allowed, group, message}
use Rattle.theory.specs.Limits.{nobody}
use Rattle.theory.specs.Path.{Target, level_after}
use Rattle.theory.specs.Secrets.{Secret, Box, drawn, newcomer_key, lock, ups}
use Rattle.theory.specs.Tree.{Tree, leaf, Leaf, blank_leaf, occupied, members, resolution}
use Rattle.theory.proofs.Counting.{path-few}
use Rattle.theory.proofs.Level.{Level, at_leaf, at_node, Bounded, run-bounded}
use Rattle.theory.proofs.Wellformed.{Climbing, elsewhere, here, in_left, in_right, Fine, renewal, removal, addition, Permitted, Numbered, run-numbered, run_sound, readied-sound}
use Rattle.theory.proofs.Follows.{committer-stays, path, path-climbs, asked, next, message-done, group-done, now-permitted}
use Rattle.ratchet_tree.specs.declared.member.PublicKey.{PublicKey}
use Rattle.commits.specs.Apply.{welcomes}
use Rattle.wire.specs.Bytes.{Half, Whole}
use Rattle.messages.specs.Message.{Fits, FitsChange, kind_of, other_of}
use Rattle.messages.specs.Letters.{letter_change, letter_of}
use Rattle.messages.proofs.Letters.{joined_length, sealed-length, bs-length}
use Rattle.wire.proofs.Peeling.{divides-32, divides-48}

-- A PATH within a tree of some depth.
leaf-few : {K : Type 0} (x : Leaf K) → members (leaf x) ≤ 1
unfolding members
leaf-few blank_leaf = omega arith
leaf-few (occupied w k) = omega arith

members-few : {K : Type 0} {d : ℕ} {t : Tree K} → Level d t → members t ≤ 2 ^ d
unfolding members
members-few (at_leaf {x}) = unfold members in leaf-few x
members-few (at_node {d} {l} {r} a b) =
    let p : members l ≤ 2 ^ d = members-few a in
    let q : members r ≤ 2 ^ d = members-few b in
    omega arith

level_before : {K : Type 0} {m : ℕ} {own : K} {keys : ℕ → K} {t u : Tree K} {i d : ℕ} {ts : List (Target K)} →
    Climbing m own keys t u i ts → Level d u → Level d t
level_before (elsewhere h) a = a
level_before here at_leaf = at_leaf
level_before (in_left h c) (at_node x y) = at_node (level_before c x) y
level_before (in_right h k c) (at_node x y) = at_node x (level_before c y)

one-above : {K : Type 0} (i : ℕ) (ks : List K) → level_after i ks ≤ suc i
one-above i [] = omega arith
one-above i (k ∷ ks) = omega arith

levels-few : {K : Type 0} {m : ℕ} {own : K} {keys : ℕ → K} {t u : Tree K} {i d : ℕ} {ts : List (Target K)} →
    Climbing m own keys t u i ts → Level d t → i ≤ d
levels-few (elsewhere h) a = omega arith
levels-few here a = omega arith
levels-few (in_left {r} {i} h c) (at_node x y) = omega (arith, one-above i (resolution r), levels-few c x)
levels-few (in_right {l} {i} h k c) (at_node x y) = omega (arith, one-above i (resolution l), levels-few c y)

-- PARTS of one size are whole.
pub parts_whole : (size limit n : ℕ) (bs : List ℕ) → size * n / size ≡ n → length bs ≡ size * n → n < limit → Whole size limit bs
parts_whole size limit n bs d e l =
    let q : length bs / size ≡ n = ap (λ (i : ℕ). i / size) e ∙ d in
    record { whole = e ∙ ap (λ (i : ℕ). size * i) (sym q); few = rw q l }

-- WHAT IS ASKED.
kind_fits : (half : Secret → PublicKey) (c : Change) (e : ℕ) → kind_of (letter_change half c e) < 256
kind_fits half renew e = omega arith
kind_fits half (remove m) e = omega arith
kind_fits half (add m) e = omega arith

other_fits : (half : Secret → PublicKey) {w : ℕ} {c : Change} {t : Tree Secret} (e : ℕ) → Fine w t c → Numbered t → other_of (letter_change half c e) < 65536
other_fits half e renewal s = omega arith
other_fits half e (removal {m} a b) s = omega (arith, s m a)
other_fits half e (addition {m} a b d) s = omega (arith, b)

change-fits : (half : Secret → PublicKey) → ((s : Secret) → Half (half s)) → (c : Change) (e : ℕ) → FitsChange (letter_change half c e)
change-fits half h renew e = tt
change-fits half h (remove m) e = tt
change-fits half h (add m) e = (h _, h _)

one-welcome : (c : Change) → welcomes c ≤ 1
one-welcome renew = omega arith
one-welcome (remove m) = omega arith
one-welcome (add m) = omega arith

-- A LETTER of a run.
module _
    (half : Secret → PublicKey) (bytes : Box → List ℕ) (halves : (s : Secret) → Half (half s)) (boxed : (b : Box) → length (bytes b) ≡ 48)
    (f : ℕ) (member : f < nobody) (commits : ℕ → Commit) (n : ℕ) (ok : T (allowed (commits n) (group f commits n)))
  where
    abbrev c : Commit
    c = commits n

    abbrev g : Group
    g = group f commits n

    abbrev key : Secret
    key = drawn newcomer_key (newcomer c.change) (next c g)

    may : Permitted g.epoch c g.tree
    may = now-permitted f commits n ok

    after : Bounded (path c g).tree
    after = subst (λ (x : Group). Bounded x.tree) (group-done f commits n ok) (run-bounded f commits (suc n))

    before : Level after.0 (asked c g)
    before = level_before (path-climbs c g) after.1

    few-levels : (path c g).levels < 256
    few-levels = omega (arith, levels-few (path-climbs c g) before, after.2)

    few-targets : length (path c g).targets < 1024
    few-targets =
        let few = path-few (path-climbs c g) (committer-stays key may.asked may.present) (readied-sound key may.asked (run_sound f commits n)) in
        let most : 2 ^ after.0 ≤ 2 ^ 10 = pow_mono after.2 in
        omega (arith, few, members-few before, most)

    few-boxes : length (message f commits n) < 65536
    few-boxes =
        omega (arith, bs-length half bytes halves boxed c g ok (message f commits n) (message-done f commits n ok), few-targets, one-welcome c.change)

    pub letter-fits : Fits (letter_of half bytes f commits n)
    letter-fits =
        record {
          head =
              record {
                epoch = omega (arith, may.early);
                kind = kind_fits half c.change (next c g);
                committer = omega (arith, run-numbered f member commits n c.committer may.present);
                other = other_fits half (next c g) may.asked (run-numbered f member commits n);
              };
          change = change-fits half halves c.change (next c g);
          leaf_key = halves (own_key c (next c g));
          node_keys =
              parts_whole 32 256 (path c g).levels _ (divides-32 (path c g).levels)
              (joined_length (path c g).levels (λ i. half (lock (ups i (path_key c (next c g))))) (λ i. halves (lock (ups i (path_key c (next c g))))))
              few-levels;
          boxes =
              parts_whole 48 65536 (length (message f commits n)) _ (divides-48 (length (message f commits n)))
              (sealed-length bytes boxed (message f commits n)) few-boxes;
        }

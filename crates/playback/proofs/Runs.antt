-- A play is a run of the rules.
use Rattle.std.proofs.Common.{◌≡◌, ℕ, zero, suc, ◌+◌, ◌≤◌, cond, not, List, [], ◌∷◌, ◌++◌, map, length, is_some, Some, None, Option, sym, refl, ap, ◌∙◌, subst, ap₂, arith}
use Rattle.std.proofs.lemmas.List.{length_push, length-map, length-append, get_or_append_left, get_or_push}
use Rattle.theory.proofs.Natural.{refusal-map, laid_by-map}
use Rattle.theory.specs.Group as theory
use Rattle.theory.specs.Group.{Group, group, listed, committed, moved, refusal, laid_by, newcomer, own_key, path_key, path_boxes, welcome, epoch_secret}
use Rattle.theory.specs.Limits.{nobody}
use Rattle.theory.specs.Natural.{map_leaf, map_parent, map_tree, map_target, map_laid}
use Rattle.theory.specs.Path.{Laid}
use Rattle.theory.specs.Secrets.{Secret, drawn, newcomer_key, lock, ups}
use Rattle.theory.specs.Tree.{Tree, leaf, node, Leaf, blank_leaf, occupied, Parent, blank_parent, keyed}
use Rattle.theory.specs.Worked.{cells, leaf_cell, parent_cell}
use Rattle.ratchet_tree.specs.declared.member.PublicKey.{PublicKey}
use Rattle.commits.specs.Apply.{welcomes}
use Rattle.commits.specs.Commits.{commit_of}
use Rattle.commits.specs.declared.change.Commit.{Commit}
use Rattle.scripts.specs.Line.{InRange, line_bytes}
use Rattle.playback.specs.Laws.{StepIsRule, IsRun}
use Rattle.playback.specs.Play as play
use Rattle.playback.specs.Play.{State, stand_in, founding, path_of, after, reported, Answers, Plays}
use Rattle.playback.specs.Report.{refusal_bytes, report_bytes, counts_bytes, nodes_bytes}
use Rattle.playback.specs.Runs.{image_of, path_over, boxes_by, report_of, answer_by, answer_to, StepOf, Runs, start, malformed, asked, Run}

-- A MAP OF KEYS changes no node as it is printed.
module _ {A B : Type 0} (f : A → B) where
  leaf_cell-map : (x : Leaf A) → leaf_cell (map_leaf f x) ≡ leaf_cell x
  leaf_cell-map blank_leaf = refl
  leaf_cell-map (occupied m k) = refl

  parent_cell-map : (p : Parent A) → parent_cell (map_parent f p) ≡ parent_cell p
  parent_cell-map blank_parent = refl
  parent_cell-map (keyed k un) = refl

  cells-map : (t : Tree A) → cells (map_tree f t) ≡ cells t
  unfolding cells map_tree
  cells-map (leaf x) = ap (λ c. c ∷ []) (leaf_cell-map x)
  cells-map (node p l r) = rw (cells-map l, parent_cell-map p, cells-map r)

-- ONE COMMIT.
abbrev half : Secret → PublicKey
half k = stand_in

-- the station's path is the image of the rules'
path-image : (c : theory.Commit) (g : Group) → laid_by c stand_in stand_in (λ i. stand_in) (map_tree half g.tree) ≡ map_laid half (path_over c g)
path-image c g =
    let e : ℕ = suc g.epoch in
    laid_by-map half c (drawn newcomer_key (newcomer c.change) e) (own_key c e) (λ i. lock (ups i (path_key c e))) g.tree

welcome-count : (c : theory.Change) (e : ℕ) (s : Secret) → length (welcome c e s) ≡ welcomes c
welcome-count theory.renew e s = refl
welcome-count (theory.remove m) e s = refl
welcome-count (theory.add m) e s = refl

boxes-count : (c : theory.Commit) (g : Group) → length (map (map_target half) (path_over c g).targets) + welcomes c.change ≡ length (boxes_by c g)
boxes-count c g =
    let e : ℕ = suc g.epoch in
    let x : Laid Secret = path_over c g in
    let last = welcome c.change e (epoch_secret g.secret c e x) in
    let first = path_boxes (path_key c e) x.targets in
    sym (
    length-append first last
    ∙ ap₂ ◌+◌ (length-map x.targets _ ∙ sym (length-map x.targets (map_target half))) (welcome-count c.change e (epoch_secret g.secret c e x)))

module _ (c : theory.Commit) (g : Group) where
  committed-as : (o : Option ℕ) → refusal g.epoch c g.tree ≡ o → committed c g ≡ cond (not (is_some o)) (moved c (suc g.epoch) g (path_over c g)) g
  unfolding committed
  committed-as o e = ap (λ x. cond (not (is_some x)) (moved c (suc g.epoch) g (path_over c g)) g) e

-- the bytes of a line, of what it is printed of
report-same : {K L : Type 0} (e : ℕ) {b b' k k' : ℕ} (t : Tree K) (u : Tree L) → b ≡ b' → k ≡ k' → cells t ≡ cells u → report_bytes e b k t ≡ report_bytes e b' k' u
report-same e {b} {b'} {k} {k'} t u p q r =
    ap₂ (λ (x : ℕ) (y : ℕ). counts_bytes e x y ++ nodes_bytes (cells t) ++ 10 ∷ []) p q ∙ ap (λ z. counts_bytes e b' k' ++ nodes_bytes z ++ 10 ∷ []) r

pub step-is-rule : StepIsRule
step-is-rule c g =
    let d : theory.Commit = commit_of c in
    let path : path_of c (image_of g) ≡ map_laid half (path_over d g) = path-image d g in
    let boxes : length (path_of c (image_of g)).targets + welcomes d.change ≡ length (boxes_by d g) =
    ap (λ (x : Laid PublicKey). length x.targets + welcomes d.change) path ∙ boxes-count d g in
    let keys : (path_of c (image_of g)).levels ≡ (path_over d g).levels = ap (λ (x : Laid PublicKey). x.levels) path in
    let tree : (path_of c (image_of g)).tree ≡ map_tree half (path_over d g).tree = ap (λ (x : Laid PublicKey). x.tree) path in
    record {
      verdict = refusal-map half g.epoch d g.tree;
      refused = λ n r. committed-as d g (Some n) r;
      carried = λ r. ap (λ t. record { tree = t; epoch = suc g.epoch }) tree ∙ sym (ap image_of (committed-as d g None r));
      boxes = boxes;
      keys = keys;
      line = report-same (suc g.epoch) (path_of c (image_of g)).tree (path_over d g).tree boxes keys (ap cells tree ∙ cells-map half (path_over d g).tree);
    }

-- ONE COMMIT MORE at the end of a list.
group-before : (m : ℕ) (cs : List theory.Commit) (c : theory.Commit) (n : ℕ) → n ≤ length cs → group m (listed (cs ++ c ∷ [])) n ≡ group m (listed cs) n
unfolding group
group-before m cs c zero le = refl
group-before m cs c (suc n) le =
    ap₂ committed (get_or_append_left cs (c ∷ []) (record { committer = nobody; change = theory.renew }) n (omega arith)) (group-before m cs c n (omega arith))

group-more : (m : ℕ) (cs : List theory.Commit) (c : theory.Commit) →
    group m (listed (cs ++ c ∷ [])) (length (cs ++ c ∷ [])) ≡ committed c (group m (listed cs) (length cs))
unfolding group
group-more m cs c =
    let long : length (cs ++ c ∷ []) ≡ suc (length cs) = omega (arith, length_push cs c) in
    ap (group m (listed (cs ++ c ∷ []))) long
    ∙ ap₂ committed (get_or_push cs c (record { committer = nobody; change = theory.renew }) (length cs) refl) (group-before m cs c (length cs) (omega arith))

-- RUNS.
abbrev group_of : ℕ → List theory.Commit → Group
group_of m cs = group m (listed cs) (length cs)

-- the run with one commit's line more
run-asked : (m : ℕ) {ls : List (List ℕ)} {cs : List theory.Commit} {bs : List ℕ} (line : List ℕ) (c : Commit) (end : State) (bytes : List ℕ) → Runs m ls cs bs →
    InRange c → line ≡ line_bytes c → end ≡ image_of (committed (commit_of c) (group_of m cs)) → bytes ≡ answer_to (commit_of c) (group_of m cs) →
    Run m (ls ++ line ∷ []) end (bs ++ bytes)
run-asked m {ls} {cs} {bs} line c end bytes before fits is e b =
    let now : end ≡ image_of (group_of m (cs ++ commit_of c ∷ [])) = e ∙ sym (ap image_of (group-more m cs (commit_of c))) in
    record {
      commits = cs ++ commit_of c ∷ [];
      runs = subst (λ x. Runs m (ls ++ line ∷ []) (cs ++ commit_of c ∷ []) (bs ++ x)) (sym b) (asked before line c fits is);
      tree = ap (λ (s : State). s.tree) now;
      epoch = ap (λ (s : State). s.epoch) now;
    }

-- the run with one line more, whatever it is
run_more : (m : ℕ) {ls : List (List ℕ)} {cs : List theory.Commit} {bs : List ℕ} (line : List ℕ) {end : State} {bytes : List ℕ} → Runs m ls cs bs →
    Answers (image_of (group_of m cs)) line end bytes → Run m (ls ++ line ∷ []) end (bs ++ bytes)
run_more m {ls} {cs} {bs} line before (play.malformed none) = record { commits = cs; runs = malformed before line none; tree = refl; epoch = refl }
run_more m {ls} {cs} {bs} line before (play.refused c fits is n r) =
    let g : Group = group_of m cs in
    let step : StepOf c g = step-is-rule c g in
    let why : refusal g.epoch (commit_of c) g.tree ≡ Some n = sym step.verdict ∙ r in
    run-asked m line c (image_of g) (refusal_bytes n) before fits is (sym (ap image_of (step.refused n why))) (sym (ap (λ o. answer_by o (report_of (commit_of c) g)) why))
run_more m {ls} {cs} {bs} line before (play.carried c fits is r) =
    let g : Group = group_of m cs in
    let step : StepOf c g = step-is-rule c g in
    let why : refusal g.epoch (commit_of c) g.tree ≡ None = sym step.verdict ∙ r in
    run-asked m line c (after c (image_of g)) (reported c (image_of g)) before fits is (step.carried why) (step.line ∙ sym (ap (λ o. answer_by o (report_of (commit_of c) g)) why))

run_of : (m : ℕ) {lines : List (List ℕ)} {end : State} {bytes : List ℕ} → Plays (founding m) lines end bytes → Run m lines end bytes
run_of m play.start = unfold group map_tree in record { commits = []; runs = start; tree = refl; epoch = refl }
run_of m (play.next {ls} {t} {u} {bs} p line cs a) =
    let r : Run m ls t bs = run_of m p in
    let at : t ≡ image_of (group_of m r.commits) = ap₂ (λ x (y : ℕ). record { tree = x; epoch = y }) r.tree r.epoch in
    run_more m line r.runs (subst (λ (s : State). Answers s line u cs) at a)

pub is-run : IsRun
is-run m lines end bytes p = run_of m p

-- What carrying out a commit answers.
-- `Crowded`, `Asked`, `Stopped`, `Ready`: the tree before the path, or why there is none; `welcomes`: how many boxes are for a newcomer's init key; `Applies`: the tree after, and what the message holds; `MessageCounts`, `Counting`: the counts alone.
-- Assumes nothing.
use Rattle.std.specs.Prelude.{◌≡◌, ℕ, ◌+◌, map, length, Some, None, Ok, Err, vec_items, Result}
use Rattle.theory.specs.Group.{Change, renew, remove, add, Commit, refusal, readied, laid_by}
use Rattle.theory.specs.Path.{Laid, laid}
use Rattle.theory.specs.Tree.{Tree}
use Rattle.ratchet_tree.specs.Add as adding
use Rattle.ratchet_tree.specs.Trees.{the_tree}
use Rattle.ratchet_tree.specs.declared.error.TreeError.{TreeError}
use Rattle.ratchet_tree.specs.declared.error.TreeError.TheVariants as tree-error
use Rattle.ratchet_tree.specs.declared.member.PublicKey.{PublicKey}
use Rattle.ratchet_tree.specs.declared.tree.RatchetTree.{RatchetTree}
use Rattle.commits.specs.Counts.{capped}
use Rattle.commits.specs.Path.{key_from}
use Rattle.commits.specs.Refusals.{number_of}
use Rattle.commits.specs.Targets.{target_of}
use Rattle.commits.specs.declared.carry.Applied.{Applied}
use Rattle.commits.specs.declared.error.CommitError.{CommitError}
use Rattle.commits.specs.declared.error.CommitError.TheVariants as commit-error
use Rattle.commits.specs.declared.carry.CommitKeys.{CommitKeys}
use Rattle.commits.specs.declared.count.Counts.{Counts}

-- only an add can find no room
abbrev pub Crowded : Change → Tree PublicKey → TreeError → Type 0
Crowded renew t tree-error.NoRoom = ⊥
Crowded (remove m) t tree-error.NoRoom = ⊥
Crowded (add m) t tree-error.NoRoom = adding.Refused t tree-error.NoRoom
Crowded renew t tree-error.OutOfMemory = Unit {0}
Crowded (remove m) t tree-error.OutOfMemory = Unit {0}
Crowded (add m) t tree-error.OutOfMemory = Unit {0}

-- the tree with what is asked
abbrev pub Asked : Change → PublicKey → Tree PublicKey → Result RatchetTree TreeError → Type 0
Asked c fresh t (Ok u) = the_tree u ≡ readied c fresh t
Asked c fresh t (Err e) = Crowded c t e

-- why a commit isn't carried out: it is refused by that number; or it is allowed, and there is no memory
abbrev pub Stopped : ℕ → Commit → Tree PublicKey → CommitError → Type 0
Stopped e c t (commit-error.Refused x) = refusal e c t ≡ Some (number_of x)
Stopped e c t commit-error.OutOfMemory = refusal e c t ≡ None

-- the tree that the path is laid on, or why there is none
abbrev pub Ready : ℕ → Commit → PublicKey → Tree PublicKey → Result RatchetTree CommitError → Type 0
Ready e c fresh t (Ok u) = (refusal e c t ≡ None) × (the_tree u ≡ readied c.change fresh t)
Ready e c fresh t (Err x) = Stopped e c t x

-- how many boxes are for a newcomer's init key
abbrev pub welcomes : Change → ℕ
welcomes renew = 0
welcomes (remove m) = 0
welcomes (add m) = 1

-- the tree u is t with the path x, and the message holds what the path has
pub record Carried (e : ℕ) (c : Commit) (t u : Tree PublicKey) (x : Laid PublicKey) (a : Applied) : Type 0 where
  pub allowed : refusal e c t ≡ None
  pub tree : u ≡ x.tree
  pub keys : a.node_keys ≡ x.levels
  pub targets : map target_of (vec_items a.targets) ≡ x.targets
  pub boxes : a.boxes ≡ length x.targets + welcomes c.change

-- the tree before, the tree after, and what the message holds; or the same tree, and why
abbrev pub Applies : ℕ → Commit → CommitKeys → RatchetTree → RatchetTree → Result Applied CommitError → Type 0
Applies e c k t u (Ok a) = Carried e c (the_tree t) (the_tree u) (laid_by c k.newcomer k.path.leaf (key_from k.path) (the_tree t)) a
Applies e c k t u (Err x) = (u ≡ t) × Stopped e c (the_tree t) x

-- the counts of a path that is to be laid on a tree, whatever keys it lays
pub record MessageCounts (c : Commit) (t : Tree PublicKey) (n : Counts) : Type 0 where
  pub keys : (own : PublicKey) (keys : ℕ → PublicKey) → n.node_keys ≡ (laid c.committer own keys t).levels
  pub boxes : (own : PublicKey) (keys : ℕ → PublicKey) → n.boxes ≡ capped (length (laid c.committer own keys t).targets + welcomes c.change)

-- the counts that a commit's message is held to
pub record Counted (e : ℕ) (c : Commit) (fresh : PublicKey) (t : Tree PublicKey) (n : Counts) : Type 0 where
  pub allowed : refusal e c t ≡ None
  pub counts : MessageCounts c (readied c.change fresh t) n

abbrev pub Counting : ℕ → Commit → PublicKey → Tree PublicKey → Result Counts CommitError → Type 0
Counting e c fresh t (Ok n) = Counted e c fresh t n
Counting e c fresh t (Err x) = Stopped e c t x

-- Commits, who may make them, and the epochs of a group from its founding on.
-- `Change`, `Commit`, `refusal`; `readied`, `laid_by`: the tree with what is asked, and with the path;
-- `Group`, `founded`, `committed`, `group`: the group after the first n commits of a list without end; `stock`: what a handset holds.
-- Assumes nothing.
use Rattle.std.specs.Prelude.{ℕ, zero, suc, Bool, cond, not, ◌||◌, List, [], ◌∷◌, ◌++◌, map, is_some, Some, None, Option, ◌==◌, nat_le, slice_index_or}
use Rattle.theory.specs.Limits.{max_members, nobody, last_epoch}
use Rattle.theory.specs.Secrets.{Secret, drawn, leaf_key, path_secret, newcomer_key, init_key, first_epoch, lock, mix, seed, talk, ups, Box}
use Rattle.theory.specs.Tree.{Tree, leaf, occupied, seated, members, grown, added, removed}
use Rattle.theory.specs.Path.{Target, Laid, laid}
use Rattle.theory.specs.Held.{held}

-- what is asked, besides the committer's own new keys
pub data Change : Type 0 where
  renew : Change
  remove : (member : ℕ) → Change
  add : (member : ℕ) → Change

pub record Commit : Type 0 where
  pub committer : ℕ
  pub change : Change

-- REFUSALS. The first cause that applies decides.
abbrev pub first_of : Bool → ℕ → Option ℕ → Option ℕ
first_of b n o = cond b (Some n) o

-- 4: the member to remove isn't seated, or is the committer; 5: the newcomer is seated, or is no member's number; 6: every leaf of the largest tree is occupied
abbrev pub change_refusal : {K : Type 0} → ℕ → Change → Tree K → Option ℕ
change_refusal c renew t = None
change_refusal c (remove m) t = first_of (not (seated m t) || m == c) 4 None
change_refusal c (add m) t = first_of (seated m t || nat_le nobody m) 5 (first_of (nat_le max_members (members t)) 6 None)

-- 9: the last epoch has been reached; 3: the committer isn't seated
abbrev pub refusal : {K : Type 0} → ℕ → Commit → Tree K → Option ℕ
refusal e c t =
    first_of (nat_le last_epoch e) 9 (first_of (not (seated c.committer t)) 3 (change_refusal c.committer c.change t))

-- WHAT A COMMIT DOES TO THE TREE.
-- the tree with what is asked, before the path; `fresh` is the newcomer's leaf key
abbrev pub readied : {K : Type 0} → Change → K → Tree K → Tree K
readied renew fresh t = t
readied (remove m) fresh t = removed m t
readied (add m) fresh t = added m fresh (grown t)

-- the committer's path over that
abbrev pub laid_by : {K : Type 0} → Commit → K → K → (ℕ → K) → Tree K → Laid K
laid_by c fresh own keys t = laid c.committer own keys (readied c.change fresh t)

-- GROUPS. Drawn secrets are named by who draws them and for which epoch.
abbrev pub own_key : Commit → ℕ → Secret
own_key c e = drawn leaf_key c.committer e

abbrev pub path_key : Commit → ℕ → Secret
path_key c e = drawn path_secret c.committer e

abbrev pub newcomer : Change → ℕ
newcomer renew = nobody
newcomer (remove m) = m
newcomer (add m) = m

-- the path of a commit, at secrets, that leads to epoch e
abbrev pub path_at : Commit → ℕ → Tree Secret → Laid Secret
path_at c e t =
    laid_by c (drawn newcomer_key (newcomer c.change) e) (own_key c e) (λ i. lock (ups i (path_key c e))) t

-- the boxes of a path: the path secret of each level, to its targets
abbrev pub path_boxes : Secret → List (Target Secret) → List Box
path_boxes p ts = map (λ t. record { key = t.key; holds = ups t.level p }) ts

pub record Group : Type 0 where
  pub tree : Tree Secret
  pub epoch : ℕ
  pub secret : Secret
  pub sent : List Box

abbrev pub founded : ℕ → Group
founded m =
    record {
      tree = leaf (occupied m (drawn newcomer_key m 0));
      epoch = 0;
      secret = drawn first_epoch m 0;
      sent = [];
    }

-- the epoch's secret, also sealed to a newcomer's init key
abbrev pub welcome : Change → ℕ → Secret → List Box
welcome renew e s = []
welcome (remove m) e s = []
welcome (add m) e s = record { key = drawn init_key m e; holds = s } ∷ []

-- the secret of the epoch that a path leads to
abbrev pub epoch_secret : Secret → Commit → ℕ → Laid Secret → Secret
epoch_secret s c e x = mix (seed s) (ups x.levels (path_key c e))

-- the boxes that go out with a commit, the welcome last
abbrev pub boxes_of : Secret → Commit → ℕ → Laid Secret → List Box
boxes_of s c e x = path_boxes (path_key c e) x.targets ++ welcome c.change e (epoch_secret s c e x)

abbrev pub moved : Commit → ℕ → Group → Laid Secret → Group
moved c e g x =
    record {
      tree = x.tree;
      epoch = e;
      secret = epoch_secret g.secret c e x;
      sent = g.sent ++ boxes_of g.secret c e x;
    }

-- is the commit carried out
abbrev pub allowed : Commit → Group → Bool
allowed c g = not (is_some (refusal g.epoch c g.tree))

-- one commit; one that is refused changes nothing
unfoldable pub committed : Commit → Group → Group
committed c g = cond (allowed c g) (moved c (suc g.epoch) g (path_at c (suc g.epoch) g.tree)) g

-- the group that f founded, after the first n commits
unfoldable pub group : ℕ → (ℕ → Commit) → ℕ → Group
group f commits zero = founded f
group f commits (suc n) = committed (commits n) (group f commits n)

-- a list of commits, as one without end
abbrev pub listed : List Commit → ℕ → Commit
listed cs n = slice_index_or cs n (record { committer = nobody; change = renew })

-- the boxes that go out with commit n
unfoldable pub message : ℕ → (ℕ → Commit) → ℕ → List Box
message f commits n =
    let g = group f commits n in
    cond (allowed (commits n) g)
    (boxes_of g.secret (commits n) (suc g.epoch) (path_at (commits n) (suc g.epoch) g.tree))
    []

-- what a handset holds: the talk secret, the seed of the next epoch, and its keys; nothing where it isn't seated
abbrev pub stock : ℕ → Group → List Secret
stock m g = cond (seated m g.tree) (talk g.secret ∷ seed g.secret ∷ held m g.tree) []

-- Worked cases A to I: small groups whose trees, counts and verdicts were worked out by hand, held against the definitions.
-- `Cell`, `cells`: a tree as it is printed, in the order of its nodes; `Case`, `outcome`, `rows`: what comes of a commit;
-- `VerdictRow`, `verdict_rows`: what is said of each epoch where handsets were read out; `WorkedCases`: the definitions give each row of both.
-- Assumes nothing.
use Rattle.std.specs.Prelude.{◌≡◌, ℕ, suc, List, [], ◌∷◌, ◌++◌, map, length}
use Rattle.theory.specs.Secrets.{Secret, drawn, leaf_key, path_secret, newcomer_key, init_key, lock}
use Rattle.theory.specs.Tree.{Tree, leaf, node, Leaf, blank_leaf, occupied, Parent, blank_parent, keyed, height}
use Rattle.theory.specs.Group.{Change, renew, remove, add, Commit, group, listed, message, path_at}
use Rattle.theory.specs.Promise.{Exposure}
use Rattle.theory.specs.Verdicts.{Verdict, shut_unknown, open_unknown, open_known, verdicts}

-- one node as it is printed
pub data Cell : Type 0 where
  blank : Cell
  seat : (member : ℕ) → Cell
  star : (unmerged : List ℕ) → Cell

abbrev pub leaf_cell : {K : Type 0} → Leaf K → Cell
leaf_cell blank_leaf = blank
leaf_cell (occupied m k) = seat m

abbrev pub parent_cell : {K : Type 0} → Parent K → Cell
parent_cell blank_parent = blank
parent_cell (keyed k un) = star un

-- the nodes from the left, each parent between its halves
unfoldable pub cells : {K : Type 0} → Tree K → List Cell
cells (leaf x) = leaf_cell x ∷ []
cells (node p l r) = cells l ++ (parent_cell p ∷ cells r)

-- one commit of a script that founder 0 begins, and what comes of it: the depth, node keys and boxes, the keys that the boxes are sealed to, and the nodes
pub record Case : Type 0 where
  pub depth : ℕ
  pub keys : ℕ
  pub boxes : ℕ
  pub to : List Secret
  pub nodes : List Cell

-- what the definitions give for commit n of a script
abbrev pub outcome : List Commit → ℕ → Case
outcome script n =
    let g = group 0 (listed script) n in
    let h = group 0 (listed script) (suc n) in
    record {
      depth = height h.tree;
      keys = (path_at (listed script n) (suc g.epoch) g.tree).levels;
      boxes = length (message 0 (listed script) n);
      to = map (λ b. b.key) (message 0 (listed script) n);
      nodes = cells h.tree;
    }

pub record Row : Type 0 where
  pub script : List Commit
  pub commit : ℕ
  pub gives : Case

abbrev pub by : ℕ → Change → Commit
by m c = record { committer = m; change = c }

abbrev pub row : List Commit → ℕ → ℕ → ℕ → ℕ → List Secret → List Cell → Row
row script n d k b to ns =
    record { script = script; commit = n; gives = record { depth = d; keys = k; boxes = b; to = to; nodes = ns } }

-- three come, each renews, and the founder is removed
abbrev pub shift : List Commit
shift =
    by 0 (add 1) ∷ by 0 (add 2) ∷ by 2 renew ∷ by 1 (add 3) ∷ by 3 renew ∷ by 0 renew ∷ by 1 (remove 0) ∷ []

-- five sit, one is removed, and another takes its leaf under keyed parents
abbrev pub reseated : List Commit
reseated = by 0 (add 1) ∷ by 0 (add 2) ∷ by 0 (add 3) ∷ by 0 (add 4) ∷ by 0 (remove 1) ∷ by 4 (add 5) ∷ []

-- cases A to F, E having two commits, and I
abbrev pub rows : List Row
rows =
    -- A
    row shift 0 1 1 2 (drawn newcomer_key 1 1 ∷ drawn init_key 1 1 ∷ []) (seat 0 ∷ star [] ∷ seat 1 ∷ [])
    -- B
    ∷ row shift 1 2 2 3 (drawn newcomer_key 1 1 ∷ drawn newcomer_key 2 2 ∷ drawn init_key 2 2 ∷ [])
    (seat 0 ∷ star [] ∷ seat 1 ∷ star [] ∷ seat 2 ∷ blank ∷ blank ∷ [])
    -- C
    ∷ row shift 2 2 1 1 (lock (drawn path_secret 0 2) ∷ [])
    (seat 0 ∷ star [] ∷ seat 1 ∷ star [] ∷ seat 2 ∷ blank ∷ blank ∷ [])
    -- D
    ∷ row shift 3 2 2 4 (drawn leaf_key 0 2 ∷ drawn leaf_key 2 3 ∷ drawn newcomer_key 3 4 ∷ drawn init_key 3 4 ∷ [])
    (seat 0 ∷ star [] ∷ seat 1 ∷ star [] ∷ seat 2 ∷ blank ∷ seat 3 ∷ [])
    -- E, first
    ∷ row shift 4 2 2 2 (drawn leaf_key 2 3 ∷ lock (drawn path_secret 1 4) ∷ [])
    (seat 0 ∷ star [] ∷ seat 1 ∷ star [] ∷ seat 2 ∷ star [] ∷ seat 3 ∷ [])
    -- E, second
    ∷ row shift 5 2 2 2 (drawn leaf_key 1 4 ∷ lock (drawn path_secret 3 5) ∷ [])
    (seat 0 ∷ star [] ∷ seat 1 ∷ star [] ∷ seat 2 ∷ star [] ∷ seat 3 ∷ [])
    -- F
    ∷ row shift 6 2 1 1 (lock (drawn path_secret 3 5) ∷ [])
    (blank ∷ blank ∷ seat 1 ∷ star [] ∷ seat 2 ∷ star [] ∷ seat 3 ∷ [])
    -- I
    ∷ row reseated 5 3 1 3 (lock (drawn path_secret 0 5) ∷ drawn newcomer_key 5 6 ∷ drawn init_key 5 6 ∷ [])
    (seat 0 ∷ blank ∷ seat 5 ∷ star (5 ∷ []) ∷ seat 2 ∷ blank ∷ seat 3 ∷ star [] ∷ seat 4 ∷ blank ∷ blank ∷ blank ∷ blank ∷ blank ∷ blank ∷ [])
    ∷ []

-- a script that founder 0 begins, the handsets read out, and what is said of each epoch from 0
pub record VerdictRow : Type 0 where
  pub script : List Commit
  pub exposures : List Exposure
  pub says : List Verdict

abbrev pub read_after : ℕ → ℕ → Exposure
read_after n m = record { who = m; when = n }

-- case G: 2 is read after the second commit, and makes the third; case H: 0 is read besides, after the fourth
abbrev pub verdict_rows : List VerdictRow
verdict_rows =
    record {
      script = shift;
      exposures = read_after 2 2 ∷ [];
      says =
          shut_unknown ∷ shut_unknown ∷ open_known ∷ shut_unknown ∷ shut_unknown ∷ shut_unknown ∷ shut_unknown ∷ shut_unknown ∷ [];
    }
    ∷ record {
      script = shift;
      exposures = read_after 2 2 ∷ read_after 4 0 ∷ [];
      says = shut_unknown ∷ shut_unknown ∷ open_known ∷ open_unknown ∷ open_known ∷ open_known ∷ shut_unknown ∷ shut_unknown ∷ [];
    }
    ∷ []

-- every row of a table is what the definitions give
abbrev pub Given : List Row → Type 0
Given [] = Unit {0}
Given (r ∷ rs) = (outcome r.script r.commit ≡ r.gives) × Given rs

-- every row of verdicts is what the definitions say, of as many epochs as the script has and the founder's
abbrev pub Said : List VerdictRow → Type 0
Said [] = Unit {0}
Said (r ∷ rs) = (verdicts r.script r.exposures (suc (length r.script)) ≡ r.says) × Said rs

-- the worked cases are what the definitions give
abbrev pub WorkedCases : Type 0
WorkedCases = Given rows × Said verdict_rows

-- A play, held against the rules at symbolic secrets.
-- `image_of g`: a group as the station sees it; `path_over`, `boxes_by`, `report_of`: what the rules give for a commit;
-- `answer_to`: what is printed for it; `StepOf c g`: one commit, as the station has it and as the rules have it;
-- `Runs`: lines, the commits that they ask for and what is printed for them; `Run`: the same, with the state at the end.
-- Assumes nothing.
use Rattle.std.specs.Prelude.{◌≡◌, ℕ, suc, ◌+◌, List, [], ◌∷◌, ◌++◌, length, Some, None, Option, ◌≢◌}
use Rattle.theory.specs.Group as theory
use Rattle.theory.specs.Group.{Group, group, listed, committed, refusal, path_at, boxes_of}
use Rattle.theory.specs.Natural.{map_tree}
use Rattle.theory.specs.Path.{Laid}
use Rattle.theory.specs.Secrets.{Secret, Box}
use Rattle.commits.specs.Apply.{welcomes}
use Rattle.commits.specs.Commits.{change_of, commit_of}
use Rattle.commits.specs.declared.change.Commit.{Commit}
use Rattle.scripts.specs.Line.{InRange, line_bytes}
use Rattle.playback.specs.Play.{State, stand_in, path_of, after, reported}
use Rattle.playback.specs.Report.{refusal_bytes, report_bytes}

-- a group as the station sees it: one half in place of every key
abbrev pub image_of : Group → State
image_of g = record { tree = map_tree (λ _. stand_in) g.tree; epoch = g.epoch }

-- the path of a commit over a group, and the boxes that go out with it
abbrev pub path_over : theory.Commit → Group → Laid Secret
path_over c g = path_at c (suc g.epoch) g.tree

abbrev pub boxes_by : theory.Commit → Group → List Box
boxes_by c g = boxes_of g.secret c (suc g.epoch) (path_over c g)

-- the line of a commit that is carried out
abbrev pub report_of : theory.Commit → Group → List ℕ
report_of c g = report_bytes (suc g.epoch) (length (boxes_by c g)) (path_over c g).levels (path_over c g).tree

-- the line of a refusal, or else of the commit
abbrev pub answer_by : Option ℕ → List ℕ → List ℕ
answer_by None report = report
answer_by (Some n) report = refusal_bytes n

-- what the rules have printed for a commit
abbrev pub answer_to : theory.Commit → Group → List ℕ
answer_to c g = answer_by (refusal g.epoch c g.tree) (report_of c g)

-- one commit: the station refuses as the rules do; else it moves as the group does, and prints the group's numbers and nodes
pub record StepOf (c : Commit) (g : Group) : Type 0 where
  pub verdict : refusal g.epoch (commit_of c) (image_of g).tree ≡ refusal g.epoch (commit_of c) g.tree
  pub refused : (n : ℕ) → refusal g.epoch (commit_of c) g.tree ≡ Some n → committed (commit_of c) g ≡ g
  pub carried : refusal g.epoch (commit_of c) g.tree ≡ None → after c (image_of g) ≡ image_of (committed (commit_of c) g)
  pub boxes : length (path_of c (image_of g)).targets + welcomes (change_of c.change) ≡ length (boxes_by (commit_of c) g)
  pub keys : (path_of c (image_of g)).levels ≡ (path_over (commit_of c) g).levels
  pub line : reported c (image_of g) ≡ report_of (commit_of c) g

-- lines that are played in the group that m founded: the commits that they ask for, refused ones too, and what is printed
pub data Runs (m : ℕ) : List (List ℕ) → List theory.Commit → List ℕ → Type 0 where
  start : Runs m [] [] []
  -- a line that is no commit's
  malformed : {ls : List (List ℕ)} {cs : List theory.Commit} {bs : List ℕ} → Runs m ls cs bs → (line : List ℕ) → ((c : Commit) → InRange c → line ≢ line_bytes c) →
      Runs m (ls ++ line ∷ []) cs (bs ++ refusal_bytes 1)
  -- a commit's, over the group that the commits before it made
  asked : {ls : List (List ℕ)} {cs : List theory.Commit} {bs : List ℕ} → Runs m ls cs bs → (line : List ℕ) (c : Commit) → InRange c → line ≡ line_bytes c →
      Runs m (ls ++ line ∷ []) (cs ++ commit_of c ∷ []) (bs ++ answer_to (commit_of c) (group m (listed cs) (length cs)))

-- a play is a run: of these commits, with the group that they make at the end
pub record Run (m : ℕ) (lines : List (List ℕ)) (end : State) (bytes : List ℕ) : Type 0 where
  pub commits : List theory.Commit
  pub runs : Runs m lines commits bytes
  pub tree : end.tree ≡ map_tree (λ _. stand_in) (group m (listed commits) (length commits)).tree
  pub epoch : end.epoch ≡ (group m (listed commits) (length commits)).epoch

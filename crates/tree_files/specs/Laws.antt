-- Laws of tree files.
-- `FilePrecedence`, by `FileVerdict`: what each verdict says of the bytes; `FileRoundTrip`, by `ReadBack`: whoever reads what was written gets it back;
-- `RunsFiled`, by `run_file` and `Kept`: the tree of every run is written and read back.
-- Assumes nothing.
use Rattle.std.specs.Prelude.{◌≡◌, ℕ, ◌<◌, not, T, ◌⊎◌, ◌↔◌, List, ◌++◌, Some, None, Ok, Err, Option, Result}
use Rattle.theory.specs.Group.{Commit, group}
use Rattle.theory.specs.Limits.{nobody}
use Rattle.theory.specs.Natural.{map_tree}
use Rattle.theory.specs.Secrets.{Secret}
use Rattle.theory.specs.Tree.{height}
use Rattle.theory.specs.Wellformed.{well_formed}
use Rattle.ratchet_tree.specs.declared.member.PublicKey.{PublicKey}
use Rattle.ratchet_tree.specs.declared.tree.RatchetTree.{RatchetTree}
use Rattle.commits.specs.declared.change.Epoch.{Epoch}
use Rattle.wire.specs.Bytes.{Half}
use Rattle.tree_files.specs.Verdict.{File, Fits, bytes_of, file_of, Written, IsFile, file_refusal, Loaded}
use Rattle.tree_files.specs.Write.{Filed}
use Rattle.commits.specs.declared.error.CommitError.{CommitError}
use Rattle.commits.specs.declared.error.CommitError.TheVariants as file-error
use Rattle.messages.specs.declared.message.WriteError.{WriteError}
use Rattle.messages.specs.declared.message.WriteError.TheVariants as write-error

-- what a verdict says of the bytes
pub record FileVerdict (b : List ℕ) (v : Option ℕ) : Type 0 where
  -- 1 exactly for the bytes of no tree, whatever else could be said of them
  pub malformed : (v ≡ Some 1) ↔ ((f : File) → Written b f → ⊥)
  -- 8 exactly for the bytes of a tree that breaks a rule
  pub bad_tree : (v ≡ Some 8) ↔ ((f : File) × Written b f × T (not (well_formed f.tree)))
  -- none exactly for the bytes of a tree that keeps the rules
  pub good : (v ≡ None) ↔ ((f : File) × Written b f × T (well_formed f.tree))

abbrev pub FilePrecedence : Type 0
FilePrecedence = (b : List ℕ) (o : Option File) → IsFile b o → FileVerdict b (file_refusal o)

-- whatever answer is right of the file's bytes is that file, unless there was no memory
abbrev pub ReadBack : File → Type 0
ReadBack f =
    (r : Result (Epoch × RatchetTree) CommitError) → Loaded (bytes_of f) r →
    (r ≡ Err file-error.OutOfMemory) ⊎ ((p : Epoch × RatchetTree) × (r ≡ Ok p) × (file_of p ≡ f))

abbrev pub FileRoundTrip : Type 0
FileRoundTrip = (f : File) → Fits f → T (well_formed f.tree) → ReadBack f

-- the file of the group after n commits, for the public half of each secret
abbrev pub run_file : (Secret → PublicKey) → ℕ → (ℕ → Commit) → ℕ → File
run_file half f commits n =
    record {
      epoch = (group f commits n).epoch;
      depth = height (group f commits n).tree;
      tree = map_tree half (group f commits n).tree;
    }

-- a file that is written, and read back, unless there is no memory
pub record Kept (f : File) : Type 0 where
  pub written :
      (before after : List ℕ) (r : Result (Unit {0}) WriteError) → Filed f before after r →
      (r ≡ Err write-error.OutOfMemory) ⊎ (after ≡ before ++ bytes_of f)
  pub read : ReadBack f

-- whatever the halves of 32 bytes are: the tree of every run whose founder has a member's number is written and read back
abbrev pub RunsFiled : Type 0
RunsFiled =
    (half : Secret → PublicKey) → ((s : Secret) → Half (half s)) →
    (f : ℕ) → f < nobody → (commits : ℕ → Commit) (n : ℕ) → Kept (run_file half f commits n)

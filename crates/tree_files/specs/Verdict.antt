-- The verdict on some bytes as a tree file.
-- `File`: an epoch, a depth and a tree; `file_of`: the code's; `Fits`, `bytes_of`: it can be written, and how;
-- `Written`, `IsFile`: the file that some bytes are, or that they are none;
-- `file_refusal`: why it is refused; `Loaded`: what reading answers.
-- Assumes nothing.
use Rattle.std.specs.Prelude.{◌≡◌, ℕ, not, List, Some, None, Ok, Err, Option, Result}
use Rattle.theory.specs.Group.{first_of}
use Rattle.theory.specs.Tree.{Tree}
use Rattle.theory.specs.Wellformed.{well_formed}
use Rattle.ratchet_tree.specs.Trees.{the_tree}
use Rattle.ratchet_tree.specs.declared.member.PublicKey.{PublicKey}
use Rattle.ratchet_tree.specs.declared.tree.RatchetTree.{RatchetTree}
use Rattle.commits.specs.Refusals.{number_of}
use Rattle.commits.specs.declared.change.Epoch.{Epoch}
use Rattle.messages.specs.TreeFile.{FitsTree, encode_tree}
use Rattle.commits.specs.declared.error.CommitError.{CommitError}
use Rattle.commits.specs.declared.error.CommitError.TheVariants.{Refused, OutOfMemory}

pub record File : Type 0 where
  pub epoch : ℕ
  pub depth : ℕ
  pub tree : Tree PublicKey

abbrev pub file_of : Epoch × RatchetTree → File
file_of p = record { epoch = p.0.0; depth = p.1.depth; tree = the_tree p.1 }

abbrev pub Fits : File → Type 0
Fits f = FitsTree f.epoch f.depth f.tree

abbrev pub bytes_of : File → List ℕ
bytes_of f = encode_tree f.epoch f.depth f.tree

-- it fits, and these are its bytes
abbrev pub Written : List ℕ → File → Type 0
Written b f = Fits f × (b ≡ bytes_of f)

-- the file that the bytes are, or that they are none
abbrev pub IsFile : List ℕ → Option File → Type 0
IsFile b None = (f : File) → Written b f → ⊥
IsFile b (Some f) = Written b f

-- the first cause that applies: 1 for the bytes of no tree, 8 for a tree that breaks a rule
abbrev pub file_refusal : Option File → Option ℕ
file_refusal None = Some 1
file_refusal (Some f) = first_of (not (well_formed f.tree)) 8 None

-- the file and that no cause applies; or the number of the first that does
abbrev pub Loaded : List ℕ → Result (Epoch × RatchetTree) CommitError → Type 0
Loaded b (Ok p) = IsFile b (Some (file_of p)) × (file_refusal (Some (file_of p)) ≡ None)
Loaded b (Err (Refused x)) = (o : Option File) × IsFile b o × (file_refusal o ≡ Some (number_of x))
Loaded b (Err OutOfMemory) = Unit {0}

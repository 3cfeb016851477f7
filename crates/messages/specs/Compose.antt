-- The message that a committer makes of its vault's answers.
-- `commit_by`, `message_by`: the commit, and the message that the answers make; `has_parts`, `countable`: its counts can be written;
-- `make_refusal`, `compose_refusal`: why nothing is made; `Made`, `Unmade`, `Makes`: a message's bytes, or why there are none; `Composed`, `Composes`: the same of a vault's answers;
-- `ComposedIsTaken`: whom the commit concerns takes the bytes.
-- Assumes nothing.
use Rattle.std.specs.Prelude.{◌≡◌, ℕ, suc, ◌*◌, ◌/◌, Bool, not, ◌&&◌, ◌||◌, T, List, [], ◌∷◌, length, Some, None, Ok, Err, Option, Result, ◌==◌, nat_lt}
use Rattle.theory.specs.Group.{Commit, first_of, refusal}
use Rattle.theory.specs.Tree.{Tree, seated}
use Rattle.ratchet_tree.specs.Trees.{the_tree}
use Rattle.ratchet_tree.specs.declared.member.PublicKey.{PublicKey}
use Rattle.commits.specs.Refusals.{number_of}
use Rattle.commits.specs.declared.error.CommitError.{CommitError}
use Rattle.commits.specs.declared.error.CommitError.TheVariants as commit-error
use Rattle.messages.specs.Letters.{TookLetter}
use Rattle.messages.specs.Message.{Message, Fits, encode}
use Rattle.messages.specs.Received.{TakesBytes}
use Rattle.messages.specs.Take.{Taken, change_asked, is_newcomer, joined_keys, message_refusal, or_next}
use Rattle.messages.specs.declared.handset.Handset.{Handset}
use Rattle.messages.specs.declared.message.CommitMessage.{CommitMessage}
use Rattle.messages.specs.declared.message.MessageChange.{MessageChange}

-- the change, made by a member
abbrev pub commit_by : ℕ → MessageChange → Commit
commit_by w a = record { committer = w; change = change_asked a }

-- the message of the next epoch: the first half that the vault gave is the leaf key's, the others are the node keys'
abbrev pub message_by : ℕ → ℕ → MessageChange → PublicKey → List PublicKey → List ℕ → Message
message_by w e a leaf nodes boxes =
    record { epoch = suc e; committer = w; change = a; leaf_key = leaf; node_keys = joined_keys nodes; boxes = boxes }

-- whole parts of some size, fewer than the limit
abbrev pub has_parts : ℕ → ℕ → List ℕ → Bool
has_parts size limit bs = length bs == size * (length bs / size) && nat_lt (length bs / size) limit

-- the node keys and the boxes are whole, and their counts can be written
abbrev pub countable : Message → Bool
countable m = has_parts 32 256 m.node_keys && has_parts 48 65536 m.boxes

-- why nothing is made of a message: what the maker's own handset would refuse it for; and 7 where there is a part of a box, or more than a message can count
abbrev pub make_refusal : ℕ → ℕ → Tree PublicKey → Message → Option ℕ
make_refusal w e t m = or_next (message_refusal w e t m) (first_of (not (countable m)) 7 None)

-- the same of a vault's answers: 7 too where there is no leaf key
abbrev pub compose_refusal : ℕ → ℕ → Tree PublicKey → MessageChange → List PublicKey → List ℕ → Option ℕ
compose_refusal w e t a [] boxes = or_next (refusal e (commit_by w a) t) (Some 7)
compose_refusal w e t a (leaf ∷ nodes) boxes = make_refusal w e t (message_by w e a leaf nodes boxes)

-- why there is nothing: a refusal, by its number; or there was no memory, and no cause but 7 applies
abbrev pub Unmade : Option ℕ → CommitError → Type 0
Unmade o (commit-error.Refused x) = o ≡ Some (number_of x)
Unmade o commit-error.OutOfMemory = (n : ℕ) → o ≡ Some n → n ≡ 7

-- the bytes of a message that the maker's own handset takes
pub record Made (h : Handset) (m : Message) (bs : List ℕ) : Type 0 where
  pub fits : Fits m
  pub allowed : message_refusal h.member.0 h.epoch.0 (the_tree h.tree) m ≡ None
  pub bytes : bs ≡ encode m

abbrev pub Makes : {V : Type 0} → (V → List ℕ) → Handset → Message → Result V CommitError → Type 0
Makes items h m (Ok v) = Made h m (items v)
Makes items h m (Err e) = Unmade (make_refusal h.member.0 h.epoch.0 (the_tree h.tree) m) e

-- the same, of the message that the answers make
pub record Composed (h : Handset) (a : MessageChange) (halves : List PublicKey) (boxes bs : List ℕ) : Type 0 where
  pub leaf : PublicKey
  pub nodes : List PublicKey
  pub given : halves ≡ leaf ∷ nodes
  pub made : Made h (message_by h.member.0 h.epoch.0 a leaf nodes boxes) bs

abbrev pub Composes : {V : Type 0} → (V → List ℕ) → Handset → MessageChange → List PublicKey → List ℕ → Result V CommitError → Type 0
Composes items h a halves boxes (Ok v) = Composed h a halves boxes (items v)
Composes items h a halves boxes (Err e) = Unmade (compose_refusal h.member.0 h.epoch.0 (the_tree h.tree) a halves boxes) e

-- what was made is taken by every handset that has the same tree and epoch, and is seated there or is the newcomer
abbrev pub ComposedIsTaken : Type 0
ComposedIsTaken =
    (maker h after : Handset) (a : MessageChange) (halves : List PublicKey) (boxes bs : List ℕ) (r : Result CommitMessage CommitError) →
    (c : Composed maker a halves boxes bs) → the_tree h.tree ≡ the_tree maker.tree → h.epoch.0 ≡ maker.epoch.0 →
    T (seated h.member.0 (the_tree h.tree) || is_newcomer h.member.0 a) → TakesBytes h bs after r →
    let m = message_by maker.member.0 maker.epoch.0 a c.leaf c.nodes boxes in
    TookLetter m (Taken h m) h after r

-- A commit message as bytes.
-- `Message`: what a message says, `message_of` the code's; `kind_of`, `other_of`, `change_keys`: the parts of a change; `head_bytes`, `keys_bytes`, `boxes_bytes`: the parts of a message;
-- `encode`: its bytes; `Fits`: every number fits its width, every half has 32 bytes, every box 48; `Received`: what reading answers; `Sent`: what writing does.
-- Assumes nothing.
use Rattle.std.specs.Prelude.{◌≡◌, ℕ, ◌/◌, ◌<◌, true, List, [], ◌∷◌, ◌++◌, length, is_ok, Some, None, Ok, Err, Option, Result, ◌≢◌}
use Rattle.std.specs.declared.alloc.AllocError.{AllocError}
use Rattle.theory.specs.Limits.{nobody}
use Rattle.ratchet_tree.specs.declared.member.PublicKey.{PublicKey}
use Rattle.commits.specs.declared.change.Change.{Change}
use Rattle.commits.specs.declared.change.Change.TheVariants as change
use Rattle.commits.specs.declared.refusal.Refusal.{Refusal}
use Rattle.commits.specs.declared.refusal.Refusal.TheVariants.{Malformed}
use Rattle.wire.specs.Bytes.{be16, be32, key_bytes, Half, Whole, run_bytes}
use Rattle.messages.specs.declared.message.CommitMessage.{CommitMessage}
use Rattle.messages.specs.declared.message.MessageChange.{MessageChange}
use Rattle.messages.specs.declared.message.MessageChange.TheVariants.{Renew, Remove, Add}
use Rattle.messages.specs.declared.message.Header.{Header}
use Rattle.messages.specs.declared.message.WriteError.{WriteError}
use Rattle.messages.specs.declared.message.WriteError.TheVariants as write-error

-- node keys and boxes are bytes one after the other, 32 and 48 each
pub record Message : Type 0 where
  pub epoch : ℕ
  pub committer : ℕ
  pub change : MessageChange
  pub leaf_key : PublicKey
  pub node_keys : List ℕ
  pub boxes : List ℕ

abbrev pub message_of : CommitMessage → Message
message_of m =
    record {
      epoch = m.epoch.0;
      committer = m.committer.0;
      change = m.change;
      leaf_key = m.leaf_key;
      node_keys = m.node_keys.now;
      boxes = m.boxes.now;
    }

abbrev pub kind_of : MessageChange → ℕ
kind_of Renew = 1
kind_of (Remove m) = 2
kind_of (Add m k i) = 3

-- the other member; nobody's number for none
abbrev pub other_of : MessageChange → ℕ
other_of Renew = nobody
other_of (Remove m) = m.0
other_of (Add m k i) = m.0

-- a newcomer's leaf key and init key
abbrev pub change_keys : MessageChange → List ℕ
change_keys Renew = []
change_keys (Remove m) = []
change_keys (Add m k i) = key_bytes k ++ key_bytes i

abbrev pub head_bytes : ℕ → ℕ → ℕ → ℕ → List ℕ
head_bytes epoch kind committer other = 5 ∷ be32 epoch ++ kind ∷ be16 committer ++ be16 other

-- node keys after their number
abbrev pub keys_bytes : List ℕ → List ℕ
keys_bytes ks = (length ks / 32) ∷ ks

-- boxes after their number
abbrev pub boxes_bytes : List ℕ → List ℕ
boxes_bytes bs = run_bytes 48 bs

unfoldable pub encode : Message → List ℕ
encode m =
    head_bytes m.epoch (kind_of m.change) m.committer (other_of m.change)
    ++ (change_keys m.change ++ (key_bytes m.leaf_key ++ (keys_bytes m.node_keys ++ boxes_bytes m.boxes)))

pub record FitsHead (e k c o : ℕ) : Type 0 where
  pub epoch : e < 4294967296
  pub kind : k < 256
  pub committer : c < 65536
  pub other : o < 65536

abbrev pub FitsChange : MessageChange → Type 0
FitsChange Renew = Unit {0}
FitsChange (Remove m) = Unit {0}
FitsChange (Add m k i) = Half k × Half i

pub record Fits (m : Message) : Type 0 where
  pub head : FitsHead m.epoch (kind_of m.change) m.committer (other_of m.change)
  pub change : FitsChange m.change
  pub leaf_key : Half m.leaf_key
  pub node_keys : Whole 32 256 m.node_keys
  pub boxes : Whole 48 65536 m.boxes

abbrev pub Received : List ℕ → Result CommitMessage Refusal → Type 0
Received b (Ok m) = Fits (message_of m) × (b ≡ encode (message_of m))
Received b (Err e) = (e ≡ Malformed) × ((m : Message) → Fits m → b ≢ encode m)

abbrev pub Sent : Message → List ℕ → List ℕ → Result (Unit {0}) WriteError → Type 0
Sent m before after (Ok x) = Fits m × (after ≡ before ++ encode m)
Sent m before after (Err write-error.DoesNotFit) = (after ≡ before) × (Fits m → ⊥)
Sent m before after (Err write-error.OutOfMemory) = Unit {0}

-- a message that fits was appended, unless there was no memory
pub record Written (m : Message) (before after : List ℕ) (r : Result (Unit {0}) AllocError) : Type 0 where
  pub fits : is_ok r ≡ true → Fits m
  pub bytes : is_ok r ≡ true → after ≡ before ++ encode m

-- the kind and the other member of what is asked; nobody's number for none
abbrev pub kind_asked : Change → ℕ
kind_asked change.Renew = 1
kind_asked (change.Remove m) = 2
kind_asked (change.Add m) = 3

abbrev pub other_asked : Change → ℕ
other_asked change.Renew = nobody
other_asked (change.Remove m) = m.0
other_asked (change.Add m) = m.0

-- a kind and an other member say what is asked, or nothing
abbrev pub Names : ℕ → ℕ → Change → Type 0
Names k o a = (kind_asked a ≡ k) × (other_asked a ≡ o)

abbrev pub NamesNone : ℕ → ℕ → Type 0
NamesNone k o = (a : Change) → Names k o a → ⊥

-- a header as it is read
abbrev pub HeaderFits : Header → Type 0
HeaderFits h = FitsHead h.epoch.0 (kind_asked h.change) h.committer.0 (other_asked h.change)

abbrev pub header_bytes : Header → List ℕ
header_bytes h = head_bytes h.epoch.0 (kind_asked h.change) h.committer.0 (other_asked h.change)

-- a change that has the kind and the other member of the header
pub record ChangeOf (k o : ℕ) (c : MessageChange) : Type 0 where
  pub kind : kind_of c ≡ k
  pub other : other_of c ≡ o
  pub fits : FitsChange c

-- the parts of a message, and nothing behind them
abbrev pub Read : List ℕ → Option CommitMessage → Type 0
Read b (Some m) = Fits (message_of m) × (b ≡ encode (message_of m))
Read b None = (m : Message) → Fits m → b ≢ encode m

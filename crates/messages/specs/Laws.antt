-- Laws of the formats.
-- `RoundTrip`: whoever reads what was written gets it back; `OneReading`, `OneTree`: some bytes are those of one message or tree at most; `NoMessageIsATree`: no bytes are both.
-- Assumes nothing.
use Rattle.std.specs.Prelude.{◌≡◌, ℕ, Ok, Result, ◌≢◌}
use Rattle.theory.specs.Tree.{Tree}
use Rattle.commits.specs.declared.refusal.Refusal.{Refusal}
use Rattle.ratchet_tree.specs.declared.member.PublicKey.{PublicKey}
use Rattle.messages.specs.declared.message.CommitMessage.{CommitMessage}
use Rattle.messages.specs.Message.{Message, Fits, encode, message_of, Received}
use Rattle.messages.specs.TreeFile.{FitsTree, encode_tree}

-- whatever answer is right of a message's bytes is that message
abbrev pub RoundTrip : Type 0
RoundTrip = (m : Message) (r : Result CommitMessage Refusal) → Fits m → Received (encode m) r → (x : CommitMessage) × (r ≡ Ok x) × (message_of x ≡ m)

abbrev pub OneReading : Type 0
OneReading = (m n : Message) → Fits m → Fits n → encode m ≡ encode n → m ≡ n

abbrev pub OneTree : Type 0
OneTree = (e d e' d' : ℕ) (t u : Tree PublicKey) → FitsTree e d t → FitsTree e' d' u → encode_tree e d t ≡ encode_tree e' d' u → (e ≡ e') × (d ≡ d') × (t ≡ u)

abbrev pub NoMessageIsATree : Type 0
NoMessageIsATree = (m : Message) (e d : ℕ) (t : Tree PublicKey) → encode m ≢ encode_tree e d t

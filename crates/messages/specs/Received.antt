-- What a handset does with bytes that it is handed.
-- `Declined`: why nothing changed; `TakesBytes`: the handset after a message that was taken, or as it was.
-- Assumes nothing.
use Rattle.std.specs.Prelude.{◌≡◌, ℕ, ◌⊎◌, List, Ok, Err, Result, ◌≢◌}
use Rattle.commits.specs.declared.error.CommitError.{CommitError}
use Rattle.commits.specs.declared.error.CommitError.TheVariants.{Refused}
use Rattle.commits.specs.declared.refusal.Refusal.TheVariants.{Malformed}
use Rattle.messages.specs.Message.{Message, Fits, encode, message_of}
use Rattle.messages.specs.Take.{Left, Taken}
use Rattle.messages.specs.declared.handset.Handset.{Handset}
use Rattle.messages.specs.declared.message.CommitMessage.{CommitMessage}

-- the bytes are no message's, and the refusal is 1; or they are a message's, and it is refused for what it says
abbrev pub Declined : Handset → List ℕ → CommitError → Type 0
Declined h b e =
    ((e ≡ Refused Malformed) × ((m : Message) → Fits m → b ≢ encode m))
    ⊎ ((m : Message) × Fits m × (b ≡ encode m) × Left h m e)

abbrev pub TakesBytes : Handset → List ℕ → Handset → Result CommitMessage CommitError → Type 0
TakesBytes h b g (Ok m) = Fits (message_of m) × (b ≡ encode (message_of m)) × Taken h (message_of m) g
TakesBytes h b g (Err e) = (g ≡ h) × Declined h b e

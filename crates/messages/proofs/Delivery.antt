-- The letter of a commit that is allowed, as bytes: whom it concerns takes it, and goes with the group.
-- Assumes nothing.
use Rattle.std.proofs.Common.{◌≡◌, ℕ, suc, ◌<◌, T, List, length, Some, None, Ok, Err, Option, Result, sym, refl, ◌∙◌, subst, ap₂, inl, inr, arith}
use Rattle.theory.specs.Group.{Commit, allowed, group, message}
use Rattle.theory.specs.Limits.{nobody}
use Rattle.theory.specs.Natural.{map_tree}
use Rattle.theory.specs.Secrets.{Secret, Box}
use Rattle.theory.specs.Tree.{Tree}
use Rattle.theory.proofs.Follows.{message-done}
use Rattle.ratchet_tree.specs.Trees.{the_tree}
use Rattle.ratchet_tree.specs.declared.member.PublicKey.{PublicKey}
use Rattle.commits.specs.Refusals.{number_of}
use Rattle.commits.specs.declared.error.CommitError.{CommitError}
use Rattle.commits.specs.declared.error.CommitError.TheVariants.{Refused, OutOfMemory}
use Rattle.wire.specs.Bytes.{Half}
use Rattle.messages.specs.Letters.{letter_of, Stands, Concerns, TookLetter, Delivered, LettersDeliver, Arriving, LettersArrive}
use Rattle.messages.specs.Message.{Message, Fits, encode, message_of}
use Rattle.messages.specs.Received.{Declined, TakesBytes}
use Rattle.messages.specs.Take.{Left, Taken, message_refusal}
use Rattle.messages.specs.declared.handset.Handset.{Handset}
use Rattle.messages.specs.declared.message.CommitMessage.{CommitMessage}
use Rattle.messages.proofs.Fitting.{letter-fits}
use Rattle.messages.proofs.Letters.{is-taken, next-tree, next-epoch, next-sent, next-stands}
use Rattle.messages.proofs.Reading.{one-reading}

-- nothing refused, and something: not both
none-some : (o : Option ℕ) (n : ℕ) → o ≡ None → o ≡ Some n → ⊥
none-some o n a b = let z : ◌≡◌ {A = ℕ} 0 1 = cc in omega arith

-- A MESSAGE that a handset doesn't refuse, as bytes.
module _ (h after : Handset) (m : Message) (fits : Fits m) (free : message_refusal h.member.0 h.epoch.0 (the_tree h.tree) m ≡ None) (Asked : Handset → Type 0) (then : Taken h m after → Asked after) where
  not_left : (e : CommitError) → after ≡ h → Left h m e → TookLetter m Asked h after (Err e)
  not_left (Refused x) s l = none-some _ (number_of x) free l
  not_left OutOfMemory s l = s

  not-declined : (e : CommitError) → after ≡ h → Declined h (encode m) e → TookLetter m Asked h after (Err e)
  not-declined e s (inl d) = absurd (d.1 m fits refl)
  not-declined e s (inr d) = not_left e s (subst (λ (x : Message). Left h x e) (sym (one-reading m d.0 fits d.1 d.2)) d.3)

  pub took : (r : Result CommitMessage CommitError) → TakesBytes h (encode m) after r → TookLetter m Asked h after r
  took (Ok x) q =
      let same : message_of x ≡ m = sym (one-reading m (message_of x) fits q.0 q.1) in
      (same, then (subst (λ (y : Message). Taken h y after) same q.2))
  took (Err e) q = not-declined e q.0 q.1

-- A LETTER of a run.
module _
    (half : Secret → PublicKey) (bytes : Box → List ℕ) (halves : (s : Secret) → Half (half s)) (boxed : (b : Box) → length (bytes b) ≡ 48)
    (f : ℕ) (commits : ℕ → Commit) (n : ℕ) (ok : T (allowed (commits n) (group f commits n)))
  where
    abbrev letter : Message
    letter = letter_of half bytes f commits n

    free-at : (w : ℕ) → Concerns w (commits n) (group f commits n) → message_refusal w (group f commits n).epoch (map_tree half (group f commits n).tree) letter ≡ None
    free-at = is-taken half bytes halves boxed (commits n) (group f commits n) ok (message f commits n) (message-done f commits n ok)

    delivered : Delivered half bytes f commits n
    delivered =
        record {
          taken = free-at;
          tree = next-tree half bytes halves boxed f commits n ok;
          epoch = next-epoch half bytes halves boxed f commits n ok;
          follows = next-stands half bytes halves boxed f commits n ok;
          sent = next-sent half bytes halves boxed f commits n ok;
        }

    -- AS BYTES.
    module _ (member : f < nobody) where
      arrives : (h after : Handset) (r : Result CommitMessage CommitError) →
          Stands half (group f commits n) h → Concerns h.member.0 (commits n) (group f commits n) →
          TakesBytes h (encode letter) after r → TookLetter letter (Stands half (group f commits (suc n))) h after r
      arrives h after r s concerned q =
          took h after letter (letter-fits half bytes halves boxed f member commits n ok)
          (ap₂ (λ (e : ℕ) (t : Tree PublicKey). message_refusal h.member.0 e t letter) s.epoch s.tree ∙ free-at h.member.0 concerned)
          (Stands half (group f commits (suc n)))
          (next-stands half bytes halves boxed f commits n ok h after s) r q

      arriving : Arriving half bytes f commits n
      arriving = record { fits = letter-fits half bytes halves boxed f member commits n ok; arrives = arrives }

pub letters-deliver : LettersDeliver
letters-deliver = delivered

pub letters-arrive : LettersArrive
letters-arrive half bytes halves boxed f member commits n ok = arriving half bytes halves boxed f commits n ok member

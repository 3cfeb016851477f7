-- Runs of letters from a founder on: who takes them, what they carry, and which talk secrets stay secret.
-- `halves_given`: what the committer's vault gives for a commit; `LetterMade`: its handset makes the letter of that;
-- `boxes_sent`: the boxes of the letters so far; `carried`: the same as the letters carry them; `HandedOn`: a handset before and after a letter;
-- `LetterRun`: what holds of one run; `RunsOfLetters`: of every run.
-- Assumes nothing.
use Rattle.std.specs.Prelude.{◌≡◌, ℕ, zero, suc, ◌+◌, ◌<◌, T, List, [], ◌∷◌, ◌++◌, length, None, Ok}
use Rattle.theory.specs.Group.{Commit, Group, allowed, group, message, own_key, path_at, path_key}
use Rattle.theory.specs.Limits.{nobody}
use Rattle.theory.specs.Promise.{Exposure, Open, stocks}
use Rattle.theory.specs.Secrets.{Secret, Box, Knows, lock, talk, ups}
use Rattle.ratchet_tree.specs.Trees.{the_tree}
use Rattle.ratchet_tree.specs.declared.member.PublicKey.{PublicKey}
use Rattle.wire.specs.Bytes.{Half}
use Rattle.messages.specs.Compose.{Composed, compose_refusal}
use Rattle.messages.specs.Letters.{Arriving, Delivered, Stands, first_halves, letter_of, sealed_bytes}
use Rattle.messages.specs.Message.{encode}
use Rattle.messages.specs.Received.{TakesBytes}
use Rattle.messages.specs.declared.handset.Handset.{Handset}
use Rattle.messages.specs.declared.message.CommitMessage.{CommitMessage}

-- the public halves that the committer's vault gives for a commit: its leaf key's, and those of the node keys from below
abbrev pub halves_given : (Secret → PublicKey) → Commit → Group → List PublicKey
halves_given half c g =
    let e = suc g.epoch in
    half (own_key c e) ∷ first_halves (path_at c e g.tree).levels (λ i. half (lock (ups i (path_key c e))))

-- of these, and of the boxes that the vault sealed, a handset makes the letter of commit n: it is not refused, and what is made has the letter's bytes
pub record LetterMade (half : Secret → PublicKey) (bytes : Box → List ℕ) (f : ℕ) (commits : ℕ → Commit) (n : ℕ) (h : Handset) : Type 0 where
  pub free :
      compose_refusal h.member.0 h.epoch.0 (the_tree h.tree) (letter_of half bytes f commits n).change
      (halves_given half (commits n) (group f commits n)) (letter_of half bytes f commits n).boxes
      ≡ None
  pub made :
      (bs : List ℕ) →
      Composed h (letter_of half bytes f commits n).change (halves_given half (commits n) (group f commits n)) (letter_of half bytes f commits n).boxes bs →
      bs ≡ encode (letter_of half bytes f commits n)

-- the boxes of the letters of the first n commits; a commit that is refused sends none
unfoldable pub boxes_sent : ℕ → (ℕ → Commit) → ℕ → List Box
boxes_sent f commits zero = []
boxes_sent f commits (suc n) = boxes_sent f commits n ++ message f commits n

-- what stands in the letters for them
unfoldable pub carried : (Secret → PublicKey) → (Box → List ℕ) → ℕ → (ℕ → Commit) → ℕ → List ℕ
carried half bytes f commits zero = []
carried half bytes f commits (suc n) = carried half bytes f commits n ++ (letter_of half bytes f commits n).boxes

-- commit n reaches a handset: it takes the letter's bytes; a commit that is refused has no letter
pub record HandedOn (half : Secret → PublicKey) (bytes : Box → List ℕ) (f : ℕ) (commits : ℕ → Commit) (n : ℕ) (before after : Handset) : Type 0 where
  pub letter :
      T (allowed (commits n) (group f commits n)) →
      (m : CommitMessage) × TakesBytes before (encode (letter_of half bytes f commits n)) after (Ok m)
  pub idle : (T (allowed (commits n) (group f commits n)) → ⊥) → after ≡ before

-- a run of letters, and the handsets that are read out meanwhile
pub record LetterRun (half : Secret → PublicKey) (bytes : Box → List ℕ) (f : ℕ) (commits : ℕ → Commit) (es : List Exposure) : Type 0 where
  -- whom the letter of a commit that is allowed concerns doesn't refuse it, and comes to the group's next tree and epoch
  pub delivered : (n : ℕ) → T (allowed (commits n) (group f commits n)) → Delivered half bytes f commits n
  -- the letter fits its format, and whom it concerns takes its bytes
  pub arriving : (n : ℕ) → T (allowed (commits n) (group f commits n)) → Arriving half bytes f commits n
  -- so a handset that stood at the group once, and has taken every letter since, stands at it
  pub keeps :
      (start count : ℕ) (at : ℕ → Handset) → Stands half (group f commits start) (at 0) →
      ((k : ℕ) → k < count → HandedOn half bytes f commits (start + k) (at k) (at (suc k))) →
      Stands half (group f commits (start + count)) (at count)
  -- the committer's handset makes each letter, of what its vault gives
  pub composed :
      (n : ℕ) → T (allowed (commits n) (group f commits n)) → (h : Handset) →
      Stands half (group f commits n) h → h.member.0 ≡ (commits n).committer → LetterMade half bytes f commits n h
  -- the letters carry the boxes that the group has sent, and nothing besides
  pub boxes : (until : ℕ) → boxes_sent f commits until ≡ (group f commits until).sent
  pub carries : (until : ℕ) → carried half bytes f commits until ≡ sealed_bytes bytes (boxes_sent f commits until)
  -- whoever has all boxes of the letters, and all that was in the handsets read out, works out a talk secret only where it lies open
  pub secret :
      (until n : ℕ) → Knows (boxes_sent f commits until) (stocks f commits es) (talk (group f commits n).secret) →
      Open f commits es n

-- THE MAIN PROMISE, of letters: whatever the halves of 32 bytes and the boxes of 48 are, whichever member founds the group, whatever is committed and whoever is read out
abbrev pub RunsOfLetters : Type 0
RunsOfLetters =
    (half : Secret → PublicKey) (bytes : Box → List ℕ) →
    ((s : Secret) → Half (half s)) → ((b : Box) → length (bytes b) ≡ 48) →
    (f : ℕ) → f < nobody → (commits : ℕ → Commit) (es : List Exposure) → LetterRun half bytes f commits es

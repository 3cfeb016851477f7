-- Letters: the message that each commit of a run goes out as, and that handsets take it.
-- `letter_change`, `first_halves`, `sealed_bytes`: its parts; `letter_for`, `letter_of`: the letter of commit n;
-- `Stands`: a handset has the public side of a group; `Concerns`: whom a commit concerns; `TookLetter`: what is answered to a letter's bytes;
-- `Delivered`: what becomes of one letter; `LettersDeliver`: of every letter of every run; `Arriving`, `LettersArrive`: the same of its bytes, where the founder has a member's number;
-- `LetterRuns`: letters deliver, and what they carry stays secret.
-- Assumes nothing.
use Rattle.std.specs.Prelude.{◌≡◌, ℕ, zero, suc, ◌<◌, T, ◌⊎◌, List, [], ◌∷◌, ◌++◌, length, None, Ok, Err, Result, slice_index_or}
use Rattle.theory.specs.Group.{Change, renew, remove, add, Commit, Group, own_key, path_key, path_at, laid_by, allowed, group, message}
use Rattle.theory.specs.Limits.{nobody}
use Rattle.theory.specs.Natural.{map_tree}
use Rattle.theory.specs.Promise.{Main}
use Rattle.theory.specs.Secrets.{Secret, Box, drawn, newcomer_key, init_key, lock, ups}
use Rattle.theory.specs.Tree.{seated}
use Rattle.ratchet_tree.specs.Trees.{the_tree}
use Rattle.ratchet_tree.specs.declared.member.PublicKey.{PublicKey}
use Rattle.commits.specs.declared.error.CommitError.{CommitError}
use Rattle.commits.specs.declared.error.CommitError.TheVariants as commit-error
use Rattle.wire.specs.Bytes.{Half}
use Rattle.messages.specs.Message.{Message, Fits, encode, message_of}
use Rattle.messages.specs.Received.{TakesBytes}
use Rattle.messages.specs.Take.{HoldsKeys, Taken, commit_asked, fresh_key, joined_keys, message_refusal}
use Rattle.messages.specs.declared.handset.Handset.{Handset}
use Rattle.messages.specs.declared.message.CommitMessage.{CommitMessage}
use Rattle.messages.specs.declared.message.MessageChange.{MessageChange}
use Rattle.messages.specs.declared.message.MessageChange.TheVariants.{Renew, Remove, Add}

-- a change as a letter says it: an add brings the public halves of the newcomer's leaf key and init key
abbrev pub letter_change : (Secret → PublicKey) → Change → ℕ → MessageChange
letter_change half renew e = Renew
letter_change half (remove m) e = Remove (record { 0 = m })
letter_change half (add m) e = Add (record { 0 = m }) (half (drawn newcomer_key m e)) (half (drawn init_key m e))

-- the first n keys of a list without end
unfoldable pub first_halves : ℕ → (ℕ → PublicKey) → List PublicKey
first_halves zero keys = []
first_halves (suc n) keys = keys 0 ∷ first_halves n (λ i. keys (suc i))

-- boxes one after the other
unfoldable pub sealed_bytes : (Box → List ℕ) → List Box → List ℕ
sealed_bytes bytes [] = []
sealed_bytes bytes (b ∷ bs) = bytes b ++ sealed_bytes bytes bs

-- the letter of a commit made in a group, with the boxes that go out; for the public half of each secret and the bytes of each box
abbrev pub letter_for : (Secret → PublicKey) → (Box → List ℕ) → Commit → Group → List Box → Message
letter_for half bytes c g boxes =
    let e = suc g.epoch in
    record {
      epoch = e;
      committer = c.committer;
      change = letter_change half c.change e;
      leaf_key = half (own_key c e);
      node_keys = joined_keys (first_halves (path_at c e g.tree).levels (λ i. half (lock (ups i (path_key c e)))));
      boxes = sealed_bytes bytes boxes;
    }

-- the letter of commit n
abbrev pub letter_of : (Secret → PublicKey) → (Box → List ℕ) → ℕ → (ℕ → Commit) → ℕ → Message
letter_of half bytes f commits n = letter_for half bytes (commits n) (group f commits n) (message f commits n)

-- a handset has the public side of a group
pub record Stands (half : Secret → PublicKey) (g : Group) (h : Handset) : Type 0 where
  pub tree : the_tree h.tree ≡ map_tree half g.tree
  pub epoch : h.epoch.0 ≡ g.epoch

-- a commit concerns who is seated, and the newcomer
abbrev pub Concerns : ℕ → Commit → Group → Type 0
Concerns w c g = T (seated w g.tree) ⊎ (c.change ≡ add w)

-- the letter was taken, and the handset after is as asked; or there was no memory, and it is as it was; nothing is refused
abbrev pub TookLetter : Message → (Handset → Type 0) → Handset → Handset → Result CommitMessage CommitError → Type 0
TookLetter m Asked h after (Ok x) = (message_of x ≡ m) × Asked after
TookLetter m Asked h after (Err (commit-error.Refused x)) = ⊥
TookLetter m Asked h after (Err commit-error.OutOfMemory) = after ≡ h

pub record Delivered (half : Secret → PublicKey) (bytes : Box → List ℕ) (f : ℕ) (commits : ℕ → Commit) (n : ℕ) : Type 0 where
  -- no handset that stands at the group and that the commit concerns refuses the letter
  pub taken :
      (w : ℕ) → Concerns w (commits n) (group f commits n) →
      message_refusal w (group f commits n).epoch (map_tree half (group f commits n).tree) (letter_of half bytes f commits n) ≡ None
  -- the tree that it makes of the letter is the group's next
  pub tree :
      (ks : List PublicKey) → HoldsKeys ks (letter_of half bytes f commits n).node_keys →
      (laid_by (commit_asked (letter_of half bytes f commits n)) (fresh_key (letter_of half bytes f commits n)) (letter_of half bytes f commits n).leaf_key
      (λ i. slice_index_or ks i (letter_of half bytes f commits n).leaf_key) (map_tree half (group f commits n).tree)).tree
      ≡ map_tree half (group f commits (suc n)).tree
  -- and the epoch that the letter says
  pub epoch : (letter_of half bytes f commits n).epoch ≡ (group f commits (suc n)).epoch
  -- so who takes it goes with the group
  pub follows :
      (h after : Handset) → Stands half (group f commits n) h → Taken h (letter_of half bytes f commits n) after →
      Stands half (group f commits (suc n)) after
  -- the boxes that the letter carries are the ones that are sent
  pub sent : (group f commits (suc n)).sent ≡ (group f commits n).sent ++ message f commits n

-- whatever the halves of 32 bytes and the boxes of 48 are: the letter of every commit that is allowed is delivered
abbrev pub LettersDeliver : Type 0
LettersDeliver =
    (half : Secret → PublicKey) (bytes : Box → List ℕ) →
    ((s : Secret) → Half (half s)) → ((b : Box) → length (bytes b) ≡ 48) →
    (f : ℕ) (commits : ℕ → Commit) (n : ℕ) → T (allowed (commits n) (group f commits n)) → Delivered half bytes f commits n

-- over every run of letters from a founder on: whom a letter concerns takes it and goes with the group, the boxes that the letters carry are
-- all that was ever sent, and whoever has them all, and reads out any handsets, works out a talk secret only where it lies open
abbrev pub LetterRuns : Type 0
LetterRuns = LettersDeliver × Main

pub record Arriving (half : Secret → PublicKey) (bytes : Box → List ℕ) (f : ℕ) (commits : ℕ → Commit) (n : ℕ) : Type 0 where
  -- the letter can be written as bytes
  pub fits : Fits (letter_of half bytes f commits n)
  -- and so it is with the letter's bytes: whatever is answered to them, whom the commit concerns has taken the letter and goes with the group
  pub arrives :
      (h after : Handset) (r : Result CommitMessage CommitError) →
      Stands half (group f commits n) h → Concerns h.member.0 (commits n) (group f commits n) →
      TakesBytes h (encode (letter_of half bytes f commits n)) after r →
      TookLetter (letter_of half bytes f commits n) (Stands half (group f commits (suc n))) h after r

-- whatever the halves of 32 bytes and the boxes of 48 are, and whichever member founds the group: the letter of every commit that is allowed arrives as bytes
abbrev pub LettersArrive : Type 0
LettersArrive =
    (half : Secret → PublicKey) (bytes : Box → List ℕ) →
    ((s : Secret) → Half (half s)) → ((b : Box) → length (bytes b) ≡ 48) →
    (f : ℕ) → f < nobody → (commits : ℕ → Commit) (n : ℕ) → T (allowed (commits n) (group f commits n)) → Arriving half bytes f commits n

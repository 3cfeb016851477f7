-- What a handset does with a message.
-- `commit_asked`, `fresh_key`: the commit and the newcomer's key in it; `HoldsKeys`: keys one after the other, as bytes;
-- `counts_match`, `message_refusal`: why a message is refused; `Left`: why a handset stays as it was; `Accepts`: the tree that the path is laid on, or why there is none;
-- `Taken`, `Takes`: the handset after the message, or the refusal.
-- Assumes nothing.
use Rattle.std.specs.Prelude.{◌≡◌, ℕ, suc, ◌+◌, ◌/◌, ◌<◌, Bool, false, not, ◌&&◌, List, [], ◌∷◌, ◌++◌, length, Some, None, Ok, Err, Option, Result, ◌==◌, nat_le, slice_index_or}
use Rattle.theory.specs.Group.{Change, renew, remove, add, Commit, first_of, refusal, readied, laid_by}
use Rattle.theory.specs.Limits.{last_epoch}
use Rattle.theory.specs.Tree.{Tree, seated}
use Rattle.ratchet_tree.specs.Trees.{the_tree}
use Rattle.ratchet_tree.specs.declared.member.PublicKey.{PublicKey}
use Rattle.ratchet_tree.specs.declared.tree.RatchetTree.{RatchetTree}
use Rattle.commits.specs.Apply.{welcomes}
use Rattle.commits.specs.Refusals.{number_of}
use Rattle.commits.specs.declared.error.CommitError.{CommitError}
use Rattle.commits.specs.declared.error.CommitError.TheVariants as commit-error
use Rattle.wire.specs.Bytes.{Half, key_bytes}
use Rattle.messages.specs.Message.{Message}
use Rattle.messages.specs.declared.handset.Handset.{Handset}
use Rattle.messages.specs.declared.message.MessageChange.{MessageChange}
use Rattle.messages.specs.declared.message.MessageChange.TheVariants.{Renew, Remove, Add}

abbrev pub change_asked : MessageChange → Change
change_asked Renew = renew
change_asked (Remove m) = remove m.0
change_asked (Add m k i) = add m.0

abbrev pub commit_asked : Message → Commit
commit_asked m = record { committer = m.committer; change = change_asked m.change }

-- the newcomer's leaf key; only an add has one
abbrev pub fresh_in : PublicKey → MessageChange → PublicKey
fresh_in own Renew = own
fresh_in own (Remove m) = own
fresh_in own (Add m k i) = k

abbrev pub fresh_key : Message → PublicKey
fresh_key m = fresh_in m.leaf_key m.change

abbrev pub is_newcomer : ℕ → MessageChange → Bool
is_newcomer w Renew = false
is_newcomer w (Remove m) = false
is_newcomer w (Add m k i) = m.0 == w

-- a handset that is neither seated nor the newcomer
abbrev pub is_stranger : ℕ → Tree PublicKey → Message → Bool
is_stranger w t m = not (seated w t) && not (is_newcomer w m.change)

-- keys one after the other
unfoldable pub joined_keys : List PublicKey → List ℕ
joined_keys [] = []
joined_keys (k ∷ ks) = key_bytes k ++ joined_keys ks

-- as many keys as the bytes have, 32 bytes each; fewer than 32 are left
pub record HoldsKeys (ks : List PublicKey) (bs : List ℕ) : Type 0 where
  pub left : List ℕ
  pub bytes : bs ≡ joined_keys ks ++ left
  pub short : length left < 32
  pub halves : (i : ℕ) → i < length ks → Half (slice_index_or ks i (record { 0 = [] }))

-- a message has these many node keys and boxes
abbrev pub counts_match : ℕ → ℕ → Message → Bool
counts_match keys boxes m = keys == length m.node_keys / 32 && boxes == length m.boxes / 48

-- the counts of the path that the rules give; which keys it lays does not matter
abbrev pub right_counts : Tree PublicKey → Message → Bool
right_counts t m =
    let x = laid_by (commit_asked m) (fresh_key m) m.leaf_key (λ _. m.leaf_key) t in
    counts_match x.levels (length x.targets + welcomes (change_asked m.change)) m

abbrev pub or_next : Option ℕ → Option ℕ → Option ℕ
or_next None o = o
or_next (Some n) o = Some n

-- the first cause that applies, for the handset of member w: 9, 2, 3, then what the commit is refused for, then 7
abbrev pub message_refusal : ℕ → ℕ → Tree PublicKey → Message → Option ℕ
message_refusal w e t m =
    first_of (nat_le last_epoch e) 9
    (first_of (not (m.epoch == suc e)) 2
    (first_of (is_stranger w t m) 3
    (or_next (refusal e (commit_asked m) t) (first_of (not (right_counts t m)) 7 None))))

-- the handset after a message that it took
pub record Taken (h : Handset) (m : Message) (g : Handset) : Type 0 where
  pub allowed : message_refusal h.member.0 h.epoch.0 (the_tree h.tree) m ≡ None
  pub keys : List PublicKey
  pub holds : HoldsKeys keys m.node_keys
  pub tree : the_tree g.tree ≡ (laid_by (commit_asked m) (fresh_key m) m.leaf_key (λ i. slice_index_or keys i m.leaf_key) (the_tree h.tree)).tree
  pub epoch : g.epoch.0 ≡ suc h.epoch.0
  pub member : g.member ≡ h.member

-- why a handset stays as it was: a refusal by its number; or there was no memory, and no cause but 7 applies
abbrev pub Left : Handset → Message → CommitError → Type 0
Left h m (commit-error.Refused x) = message_refusal h.member.0 h.epoch.0 (the_tree h.tree) m ≡ Some (number_of x)
Left h m commit-error.OutOfMemory = (n : ℕ) → message_refusal h.member.0 h.epoch.0 (the_tree h.tree) m ≡ Some n → n ≡ 7

-- the tree that the message's path is laid on, or why there is none
abbrev pub Accepts : Handset → Message → Result RatchetTree CommitError → Type 0
Accepts h m (Ok u) =
    (message_refusal h.member.0 h.epoch.0 (the_tree h.tree) m ≡ None)
    × (the_tree u ≡ readied (change_asked m.change) (fresh_key m) (the_tree h.tree))
Accepts h m (Err e) = Left h m e

abbrev pub Takes : {T : Type 0} → Handset → Message → Handset → Result T CommitError → Type 0
Takes h m g (Ok x) = Taken h m g
Takes h m g (Err e) = (g ≡ h) × Left h m e

-- What the chips of a run do with its letters, where keys are named by their public halves.
-- `served`: the chip of a member after a commit; `ChipServed`: some orders bring the chip there; `LetterAnswered`: what a handset answers to a letter;
-- `ChipsServed`: every handset and every letter of every run.
-- Assumes nothing.
use Rattle.std.specs.Prelude.{◌≡◌, ℕ, suc, ◌<◌, cond, T, List, [], map, length, Some, Ok, Err, vec_items, Result, Vec, ◌==◌}
use Rattle.std.specs.declared.alloc.Global.{Global}
use Rattle.theory.specs.Group.{Commit, group, allowed, message, path_at}
use Rattle.theory.specs.Limits.{nobody}
use Rattle.theory.specs.Secrets.{Secret, Box}
use Rattle.wire.specs.Bytes.{Half}
use Rattle.ratchet_tree.specs.declared.member.PublicKey.{PublicKey}
use Rattle.commits.specs.declared.error.CommitError.{CommitError}
use Rattle.commits.specs.declared.error.CommitError.TheVariants.{OutOfMemory}
use Rattle.messages.specs.Letters.{Stands, letter_of}
use Rattle.messages.specs.Message.{encode}
use Rattle.messages.specs.declared.handset.Handset.{Handset}
use Rattle.vault_theory.specs.Layout.{layout}
use Rattle.vault_theory.specs.Order as theory
use Rattle.vault_theory.specs.Slots.{chip_with, concerns, draws_of, given_by}
use Rattle.vault_theory.specs.Vault.{Halves, Vault, run, sealed_box}
use Rattle.orders.specs.Answered.{Responds}
use Rattle.orders.specs.Order.{order_of}
use Rattle.orders.specs.declared.order.Order.{Order}

-- the chip of w after commit n: laid out for the next group; the committer's has sealed the boxes that are sent, in their order, and given the halves of the letter
abbrev pub served : (Secret → PublicKey) → ℕ → (ℕ → Commit) → ℕ → ℕ → Vault PublicKey
served half f commits n w =
    let g = group f commits n in
    record {
      slots = layout w (group f commits (suc n));
      draws = [];
      sealed = cond (w == (commits n).committer) (map (sealed_box half) (message f commits n)) [];
      given = map half (given_by w (commits n) (suc g.epoch) (path_at (commits n) (suc g.epoch) g.tree));
    }

-- a chip that is laid out for the group carries these orders out without a fault, and is then laid out for the next
abbrev pub ChipServed : Halves PublicKey → ℕ → (ℕ → Commit) → ℕ → ℕ → List (theory.Order PublicKey) → Type 0
ChipServed keys f commits n w orders =
    let g = group f commits n in
    run keys (map (sealed_box keys.half) (message f commits n)) orders
    (chip_with (layout w g) (draws_of w (commits n) (suc g.epoch)))
    ≡ Some (served keys.half f commits n w)

-- the orders that are answered serve the member's chip, and the handset goes with the group; or there was no memory, and the handset is as it was
abbrev pub LetterAnswered : Halves PublicKey → ℕ → (ℕ → Commit) → ℕ → Handset → Handset → Result (Vec Order Global) CommitError → Type 0
LetterAnswered keys f commits n h after (Ok v) =
    Stands keys.half (group f commits (suc n)) after
    × ChipServed keys f commits n h.member.0 (map order_of (vec_items v))
LetterAnswered keys f commits n h after (Err e) = (e ≡ OutOfMemory) × (after ≡ h)

-- Whatever the halves of 32 bytes and the boxes of 48 are, whichever member founds the group and whatever is committed: a handset that stands at the group,
-- is concerned by the next commit and is handed the bytes of its letter answers orders that bring its chip from what it holds by the rules to what it then holds,
-- and nothing more.
abbrev pub ChipsServed : Type 0
ChipsServed =
    (keys : Halves PublicKey) → ((k : PublicKey) → T (keys.same k k)) → ((s : Secret) → Half (keys.half s)) →
    (bytes : Box → List ℕ) → ((b : Box) → length (bytes b) ≡ 48) →
    (f : ℕ) → f < nobody → (commits : ℕ → Commit) (n : ℕ) → T (allowed (commits n) (group f commits n)) →
    (h after : Handset) → Stands keys.half (group f commits n) h → T (concerns h.member.0 (commits n) (group f commits n)) →
    (r : Result (Vec Order Global) CommitError) → Responds h (encode (letter_of keys.half bytes f commits n)) after r →
    LetterAnswered keys f commits n h after r

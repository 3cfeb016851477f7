-- Members of two bytes each, one after the other.
-- Assumes nothing.
use Rattle.std.proofs.Common.{◌≡◌, ℕ, ◌*◌, ◌/◌, ◌<◌, List, [], ◌∷◌, ◌++◌, length, suc, All, flat_map, sym, refl, ap, ◌∙◌, arith}
use Rattle.std.proofs.lemmas.List.{append-nil, length-append}
use Rattle.ratchet_tree.specs.Nodes.{numbers}
use Rattle.ratchet_tree.specs.declared.member.MemberId.{MemberId}
use Rattle.wire.specs.Bytes.{be16, Holds, Whole, run_bytes}
use Rattle.messages.specs.TreeFile.{members_bytes, FitsMembers}

pub bytes-length : (ms : List ℕ) → length (members_bytes ms) ≡ 2 * length ms
bytes-length [] = refl
bytes-length (m ∷ ms) = omega (arith, bytes-length ms)

-- members as they are read and written one by one
pub members-joined : (ms : List MemberId) → members_bytes (numbers ms) ≡ flat_map (λ (m : MemberId). be16 m.0) ms
members-joined [] = refl
members-joined (m ∷ ms) = ap (λ (l : List ℕ). be16 m.0 ++ l) (members-joined ms)

pub members-fit : (ms : List MemberId) → All (λ (m : MemberId). m.0 < 65536) ms → FitsMembers (numbers ms)
members-fit [] f = tt
members-fit (m ∷ ms) f = (f 0 m (omega arith), members-fit ms (λ k d h. f (suc k) d (omega arith)))

-- whole members, read to the last byte
no-byte : (l : List ℕ) → length l ≡ 0 → l ≡ []
no-byte [] e = refl
no-byte (x ∷ l) e = absurd (omega arith)

pub members-held : (ms : List MemberId) (b : List ℕ) → Holds (λ (m : MemberId). m.0 < 65536) (λ (m : MemberId). be16 m.0) 2 ms b → Whole 2 65536 b → b ≡ members_bytes (numbers ms)
members-held ms b h w =
    let joined : b ≡ members_bytes (numbers ms) ++ h.left = h.bytes ∙ ap (λ (l : List ℕ). l ++ h.left) (sym (members-joined ms)) in
    let none : length h.left ≡ 0 =
    omega (arith, ap length joined ∙ length-append (members_bytes (numbers ms)) h.left, bytes-length (numbers ms), w.whole, h.short) in
    joined ∙ ap (λ (l : List ℕ). members_bytes (numbers ms) ++ l) (no-byte h.left none) ∙ append-nil (members_bytes (numbers ms))

pub members-few : (ms : List MemberId) (b : List ℕ) → b ≡ members_bytes (numbers ms) → Whole 2 65536 b → length (numbers ms) < 65536
members-few ms b e w = omega (arith, ap length e, bytes-length (numbers ms), w.whole, w.few)

-- members as a run of parts of two bytes
pub members-whole : (ms : List ℕ) → length ms < 65536 → Whole 2 65536 (members_bytes ms)
members-whole ms h = record { whole = omega (arith, bytes-length ms); few = omega (arith, bytes-length ms) }

pub members_run : (ms : List ℕ) → be16 (length ms) ++ members_bytes ms ≡ run_bytes 2 (members_bytes ms)
members_run ms =
    let n : length ms ≡ length (members_bytes ms) / 2 = omega (arith, bytes-length ms) in
    ap (λ (k : ℕ). be16 k ++ members_bytes ms) n

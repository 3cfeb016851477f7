-- Keys one after the other.
-- Assumes nothing.
use Rattle.std.proofs.Common.{◌≡◌, ℕ, List, [], ◌∷◌, ◌++◌, flat_map, refl, ap, ◌∙◌}
use Rattle.ratchet_tree.specs.declared.member.PublicKey.{PublicKey}
use Rattle.wire.specs.Bytes.{Half, Holds, key_bytes}
use Rattle.messages.specs.Take.{joined_keys, HoldsKeys}

-- keys as they are read and written one by one
pub keys-joined : (ks : List PublicKey) → flat_map key_bytes ks ≡ joined_keys ks
unfolding joined_keys
keys-joined [] = refl
keys-joined (k ∷ ks) = ap (λ (l : List ℕ). key_bytes k ++ l) (keys-joined ks)

pub keys-held : (ks : List PublicKey) (b : List ℕ) → Holds Half key_bytes 32 ks b → HoldsKeys ks b
keys-held ks b h =
    record {
      left = h.left;
      bytes = h.bytes ∙ ap (λ (l : List ℕ). l ++ h.left) (keys-joined ks);
      short = h.short;
      halves = λ i l. h.fits i (record { 0 = [] }) l;
    }

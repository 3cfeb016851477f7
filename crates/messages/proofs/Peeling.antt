-- The header and the change of a message have one reading: equal bytes that begin with such a part begin with the same one, and go on alike.
-- Assumes nothing.
use Rattle.std.proofs.Common.{◌≡◌, ℕ, List, ◌∷◌, ◌++◌, sym, refl, ap, ◌∙◌, ap₂, append_assoc, arith}
use Rattle.ratchet_tree.specs.declared.member.PublicKey.{PublicKey}
use Rattle.ratchet_tree.specs.declared.member.MemberId.{MemberId}
use Rattle.wire.specs.Bytes.{be16, key_bytes, Half}
use Rattle.wire.proofs.Peeling.{peel-byte, peel-16, peel-32, peel-key}
use Rattle.messages.specs.declared.message.MessageChange.{MessageChange}
use Rattle.messages.specs.declared.message.MessageChange.TheVariants.{Renew, Remove, Add}
use Rattle.messages.specs.Message.{FitsHead, ChangeOf, head_bytes, change_keys}

pub peel-head : (e k c o e' k' c' o' : ℕ) (r s : List ℕ) → FitsHead e k c o → FitsHead e' k' c' o' → head_bytes e k c o ++ r ≡ head_bytes e' k' c' o' ++ s →
    (e ≡ e') × (k ≡ k') × (c ≡ c') × (o ≡ o') × (r ≡ s)
peel-head e k c o e' k' c' o' r s f g q =
    let a = peel-byte _ _ _ _ q in
    let b = peel-32 e e' (k ∷ be16 c ++ be16 o ++ r) (k' ∷ be16 c' ++ be16 o' ++ s) f.epoch g.epoch a.1 in
    let d = peel-byte _ _ _ _ b.1 in
    let h = peel-16 c c' (be16 o ++ r) (be16 o' ++ s) f.committer g.committer d.1 in
    let i = peel-16 o o' r s f.other g.other h.1 in
    (b.0, d.0, h.0, i.0, i.1)

same-member : (m n : MemberId) → m.0 ≡ n.0 → m ≡ n
same-member m n e = ap (λ (i : ℕ). let x : MemberId = record { 0 = i } in x) e

pub peel-change : (c d : MessageChange) (k o : ℕ) (r s : List ℕ) → ChangeOf k o c → ChangeOf k o d → change_keys c ++ r ≡ change_keys d ++ s → (c ≡ d) × (r ≡ s)
peel-change Renew Renew k o r s f g e = (refl, e)
peel-change Renew (Remove m) k o r s f g e = absurd (omega (arith, f.kind, g.kind))
peel-change Renew (Add m x y) k o r s f g e = absurd (omega (arith, f.kind, g.kind))
peel-change (Remove n) Renew k o r s f g e = absurd (omega (arith, f.kind, g.kind))
peel-change (Remove n) (Remove m) k o r s f g e = (ap Remove (same-member n m (f.other ∙ sym g.other)), e)
peel-change (Remove n) (Add m x y) k o r s f g e = absurd (omega (arith, f.kind, g.kind))
peel-change (Add n u v) Renew k o r s f g e = absurd (omega (arith, f.kind, g.kind))
peel-change (Add n u v) (Remove m) k o r s f g e = absurd (omega (arith, f.kind, g.kind))
peel-change (Add n u v) (Add m x y) k o r s f g e =
    let p = peel-key u x (key_bytes v ++ r) (key_bytes y ++ s) f.fits.0 g.fits.0 (sym (append_assoc (key_bytes u) (key_bytes v) r) ∙ e ∙ append_assoc (key_bytes x) (key_bytes y) s) in
    let q = peel-key v y r s f.fits.1 g.fits.1 p.1 in
    (ap (λ (i : MemberId). Add i u v) (same-member n m (f.other ∙ sym g.other)) ∙ ap₂ (λ (a b : PublicKey). Add m a b) p.0 q.0, q.1)

-- the keys of an add
pub record AddKeys (b rest : List ℕ) : Type 0 where
  pub leaf_key : PublicKey
  pub init_key : PublicKey
  pub leaf : Half leaf_key
  pub init : Half init_key
  pub bytes : b ≡ key_bytes leaf_key ++ (key_bytes init_key ++ rest)

pub add-keys : (k o : ℕ) (x : MessageChange) (b rest : List ℕ) → k ≡ 3 → ChangeOf k o x → b ≡ change_keys x ++ rest → AddKeys b rest
add-keys k o Renew b rest t f e = absurd (omega (arith, f.kind))
add-keys k o (Remove m) b rest t f e = absurd (omega (arith, f.kind))
add-keys k o (Add m u v) b rest t f e =
    record { leaf_key = u; init_key = v; leaf = f.fits.0; init = f.fits.1; bytes = e ∙ append_assoc (key_bytes u) (key_bytes v) rest }

-- Numbers, keys and runs have one reading: equal bytes that begin with such a part begin with the same one, and go on alike.
-- Assumes nothing.
use Rattle.std.proofs.Common.{◌≡◌, ℕ, ◌+◌, ◌*◌, ◌/◌, ◌%◌, ◌<◌, ◌≤◌, Bool, true, false, eqb, List, [], ◌∷◌, ◌++◌, length, take, drop, Some, None, Option, sym, refl, ap, ◌∙◌, ap₂, true≢false, append_assoc, arith, Bor, MatchOption}
use Rattle.std.proofs.lemmas.Bool.{ne_eqb}
use Rattle.ratchet_tree.specs.declared.member.PublicKey.{PublicKey}
use Rattle.wire.specs.Bytes.{be16, be32, key_bytes, Half, ReadsAs, Whole}
use Rattle.wire.proofs.Fronts.{split-equal, cut_at, too_short}

pub peel-byte : (m n : ℕ) (r s : List ℕ) → m ∷ r ≡ n ∷ s → (m ≡ n) × (r ≡ s)
peel-byte m n r s e = let h : m ≡ n = cc in let t : r ≡ s = cc in (h, t)

pub peel-16 : (m n : ℕ) (r s : List ℕ) → m < 65536 → n < 65536 → be16 m ++ r ≡ be16 n ++ s → (m ≡ n) × (r ≡ s)
peel-16 m n r s x y e =
    let h : m / 256 % 256 ≡ n / 256 % 256 = cc in
    let l : m % 256 ≡ n % 256 = cc in
    let t : r ≡ s = cc in
    (omega arith, t)

pub peel-32 : (m n : ℕ) (r s : List ℕ) → m < 4294967296 → n < 4294967296 → be32 m ++ r ≡ be32 n ++ s → (m ≡ n) × (r ≡ s)
peel-32 m n r s x y e =
    let p : m / 16777216 % 256 ≡ n / 16777216 % 256 = cc in
    let q : m / 65536 % 256 ≡ n / 65536 % 256 = cc in
    let h : m / 256 % 256 ≡ n / 256 % 256 = cc in
    let l : m % 256 ≡ n % 256 = cc in
    let t : r ≡ s = cc in
    (omega arith, t)

pub peel-key : (k k' : PublicKey) (r s : List ℕ) → Half k → Half k' → key_bytes k ++ r ≡ key_bytes k' ++ s → (k ≡ k') × (r ≡ s)
peel-key k k' r s h h' e =
    let p = split-equal k.0 k'.0 r s (h ∙ sym h') e in
    let q : k ≡ k' = ap (λ (l : List ℕ). let x : PublicKey = record { 0 = l } in x) p.0 in
    (q, p.1)

-- a run of parts after their number: `enc` writes the number, and w n / w is n
module _ (w limit : ℕ) (enc : ℕ → List ℕ)
    (peel : (m n : ℕ) (r s : List ℕ) → m < limit → n < limit → enc m ++ r ≡ enc n ++ s → (m ≡ n) × (r ≡ s))
    (divides : (n : ℕ) → w * n / w ≡ n) where
  abbrev run : List ℕ → List ℕ
  run bs = enc (length bs / w) ++ bs

  pub peel-run : (x y r s : List ℕ) → Whole w limit x → Whole w limit y → run x ++ r ≡ run y ++ s → (x ≡ y) × (r ≡ s)
  peel-run x y r s f g e =
      let p = peel (length x / w) (length y / w) (x ++ r) (y ++ s) f.few g.few
      (sym (append_assoc (enc (length x / w)) x r) ∙ e ∙ append_assoc (enc (length y / w)) y s) in
      split-equal x y r s (f.whole ∙ ap (λ (n : ℕ). w * n) p.0 ∙ sym g.whole) p.1

  -- what a cut at w times the number gives
  pub read-run : (b rest : List ℕ) (n : ℕ) → n < limit → b ≡ enc n ++ rest → (r : Option (Bor (List ℕ) × Bor (List ℕ))) →
      MatchOption r (length rest < w * n) (λ p. (w * n ≤ length rest) × (p.0.now ≡ take (w * n) rest) × (p.1.now ≡ drop (w * n) rest) × (length p.0.now ≡ w * n) × (length p.1.now + w * n ≡ length rest)) →
      ReadsAs (λ x. x.now) (Whole w limit) run b r
  read-run b rest n h e None q = λ x more f g.
      let p = peel n (length x / w) rest (x ++ more) h f.few (sym e ∙ g ∙ append_assoc (enc (length x / w)) x more) in
      too_short rest x more (w * n) q (f.whole ∙ ap (λ (i : ℕ). w * i) (sym p.0)) p.1
  read-run b rest n h e (Some p) q =
      let u = cut_at rest p.0.now p.1.now (w * n) q.0 q.1 q.2 in
      let d : length p.0.now / w ≡ n = ap (λ (i : ℕ). i / w) u.0 ∙ divides n in (
        record { whole = u.0 ∙ ap (λ (i : ℕ). w * i) (sym d); few = rw d h },
        e ∙ ap₂ (λ (i : ℕ) (l : List ℕ). enc i ++ l) (sym d) u.1 ∙ sym (append_assoc (enc (length p.0.now / w)) p.0.now p.1.now),
      )

pub divides-32 : (n : ℕ) → 32 * n / 32 ≡ n
divides-32 n = omega arith

pub divides-48 : (n : ℕ) → 48 * n / 48 ≡ n
divides-48 n = omega arith

pub peel-count : (m n : ℕ) (r s : List ℕ) → m < 256 → n < 256 → (m ∷ []) ++ r ≡ (n ∷ []) ++ s → (m ≡ n) × (r ≡ s)
peel-count m n r s x y e = peel-byte m n r s e

abbrev pub one_byte : ℕ → List ℕ
one_byte n = n ∷ []

-- bytes that are left, and none that are
pub some_left : (v : List ℕ) (x : Bool) → x ≡ eqb (length v) 0 → x ≡ false → v ≡ [] → ⊥
some_left [] x e f n = absurd (true≢false (sym e ∙ f))
some_left (y ∷ v) x e f n = let z : ◌≡◌ {A = ℕ} 0 1 = cc in omega arith

pub none_left : (v : List ℕ) (x : Bool) → x ≡ eqb (length v) 0 → x ≡ true → v ≡ []
none_left [] x e f = refl
none_left (y ∷ v) x e f = absurd (true≢false (sym f ∙ e ∙ ne_eqb (length (y ∷ v)) 0 (omega arith)))

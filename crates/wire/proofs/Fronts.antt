-- The front of some bytes, one after the other, and numbers from their bytes.
-- Assumes nothing.
use Rattle.std.proofs.Common.{◌≡◌, ℕ, ◌+◌, ◌-◌, ◌<◌, ◌≤◌, List, [], ◌∷◌, ◌++◌, length, get_or, take, drop, sym, refl, ap, ◌∙◌, ap₂, arith}
use Rattle.std.proofs.lemmas.List.{drop_more, take_rest, length-append, length-take-le, take-append-drop}

-- one byte more at the front
pub one_more : (b : List ℕ) (i : ℕ) (ys : List ℕ) → i < length b → drop (i + 1) b ≡ ys → drop i b ≡ get_or b i 0 ∷ ys
one_more b i ys h e = drop_more b i 0 h ∙ ap (λ l. get_or b i 0 ∷ l) e

pub front-1 : (b : List ℕ) → 1 ≤ length b → b ≡ get_or b 0 0 ∷ take (length b - 1) (drop 1 b)
front-1 b h = one_more b 0 _ (omega arith) (sym (take_rest b 1))

-- what begins with the same number of bytes has the same bytes there, and the same behind them
pub split-equal : (a b r s : List ℕ) → length a ≡ length b → a ++ r ≡ b ++ s → (a ≡ b) × (r ≡ s)
split-equal [] [] r s l e = (refl, e)
split-equal [] (y ∷ b) r s l e = absurd (omega arith)
split-equal (x ∷ a) [] r s l e = absurd (omega arith)
split-equal (x ∷ a) (y ∷ b) r s l e =
    let h : x ≡ y = cc in
    let t : a ++ r ≡ b ++ s = cc in
    let p = split-equal a b r s (omega arith) t in
    (ap₂ (λ (u : ℕ) (v : List ℕ). u ∷ v) h p.0, p.1)

-- the front that a cut gives, and what is behind it
pub cut_at : (b p q : List ℕ) (n : ℕ) → n ≤ length b → p ≡ take n b → q ≡ drop n b → (length p ≡ n) × (b ≡ p ++ q)
cut_at b p q n h e f =
    (ap length e ∙ length-take-le n b h, sym (take-append-drop n b) ∙ ap₂ (λ (u v : List ℕ). u ++ v) (sym e) (sym f))

-- nothing of n bytes stands at the front of fewer
pub too_short : (b a rest : List ℕ) (n : ℕ) → length b < n → length a ≡ n → b ≡ a ++ rest → ⊥
too_short b a rest n h l e = omega (arith, ap length e ∙ length-append a rest)

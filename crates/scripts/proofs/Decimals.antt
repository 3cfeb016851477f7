-- Decimal text: the number that digits write, and what stands in a number's text.
use Rattle.std.proofs.Common.{◌≡◌, ℕ, ◌+◌, ◌-◌, ◌*◌, ◌%◌, ◌^◌, ◌<◌, ◌≤◌, List, [], ◌∷◌, length, get_or, take, drop, All, sym, refl, ap, ◌∙◌, subst, inl, inr, arith, rules}
use Rattle.std.proofs.lemmas.Bool.{cases_lt}
use Rattle.std.proofs.lemmas.Str.Parse.{IsDigitsTest, IsNumeralModel, numerals_by_fold}
use Rattle.std.proofs.lemmas.Fmt.{digits_decimal, digits_value-decimal, decimal-digits_value, first_decimal, decimal_nonempty, decimal_digit}
use Rattle.std.proofs.lemmas.List.{at_drop_more, at_drop_all, take_all}
use Rattle.std.proofs.lemmas.List.Elements.{All-nil, All-cons, All-head, All-tail, All-get_or, All-more}
use Rattle.scripts.specs.Decimal.{decimal, Digit}

-- the number that n's digits and then ds write
abbrev pub read_on : ℕ → List ℕ → ℕ
read_on n [] = n
read_on n (b ∷ bs) = read_on (n * 10 + (b - 48)) bs

-- it is asked of each byte whether it is a digit
digits-test : IsDigitsTest (All Digit)
digits-test = record {
  empty = All-nil Digit;
  parts = λ c cs all. (All-head Digit c cs all, All-tail Digit c cs all);
  more = λ c cs digit all. All-cons Digit c cs digit all;
}

pub own : IsNumeralModel (All Digit) (read_on 0)
own = numerals_by_fold _ digits-test read_on (search rules)

-- more digits make no smaller number
pub read_on-ge : (n : ℕ) (bs : List ℕ) → n ≤ read_on n bs
read_on-ge n [] = omega arith
read_on-ge n (b ∷ bs) = omega (arith, read_on-ge (n * 10 + (b - 48)) bs)

-- a number's text is digits
pub all-decimal : (n : ℕ) → n < 2 ^ 64 → All Digit (decimal n)
all-decimal n h = digits_decimal own n h

-- and they write the number
pub read_on-decimal : (n : ℕ) → n < 2 ^ 64 → read_on 0 (decimal n) ≡ n
read_on-decimal n h = digits_value-decimal own n h

-- how far the text is read: digits so far, and the number and what is left write the whole
pub record Read (text : List ℕ) (i number : ℕ) : Type 0 where
  pub digits : All Digit (take i text)
  pub whole : read_on number (drop i text) ≡ read_on 0 text
  pub small : number < 65536

pub read_none : (text : List ℕ) → Read text 0 0
read_none text = record { digits = All-nil Digit; whole = refl; small = omega arith }

module _ (text : List ℕ) (i number : ℕ) (lt : i < length text) (r : Read text i number) where
  stepped : read_on (number * 10 + (get_or text i 0 - 48)) (drop (i + 1) text) ≡ read_on 0 text
  stepped = sym (at_drop_more (read_on number) text i 0 lt) ∙ r.whole

  pub read_more : Digit (get_or text i 0) → number * 10 + (get_or text i 0 - 48) < 65536 → Read text (i + 1) (number * 10 + (get_or text i 0 - 48))
  read_more d fits = record { digits = All-more Digit text i 0 lt r.digits d; whole = stepped; small = fits }

  -- a digit that has no place refuses every number
  pub read-stuck : (Digit (get_or text i 0) → number * 10 + (get_or text i 0 - 48) < 65536 → ⊥) → (n : ℕ) → n < 65536 → text ≡ decimal n → ⊥
  read-stuck no_place n small e =
      let ds : All Digit text = subst (All Digit) (sym e) (all-decimal n (omega arith)) in
      let v : read_on 0 text ≡ n = ap (read_on 0) e ∙ read_on-decimal n (omega arith) in
      no_place (All-get_or Digit text i 0 lt ds) (omega (arith, read_on-ge (number * 10 + (get_or text i 0 - 48)) (drop (i + 1) text), stepped, v))

-- the whole text is read: it is the number's
pub read_all : (text : List ℕ) (i number : ℕ) → length text ≤ i → Read text i number → 0 < length text → (get_or text 0 0 ≡ 48 → length text ≡ 1) → text ≡ decimal number
read_all text i number end r some first =
    let ds : All Digit text = subst (All Digit) (take_all i text end) r.digits in
    let v : number ≡ read_on 0 text = sym (at_drop_all (read_on number) text i end) ∙ r.whole in
    sym (ap decimal v ∙ decimal-digits_value own text ds some first (omega arith))

-- no number's text is empty
pub not-empty : (n : ℕ) (text : List ℕ) → n < 65536 → text ≡ decimal n → length text ≡ 0 → ⊥
not-empty n text small e none = omega (arith, decimal_nonempty n (omega arith), ap length e)

-- no number's text begins with 0, but that of 0
pub no-zero-first : (n : ℕ) (text : List ℕ) → n < 65536 → text ≡ decimal n → get_or text 0 0 ≡ 48 → length text ≡ 1
no-zero-first n text small e zero-first =
    elim (cases_lt 0 n) [
      | inl pos ↦ absurd (omega (arith, first_decimal n pos (omega arith), ap (λ t. get_or t 0 0) e))
      | inr none ↦ ap length (e ∙ ap decimal (let z : n ≡ 0 = omega arith in z) ∙ decimal_digit 0 (omega arith))
    ]

-- a single digit
pub one-digit : (n a : ℕ) → a ≡ 48 + n % 10 → n < 10 → a ∷ [] ≡ decimal n
one-digit n a e h = let small : a ≡ 48 + n = omega arith in ap (λ (d : ℕ). d ∷ []) small ∙ sym (decimal_digit n h)

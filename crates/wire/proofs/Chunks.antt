-- Chunks of one size, one after the other.
-- Assumes nothing.
use Rattle.std.proofs.Common.{◌≡◌, ℕ, zero, suc, ◌+◌, ◌*◌, ◌/◌, List, ◌++◌, length, take, drop, flat_map, sym, ap, ◌∙◌, ap₂, append_assoc, arith}
use Rattle.std.specs.Simd.{first_chunks}
use Rattle.std.proofs.lemmas.List.{drop-drop, take-append-drop}

-- the first k chunks, and what is behind them
joined-chunks : (n k : ℕ) (xs : List ℕ) → flat_map (λ x. x) (first_chunks n k xs) ++ drop (k * n) xs ≡ xs
joined-chunks n zero xs = let none : 0 * n ≡ 0 = omega arith in ap (λ (i : ℕ). drop i xs) none
joined-chunks n (suc k) xs =
    let behind : suc k * n ≡ n + k * n = grind arith in
    append_assoc (take n xs) (flat_map (λ x. x) (first_chunks n k (drop n xs))) (drop (suc k * n) xs)
    ∙ ap (λ (l : List ℕ). take n xs ++ l)
    (ap (λ (i : ℕ). flat_map (λ x. x) (first_chunks n k (drop n xs)) ++ drop i xs) behind
    ∙ ap (λ (l : List ℕ). flat_map (λ x. x) (first_chunks n k (drop n xs)) ++ l) (sym (drop-drop (k * n) n xs))
    ∙ joined-chunks n k (drop n xs))
    ∙ take-append-drop n xs

-- all whole chunks of some bytes, as values, and what is left
pub chunks-held : {X : Type 0} (enc : X → List ℕ) (xs : List X) (n : ℕ) (b left : List ℕ) (chunks : List (List ℕ)) →
    flat_map enc xs ≡ flat_map (λ x. x) chunks → chunks ≡ first_chunks n (length b / n) b → left ≡ drop (length b / n * n) b → b ≡ flat_map enc xs ++ left
chunks-held enc xs n b left chunks r e f =
    sym (joined-chunks n (length b / n) b) ∙ ap₂ (λ (u v : List ℕ). u ++ v) (sym (r ∙ ap (flat_map (λ x. x)) e)) (sym f)

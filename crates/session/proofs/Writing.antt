-- Hex digits, byte by byte.
-- Assumes nothing.
use Rattle.std.proofs.Common.{◌≡◌, ℕ, ◌+◌, ◌*◌, ◌<◌, List, [], ◌∷◌, ◌++◌, length, get_or, set, take, refl, sym, ap, ◌∙◌, append_assoc, arith}
use Rattle.std.proofs.lemmas.List.{take_more, take_more_set, append-nil, length-set}
use Rattle.std.proofs.lemmas.Grind.{take-set_at}
use Rattle.session.specs.Text.{hex_byte, hex_text}

hex-append : (bs cs : List ℕ) → hex_text (bs ++ cs) ≡ hex_text bs ++ hex_text cs
unfolding hex_text
hex-append [] cs = refl
hex-append (b ∷ bs) cs = ap (λ l. hex_byte b ++ l) (hex-append bs cs) ∙ sym (append_assoc (hex_byte b) (hex_text bs) (hex_text cs))

hex-one : (b : ℕ) → hex_text (b ∷ []) ≡ hex_byte b
unfolding hex_text
hex-one b = append-nil (hex_byte b)

pub hex-more : (bs : List ℕ) (i d : ℕ) → i < length bs → hex_text (take (i + 1) bs) ≡ hex_text (take i bs) ++ hex_byte (get_or bs i d)
hex-more bs i d h =
    ap hex_text (take_more bs i d h) ∙ hex-append (take i bs) (get_or bs i d ∷ []) ∙ ap (λ l. hex_text (take i bs) ++ l) (hex-one (get_or bs i d))

two-set : (ds : List ℕ) (i a b : ℕ) → 2 * i + 1 < length ds → take (2 * (i + 1)) (set (set ds (2 * i) a) (2 * i + 1) b) ≡ take (2 * i) ds ++ a ∷ b ∷ []
two-set ds i a b h =
    take-set_at (set ds (2 * i) a) (2 * i + 1) (2 * (i + 1)) b (omega arith) (omega (arith, length-set ds (2 * i) a))
    ∙ ap (λ l. l ++ b ∷ []) (take_more_set ds (2 * i) a (omega arith)) ∙ append_assoc (take (2 * i) ds) (a ∷ []) (b ∷ [])

-- one byte more, as its two digits are noted
pub digits-more : (bs ds : List ℕ) (i a b d : ℕ) → i < length bs → 2 * i + 1 < length ds → a ∷ b ∷ [] ≡ hex_byte (get_or bs i d) → take (2 * i) ds ≡ hex_text (take i bs) →
    take (2 * (i + 1)) (set (set ds (2 * i) a) (2 * i + 1) b) ≡ hex_text (take (i + 1) bs)
digits-more bs ds i a b d h room digits before =
    two-set ds i a b room ∙ ap (λ l. l ++ a ∷ b ∷ []) before ∙ ap (λ l. hex_text (take i bs) ++ l) digits ∙ sym (hex-more bs i d h)

pub hex-nothing : hex_text [] ≡ []
unfolding hex_text
hex-nothing = refl

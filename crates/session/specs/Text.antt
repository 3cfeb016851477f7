-- An order as text.
-- `word_of_way`: the word of a way; `one_number`, `two_numbers`, `three_numbers`: a word and numbers, a space apart; `digit_of_hex`, `hex_byte`, `hex_text`: bytes as hex digits; `order_text`.
-- Assumes nothing.
use Rattle.std.specs.Prelude.{ℕ, ◌+◌, ◌/◌, ◌%◌, cond, List, [], ◌∷◌, ◌++◌, codes, nat_lt}
use Rattle.ratchet_tree.specs.declared.member.PublicKey.{PublicKey}
use Rattle.scripts.specs.Decimal.{decimal}
use Rattle.vault_theory.specs.Order.{Way, up, lock, seed, talk, Order, draw, derive, mix, seal, unseal, forget, publish}

abbrev pub word_of_way : Way → List ℕ
word_of_way up = codes "up"
word_of_way lock = codes "lock"
word_of_way seed = codes "seed"
word_of_way talk = codes "talk"

-- a word and a number
abbrev pub one_number : List ℕ → ℕ → List ℕ
one_number word a = word ++ 32 ∷ decimal a

abbrev pub two_numbers : List ℕ → ℕ → ℕ → List ℕ
two_numbers word a b = one_number word a ++ 32 ∷ decimal b

abbrev pub three_numbers : List ℕ → ℕ → ℕ → ℕ → List ℕ
three_numbers word a b c = two_numbers word a b ++ 32 ∷ decimal c

-- 0 to 9, then a to f
abbrev pub digit_of_hex : ℕ → ℕ
digit_of_hex n = cond (nat_lt n 10) (48 + n) (87 + n)

-- the high half of a byte first
abbrev pub hex_byte : ℕ → List ℕ
hex_byte b = digit_of_hex (b / 16) ∷ digit_of_hex (b % 16) ∷ []

unfoldable pub hex_text : List ℕ → List ℕ
hex_text [] = []
hex_text (b ∷ bs) = hex_byte b ++ hex_text bs

-- the word, then the numbers; a half in hex digits
abbrev pub order_text : Order PublicKey → List ℕ
order_text (draw t) = one_number (codes "draw") t
order_text (derive w s t) = two_numbers (word_of_way w) s t
order_text (mix s p t) = three_numbers (codes "mix") s p t
order_text (seal s k) = one_number (codes "seal") s ++ 32 ∷ hex_text k.0
order_text (unseal n s t) = three_numbers (codes "open") n s t
order_text (forget s) = one_number (codes "forget") s
order_text (publish s) = one_number (codes "public") s

-- What can be worked out, computed: boxes are opened round by round, until no round opens another.
-- `numbers`, `same`, `is_in`: secrets compared; `made`: what can be made forwards; `opens`, `rounds`: what the boxes add; `known`: the whole;
-- `KnownIs`: it is what `Knows` says.
-- Assumes nothing.
use Rattle.std.specs.Prelude.{ℕ, zero, suc, Bool, true, false, cond, ◌&&◌, ◌||◌, T, ◌↔◌, List, [], ◌∷◌, ◌++◌, length, ◌==◌}
use Rattle.theory.specs.Secrets.{Purpose, leaf_key, path_secret, newcomer_key, init_key, first_epoch, Secret, drawn, up, lock, mix, seed, talk, Box, Knows}

abbrev pub purpose_number : Purpose → ℕ
purpose_number leaf_key = 0
purpose_number path_secret = 1
purpose_number newcomer_key = 2
purpose_number init_key = 3
purpose_number first_epoch = 4

-- a secret spelled out in numbers, each step before what it is made from
unfoldable pub numbers : Secret → List ℕ
numbers (drawn p m e) = 0 ∷ purpose_number p ∷ m ∷ e ∷ []
numbers (up s) = 1 ∷ numbers s
numbers (lock s) = 2 ∷ numbers s
numbers (mix s t) = 3 ∷ (numbers s ++ numbers t)
numbers (seed s) = 4 ∷ numbers s
numbers (talk s) = 5 ∷ numbers s

unfoldable pub same_numbers : List ℕ → List ℕ → Bool
same_numbers [] [] = true
same_numbers [] (y ∷ ys) = false
same_numbers (x ∷ xs) [] = false
same_numbers (x ∷ xs) (y ∷ ys) = x == y && same_numbers xs ys

-- are two secrets the same
abbrev pub same : Secret → Secret → Bool
same s t = same_numbers (numbers s) (numbers t)

-- is a secret in the stock
unfoldable pub is_in : Secret → List Secret → Bool
is_in s [] = false
is_in s (k ∷ ks) = same s k || is_in s ks

-- can a secret be made from the stock, forwards
unfoldable pub made : List Secret → Secret → Bool
made ks (drawn p m e) = is_in (drawn p m e) ks
made ks (up s) = is_in (up s) ks || made ks s
made ks (lock s) = is_in (lock s) ks || made ks s
made ks (mix s t) = is_in (mix s t) ks || (made ks s && made ks t)
made ks (seed s) = is_in (seed s) ks || made ks s
made ks (talk s) = is_in (talk s) ks || made ks s

-- what those boxes hold whose key can be made
unfoldable pub opens : List Secret → List Box → List Secret
opens ks [] = []
opens ks (b ∷ bs) = cond (made ks b.key) (b.holds ∷ opens ks bs) (opens ks bs)

-- the stock after some rounds: each opens what it can
unfoldable pub rounds : ℕ → List Box → List Secret → List Secret
rounds zero bs ks = ks
rounds (suc n) bs ks = rounds n bs (opens ks bs ++ ks)

-- can a secret be worked out: as many rounds as there are boxes are enough
abbrev pub known : List Box → List Secret → Secret → Bool
known bs ks s = made (rounds (length bs) bs ks) s

-- what is computed is what can be worked out
abbrev pub KnownIs : Type 0
KnownIs = (boxes : List Box) (stock : List Secret) (s : Secret) → T (known boxes stock s) ↔ Knows boxes stock s

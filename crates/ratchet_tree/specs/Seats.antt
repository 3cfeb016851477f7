-- Where members sit, as a table by their numbers tells it.
-- `line`: the leaves of a tree from the left; `own_key`: the key at a leaf if the member sits there; `seat_of`, `code_of`: an
-- entry as a number; `HasCode`: the leaf's number fits one; `Seat`: what a member's entry tells; `Seats`: every entry of a table
-- does; `one_more`: an entry with one leaf more; `noted`, `NotedMember`, `Noted`: a table with one leaf more.
-- Assumes nothing.
use Rattle.std.specs.Prelude.{◌≡◌, ℕ, ◌<◌, Bool, cond, List, [], ◌∷◌, ◌++◌, length, ◌==◌, slice_index_or}
use Rattle.std.proofs.Common.{refl, sym}
use Rattle.std.proofs.lemmas.Bool.{cond_both, eqb-true}
use Rattle.theory.specs.Tree.{Tree, leaf, node, Leaf, blank_leaf, is_at, key_at, leaf_key}
use Rattle.tree_math.specs.declared.index.LeafIndex.{LeafIndex}
use Rattle.ratchet_tree.specs.declared.seats.Seat as seat
use Rattle.ratchet_tree.specs.declared.seats.Seat.TheVariants.{Nowhere, At, Several}

unfoldable pub line : {K : Type 0} → Tree K → List (Leaf K)
line (leaf x) = x ∷ []
line (node p l r) = line l ++ line r

abbrev pub own_key : {K : Type 0} → ℕ → Leaf K → List K
own_key m x = cond (is_at m x) (key_at x) []

-- what an entry's number says: 65535 nowhere, 65534 several, any other that leaf
abbrev pub seat_of : ℕ → seat.Seat
seat_of n = cond (n == 65535) Nowhere (cond (n == 65534) Several (At (record { 0 = n })))

-- and back
abbrev pub code_of : seat.Seat → ℕ
code_of Nowhere = 65535
code_of Several = 65534
code_of (At i) = i.0

-- the number is not lost in its seat, so an entry may be copied
pub code-seat : (n : ℕ) → code_of (seat_of n) ≡ n
code-seat n =
    cond_both (n == 65535) Nowhere (cond (n == 65534) Several (At (record { 0 = n }))) (λ s. code_of s ≡ n) (λ e. sym (eqb-true n 65535 e))
    (λ _. cond_both (n == 65534) Several (At (record { 0 = n })) (λ s. code_of s ≡ n) (λ e. sym (eqb-true n 65534 e)) (λ _. refl))

-- the leaf's number is not that of another seat
abbrev pub HasCode : LeafIndex → Type 0
HasCode i = i.0 < 65534

-- the member sits nowhere; at a leaf and nowhere else; or nothing is told
abbrev pub Seat : {K : Type 0} → Tree K → ℕ → seat.Seat → Type 0
Seat t m Nowhere = leaf_key m t ≡ []
Seat t m (At i) = (i.0 < length (line t)) × (leaf_key m t ≡ own_key m (slice_index_or (line t) i.0 blank_leaf))
Seat t m Several = Unit {0}

abbrev pub Seats : {K : Type 0} → Tree K → List seat.Seat → Type 0
Seats t es = (m : ℕ) → m < length es → Seat t m (slice_index_or es m Nowhere)

-- with leaf i, the entry of who sits there is that leaf, or several if it sits at another one too
abbrev pub one_more : LeafIndex → seat.Seat → seat.Seat
one_more i Nowhere = At i
one_more i (At j) = Several
one_more i Several = Several

abbrev pub noted : Bool → LeafIndex → seat.Seat → seat.Seat
noted there i e = cond there (one_more i e) e

-- w sits at leaf i
abbrev pub NotedMember : ℕ → LeafIndex → List seat.Seat → List seat.Seat → Type 0
NotedMember w i es fs = (m : ℕ) → m < length es → slice_index_or fs m Nowhere ≡ noted (w == m) i (slice_index_or es m Nowhere)

-- leaf i is x
abbrev pub Noted : {K : Type 0} → Leaf K → LeafIndex → List seat.Seat → List seat.Seat → Type 0
Noted x i es fs = (m : ℕ) → m < length es → slice_index_or fs m Nowhere ≡ noted (is_at m x) i (slice_index_or es m Nowhere)

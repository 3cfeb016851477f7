-- The laws of orders, in the words of their subject: how many there are, and which slots they name.
-- `stays`: who is seated before a commit and after it, and isn't the committer; `Few`: how many orders it has;
-- `slots_of`: the slots that an order names; `Within`, `NamesWithin`: the slots of a tree, and the spare ones; `Spare`: orders name no others.
-- Assumes nothing.
use Rattle.std.specs.Prelude.{ℕ, ◌+◌, ◌*◌, ◌≤◌, Bool, true, not, ◌&&◌, T, ◌⊎◌, List, [], ◌∷◌, length, ◌==◌}
use mathlib.Core.List.{Memᴰ}
use Rattle.theory.specs.Secrets.{Secret}
use Rattle.theory.specs.Tree.{Tree, height, is_level}
use Rattle.theory.specs.Wellformed.{consistent}
use Rattle.theory.specs.Group.{Change, renew, remove, add, Commit, readied}
use Rattle.vault_theory.specs.Order.{Order, draw, derive, mix, seal, unseal, forget, publish}
use Rattle.vault_theory.specs.Orders.{orders_of, founding}

-- neither the newcomer nor the one removed
abbrev pub is_apart : ℕ → Change → Bool
is_apart w renew = true
is_apart w (remove m) = not (m == w)
is_apart w (add m) = not (m == w)

abbrev pub stays : ℕ → Commit → Bool
stays w c = not (w == c.committer) && is_apart w c.change

-- HOW MANY. In a level tree in which nobody sits twice, who stays has four orders for each height of the readied tree at most, and eight more:
-- one for the box, and at each parent one for the old node key and three for the new one; seven for the epoch.
abbrev pub Few : Type 0
Few =
    (d : ℕ) (t : Tree Secret) → T (is_level d t) → T (consistent t) →
    (w : ℕ) (c : Commit) → T (stays w c) → (fresh init : Secret) →
    length (orders_of w c fresh init t) ≤ 4 * height (readied c.change fresh t) + 8

-- WHICH SLOTS.
abbrev pub slots_of : {K : Type 0} → Order K → List ℕ
slots_of (draw t) = t ∷ []
slots_of (derive w s t) = s ∷ t ∷ []
slots_of (mix s p t) = s ∷ p ∷ t ∷ []
slots_of (seal s k) = s ∷ []
slots_of (unseal n s t) = s ∷ t ∷ []
slots_of (forget s) = s ∷ []
slots_of (publish s) = s ∷ []

-- the slots of a tree of height n, and the spare ones
abbrev pub Within : ℕ → ℕ → Type 0
Within n s = (s ≤ 2 + n) ⊎ ((19 ≤ s) × (s ≤ 22))

-- these orders name no others
abbrev pub NamesWithin : {K : Type 0} → ℕ → List (Order K) → Type 0
NamesWithin {K} n os = (o : Order K) → Memᴰ o os → (s : ℕ) → Memᴰ s (slots_of o) → Within n s

-- every order, whoever's it is, a founder's too: in the deepest tree it names slots from 0 to 12 and from 19 to 22
abbrev pub Spare : Type 0
Spare =
    ((d : ℕ) (t : Tree Secret) → T (is_level d t) → (w : ℕ) (c : Commit) (fresh init : Secret) →
    NamesWithin (height (readied c.change fresh t)) (orders_of w c fresh init t))
    × NamesWithin {K = Secret} 0 founding

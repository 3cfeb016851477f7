-- Orders worked out by hand, held against the definitions.
-- `script`: a founder adds two members and removes one; `Case`, `cases`: whose orders, for which commit; `WorkedOrders`: the definitions give each of them.
-- Assumes nothing.
use Rattle.std.specs.Prelude.{◌≡◌, ℕ, List, [], ◌∷◌, ◌++◌}
use Rattle.theory.specs.Secrets.{Secret, drawn, newcomer_key, init_key}
use Rattle.theory.specs.Group.{Commit, remove, add, group, listed}
use Rattle.vault_theory.specs.Order.{Order, draw, derive, mix, seal, unseal, forget, publish, up, lock, seed, talk}
use Rattle.vault_theory.specs.Slots.{orders_in}

-- 0 adds 1, then 2, then removes 1
abbrev pub script : List Commit
script =
    record { committer = 0; change = add 1 } ∷ record { committer = 0; change = add 2 }
    ∷ record { committer = 0; change = remove 1 } ∷ []

-- the orders of a member for commit n of the script
pub record Case : Type 0 where
  pub commit : ℕ
  pub member : ℕ
  pub orders : List (Order Secret)

abbrev pub case : ℕ → ℕ → List (Order Secret) → Case
case n w os = record { commit = n; member = w; orders = os }

-- the node key of a height, and the next path secret
abbrev pub rise : ℕ → ℕ → ℕ → List (Order Secret)
rise s t h = derive lock s h ∷ derive up s t ∷ forget s ∷ []

-- the committer gives the half of the node key, too
abbrev pub rise_giving : ℕ → ℕ → ℕ → List (Order Secret)
rise_giving s t h = derive lock s h ∷ publish h ∷ derive up s t ∷ forget s ∷ []

-- the epoch's secret from the path secret in slot s
abbrev pub mixed : ℕ → List (Order Secret)
mixed s = mix 1 s 21 ∷ forget s ∷ forget 0 ∷ forget 1 ∷ []

-- the new seed and talk secret
abbrev pub renew : List (Order Secret)
renew = derive seed 21 1 ∷ derive talk 21 0 ∷ forget 21 ∷ []

abbrev pub cases : List Case
cases =
    -- the committer of the second add: a box to 1's leaf key, one to 2's, and the welcome
    case 1 0
    (forget 2 ∷ draw 2 ∷ publish 2 ∷ draw 19 ∷ forget 3 ∷ seal 19 (drawn newcomer_key 1 1)
    ∷ (rise_giving 19 20 3 ++ (seal 20 (drawn newcomer_key 2 2)
    ∷ (rise_giving 20 19 4 ++ (mixed 19 ++ (seal 21 (drawn init_key 2 2) ∷ renew))))))
    -- 1, beside it
    ∷ case 1 1
    (unseal 0 2 19 ∷ forget 3 ∷ (rise 19 20 3 ++ (rise 20 19 4 ++ (mixed 19 ++ renew))))
    -- the newcomer, in the other half
    ∷ case 1 2
    (draw 2 ∷ publish 2 ∷ draw 22 ∷ publish 22 ∷ unseal 2 22 21 ∷ forget 22 ∷ unseal 1 2 20
    ∷ (rise 20 19 4 ++ (forget 19 ∷ renew)))
    -- the committer of the removal: both node keys go first, and nobody is beside it
    ∷ case 2 0
    (forget 3 ∷ forget 4 ∷ forget 2 ∷ draw 2 ∷ publish 2 ∷ draw 19 ∷ seal 19 (drawn newcomer_key 2 2)
    ∷ (rise_giving 19 20 4 ++ (mixed 20 ++ renew)))
    -- who is removed
    ∷ case 2 1 (forget 0 ∷ forget 1 ∷ forget 2 ∷ forget 3 ∷ forget 4 ∷ [])
    -- who stays: the node key over all of them goes first, though the member removed sat in the other half
    ∷ case 2 2 (forget 4 ∷ unseal 0 2 19 ∷ (rise 19 20 4 ++ (mixed 20 ++ renew)))
    ∷ []

abbrev pub Given : List Case → Type 0
Given [] = Unit {0}
Given (x ∷ xs) =
    (orders_in x.member (listed script x.commit) (group 0 (listed script) x.commit) ≡ x.orders) × Given xs

-- the definitions give each of them
abbrev pub WorkedOrders : Type 0
WorkedOrders = Given cases

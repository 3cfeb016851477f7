-- The keys that a member holds: its leaf key, and the node key of each parent above it at which it isn't unmerged.
-- `is_unmerged`, `node_key_held`, `held`; `held_at`: the key held at one height, 0 being the leaf.
-- Assumes nothing.
use Rattle.std.specs.Prelude.{ℕ, suc, Bool, false, cond, ◌||◌, List, [], ◌∷◌, ◌++◌, ◌==◌}
use Rattle.theory.specs.Tree.{Tree, leaf, node, Parent, blank_parent, keyed, is_at, key_at, seated, height}

-- is m among the unmerged
unfoldable pub is_unmerged : ℕ → List ℕ → Bool
is_unmerged m [] = false
is_unmerged m (w ∷ ws) = w == m || is_unmerged m ws

-- the node key that m, seated below, holds of a parent
abbrev pub node_key_held : {K : Type 0} → ℕ → Parent K → List K
node_key_held m blank_parent = []
node_key_held m (keyed k un) = cond (is_unmerged m un) [] (k ∷ [])

-- all keys that m holds, from the top down
unfoldable pub held : {K : Type 0} → ℕ → Tree K → List K
held m (leaf x) = cond (is_at m x) (key_at x) []
held m (node p l r) =
    cond (seated m l) (node_key_held m p ++ held m l) (cond (seated m r) (node_key_held m p ++ held m r) [])

-- the key that m holds at height h above its leaf: its leaf key at 0
unfoldable pub held_at : {K : Type 0} → ℕ → ℕ → Tree K → List K
held_at m h (leaf x) = cond (h == 0) (cond (is_at m x) (key_at x) []) []
held_at m h (node p l r) =
    cond (h == suc (height l)) (cond (seated m l || seated m r) (node_key_held m p) [])
    (cond (seated m l) (held_at m h l) (held_at m h r))

-- What a member has to know of the committer's path: how far it comes, and which box is for it.
-- `levels`, `posted`: how many node keys and boxes the path has; `is_held`: does a member hold a parent's node key;
-- `number_of_key`, `height_of_key`: which key of a resolution reaches a member, and at which height the member holds it.
-- Assumes nothing.
use Rattle.std.specs.Prelude.{ℕ, suc, ◌+◌, Bool, false, cond, not, List, [], ◌∷◌, length, ◌==◌}
use Rattle.theory.specs.Tree.{Tree, leaf, node, Parent, blank_parent, keyed, seated, height, resolution}
use Rattle.theory.specs.Path.{level_after}
use Rattle.theory.specs.Held.{is_unmerged}

-- how many node keys the committer's path has in a part
unfoldable pub levels : {K : Type 0} → ℕ → Tree K → ℕ
levels c (leaf x) = 0
levels c (node p l r) =
    cond (seated c l) (level_after (levels c l) (resolution r)) (cond (seated c r) (level_after (levels c r) (resolution l)) 0)

-- how many boxes the committer's path has in a part
unfoldable pub posted : {K : Type 0} → ℕ → Tree K → ℕ
posted c (leaf x) = 0
posted c (node p l r) =
    cond (seated c l) (posted c l + length (resolution r)) (cond (seated c r) (posted c r + length (resolution l)) 0)

-- does w, seated below, hold the node key of a parent
abbrev pub is_held : {K : Type 0} → ℕ → Parent K → Bool
is_held w blank_parent = false
is_held w (keyed k un) = not (is_unmerged w un)

-- how many of these come before w
unfoldable pub before : ℕ → List ℕ → ℕ
before w [] = 0
before w (u ∷ us) = cond (u == w) 0 (suc (before w us))

-- which key of the resolution of a part reaches w, who is seated there
unfoldable pub number_of_key : {K : Type 0} → ℕ → Tree K → ℕ
number_of_key w (leaf x) = 0
number_of_key w (node blank_parent l r) = cond (seated w l) (number_of_key w l) (length (resolution l) + number_of_key w r)
number_of_key w (node (keyed k un) l r) = cond (is_unmerged w un) (suc (before w un)) 0

-- at which height w holds that key: 0 is its leaf key
unfoldable pub height_of_key : {K : Type 0} → ℕ → Tree K → ℕ
height_of_key w (leaf x) = 0
height_of_key w (node blank_parent l r) = cond (seated w l) (height_of_key w l) (height_of_key w r)
height_of_key w (node (keyed k un) l r) = cond (is_unmerged w un) 0 (suc (height l))

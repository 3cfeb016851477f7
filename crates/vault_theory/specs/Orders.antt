-- The orders of each role in a commit, over any kind of key, from the tree before the commit and what its message says.
-- `held_forgotten`, `risen`: one parent; `dropped`: what a removal makes a member forget; `followed`, `made`: the path, for who is given it and for the committer;
-- `turned`: the epoch; `staying`, `committing`, `joining`, `leaving`: the roles; `orders_of`: the orders of a member; `founding`: of a founder.
-- Assumes nothing.
use Rattle.std.specs.Prelude.{ℕ, suc, ◌+◌, cond, ◌||◌, List, [], ◌∷◌, ◌++◌, map, ◌==◌}
use Rattle.theory.specs.Tree.{Tree, leaf, node, Parent, seated, height, resolution}
use Rattle.theory.specs.Group.{Change, renew, remove, add, Commit, readied}
use Rattle.vault_theory.specs.Order.{up, lock, seed, talk, Order, draw, derive, mix, seal, unseal, forget, publish, talk_slot, seed_slot, slot_of_key, slot_of_path, epoch_slot, init_slot}
use Rattle.vault_theory.specs.Numbers.{levels, posted, is_held, number_of_key, height_of_key}

-- the node key of height h is forgotten, where w holds it
abbrev pub held_forgotten : {K : Type 0} → ℕ → Parent K → ℕ → List (Order K)
held_forgotten w p h = cond (is_held w p) (forget (slot_of_key h) ∷ []) []

-- WHAT A REMOVAL TAKES. Before m is removed from the tree: of each parent above both, w forgets the node key; from below.
unfoldable pub dropped : {K : Type 0} → ℕ → ℕ → Tree K → List (Order K)
dropped w m (leaf x) = []
dropped w m (node p l r) =
    cond (seated w l) (dropped w m l) (dropped w m r)
    ++ cond (seated m l || seated m r) (held_forgotten w p (suc (height l))) []

abbrev pub dropped_for : {K : Type 0} → ℕ → Change → Tree K → List (Order K)
dropped_for w renew t = []
dropped_for w (remove m) t = dropped w m t
dropped_for w (add m) t = []

-- THE PATH, in the tree with what is asked.
-- from the path secret of level i, the node key of height h, and the next path secret; `between` stands after the node key was made
abbrev pub risen : {K : Type 0} → ℕ → ℕ → List (Order K) → List (Order K)
risen i h between =
    derive lock (slot_of_path i) (slot_of_key h) ∷ between
    ++ (derive up (slot_of_path i) (slot_of_path (suc i)) ∷ forget (slot_of_path i) ∷ [])

-- at a parent where the resolution of the path's other side is `other`, for who has the path secret of level i
abbrev pub climbed : {K : Type 0} → ℕ → ℕ → List K → List (Order K)
climbed i h [] = []
climbed i h (k ∷ ks) = risen i h []

-- the same for the committer, who also seals the path secret to each key of the other side, and gives the half of the node key
abbrev pub sealed_up : {K : Type 0} → ℕ → ℕ → List K → List (Order K)
sealed_up i h [] = []
sealed_up i h (k ∷ ks) = map (seal (slot_of_path i)) (k ∷ ks) ++ risen i h (publish (slot_of_key h) ∷ [])

-- the box that reaches w in the half `other`, where the committer's half is `own`
abbrev pub opened : {K : Type 0} → ℕ → ℕ → Tree K → Tree K → Order K
opened w c own other = unseal (posted c own + number_of_key w other) (slot_of_key (height_of_key w other)) (slot_of_path (levels c own))

-- w, another than the committer c, is given the path where its way up meets c's, and follows it from there
unfoldable pub followed : {K : Type 0} → ℕ → ℕ → Tree K → List (Order K)
followed w c (leaf x) = []
followed w c (node p l r) =
    cond (seated c l)
    (cond (seated w l) (followed w c l) (opened w c l r ∷ [])
    ++ (held_forgotten w p (suc (height l)) ++ climbed (levels c l) (suc (height l)) (resolution r)))
    (cond (seated w r) (followed w c r) (opened w c r l ∷ [])
    ++ (held_forgotten w p (suc (height l)) ++ climbed (levels c r) (suc (height l)) (resolution l)))

-- c lays its path
unfoldable pub made : {K : Type 0} → ℕ → Tree K → List (Order K)
made c (leaf x) = []
made c (node p l r) =
    cond (seated c l)
    (made c l ++ (held_forgotten c p (suc (height l)) ++ sealed_up (levels c l) (suc (height l)) (resolution r)))
    (made c r ++ (held_forgotten c p (suc (height l)) ++ sealed_up (levels c r) (suc (height l)) (resolution l)))

-- THE EPOCH. The new seed and talk secret, from the epoch's secret.
abbrev pub renewed : {K : Type 0} → List (Order K)
renewed = derive seed epoch_slot seed_slot ∷ derive talk epoch_slot talk_slot ∷ forget epoch_slot ∷ []

-- the epoch's secret from the seed and the path secret that is left at the top, level n; `sealing` stands before the rest
abbrev pub turned : {K : Type 0} → ℕ → List (Order K) → List (Order K)
turned n sealing =
    mix seed_slot (slot_of_path n) epoch_slot ∷ forget (slot_of_path n) ∷ forget talk_slot ∷ forget seed_slot ∷ (sealing ++ renewed)

-- THE ROLES. `fresh` and `init` are the newcomer's leaf key and init key; only an add has them.
abbrev pub staying : {K : Type 0} → ℕ → Commit → K → Tree K → List (Order K)
staying w c fresh t =
    let u = readied c.change fresh t in
    dropped_for w c.change t ++ (followed w c.committer u ++ turned (levels c.committer u) [])

-- the welcome box, for a newcomer
abbrev pub welcoming : {K : Type 0} → Change → K → List (Order K)
welcoming renew init = []
welcoming (remove m) init = []
welcoming (add m) init = seal epoch_slot init ∷ []

abbrev pub committing : {K : Type 0} → Commit → K → K → Tree K → List (Order K)
committing c fresh init t =
    let w = c.committer in
    let u = readied c.change fresh t in
    dropped_for w c.change t
    ++ (forget (slot_of_key 0) ∷ draw (slot_of_key 0) ∷ publish (slot_of_key 0) ∷ draw (slot_of_path 0)
    ∷ (made w u ++ turned (levels w u) (welcoming c.change init)))

-- what a newcomer draws before the message is made, and the halves that it gives for it
abbrev pub introduced : {K : Type 0} → List (Order K)
introduced = draw (slot_of_key 0) ∷ publish (slot_of_key 0) ∷ draw init_slot ∷ publish init_slot ∷ []

-- and what it does with the message: the welcome box has the number after those of the path
abbrev pub welcomed : {K : Type 0} → ℕ → Commit → K → Tree K → List (Order K)
welcomed w c fresh t =
    let u = readied c.change fresh t in
    unseal (posted c.committer u) init_slot epoch_slot ∷ forget init_slot
    ∷ (followed w c.committer u ++ (forget (slot_of_path (levels c.committer u)) ∷ renewed))

abbrev pub joining : {K : Type 0} → ℕ → Commit → K → Tree K → List (Order K)
joining w c fresh t = introduced ++ welcomed w c fresh t

-- every key that w holds, from below
unfoldable pub abandoned : {K : Type 0} → ℕ → Tree K → List (Order K)
abandoned w (leaf x) = forget (slot_of_key 0) ∷ []
abandoned w (node p l r) = cond (seated w l) (abandoned w l) (abandoned w r) ++ held_forgotten w p (suc (height l))

abbrev pub leaving : {K : Type 0} → ℕ → Tree K → List (Order K)
leaving w t = forget talk_slot ∷ forget seed_slot ∷ abandoned w t

-- the orders of who isn't the committer
abbrev pub taking : {K : Type 0} → ℕ → Change → Commit → K → Tree K → List (Order K)
taking w renew c fresh t = staying w c fresh t
taking w (remove m) c fresh t = cond (m == w) (leaving w t) (staying w c fresh t)
taking w (add m) c fresh t = cond (m == w) (joining w c fresh t) (staying w c fresh t)

-- the orders of member w for a commit, from the tree before it
abbrev pub orders_of : {K : Type 0} → ℕ → Commit → K → K → Tree K → List (Order K)
orders_of w c fresh init t = cond (w == c.committer) (committing c fresh init t) (taking w c.change c fresh t)

-- a founder's orders: its leaf key, whose half it gives, and the secret of epoch 0
abbrev pub founding : {K : Type 0} → List (Order K)
founding = draw (slot_of_key 0) ∷ publish (slot_of_key 0) ∷ draw epoch_slot ∷ renewed

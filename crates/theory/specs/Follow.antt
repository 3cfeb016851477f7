-- Members keep up, and at what price.
-- `Follows`, `Enters`, `Makes`: who stays, who comes and who commits works out all that it then holds;
-- `Small`, `Logarithmic`: to how many keys a renewal is sealed, in every tree and in one that is `whole`.
-- Assumes nothing.
use Rattle.std.specs.Prelude.{◌≡◌, ℕ, zero, suc, ◌<◌, Bool, true, false, not, ◌&&◌, T, List, [], ◌∷◌, length, ◌≢◌}
use mathlib.Core.List.{Memᴰ}
use Rattle.theory.specs.Secrets.{Secret, drawn, newcomer_key, init_key, Box, Knows}
use Rattle.theory.specs.Tree.{Tree, leaf, node, Parent, blank_parent, keyed, is_blank, seated, members}
use Rattle.theory.specs.Group.{renew, add, Commit, group, allowed, message, stock, own_key, path_key}

-- who stays and isn't the committer: from what it held before and the message
abbrev pub Follows : Type 0
Follows =
    (f : ℕ) (commits : ℕ → Commit) (n m : ℕ) →
    T (seated m (group f commits n).tree) → T (seated m (group f commits (suc n)).tree) → ((commits n).committer ≢ m) →
    (s : Secret) → Memᴰ s (stock m (group f commits (suc n))) → Knows (message f commits n) (stock m (group f commits n)) s

-- what a newcomer draws for an epoch
abbrev pub entering : ℕ → ℕ → List Secret
entering j e = drawn newcomer_key j e ∷ drawn init_key j e ∷ []

-- who comes: from its two keys and the message
abbrev pub Enters : Type 0
Enters =
    (f : ℕ) (commits : ℕ → Commit) (n j : ℕ) → (commits n).change ≡ add j → T (allowed (commits n) (group f commits n)) →
    (s : Secret) → Memᴰ s (stock j (group f commits (suc n))) →
    Knows (message f commits n) (entering j (suc (group f commits n).epoch)) s

-- what the committer has: what it draws for the next epoch, and what it held
abbrev pub making : ℕ → (ℕ → Commit) → ℕ → List Secret
making f commits n =
    let g = group f commits n in
    own_key (commits n) (suc g.epoch) ∷ path_key (commits n) (suc g.epoch) ∷ stock (commits n).committer g

-- who commits: with no box, all that it then holds and all that it seals
pub record Made (f : ℕ) (commits : ℕ → Commit) (n : ℕ) : Type 0 where
  pub held : (s : Secret) → Memᴰ s (stock (commits n).committer (group f commits (suc n))) → Knows [] (making f commits n) s
  pub sealed : (b : Box) → Memᴰ b (message f commits n) → Knows [] (making f commits n) b.holds

abbrev pub Makes : Type 0
Makes = (f : ℕ) (commits : ℕ → Commit) (n : ℕ) → Made f commits n

-- a renewal is sealed to fewer keys than there are members
abbrev pub Small : Type 0
Small =
    (f : ℕ) (commits : ℕ → Commit) (n : ℕ) → (commits n).change ≡ renew →
    length (message f commits n) < members (group f commits n).tree

-- a parent has a key, and nobody is unmerged
abbrev pub all_merged : {K : Type 0} → Parent K → Bool
all_merged blank_parent = false
all_merged (keyed k []) = true
all_merged (keyed k (w ∷ ws)) = false

-- the tree has d levels, every leaf is occupied, and every parent has a key and nobody unmerged
unfoldable pub whole : {K : Type 0} → ℕ → Tree K → Bool
whole zero (leaf x) = not (is_blank x)
whole zero (node p l r) = false
whole (suc d) (leaf x) = false
whole (suc d) (node p l r) = all_merged p && (whole d l && whole d r)

-- where the tree is whole with d levels a renewal is sealed to d keys, and it stays whole
abbrev pub Logarithmic : Type 0
Logarithmic =
    (f : ℕ) (commits : ℕ → Commit) (n d : ℕ) →
    (commits n).change ≡ renew → T (allowed (commits n) (group f commits n)) → T (whole d (group f commits n).tree) →
    (length (message f commits n) ≡ d) × T (whole d (group f commits (suc n)).tree)

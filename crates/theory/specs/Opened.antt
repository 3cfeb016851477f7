-- Where a talk secret lies open, computed.
-- `same_secrets`: two lists of secrets compared; `read_in`, `is_given`: what is asked of one exposure; `some_read`, `some_given`: of a list of them;
-- `is_open`: the test; `OpenIs`: it is what `Open` says.
-- Assumes nothing.
use Rattle.std.specs.Prelude.{ℕ, zero, suc, Bool, true, false, not, ◌&&◌, ◌||◌, T, ◌↔◌, List, [], ◌∷◌, ◌==◌}
use Rattle.theory.specs.Secrets.{Secret}
use Rattle.theory.specs.Tree.{seated, leaf_key}
use Rattle.theory.specs.Group.{Commit, group, allowed}
use Rattle.theory.specs.Promise.{Exposure, Open}
use Rattle.theory.specs.Known.{same}

-- are two lists of secrets the same
unfoldable pub same_secrets : List Secret → List Secret → Bool
same_secrets [] [] = true
same_secrets [] (t ∷ ts) = false
same_secrets (s ∷ ss) [] = false
same_secrets (s ∷ ss) (t ∷ ts) = same s t && same_secrets ss ts

-- was a seated handset read in the epoch after n commits
abbrev pub read_in : ℕ → (ℕ → Commit) → ℕ → Exposure → Bool
read_in f commits n x =
    let r = group f commits x.when in
    seated x.who r.tree && r.epoch == (group f commits n).epoch

unfoldable pub some_read : ℕ → (ℕ → Commit) → ℕ → List Exposure → Bool
some_read f commits n [] = false
some_read f commits n (x ∷ xs) = read_in f commits n x || some_read f commits n xs

-- does the exposure give what commit n sealed to that handset: the commit was carried out and another made it,
-- and the handset is seated after the commit and when read, with the same leaf key
abbrev pub is_given : ℕ → (ℕ → Commit) → ℕ → Exposure → Bool
is_given f commits n x =
    let h = group f commits (suc n) in
    let r = group f commits x.when in
    (allowed (commits n) (group f commits n) && not ((commits n).committer == x.who))
    && ((seated x.who h.tree && seated x.who r.tree)
    && same_secrets (leaf_key x.who h.tree) (leaf_key x.who r.tree))

unfoldable pub some_given : ℕ → (ℕ → Commit) → ℕ → List Exposure → Bool
some_given f commits n [] = false
some_given f commits n (x ∷ xs) = is_given f commits n x || some_given f commits n xs

-- does the talk secret after n commits lie open
unfoldable pub is_open : ℕ → (ℕ → Commit) → List Exposure → ℕ → Bool
is_open f commits es zero = some_read f commits 0 es
is_open f commits es (suc n) =
    some_read f commits (suc n) es
    || (is_open f commits es n && (some_given f commits n es || not (allowed (commits n) (group f commits n))))

-- what is computed is where it lies open
abbrev pub OpenIs : Type 0
OpenIs = (f : ℕ) (commits : ℕ → Commit) (es : List Exposure) (n : ℕ) → T (is_open f commits es n) ↔ Open f commits es n

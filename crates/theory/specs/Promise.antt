-- What is promised of a whole run: which talk secrets stay secret, whatever was sent and whichever handsets were read out.
-- `Sole`, `OwnFresh`: nobody sits twice, and no leaf key is ever another's;
-- `Exposure`, `stocks`: the handsets read out, and all that was in them; `Gives`, `Open`: where a talk secret lies open;
-- `Main`: nothing else is worked out; `Past`, `Heals` (by `Healed`): what follows for the past and the future; `Reaches`: who holds a key of a resolution.
-- Assumes nothing.
use Rattle.std.specs.Prelude.{◌≡◌, ℕ, suc, ◌<◌, ◌≤◌, T, ◌⊎◌, List, [], ◌∷◌, ◌++◌, length}
use mathlib.Core.List.{Memᴰ}
use Rattle.theory.specs.Secrets.{Secret, talk, Knows}
use Rattle.theory.specs.Tree.{Tree, seated, leaf_key, resolution}
use Rattle.theory.specs.Group.{Commit, remove, group, allowed, stock}
use Rattle.theory.specs.Places.{Below}

-- NOBODY SITS TWICE, in any tree of a run.
abbrev pub Sole : Type 0
Sole = (f : ℕ) (commits : ℕ → Commit) (n m : ℕ) → length (leaf_key m (group f commits n).tree) ≤ 1

-- and a leaf key is never another's, at whatever time
abbrev pub OwnFresh : Type 0
OwnFresh =
    (f : ℕ) (commits : ℕ → Commit) (i k m w : ℕ) (s : Secret) →
    Memᴰ s (leaf_key m (group f commits i).tree) → Memᴰ s (leaf_key w (group f commits k).tree) → m ≡ w

-- A HANDSET READ OUT: whose, and after how many commits.
pub record Exposure : Type 0 where
  pub who : ℕ
  pub when : ℕ

-- all that was in the handsets read out
unfoldable pub stocks : ℕ → (ℕ → Commit) → List Exposure → List Secret
stocks f commits [] = []
stocks f commits (x ∷ xs) = stock x.who (group f commits x.when) ++ stocks f commits xs

-- the exposure gives what commit n sealed to that handset
pub record Gives (f : ℕ) (commits : ℕ → Commit) (n : ℕ) (x : Exposure) : Type 0 where
  -- the commit was carried out, and another made it
  pub took : T (allowed (commits n) (group f commits n))
  pub other : (commits n).committer ≡ x.who → ⊥
  -- the handset is seated after the commit and when read, with the same leaf key
  pub reached : T (seated x.who (group f commits (suc n)).tree)
  pub read : T (seated x.who (group f commits x.when).tree)
  pub same : leaf_key x.who (group f commits (suc n)).tree ≡ leaf_key x.who (group f commits x.when).tree

-- the talk secret after n commits lies open: a handset was read in that epoch,
-- or the epoch before lay open and some exposure gives the commit between, or the commit between was refused
pub data Open (f : ℕ) (commits : ℕ → Commit) (es : List Exposure) : ℕ → Type 0 where
  here :
      (n : ℕ) (x : Exposure) → Memᴰ x es → T (seated x.who (group f commits x.when).tree) →
      (group f commits x.when).epoch ≡ (group f commits n).epoch → Open f commits es n
  on : {n : ℕ} → Open f commits es n → (x : Exposure) → Memᴰ x es → Gives f commits n x → Open f commits es (suc n)
  idle : {n : ℕ} → Open f commits es n → (T (allowed (commits n) (group f commits n)) → ⊥) → Open f commits es (suc n)

-- THE MAIN PROMISE. Whoever has every box ever sent, and all that was in the handsets read out, works out a talk secret only where it lies open.
abbrev pub Main : Type 0
Main =
    (f : ℕ) (commits : ℕ → Commit) (es : List Exposure) (until n : ℕ) →
    Knows (group f commits until).sent (stocks f commits es) (talk (group f commits n).secret) → Open f commits es n

-- The past stays shut: if every exposure is of a later epoch, the talk secret of this one is not worked out.
abbrev pub Past : Type 0
Past =
    (f : ℕ) (commits : ℕ → Commit) (es : List Exposure) (until n : ℕ) →
    ((x : Exposure) → Memᴰ x es → (group f commits n).epoch < (group f commits x.when).epoch) →
    Knows (group f commits until).sent (stocks f commits es) (talk (group f commits n).secret) → ⊥

-- a commit carried out before n, and since the exposure, that its handset made or that removed it
pub record Healed (f : ℕ) (commits : ℕ → Commit) (n : ℕ) (x : Exposure) : Type 0 where
  pub commit : ℕ
  pub since : x.when ≤ commit
  pub before : commit < n
  pub took : T (allowed (commits commit) (group f commits commit))
  pub by : ((commits commit).committer ≡ x.who) ⊎ ((commits commit).change ≡ remove x.who)

-- And it heals: if every handset read out has renewed its keys since or has left, the talk secret is not worked out.
abbrev pub Heals : Type 0
Heals =
    (f : ℕ) (commits : ℕ → Commit) (es : List Exposure) (until n : ℕ) →
    ((x : Exposure) → Memᴰ x es → Healed f commits n x) →
    Knows (group f commits until).sent (stocks f commits es) (talk (group f commits n).secret) → ⊥

-- RESOLUTIONS. Of every part of every tree of a run: who is seated there holds one of the keys of its resolution, and nobody else holds any.
abbrev pub Reaches : Type 0
Reaches =
    (f : ℕ) (commits : ℕ → Commit) (n : ℕ) (t : Tree Secret) → Below t (group f commits n).tree → (m : ℕ) →
    (T (seated m t) → (s : Secret) × Memᴰ s (resolution t) × Memᴰ s (stock m (group f commits n)))
    × ((T (seated m t) → ⊥) → (s : Secret) → Memᴰ s (resolution t) → Memᴰ s (stock m (group f commits n)) → ⊥)

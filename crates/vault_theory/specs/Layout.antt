-- What the slots of a member's vault hold between two commits.
-- `first`; `layout`: slot by slot; `HoldsJust`: some slots hold just these secrets; `LayoutHolds`: the layout holds just what the member holds.
-- Assumes nothing.
use Rattle.std.specs.Prelude.{◌≡◌, ℕ, zero, suc, cond, T, ◌↔◌, List, [], ◌∷◌, Some, None, Option}
use mathlib.Core.List.{Memᴰ}
use Rattle.theory.specs.Secrets.{Secret, seed, talk}
use Rattle.theory.specs.Tree.{seated, is_level}
use Rattle.theory.specs.Held.{held_at}
use Rattle.theory.specs.Group.{Group, stock}

abbrev pub first : {A : Type 0} → List A → Option A
first [] = None
first (x ∷ xs) = Some x

-- slot 0 the talk secret, slot 1 the seed, slot 2 + h the key that the member holds at height h, its leaf key being at 0; nothing for who isn't seated
abbrev pub layout : ℕ → Group → ℕ → Option Secret
layout w g zero = cond (seated w g.tree) (Some (talk g.secret)) None
layout w g (suc zero) = cond (seated w g.tree) (Some (seed g.secret)) None
layout w g (suc (suc h)) = first (held_at w h g.tree)

-- a secret lies in some slot exactly if it is one of these
abbrev pub HoldsJust : (ℕ → Option Secret) → List Secret → Type 0
HoldsJust slots ss = (s : Secret) → ((i : ℕ) × (slots i ≡ Some s)) ↔ Memᴰ s ss

-- of every group whose tree is level: a vault with this layout holds what its member holds, and nothing more
abbrev pub LayoutHolds : Type 0
LayoutHolds = (g : Group) (d w : ℕ) → T (is_level d g.tree) → HoldsJust (layout w g) (stock w g)

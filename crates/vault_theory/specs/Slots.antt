-- The slots theorem: orders never fault, and leave in a vault exactly what its member then holds.
-- `concerns`: whom a commit concerns; `draws_of`, `given_by`: what it draws and which halves it gives; `orders_in`: its orders; `chip_with`: a vault before its orders;
-- `carried_out`, `SlotsKept`: one commit, from any tree that keeps the rules; `chip`, `ChipsHold`: every chip of every run.
-- Assumes nothing.
use Rattle.std.specs.Prelude.{◌≡◌, ℕ, zero, suc, ◌≤◌, Bool, false, cond, ◌&&◌, ◌||◌, T, List, [], ◌∷◌, ◌++◌, map, Some, None, Option, ◌==◌}
use Rattle.std.specs.Option.{option_map}
use Rattle.theory.specs.Limits.{max_depth}
use Rattle.theory.specs.Secrets.{Secret, drawn, newcomer_key, init_key, first_epoch, lock, ups, Box}
use Rattle.theory.specs.Tree.{seated, is_level}
use Rattle.theory.specs.Path.{Laid}
use Rattle.theory.specs.Wellformed.{consistent}
use Rattle.theory.specs.Group.{Change, renew, remove, add, Commit, Group, group, allowed, own_key, path_key, newcomer, path_at, boxes_of, moved, stock}
use Rattle.vault_theory.specs.Order.{Order}
use Rattle.vault_theory.specs.Vault.{Sealed, sealed_box, Vault, themselves, and_then, run}
use Rattle.vault_theory.specs.Orders.{orders_of, founding}
use Rattle.vault_theory.specs.Layout.{layout, HoldsJust}

abbrev pub is_newcomer : ℕ → Change → Bool
is_newcomer w renew = false
is_newcomer w (remove m) = false
is_newcomer w (add m) = m == w

-- a commit concerns who is seated, and the newcomer
abbrev pub concerns : ℕ → Commit → Group → Bool
concerns w c g = seated w g.tree || is_newcomer w c.change

-- what a member draws for a commit that leads to epoch e
abbrev pub draws_of : ℕ → Commit → ℕ → List Secret
draws_of w c e =
    cond (w == c.committer) (own_key c e ∷ path_key c e ∷ [])
    (cond (is_newcomer w c.change) (drawn newcomer_key w e ∷ drawn init_key w e ∷ []) [])

-- the node keys of the first n levels of a path
unfoldable pub node_keys : ℕ → Secret → List Secret
node_keys zero p = []
node_keys (suc n) p = node_keys n p ++ (lock (ups n p) ∷ [])

-- the keys whose halves it gives, in the order of the message
abbrev pub given_by : ℕ → Commit → ℕ → Laid Secret → List Secret
given_by w c e x =
    cond (w == c.committer) (own_key c e ∷ node_keys x.levels (path_key c e))
    (cond (is_newcomer w c.change) (drawn newcomer_key w e ∷ drawn init_key w e ∷ []) [])

-- the boxes that go out with a commit
abbrev pub boxes_in : Commit → Group → List Box
boxes_in c g = boxes_of g.secret c (suc g.epoch) (path_at c (suc g.epoch) g.tree)

-- boxes as a vault sees them, each key named by itself
abbrev pub seen : List Box → List (Sealed Secret)
seen bs = map (sealed_box (λ s. s)) bs

-- the orders of w for a commit in a group
abbrev pub orders_in : ℕ → Commit → Group → List (Order Secret)
orders_in w c g =
    let e = suc g.epoch in
    let j = newcomer c.change in
    orders_of w c (drawn newcomer_key j e) (drawn init_key j e) g.tree

-- a vault with these slots that is about to draw, and has sealed and given nothing yet
abbrev pub chip_with : {K : Type 0} → (ℕ → Option Secret) → List Secret → Vault K
chip_with slots draws = record { slots = slots; draws = draws; sealed = []; given = [] }

-- the group after a commit that is carried out
abbrev pub next : Commit → Group → Group
next c g = moved c (suc g.epoch) g (path_at c (suc g.epoch) g.tree)

-- the vault of w after its orders: the slots are laid out for the next epoch, all that was to be drawn is drawn,
-- the committer has sealed the boxes of the message in their order and nobody else any, and the halves of the message were given
abbrev pub carried_out : ℕ → Commit → Group → Vault Secret
carried_out w c g =
    record {
      slots = layout w (next c g);
      draws = [];
      sealed = cond (w == c.committer) (seen (boxes_in c g)) [];
      given = given_by w c (suc g.epoch) (path_at c (suc g.epoch) g.tree);
    }

-- ONE COMMIT, in a group whose tree is level, no deeper than the limit, and consistent, as every tree file that passes is:
-- whoever it concerns carries its orders out with no fault, and then holds the next layout.
abbrev pub SlotsKept : Type 0
SlotsKept =
    (g : Group) (d : ℕ) → T (is_level d g.tree) → d ≤ max_depth → T (consistent g.tree) →
    (c : Commit) → T (allowed c g) → (w : ℕ) → T (concerns w c g) →
    run themselves (seen (boxes_in c g)) (orders_in w c g) (chip_with (layout w g) (draws_of w c (suc g.epoch)))
    ≡ Some (carried_out w c g)

-- EVERY RUN. The slots of w's chip after a commit; none where an order can't be carried out.
abbrev pub slots_after : ℕ → Commit → Group → (ℕ → Option Secret) → Option (ℕ → Option Secret)
slots_after w c g slots =
    cond (allowed c g && concerns w c g)
    (option_map (λ (v : Vault Secret). v.slots)
    (run themselves (seen (boxes_in c g)) (orders_in w c g) (chip_with slots (draws_of w c (suc g.epoch)))))
    (Some slots)

-- nothing in any slot
abbrev pub bare : ℕ → Option Secret
bare i = None

-- the slots of w's chip in a group that f founded, after the first n commits: each order list is carried out on what the one before left
unfoldable pub chip : ℕ → (ℕ → Commit) → ℕ → ℕ → Option (ℕ → Option Secret)
chip f commits w zero =
    cond (w == f)
    (option_map (λ (v : Vault Secret). v.slots)
    (run themselves [] founding (chip_with bare (drawn newcomer_key f 0 ∷ drawn first_epoch f 0 ∷ []))))
    (Some bare)
chip f commits w (suc n) = and_then (chip f commits w n) (slots_after w (commits n) (group f commits n))

-- every chip of every run: no order of it ever faults, its slots have the layout of its group, and they hold what its member holds and nothing more
pub record ChipHolds (f : ℕ) (commits : ℕ → Commit) (w n : ℕ) : Type 0 where
  pub slots : chip f commits w n ≡ Some (layout w (group f commits n))
  pub just : HoldsJust (layout w (group f commits n)) (stock w (group f commits n))

abbrev pub ChipsHold : Type 0
ChipsHold = (f : ℕ) (commits : ℕ → Commit) (w n : ℕ) → ChipHolds f commits w n

-- Orders to a vault, over any kind of key K: the public side of a key is all that an order names.
-- `Way`, `derived`: the ways to make one secret from another; `Order`, `map_order`; `talk_slot` to `slot_count`: what each slot is for.
-- Assumes nothing.
use Rattle.std.specs.Prelude.{ℕ, zero, suc, ◌+◌, ◌-◌}
use Rattle.theory.specs.Secrets as secrets

-- a way from one secret to another
pub data Way : Type 0 where
  up : Way
  lock : Way
  seed : Way
  talk : Way

abbrev pub derived : Way → secrets.Secret → secrets.Secret
derived up s = secrets.up s
derived lock s = secrets.lock s
derived seed s = secrets.seed s
derived talk s = secrets.talk s

-- slots are numbers; the slot that is written stands last
pub data Order (K : Type 0) : Type 0 where
  draw : (into : ℕ) → Order K
  derive : (way : Way) (from into : ℕ) → Order K
  mix : (seed path into : ℕ) → Order K
  seal : (from : ℕ) (key : K) → Order K
  unseal : (box key into : ℕ) → Order K
  forget : (slot : ℕ) → Order K
  publish : (slot : ℕ) → Order K

-- the same order with its key mapped
abbrev pub map_order : {A B : Type 0} → (A → B) → Order A → Order B
map_order f (draw t) = draw t
map_order f (derive w s t) = derive w s t
map_order f (mix s p t) = mix s p t
map_order f (seal s k) = seal s (f k)
map_order f (unseal n s t) = unseal n s t
map_order f (forget s) = forget s
map_order f (publish s) = publish s

-- THE SLOTS. Between commits: the talk secret, the seed, and the key of each height, the leaf key at height 0.
abbrev pub talk_slot : ℕ
talk_slot = 0

abbrev pub seed_slot : ℕ
seed_slot = 1

abbrev pub slot_of_key : ℕ → ℕ
slot_of_key h = 2 + h

-- Spare, within a commit: the path secret of a level, in two slots by turns; the epoch's secret; a newcomer's init key.
unfoldable pub slot_of_path : ℕ → ℕ
slot_of_path zero = 19
slot_of_path (suc i) = 39 - slot_of_path i

abbrev pub epoch_slot : ℕ
epoch_slot = 21

abbrev pub init_slot : ℕ
init_slot = 22

-- how many slots there are
abbrev pub slot_count : ℕ
slot_count = 64

-- Secrets as symbolic terms, sealed boxes, and what can be worked out from what.
-- `Purpose`, `Secret`, `Box`, `Knows`; `ups`: a path secret some levels up.
-- Assumes nothing.
use Rattle.std.specs.Prelude.{ℕ, zero, suc, List}
use mathlib.Core.List.{Memᴰ}

-- what a drawn secret is for
pub data Purpose : Type 0 where
  leaf_key : Purpose
  path_secret : Purpose
  newcomer_key : Purpose
  init_key : Purpose
  first_epoch : Purpose

-- a secret by how it comes about: drawn by a member for an epoch, or made from others, forwards only
pub data Secret : Type 0 where
  drawn : (purpose : Purpose) (member epoch : ℕ) → Secret
  up : Secret → Secret
  lock : Secret → Secret
  mix : Secret → Secret → Secret
  seed : Secret → Secret
  talk : Secret → Secret

-- the path secret that is n levels above p
unfoldable pub ups : ℕ → Secret → Secret
ups zero p = p
ups (suc n) p = up (ups n p)

-- a secret sealed for whoever holds the key
pub record Box : Type 0 where
  pub key : Secret
  pub holds : Secret

-- what can be worked out from a stock of secrets and a pile of boxes: forwards, and by opening a box with its key
pub data Knows (boxes : List Box) (stock : List Secret) : Secret → Type 0 where
  had : {s : Secret} → Memᴰ s stock → Knows boxes stock s
  raise : {s : Secret} → Knows boxes stock s → Knows boxes stock (up s)
  locked : {s : Secret} → Knows boxes stock s → Knows boxes stock (lock s)
  mixed : {s t : Secret} → Knows boxes stock s → Knows boxes stock t → Knows boxes stock (mix s t)
  seeded : {s : Secret} → Knows boxes stock s → Knows boxes stock (seed s)
  talked : {s : Secret} → Knows boxes stock s → Knows boxes stock (talk s)
  opened : (b : Box) → Memᴰ b boxes → Knows boxes stock b.key → Knows boxes stock b.holds

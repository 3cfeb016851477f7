-- The limits of a group, each named once.
-- `max_depth`, `max_members`, `nobody`, `last_epoch`.
-- Assumes nothing.
use Rattle.std.specs.Prelude.{ℕ}

-- the deepest tree: 2 ^ 10 leaves
abbrev pub max_depth : ℕ
max_depth = 10

-- as many members as the deepest tree has leaves
abbrev pub max_members : ℕ
max_members = 1024

-- the number that stands for no member; members are numbered below it
abbrev pub nobody : ℕ
nobody = 65535

-- the epoch after which there is no other: the largest number of four bytes
abbrev pub last_epoch : ℕ
last_epoch = 4294967295

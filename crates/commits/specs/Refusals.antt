-- The number of each refusal.
-- `number_of`: the number that is answered.
-- Assumes nothing.
use Rattle.std.specs.Prelude.{ℕ}
use Rattle.commits.specs.declared.refusal.Refusal.{Refusal}
use Rattle.commits.specs.declared.refusal.Refusal.TheVariants.{Malformed, WrongEpoch, NotSeated, CannotRemove, CannotAdd, GroupFull, WrongCounts, BadTree, LastEpoch}

-- 1 to 9, each cause once
abbrev pub number_of : Refusal → ℕ
number_of Malformed = 1
number_of WrongEpoch = 2
number_of NotSeated = 3
number_of CannotRemove = 4
number_of CannotAdd = 5
number_of GroupFull = 6
number_of WrongCounts = 7
number_of BadTree = 8
number_of LastEpoch = 9

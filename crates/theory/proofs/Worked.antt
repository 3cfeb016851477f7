-- The worked cases, computed.
-- Assumes nothing.
use Rattle.std.proofs.Common.{refl}
use Rattle.theory.specs.Secrets.{ups}
use Rattle.theory.specs.Tree.{seated, full, members, height, leaf_key, leaf_keys, resolution, blank_tree, added, removed}
use Rattle.theory.specs.Path.{laid}
use Rattle.theory.specs.Held.{held, is_unmerged}
use Rattle.theory.specs.Group.{committed, group, message}
use Rattle.theory.specs.Promise.{stocks}
use Rattle.theory.specs.Known.{numbers, same_numbers, is_in, made, opens, rounds}
use Rattle.theory.specs.Opened.{same_secrets, some_read, some_given, is_open}
use Rattle.theory.specs.Verdicts.{verdicts}
use Rattle.theory.specs.Worked.{cells, rows, verdict_rows, Given, Said, WorkedCases}

rows-given : Given rows
unfolding ups seated full members height leaf_key leaf_keys resolution blank_tree added removed laid committed group message cells
rows-given = (refl, (refl, (refl, (refl, (refl, (refl, (refl, (refl, tt))))))))

verdicts-said : Said verdict_rows
unfolding ups seated full members leaf_key leaf_keys resolution blank_tree added removed laid held is_unmerged committed group stocks numbers same_numbers is_in made opens rounds same_secrets some_read some_given is_open verdicts
verdicts-said = (refl, (refl, tt))

pub worked_cases : WorkedCases
worked_cases = (rows-given, verdicts-said)

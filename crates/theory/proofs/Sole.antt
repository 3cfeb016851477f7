-- Nobody sits twice, and no leaf key is ever another's.
-- Assumes nothing.
use Rattle.std.proofs.Common.{arith}
use Rattle.theory.specs.Promise.{Sole, OwnFresh}
use Rattle.theory.proofs.Own.{key_has, once-length}
use Rattle.theory.proofs.History.{run-once, run-owns, owns-owner}

pub sole : Sole
sole f commits n m = once-length m (run-once f commits n)

pub own_fresh : OwnFresh
own_fresh f commits i k m w s x y = grind (arith, owns-owner, run-owns, key_has)

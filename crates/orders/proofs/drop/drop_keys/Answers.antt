use Rattle.std.proofs.Common.{rules}
use Rattle.theory.specs.Tree.{seated}
use Rattle.ratchet_tree.proofs.Appending.{appends-as}
use Rattle.ratchet_tree.specs.Parts.{part_tree}
use Rattle.orders.proofs.Taking.{taken-dropped}
use Rattle.orders.proofs.drop.drop_keys.Goals as goal

pub returns : goal.returns
returns c =
    appends-as (taken-dropped c.args.member.0 c.args.removed.0 (part_tree c.args.part))
    (c.take_keys.ensures (seated c.args.removed.0) (λ p b e. search rules))

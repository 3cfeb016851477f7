use mathlib.Core.Logic.{inl, inr}
use Rattle.commits.proofs.Halving.{in-left, in-neither, in-right}
use Rattle.commits.proofs.path.own_half.Goals as goal

pub returns-then-is_seated : goal.returns-then-is_seated
returns-then-is_seated c =
    inl (in-left c.args.part c.in-Parent.left c.in-Parent.right c.in-Parent.field-1.now c.in-Parent.ensures c.args.committer.0 c.if-is_seated.ensures c.is_reached.ensures)

pub returns-then-is_seated-2 : goal.returns-then-is_seated-2
returns-then-is_seated-2 c =
    inr (in-right c.args.part c.in-Parent.left c.in-Parent.right c.in-Parent.field-1.now c.in-Parent.ensures c.args.committer.0
    c.if-is_seated.ensures c.if-is_seated-2.ensures c.is_reached-then-is_seated-2.ensures)

pub returns-else-is_seated-2 : goal.returns-else-is_seated-2
returns-else-is_seated-2 c = λ above.
    in-neither c.args.part c.in-Parent.left c.in-Parent.right c.in-Parent.field-1.now c.in-Parent.ensures c.args.committer.0 c.if-is_seated.ensures c.if-is_seated-2.ensures

use Rattle.std.proofs.Common.{rules}
use Rattle.ratchet_tree.proofs.Appending.{appends-as}
use Rattle.ratchet_tree.specs.Parts.{part_tree}
use Rattle.orders.proofs.Assigning.{takes-removed}
use Rattle.orders.proofs.view.CommitView.take_part.Goals as goal

pub returns-in-Remove : goal.returns-in-Remove
returns-in-Remove c =
    appends-as
    (takes-removed c.args.member.0 c.args.self.committer.0 (part_tree c.args.self.before) (part_tree c.args.self.readied) c.args.self.change c.in-Remove.removed c.in-Remove.is (search rules))
    c.leave.ensures

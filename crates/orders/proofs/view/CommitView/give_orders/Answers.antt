use Rattle.std.proofs.Common.{rules}
use Rattle.ratchet_tree.proofs.Appending.{appends-as}
use Rattle.ratchet_tree.specs.Parts.{part_tree}
use Rattle.messages.specs.Take.{change_asked}
use Rattle.orders.specs.Roles.{init_keys}
use Rattle.orders.proofs.Assigning.{orders-own}
use Rattle.orders.proofs.view.CommitView.give_orders.Goals as goal

pub returns-then-eq : goal.returns-then-eq
returns-then-eq c =
    appends-as
    (orders-own c.args.member.0 c.args.self.committer.0 (change_asked c.args.self.change) (init_keys c.args.self.change) (part_tree c.args.self.before) (part_tree c.args.self.readied) (search rules))
    c.commit.ensures

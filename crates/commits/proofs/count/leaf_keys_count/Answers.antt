use Rattle.std.proofs.Common.{rules, tests, refl, ◌∙◌, []}
use Rattle.std.proofs.lemmas.Iterator.{YieldsList-from_slice}
use Rattle.std.proofs.lemmas.Iterator.Consumers.{fold_from_yields_List}
use Rattle.ratchet_tree.specs.Parts.{part_tree}
use Rattle.commits.proofs.Counting.{with-member, members-count}
use Rattle.commits.proofs.count.leaf_keys_count.Goals as goal

pub returns : goal.returns
returns c =
    fold_from_yields_List _ (with-member (part_tree c.args.part)) 0 c.fold.result c.fold.ensures.ran (YieldsList-from_slice c.args.members.now cc) (λ a x b q k. search (rules, tests))
    ∙ members-count (part_tree c.args.part) c.args.members.now [] 0 refl

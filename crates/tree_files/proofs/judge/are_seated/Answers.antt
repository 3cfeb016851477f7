use Rattle.std.proofs.Common.{◌∙◌, rules, tests}
use Rattle.std.proofs.lemmas.Iterator.{YieldsList-from_slice}
use Rattle.std.proofs.lemmas.Iterator.Search.{all_from_yields_List}
use Rattle.theory.specs.Tree.{seated}
use Rattle.ratchet_tree.specs.Parts.{part_tree}
use Rattle.ratchet_tree.specs.declared.member.MemberId.{MemberId}
use Rattle.tree_files.proofs.Judging.{seated-each}
use Rattle.tree_files.proofs.judge.are_seated.Goals as goal

pub returns : goal.returns
returns c =
    all_from_yields_List (λ (m : MemberId). seated m.0 (part_tree c.args.part)) _ _ c.all.result c.all.ensures.ran (YieldsList-from_slice c.args.members.now cc) (λ x b q k. search (rules, tests))
    ∙ seated-each c.args.members.now (part_tree c.args.part)

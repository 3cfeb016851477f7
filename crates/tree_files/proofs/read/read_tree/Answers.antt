use Rattle.std.proofs.Common.{Some, sym, ◌∙◌}
use Rattle.tree_files.specs.Verdict.{file_of}
use Rattle.tree_files.proofs.Verdicts.{breaks-a-rule}
use Rattle.tree_files.proofs.read.read_tree.Goals as goal

pub returns-then-not-is_well_formed : goal.returns-then-not-is_well_formed
returns-then-not-is_well_formed c =
    record { value = (Some (file_of (c.in_ok-epoch.epoch, c.in_ok-epoch.tree)), c.in_ok-epoch.ensures.tree, breaks-a-rule (file_of (c.in_ok-epoch.epoch, c.in_ok-epoch.tree)) (sym c.is_well_formed.ensures.value ∙ c.if-not-is_well_formed.true)) }

use Rattle.std.proofs.Common.{sym, refl, ap, ◌∙◌}
use Rattle.ratchet_tree.specs.Trees.{the_tree}
use Rattle.tree_files.specs.Write.{countable}
use Rattle.tree_files.proofs.Writing.{does-not-fit}
use Rattle.tree_files.proofs.write.write_tree.Goals as goal

pub returns-then-not-is_countable : goal.returns-then-not-is_countable
returns-then-not-is_countable c =
    record {
      bytes = (
        refl,
        λ f. does-not-fit c.args.tree.now.depth (the_tree c.args.tree.now) (ap countable (sym c.as_part.ensures) ∙ sym c.is_countable.ensures ∙ c.if-not-is_countable.true) f.nodes,
      );
    }

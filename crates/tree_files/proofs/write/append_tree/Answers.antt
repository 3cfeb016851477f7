use Rattle.std.proofs.Common.{vec_items}
use Rattle.tree_files.proofs.Writing.{file-fits}
use Rattle.tree_files.proofs.write.append_tree.Goals as goal

pub returns-clause-fits : goal.returns-clause-fits
returns-clause-fits c = λ k.
    let head = c.in_ok-write_file_header.ensures in
    file-fits c.args.epoch.0 c.args.tree.now.depth c.as_part.result.height (vec_items c.args.tree.now.nodes) c.as_part.result.nodes.now c.as_part.ensures
    head.fits.0 head.fits.1 (c.write_part.ensures.fits k)

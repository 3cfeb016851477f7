use Rattle.scripts.proofs.Cuts.{length-lines_of-le}
use Rattle.scripts.proofs.lines.Lines.new.Goals as goal

pub returns-clause-len : goal.returns-clause-len
returns-clause-len c = length-lines_of-le c.args.input.now

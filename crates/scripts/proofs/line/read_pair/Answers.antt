use Rattle.scripts.proofs.Words.{no-pair, first-refused, second-refused}
use Rattle.scripts.proofs.line.read_pair.Goals as goal

pub returns-in_err-first : goal.returns-in_err-first
returns-in_err-first c = rw c.from_residual.ensures (no-pair c.args.text.now c.in_err-first.ensures)

pub returns-in_err-committer : goal.returns-in_err-committer
returns-in_err-committer c =
    let cut = c.in_ok-first.ensures in
    rw c.from_residual-in_err-committer.ensures (first-refused c.args.text.now _ _ cut.0 cut.1 c.in_err-committer.ensures)

pub returns-in_err-member : goal.returns-in_err-member
returns-in_err-member c =
    let cut = c.in_ok-first.ensures in
    rw c.from_residual-in_err-member.ensures (second-refused c.args.text.now _ _ cut.0 cut.1 c.in_err-member.ensures)

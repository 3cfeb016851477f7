use Rattle.scripts.proofs.Words.{no_line, verb-refused}
use Rattle.scripts.proofs.line.read_line.Goals as goal

pub returns-in_err-word : goal.returns-in_err-word
returns-in_err-word c = rw c.from_residual.ensures (no_line c.args.line.now c.in_err-word.ensures)

pub returns-in_err-read_verb : goal.returns-in_err-read_verb
returns-in_err-read_verb c = rw c.from_residual-in_err-read_verb.ensures (verb-refused c.args.line.now _ _ c.in_ok-word.ensures.0 c.in_ok-word.ensures.1 c.in_err-read_verb.ensures)

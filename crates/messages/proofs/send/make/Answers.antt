use Rattle.std.proofs.Common.{rules}
use Rattle.std.proofs.lemmas.Result.{err_from_is_err_and}
use Rattle.messages.specs.Message.{message_of}
use Rattle.messages.proofs.Composing.{left-unmade, unwritten-unmade}
use Rattle.messages.proofs.send.make.Goals as goal

pub returns-in_err-accept : goal.returns-in_err-accept
returns-in_err-accept c =
    let p = err_from_is_err_and c.from_residual.result c.from_residual.ensures.1 in
    rw (p.1, p.2) (left-unmade c.args.handset.now (message_of c.args.message) c.in_err-accept.field-0.0 c.in_err-accept.ensures.tree)

pub returns-in_err-write_message : goal.returns-in_err-write_message
returns-in_err-write_message c =
    let p = err_from_is_err_and c.from_residual-in_err-write_message.result c.from_residual-in_err-write_message.ensures.1 in
    rw (p.1, p.2) (unwritten-unmade c.args.handset.now (message_of c.args.message) c.in_ok-accept.ensures.tree.0 (λ countable. search rules) _ _ c.in_err-write_message.field-0.0 c.in_err-write_message.ensures.bytes)

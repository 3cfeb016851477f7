use Rattle.std.proofs.Common.{◌++◌, sym, ap, ◌∙◌}
use Rattle.wire.specs.Bytes.{key_bytes}
use Rattle.wire.proofs.Peeling.{peel-key}
use Rattle.messages.specs.Message.{kind_asked, other_asked}
use Rattle.messages.proofs.Peeling.{add-keys}
use Rattle.messages.proofs.read.read_change.Goals as goal

pub returns-in_err-init_key-in-Add : goal.returns-in_err-init_key-in-Add
returns-in_err-init_key-in-Add c =
    rw c.from_residual-in_err-init_key-in-Add.ensures
    (λ x rest f e.
    let a = add-keys (kind_asked c.args.change) (other_asked c.args.change) x c.args.bytes.now rest (ap kind_asked c.in-Add.is) f e in
    let got = c.in_ok-leaf_key-in-Add.ensures.value in
    let p = peel-key c.in_ok-leaf_key-in-Add.leaf_key a.leaf_key c.in_ok-leaf_key-in-Add.rest.now (key_bytes a.init_key ++ rest) got.0 a.leaf (sym got.1 ∙ a.bytes) in
    c.in_err-init_key-in-Add.ensures.value a.init_key rest a.init p.1)

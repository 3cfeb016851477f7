use Rattle.std.proofs.Common.{◌≡◌, suc, ◌-◌, Err, vec_items, arith}
use Rattle.std.proofs.lemmas.Result.{err_from_is_err_and}
use Rattle.messages.specs.declared.tree_file.FileError.TheVariants.{Malformed}
use Rattle.messages.proofs.Missing.{missing}
use Rattle.messages.proofs.Growing.{leaf-refused, leaf-grew, finds-at, left-refused, parent-refused, right-finds}
use Rattle.messages.proofs.read_tree.+read_part.Goals as goal

pub returns-in_err-leaf : goal.returns-in_err-leaf
returns-in_err-leaf t c =
    let p = err_from_is_err_and c.from_residual.result c.from_residual.ensures.1 in
    let q = missing c.read_leaf.result c.in_err-leaf.field-0.0 Malformed c.in_err-leaf.ensures.value in
    rw (p.1, p.2, q.1) (leaf-refused c.args.height c.args.bytes.now c.if-height-eq0.true (rw q.0 at c.read_leaf.ensures))

pub returns-then-height-eq0 : goal.returns-then-height-eq0
returns-then-height-eq0 t c =
    let leaf = rw c.in_ok-leaf.ensures.ok_part at c.read_leaf.ensures in
    leaf-grew c.args.height c.args.bytes.now c.in_ok-leaf.rest.now (vec_items c.args.nodes.now) (vec_items c.push.new.self) c.in_ok-leaf.leaf
    c.if-height-eq0.true leaf.0 leaf.1 c.in_ok-push.ensures.items

pub returns-in_err-rest : goal.returns-in_err-rest
returns-in_err-rest t c =
    let above : suc (c.args.height - 1) ≡ c.args.height = omega arith in
    let p = err_from_is_err_and c.from_residual-in_err-rest.result c.from_residual-in_err-rest.ensures.1 in
    rw (p.1, p.2) (finds-at c.args.height (c.args.height - 1) c.args.bytes.now (vec_items c.args.nodes.now) (vec_items c.read_part.new.nodes) (Err c.in_err-rest.field-0.0) above
    (left-refused (c.args.height - 1) c.args.bytes.now (vec_items c.args.nodes.now) (vec_items c.read_part.new.nodes) c.in_err-rest.field-0.0 c.in_err-rest.ensures))

pub returns-in_err-parent : goal.returns-in_err-parent
returns-in_err-parent t c =
    let above : suc (c.args.height - 1) ≡ c.args.height = omega arith in
    let p = err_from_is_err_and c.from_residual-in_err-parent.result c.from_residual-in_err-parent.ensures.1 in
    rw (p.1, p.2) (finds-at c.args.height (c.args.height - 1) c.args.bytes.now (vec_items c.args.nodes.now) (vec_items c.read_part.new.nodes) (Err c.in_err-parent.field-0.0) above
    (parent-refused (c.args.height - 1) c.args.bytes.now c.in_ok-rest.rest.now (vec_items c.args.nodes.now) (vec_items c.read_part.new.nodes) c.in_ok-rest.ensures
    (vec_items c.read_part.new.nodes) c.in_err-parent.field-0.0 c.in_err-parent.ensures))

pub returns : goal.returns
returns t c =
    let above : suc (c.args.height - 1) ≡ c.args.height = omega arith in
    finds-at c.args.height (c.args.height - 1) c.args.bytes.now (vec_items c.args.nodes.now) (vec_items c.read_part-2.new.nodes) c.read_part-2.result above
    (right-finds (c.args.height - 1) c.args.bytes.now c.in_ok-rest.rest.now (vec_items c.args.nodes.now) (vec_items c.read_part.new.nodes) c.in_ok-rest.ensures
    c.in_ok-parent.parent c.in_ok-parent.rest.now (vec_items c.push-2.new.self) c.in_ok-parent.ensures.0 c.in_ok-parent.ensures.1 c.in_ok-push-2.ensures.items
    (vec_items c.read_part-2.new.nodes) c.read_part-2.result c.read_part-2.ensures)

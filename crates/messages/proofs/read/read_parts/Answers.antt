use Rattle.std.proofs.Common.{[], ◌++◌, sym, ◌∙◌}
use Rattle.std.proofs.lemmas.List.{append-nil}
use Rattle.messages.specs.Message.{change_keys, boxes_bytes}
use Rattle.wire.proofs.Peeling.{some_left, none_left}
use Rattle.messages.proofs.Reading.{head_of, head_first, after_change, after_key, at_head, past-change, past-key, past-keys, past-boxes, all-parts}
use Rattle.messages.proofs.read.read_parts.Goals as goal

pub returns-in_err-header : goal.returns-in_err-header
returns-in_err-header c =
    rw c.from_residual.ensures
    (λ m f e. let p = head_first c.args.bytes.now m f e in c.in_err-header.ensures (head_of m) (change_keys m.change ++ after_change m) p.0 p.1)

pub returns-in_err-change : goal.returns-in_err-change
returns-in_err-change c =
    rw c.from_residual-in_err-change.ensures
    (λ m f e.
    let p = at_head c.args.bytes.now m f e c.in_ok-header.header c.in_ok-header.rest.now c.in_ok-header.ensures in
    c.in_err-change.ensures m.change (after_change m) p.change p.rest)

pub returns-in_err-leaf_key : goal.returns-in_err-leaf_key
unfolding after_change
returns-in_err-leaf_key c =
    rw c.from_residual-in_err-leaf_key.ensures
    (λ m f e.
    c.in_err-leaf_key.ensures.value m.leaf_key (after_key m) f.leaf_key
    (past-change c.args.bytes.now m f e c.in_ok-header.header c.in_ok-header.rest.now c.in_ok-header.ensures
    c.in_ok-change.change c.in_ok-change.rest.now c.in_ok-change.ensures))

pub returns-in_err-node_keys : goal.returns-in_err-node_keys
unfolding after_key
returns-in_err-node_keys c =
    rw c.from_residual-in_err-node_keys.ensures
    (λ m f e.
    c.in_err-node_keys.ensures m.node_keys (boxes_bytes m.boxes) f.node_keys
    (past-key c.args.bytes.now m f e c.in_ok-header.header c.in_ok-header.rest.now c.in_ok-header.ensures
    c.in_ok-change.change c.in_ok-change.rest.now c.in_ok-change.ensures
    c.in_ok-leaf_key.leaf_key c.in_ok-leaf_key.rest.now c.in_ok-leaf_key.ensures.value))

pub returns-in_err-boxes : goal.returns-in_err-boxes
returns-in_err-boxes c =
    rw c.from_residual-in_err-boxes.ensures
    (λ m f e.
    c.in_err-boxes.ensures.value m.boxes [] f.boxes
    (past-keys c.args.bytes.now m f e c.in_ok-header.header c.in_ok-header.rest.now c.in_ok-header.ensures
    c.in_ok-change.change c.in_ok-change.rest.now c.in_ok-change.ensures
    c.in_ok-leaf_key.leaf_key c.in_ok-leaf_key.rest.now c.in_ok-leaf_key.ensures.value
    c.in_ok-node_keys.node_keys.now c.in_ok-node_keys.rest.now c.in_ok-node_keys.ensures ∙ sym (append-nil (boxes_bytes m.boxes))))

pub returns-then-not-is_empty : goal.returns-then-not-is_empty
returns-then-not-is_empty c = λ m f e.
    some_left c.in_ok-boxes.rest.now c.is_empty.result c.is_empty.ensures c.if-not-is_empty.true
    (past-boxes c.args.bytes.now m f e c.in_ok-header.header c.in_ok-header.rest.now c.in_ok-header.ensures
    c.in_ok-change.change c.in_ok-change.rest.now c.in_ok-change.ensures
    c.in_ok-leaf_key.leaf_key c.in_ok-leaf_key.rest.now c.in_ok-leaf_key.ensures.value
    c.in_ok-node_keys.node_keys.now c.in_ok-node_keys.rest.now c.in_ok-node_keys.ensures
    c.in_ok-boxes.boxes.now c.in_ok-boxes.rest.now c.in_ok-boxes.ensures.value)

pub returns : goal.returns
returns c =
    all-parts c.args.bytes.now c.in_ok-header.header c.in_ok-header.rest.now c.in_ok-change.change c.in_ok-change.rest.now
    c.in_ok-leaf_key.leaf_key c.in_ok-leaf_key.rest.now c.in_ok-node_keys.node_keys.now c.in_ok-node_keys.rest.now
    c.in_ok-boxes.boxes.now c.in_ok-boxes.rest.now
    c.in_ok-header.ensures c.in_ok-change.ensures c.in_ok-leaf_key.ensures.value c.in_ok-node_keys.ensures c.in_ok-boxes.ensures.value
    (none_left c.in_ok-boxes.rest.now c.is_empty.result c.is_empty.ensures c.if-not-is_empty.false)

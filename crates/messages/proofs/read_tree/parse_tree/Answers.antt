use Rattle.std.proofs.Common.{vec_items}
use Rattle.std.proofs.lemmas.Result.{err_from_is_err_and}
use Rattle.messages.specs.declared.tree_file.FileError.TheVariants.{Malformed}
use Rattle.messages.proofs.Filing.{no_front, no-nodes, no_more, all_read}
use Rattle.messages.proofs.Missing.{missing}
use Rattle.wire.proofs.Peeling.{some_left, none_left}
use Rattle.messages.proofs.read_tree.parse_tree.Goals as goal

pub returns-in_err-header : goal.returns-in_err-header
returns-in_err-header c =
    let p = err_from_is_err_and c.from_residual.result c.from_residual.ensures.1 in
    let q = missing c.read_file_header.result c.in_err-header.field-0.0 Malformed c.in_err-header.ensures.value in
    record { tree = rw (p.1, p.2, q.1) (no_front c.args.bytes.now (rw q.0 at c.read_file_header.ensures)) }

pub returns-in_err-rest : goal.returns-in_err-rest
returns-in_err-rest c =
    let p = err_from_is_err_and c.from_residual-in_err-rest.result c.from_residual-in_err-rest.ensures.1 in
    let head = rw c.in_ok-header.ensures.ok_part at c.read_file_header.ensures in
    record {
      tree = rw (p.1, p.2)
          (no-nodes c.args.bytes.now c.in_ok-header.header c.in_ok-header.rest.now head (vec_items c.new-nodes.result) (vec_items c.read_part.new.nodes)
          c.in_err-rest.field-0.0 c.in_err-rest.ensures);
    }

pub returns-then-not-is_empty : goal.returns-then-not-is_empty
returns-then-not-is_empty c =
    let head = rw c.in_ok-header.ensures.ok_part at c.read_file_header.ensures in
    record {
      tree =
          no_more c.args.bytes.now c.in_ok-header.header c.in_ok-header.rest.now head (vec_items c.new-nodes.result) (vec_items c.read_part.new.nodes)
          c.in_ok-rest.rest.now c.in_ok-rest.ensures
          (some_left c.in_ok-rest.rest.now c.is_empty.result c.is_empty.ensures c.if-not-is_empty.true);
    }

pub returns : goal.returns
returns c =
    let head = rw c.in_ok-header.ensures.ok_part at c.read_file_header.ensures in
    record {
      tree =
          all_read c.args.bytes.now c.in_ok-header.header c.in_ok-header.rest.now head (vec_items c.new-nodes.result) (vec_items c.read_part.new.nodes)
          c.in_ok-rest.rest.now c.in_ok-rest.ensures c.new-nodes.ensures.items
          (none_left c.in_ok-rest.rest.now c.is_empty.result c.is_empty.ensures c.if-not-is_empty.false);
    }

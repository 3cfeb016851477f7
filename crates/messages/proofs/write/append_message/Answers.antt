use Rattle.std.proofs.Common.{vec_items, refl}
use Rattle.messages.specs.Message.{message_of}
use Rattle.messages.proofs.Writing.{all-written}
use Rattle.messages.proofs.write.append_message.Goals as goal

pub returns : goal.returns
returns c =
    all-written (message_of c.args.message.now)
    (record { epoch = c.args.message.now.epoch; committer = c.args.message.now.committer; change = c.asked.result })
    (vec_items c.args.out.now) (vec_items c.write_header.new.out) (vec_items c.write_change_keys.new.out) (vec_items c.write.new.out) (vec_items c.write_node_keys.new.out)
    (vec_items c.write_boxes.new.out) c.write_boxes.result
    refl refl c.asked.ensures.value c.in_ok-write_header.ensures.fits
    (c.in_ok-write_change_keys.ensures.fits refl) c.in_ok-write.ensures.fits c.requires.0 c.requires.1
    (c.in_ok-write_header.ensures.items.items refl) (c.in_ok-write_change_keys.ensures.items.items refl)
    (c.in_ok-write.ensures.items.items refl) (c.in_ok-write_node_keys.ensures.items.items refl) c.write_boxes.ensures.items

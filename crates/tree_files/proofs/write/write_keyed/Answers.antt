use Rattle.std.proofs.Common.{vec_items, sym, refl}
use Rattle.messages.proofs.Members.{members-fit, members-joined}
use Rattle.ratchet_tree.proofs.Appending.{appends-as}
use Rattle.tree_files.proofs.Writing.{at-ok, keyed-written, keyed-fits}
use Rattle.tree_files.proofs.write.write_keyed.Goals as goal

pub returns : goal.returns
returns c =
    record {
      items =
          keyed-written c.args.node_key.key c.args.node_key.unmerged.now (vec_items c.args.out.now) (vec_items c.push.new.self) (vec_items c.write.new.out)
          (vec_items c.write-2.new.out) (vec_items c.write_all.new.out) c.write_all.result
          c.in_ok-push.ensures.items (c.in_ok-write.ensures.items.items refl) (c.in_ok-write-2.ensures.items.items refl)
          (appends-as (sym (members-joined c.args.node_key.unmerged.now)) c.write_all.ensures.items);
      fits = λ k. keyed-fits c.args.node_key.key c.args.node_key.unmerged.now c.in_ok-write.ensures.fits c.requires (members-fit c.args.node_key.unmerged.now (at-ok c.write_all.result k c.write_all.ensures.fits));
    }

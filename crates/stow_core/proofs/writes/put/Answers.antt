use Rattle.std.proofs.Common.{refl, length, ◌<◌, rules, suc, drop}
use Rattle.stow_core.specs.Writes.{write_of, writes_of}
use Rattle.stow_model.specs.LentWords.{words_in}
use Rattle.stow_tree_model.specs.Op.{op_of}
use Rattle.stow_core.proofs.Room.{first_reserved, next_to_put, putting_on, put_all_of, message_at}
use Rattle.stow_core.proofs.writes.put.Goals as goal

pub loop-index-init : goal.loop-index-init
loop-index-init g c = record { reserved = c.requires.room; onward = refl; shape = refl }

pub put_one-requires-clause-message : goal.put_one-requires-clause-message
put_one-requires-clause-message g c =
    let below : c.loop-index.index < length (words_in c.args.keys) = search rules in
    message_at c.args.number (op_of c.args.op) (words_in c.args.keys) c.loop-index.index c.get.result.now c.requires.messages below c.get.ensures

pub put_one-requires-clause-room : goal.put_one-requires-clause-room
put_one-requires-clause-room g c =
    let below : c.loop-index.index < length (words_in c.args.keys) = search rules in
    first_reserved c.loop-index.tree (write_of c.args.number (op_of c.args.op) c.get.result.now) (writes_of c.args.number (op_of c.args.op) (drop (suc c.loop-index.index) (words_in c.args.keys)))
    (next_to_put c.args.number (op_of c.args.op) (words_in c.args.keys) c.args.tree.now c.loop-index.tree c.loop-index.index c.get.result.now below c.get.ensures c.loop-index.invariant)

pub loop-index-preserved : goal.loop-index-preserved
loop-index-preserved g c =
    let below : c.loop-index.index < length (words_in c.args.keys) = search rules in
    putting_on c.args.number (op_of c.args.op) (words_in c.args.keys) c.args.tree.now c.loop-index.tree c.put_one.new.tree c.loop-index.index c.get.result.now below c.get.ensures c.loop-index.invariant c.put_one.ensures

pub returns-clause-messages : goal.returns-clause-messages
returns-clause-messages g c = put_all_of c.args.number (op_of c.args.op) (words_in c.args.keys) c.args.tree.now c.loop-index.tree c.loop-index.index (search rules) c.loop-index.invariant

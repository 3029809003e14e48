use Rattle.std.proofs.lemmas.Grind.{common_steps}
use Rattle.std.proofs.Common.{length, ◌<◌, rules, arith}
use Rattle.stow_model.specs.LentWords.{words_in}
use Rattle.stow_tree_model.specs.Op.{op_of}
use Rattle.stow_core.proofs.Room.{message_at}
use Rattle.stow_core.proofs.writes.messages.Goals as goal

pub message-requires : goal.message-requires
message-requires g c =
    let below : c.loop-index.index < length (words_in c.args.keys) = search rules in
    message_at c.args.number (op_of c.args.op) (words_in c.args.keys) c.loop-index.index c.get.result.now c.requires below c.get.ensures

pub loop-index-preserved : goal.loop-index-preserved
loop-index-preserved g c = grind (arith, common_steps)

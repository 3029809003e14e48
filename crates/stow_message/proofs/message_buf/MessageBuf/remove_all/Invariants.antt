use Rattle.std.proofs.Common.{◌≡◌}
use Rattle.stow_message.proofs.TakenOut.{Taking}
use Rattle.stow_message.proofs.message_buf.MessageBuf.remove_all.Given as goal

abbrev pub invariant-loop-i : goal.invariant-loop-i
invariant-loop-i g l = record {
  taking : Taking l.initial.self-inside.raw l.batch.messages l.self-inside.raw l.kept l.i l.from;
  marks : l.self-inside.filter ≡ l.initial.self-inside.filter;
  live : l.self-inside.live ≡ l.initial.self-inside.live;
  largest : l.self-inside.largest ≡ l.initial.self-inside.largest;
}

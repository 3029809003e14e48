use Rattle.std.proofs.Common.{◌≡◌, ◌+◌, ◌-◌, length}
use Rattle.stow_message.proofs.Merged.{Filling}
use Rattle.stow_message.proofs.message_buf.MessageBuf.push_all.Given as goal

abbrev pub invariant-loop-new : goal.invariant-loop-new
invariant-loop-new g l = record {
  filling : Filling l.fn.self l.run l.self-inside.raw l.new l.old (l.old + l.new - length l.run) l.at;
  marks : l.self-inside.filter ≡ l.initial.self-inside.filter;
  live : l.self-inside.live ≡ l.initial.self-inside.live;
  largest : l.self-inside.largest ≡ l.initial.self-inside.largest;
}

use Rattle.std.proofs.Common.{◌≡◌, map, reverse, take}
use Rattle.stow_model.specs.Store.{store_after, replies_after}
use Rattle.stow_model.specs.Reply.{reply_of}
use Rattle.stow_plain.specs.OwnRun.{asked, store_of}
use Rattle.stow_plain.proofs.own_run.own_run.Given as goal

abbrev pub invariant-loop-request : goal.invariant-loop-request
invariant-loop-request g l = record {
  store : store_of l.store ≡ store_after l.quota (reverse (map asked (take l.request-index l.requests)));
  replies : reverse (map reply_of l.replies.items) ≡ replies_after l.quota (reverse (map asked (take l.request-index l.requests)));
}

-- What the types of the plain run stand for.
use Rattle.std.specs.Prelude.{◌≡◌, ◌≤◌}
use Rattle.stow_bytes.specs.Limits.{number_limit}
use Rattle.stow_model.specs.Reply.{reply_of}
use Rattle.stow_model.specs.declared.reply.Reply.{Reply}
use Rattle.stow_model.specs.declared.usage.Usage.{Usage}
use Rattle.stow_model.specs.Store.{Store, Request, OwnEvent, Asked, Answer}
use Rattle.stow_plain.specs.declared.plain_request.PlainRequest.{PlainRequest}
use Rattle.stow_plain.specs.declared.plain_store.PlainStore.{PlainStore}

abbrev pub request_of : {A : Type 0} → PlainRequest A → Request
request_of request = record { words = request.words; is_refused = request.is_refused }

-- the request as an entry of the tenant's line
abbrev pub asked : {A : Type 0} → PlainRequest A → OwnEvent
asked request = Asked (request_of request)

abbrev pub store_of : {A : Type 0} → PlainStore A → Store
store_of s =
    record {
      rows = s.contents.rows;
      last = s.last;
      snapshots = s.contents.snapshots;
      next = s.contents.next;
      quota = s.quota;
      commands = s.commands;
      refusals = s.refusals;
    }

-- the store and the reply are this answer
abbrev pub Tells : {A B : Type 0} → PlainStore A → Reply B → Answer → Type 0
Tells store reply answer = ◌≡◌ {A = Answer} (store_of store, reply_of reply) answer

use Rattle.std.proofs.Common.{◌≡◌, [], ◌++◌, refl, sym, subst, rules, append-nil}
use Rattle.std.specs.Prelude.{IfSome}
use Rattle.stow_shared.specs.StowHouse.Conversations.{talk_of}
use Rattle.stow_workers.specs.Turns.{CanEndPiece}
use Rattle.stow_workers.proofs.Pieces.{piece_read, piece_ended, told_at_refusal, outcome_ends}
use Rattle.stow_workers.proofs.Pipelining.{holds_none, rests_on}
use Rattle.stow_workers.proofs.client.Client.serve_piece.Goals as goal

pub returns-then-is_err-clause-serves : goal.returns-then-is_err-clause-serves
returns-then-is_err-clause-serves g c = λ first start read u even.
    let read_on = piece_read _ _ first start read c.args.piece.now _ (record { door = _; talk = record { tenant = _; unread = _ }; sent = _ }) refl refl refl refl u in
    record {
      exchanges = read_on.exchanges;
      course = read_on.course;
      stops = tt;
      told = told_at_refusal start _ _ _ read_on.spelled ([], sym (append-nil _));
    }

pub returns-clause-serves : goal.returns-clause-serves
returns-clause-serves g c = λ first start read u even.
    let fed : (talk_of c.feed.new.self).unread ≡ (talk_of c.args.self.now.conversation).unread ++ c.args.piece.now = search rules in
    let read_on = piece_read _ _ first start read c.args.piece.now _ _ refl c.feed.ensures.tenant fed refl u in
    let stands = c.serve_all-stop.ensures.goes first start (read ++ c.args.piece.now) (holds_none _ _ _ _ _ _ (record c.args.self.now { conversation = c.feed.new.self }) _ c.requires.rested read_on) in
    piece_ended _ _ first start (read ++ c.args.piece.now) _ _ _ c.serve_all-stop.result c.outcome.result c.flush.new.self.has_failed c.has_failed.result c.outcome.ensures c.has_failed.ensures stands.0 c.flush.ensures.sent
    c.flush.ensures.written

pub returns-clause-rests : goal.returns-clause-rests
returns-clause-rests g c = λ first start read u.
    let fed : (talk_of c.feed.new.self).unread ≡ (talk_of c.args.self.now.conversation).unread ++ c.args.piece.now = search rules in
    let read_on = piece_read _ _ first start read c.args.piece.now _ _ refl c.feed.ensures.tenant fed refl u in
    let stands = c.serve_all-stop.ensures.goes first start (read ++ c.args.piece.now) (holds_none _ _ _ _ _ _ (record c.args.self.now { conversation = c.feed.new.self }) _ c.requires.rested read_on) in
    rests_on c.serve_all-stop.result c.has_failed.result c.outcome.result _ c.outcome.ensures stands.1

pub returns-clause-ends : goal.returns-clause-ends
returns-clause-ends g c = subst (λ r. IfSome r CanEndPiece) (sym c.outcome.ensures) (outcome_ends c.serve_all-stop.result c.has_failed.result)

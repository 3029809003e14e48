use Rattle.std.proofs.Common.{sym, ap, ◌∙◌, if◌then◌else◌}
use Rattle.stow_model.specs.Reply.{reply_of}
use Rattle.stow_model.specs.Reply as reply
use Rattle.stow_model.specs.declared.refusal.Refusal.TheVariants as refusal
use Rattle.stow_plain.specs.OwnRun.{store_of}
use Rattle.stow_plain.proofs.Kept.{write_refused, write_taken}
use Rattle.stow_plain.proofs.plain_store.PlainStore.write.Goals as goal

pub returns-then-not-replace : goal.returns-then-not-replace
returns-then-not-replace g c =
    let s = c.args.self.now in
    ap (λ n. (store_of (record s { contents = c.replace.new.self; refusals = n }), reply.Error refusal.QuotaExceeded)) c.one_more-self.ensures
    ∙ write_refused s c.args.rows (reply_of c.args.reply) c.in-Some.number c.in-Some.ensures c.replace.new.self (sym c.if-not-replace.true ∙ c.replace.ensures.allowed) (c.replace.ensures.replaced ∙ ap (λ b. if b then record s.contents { rows = c.args.rows } else s.contents) c.if-not-replace.true)

pub returns : goal.returns
returns g c =
    let s = c.args.self.now in
    write_taken s c.args.rows (reply_of c.args.reply) c.in-Some.number c.in-Some.ensures c.replace.new.self (sym c.if-not-replace.false ∙ c.replace.ensures.allowed) (c.replace.ensures.replaced ∙ ap (λ b. if b then record s.contents { rows = c.args.rows } else s.contents) c.if-not-replace.false)

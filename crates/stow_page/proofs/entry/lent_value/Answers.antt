use Rattle.stow_page.proofs.Entries.{put_at}
use Rattle.stow_page.proofs.entry.lent_value.Goals as goal

pub lent_put-requires : goal.lent_put-requires
lent_put-requires c =
    let put = put_at c.args.format c.args.bytes.now c.in_ok-kind.after.now c.in_ok-kind.kind.now c.requires c.in_ok-kind.ensures.cases.0 c.if-kind-ne0.false in
    record { width = put.width; whole = put.whole }

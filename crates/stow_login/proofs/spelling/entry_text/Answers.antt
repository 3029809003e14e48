use Rattle.std.proofs.Common.{◌≡◌, arith, ap, subst}
use Rattle.hex.specs.Hex.{IsBytes}
use Rattle.sha2.proofs.Facts256.{length-sha256}
use Rattle.sha2.specs.Sha256.{sha256}
use Rattle.toml.specs.View.{members_view, table_view}
use Rattle.stow_login.specs.NewTenants.{entry_with, file_of, table_of}
use Rattle.stow_login.proofs.Spelled.{file_says, file_spelled, text_says}
use Rattle.stow_login.proofs.spelling.entry_text.Goals as goal

pub returns-in-Ok : goal.returns-in-Ok
returns-in-Ok c =
    let entry = entry_with c.args.name.now c.args.salt.now c.args.password.now c.args.quota in
    let salt : IsBytes c.args.salt.now = λ i. let f = c.type_inv.salt i in omega arith in
    let digest : IsBytes (sha256 _) = subst IsBytes c.digest_of-digest.ensures.digest c.digest_of-digest.ensures.bytes in
    let spelled : table_view c.in_ok-table.table ≡ table_of entry = rw c.digest_of-digest.ensures.digest at c.in_ok-table.ensures in
    let file : table_view c.add.new.table ≡ file_of entry = file_spelled entry _ _ _ _ c.in_ok-add.ensures (ap members_view c.new-file.ensures.empty) (rw c.new-tables.ensures.items at c.in_ok-push.ensures.items) spelled in
    text_says entry (table_view c.add.new.table) _ file c.in-Ok.ensures.reads_back
    (file_says entry c.requires.name c.requires.salt (length-sha256 _) salt digest)

use Rattle.std.proofs.Common.{◌∙◌}
use Rattle.std.specs.Prelude.{nat_le}
use Rattle.stow_bytes.specs.Limits.{number_limit}
use Rattle.stow_plain.proofs.Kept.{can_take_seen, and_less, and_more}
use Rattle.stow_plain.proofs.plain_contents.PlainContents.can_take.Goals as goal

pub returns-then-len-lt-SNAPSHOT_LIMIT : goal.returns-then-len-lt-SNAPSHOT_LIMIT
returns-then-len-lt-SNAPSHOT_LIMIT g c =
    and_less c.len.result 64 (nat_le c.self.inside.next number_limit) c.if-len-lt-SNAPSHOT_LIMIT.true
    ∙ can_take_seen c.self.inside.rows c.self.inside.copies.items c.self.inside.next c.len.result c.args.self.now c.self.invariant.ids_rise c.self.view_is (c.len.ensures ∙ c.self.inside.copies.ok.0)

pub returns-else-len-lt-SNAPSHOT_LIMIT : goal.returns-else-len-lt-SNAPSHOT_LIMIT
returns-else-len-lt-SNAPSHOT_LIMIT g c =
    and_more c.len.result 64 (nat_le c.self.inside.next number_limit) c.if-len-lt-SNAPSHOT_LIMIT.false
    ∙ can_take_seen c.self.inside.rows c.self.inside.copies.items c.self.inside.next c.len.result c.args.self.now c.self.invariant.ids_rise c.self.view_is (c.len.ensures ∙ c.self.inside.copies.ok.0)

use Rattle.std.proofs.Common.{◌≡◌, ◌≢◌, ap, ◌∙◌, arith, refl}
use Rattle.std.specs.FinMap as map
use Rattle.stow_versions.specs.VersionsState.{VersionsState}
use Rattle.stow_versions.proofs.KeptLemmas.{len_seen, not_too_many, is_ready, on_ok_min}
use Rattle.stow_versions.specs.VersionLists.{snapshots_of}
use Rattle.stow_versions.proofs.versions.Versions.ready.Goals as goal

pub returns-then-len-eq-SNAPSHOT_LIMIT-clause-too_many : goal.returns-then-len-eq-SNAPSHOT_LIMIT-clause-too_many
returns-then-len-eq-SNAPSHOT_LIMIT-clause-too_many g c =
    let len = len_seen c.args.self.now _ _ _ _ _ _ c.self.invariant c.self.view_is in
    let is_length = c.self.inside.ids.ok.0 in
    (λ e. omega (arith, c.len.ensures, c.if-len-eq-SNAPSHOT_LIMIT.true), λ e. refl)

pub returns-then-len-eq-SNAPSHOT_LIMIT-clause-used_up : goal.returns-then-len-eq-SNAPSHOT_LIMIT-clause-used_up
returns-then-len-eq-SNAPSHOT_LIMIT-clause-used_up g c =
    let len = len_seen c.args.self.now _ _ _ _ _ _ c.self.invariant c.self.view_is in
    let is_length = c.self.inside.ids.ok.0 in
    (λ e. cc, λ (few, none). absurd (omega (arith, c.len.ensures, c.if-len-eq-SNAPSHOT_LIMIT.true)))

pub returns-then-self-gt-NUMBER_LIMIT-clause-too_many : goal.returns-then-self-gt-NUMBER_LIMIT-clause-too_many
returns-then-self-gt-NUMBER_LIMIT-clause-too_many g c =
    let len = len_seen c.args.self.now _ _ _ _ _ _ c.self.invariant c.self.view_is in
    let is_length = c.self.inside.ids.ok.0 in
    (λ e. cc, λ e. absurd (c.if-len-eq-SNAPSHOT_LIMIT.false (omega (arith, c.len.ensures))))

pub returns-then-self-gt-NUMBER_LIMIT-clause-used_up : goal.returns-then-self-gt-NUMBER_LIMIT-clause-used_up
returns-then-self-gt-NUMBER_LIMIT-clause-used_up g c =
    let len = len_seen c.args.self.now _ _ _ _ _ _ c.self.invariant c.self.view_is in
    let is_length = c.self.inside.ids.ok.0 in
    let value = ap (λ (v : VersionsState). v.next) c.self.view_is in
    let other : ◌≢◌ (map.len c.args.self.now.snapshots) 64 = λ e. c.if-len-eq-SNAPSHOT_LIMIT.false (omega (arith, c.len.ensures)) in
    (λ e. (omega (arith, c.self.invariant.few), omega (arith, c.if-self-gt-NUMBER_LIMIT.true)), λ e. refl)

pub returns-clause-too_many : goal.returns-clause-too_many
returns-clause-too_many g c =
    let len = len_seen c.args.self.now _ _ _ _ _ _ c.self.invariant c.self.view_is in
    let is_length = c.self.inside.ids.ok.0 in
    (λ e. absurd (not_too_many _ c.make_room.ensures.refused e), λ e. absurd (c.if-len-eq-SNAPSHOT_LIMIT.false (omega (arith, c.len.ensures))))

pub returns-clause-ready : goal.returns-clause-ready
returns-clause-ready g c =
    let len = len_seen c.args.self.now _ _ _ _ _ _ c.self.invariant c.self.view_is in
    let is_length = c.self.inside.ids.ok.0 in
    let kept : map.len (snapshots_of c.make_room.new.ids.items c.make_room.new.numbers.items) ≡ map.len (snapshots_of c.self.inside.ids.items c.self.inside.numbers.items) = λ i. map.len (snapshots_of (c.make_room.ensures.same_ids i) (c.make_room.ensures.same_numbers i)) in
    let seen = ap (λ (v : VersionsState). map.len v.snapshots) c.self.view_is in
    let other : ◌≢◌ (map.len c.args.self.now.snapshots) 64 = λ e. c.if-len-eq-SNAPSHOT_LIMIT.false (omega (arith, c.len.ensures)) in
    let same : map.len (snapshots_of c.make_room.new.ids.items c.make_room.new.numbers.items) ≡ map.len c.args.self.now.snapshots = kept ∙ seen in
    is_ready c.make_room.result _ (on_ok_min c.make_room.result _ _ _ c.make_room.ensures.room) (omega (arith, c.self.invariant.few)) c.if-self-gt-NUMBER_LIMIT.false

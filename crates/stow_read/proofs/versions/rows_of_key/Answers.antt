use Rattle.std.proofs.Common.{◌++◌, ◌∷◌, [], map, ap, ◌∙◌, sym, subst, arith}
use Rattle.std.proofs.lemmas.List.{map-append}
use Rattle.stow_tree_model.specs.Version.{version_of}
use Rattle.stow_tree_model.specs.VersionBuf.{version_of_buf}
use Rattle.stow_read.proofs.OwnRows.{IsTaking, taking_first, taking_on, taken_all, taken_until}
use Rattle.stow_read.proofs.versions.rows_of_key.Goals as goal

pub loop-at-init : goal.loop-at-init
loop-at-init g c = subst (λ items. IsTaking c.args.key.bytes.now c.args.rows.now c.count_up_to-at.result (map version_of_buf items)) (sym c.new-versions.ensures.items) (taking_first c.args.key.bytes.now c.args.rows.now c.count_up_to-at.result c.len-len.ensures.versions c.count_up_to-at.ensures)

pub returns-then-not-is_same : goal.returns-then-not-is_same
returns-then-not-is_same g c = taken_until c.args.key.bytes.now c.args.rows.now c.loop-at.at (version_of c.get-version.result) (map version_of_buf c.loop-at.versions.items) c.len-len.ensures.rise c.get-version.ensures.version (sym c.is_same.ensures ∙ c.if-not-is_same.true) c.loop-at.invariant

pub loop-at-preserved : goal.loop-at-preserved
loop-at-preserved g c =
    taking_on c.args.key.bytes.now c.args.rows.now c.loop-at.at (version_of c.get-version.result) (map version_of_buf c.loop-at.versions.items) (map version_of_buf c.push.new.self.items) c.get-version.ensures.version (sym c.is_same.ensures ∙ c.if-not-is_same.false) c.loop-at.invariant
    (ap (map version_of_buf) c.in_ok-push.ensures.items ∙ map-append version_of_buf c.loop-at.versions.items (c.in_ok-copy.copy ∷ []) ∙ ap (λ v. map version_of_buf c.loop-at.versions.items ++ v ∷ []) c.in_ok-copy.ensures)

pub returns : goal.returns
returns g c = taken_all c.args.key.bytes.now c.args.rows.now c.loop-at.at (map version_of_buf c.loop-at.versions.items) (let l = c.loop-at-test.false in let n = c.len-len.ensures.len in omega (arith, n)) c.loop-at.invariant

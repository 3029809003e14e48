use Rattle.std.proofs.Common.{◌≡◌, false, None, List, [], ◌∷◌, ◌++◌, reverse, take, length, get_or, subst, sym, ap, ◌∙◌, arith, ◌+◌, ◌<◌, ◌≤◌, map, take_all}
use Rattle.std.specs.Prelude.{if◌then◌else◌, ◌&&◌, ◌||◌, is_some, slice_get}
use Rattle.std.proofs.Math.ListN.{get_or-map}
use Rattle.std.proofs.lemmas.Grind.{common_steps}
use Rattle.std.proofs.lemmas.List.{take-map, length-map}
use Rattle.stow_tree_model.specs.Merged.{trimmed, kept, begins_with, is_kept, version_at}
use Rattle.stow_tree_model.specs.Operations.{outcome}
use Rattle.stow_tree_model.specs.Pin.{pins_of}
use Rattle.stow_tree_model.specs.TreeMessage.{TreeMessage, message_of}
use Rattle.stow_tree_model.specs.VersionBuf.{version_of_buf}
use Rattle.stow_tree_model.proofs.Folds.{Folded, fold_none, loop_step, slice_past}
use Rattle.stow_tree_model.proofs.plain.merging.prune.Goals as goal
use Rattle.stow_tree_model.proofs.plain.merging.prune.Goals.{then-follows, else-follows, then-follows-2, else-follows-2, then-is_kept+then-has, then-is_kept+else-has, else-is_kept, then-is_kept-2, else-is_kept-2}

pub loop-i-init : goal.loop-i-init
loop-i-init g c = subst (λ vs. Folded (pins_of c.args.pins.now) (slice_get (map message_of c.args.joined.now) 0) [] None false (map version_of_buf vs)) (sym c.new-versions.ensures.items) (fold_none (pins_of c.args.pins.now) (slice_get (map message_of c.args.joined.now) 0))

pub loop-i-preserved : goal.loop-i-preserved
loop-i-preserved g c =
    let joined : List TreeMessage = map message_of c.args.joined.now in
    let i = c.loop-i.i in
    let m = message_of c.index-joined-i.result in
    let pins = pins_of c.args.pins.now in
    let done : List TreeMessage = reverse (take i joined) in
    let begun : c.ends_in-follows.result ≡ begins_with m.key done = c.ends_in-follows.ensures ∙ ap (λ (ms : List TreeMessage). begins_with m.key (reverse ms)) (sym (take-map message_of i c.args.joined.now)) in
    let before : c.if-follows.before ≡ (if c.ends_in-follows.result then c.loop-i.value else None) = elim c.if-follows.branch [ then-follows w ↦ grind (arith, common_steps) | else-follows w ↦ grind (arith, common_steps) ] in
    let has : c.if-follows-2.has ≡ (c.ends_in-follows.result && c.loop-i.has_older) = elim c.if-follows-2.branch [ then-follows-2 w ↦ grind (arith, common_steps) | else-follows-2 w ↦ grind (arith, common_steps) ] in
    let added : c.if-is_kept.is_added ≡ (c.keeps-is_kept.result && (c.if-follows-2.has || is_some c.in_ok-value.value)) = elim c.if-is_kept.branch [ then-is_kept+then-has w ↦ grind (arith, common_steps) | then-is_kept+else-has w ↦ grind (arith, common_steps) | else-is_kept w ↦ grind (arith, common_steps) ] in
    let more : c.if-is_kept-2.has_older ≡ (c.keeps-is_kept.result || c.if-follows-2.has) = elim c.if-is_kept-2.branch [ then-is_kept-2 w ↦ grind (arith, common_steps) | else-is_kept-2 w ↦ grind (arith, common_steps) ] in
    let in_range : i < length joined = subst (λ n. i < n) (sym (length-map c.args.joined.now message_of)) c.loop-i-test.true in
    let here : m ≡ get_or joined i m = ap message_of c.index-joined-i.is ∙ sym (get_or-map message_of c.args.joined.now i c.index-joined-i.result) in
    let step = loop_step joined i pins m c.loop-i.value c.in_ok-value.value c.loop-i.has_older c.if-follows-2.has c.keeps-is_kept.result (map version_of_buf c.loop-i.versions.items) (map version_of_buf c.add.new.versions.items)
    c.requires in_range here c.loop-i.invariant
    (c.in_ok-value.ensures ∙ ap (outcome m.op) before ∙ ap (λ b. outcome m.op (if b then c.loop-i.value else None)) begun)
    (has ∙ ap (λ b. b && c.loop-i.has_older) begun)
    (c.keeps-is_kept.ensures ∙ ap (λ n. is_kept pins n m) c.nth.ensures)
    (c.in_ok-add.ensures ∙ ap (λ b. if b then map version_of_buf c.loop-i.versions.items ++ version_at m c.in_ok-value.value ∷ [] else map version_of_buf c.loop-i.versions.items) added) in
    subst (λ b. Folded pins (slice_get joined (i + 1)) (reverse (take (i + 1) joined)) c.in_ok-value.value b (map version_of_buf c.add.new.versions.items)) (sym more) step

pub returns : goal.returns
returns g c =
    let joined : List TreeMessage = map message_of c.args.joined.now in
    let pins = pins_of c.args.pins.now in
    let past : length joined ≤ c.loop-i.i = subst (λ n. n ≤ c.loop-i.i) (sym (length-map c.args.joined.now message_of)) c.loop-i-test.false in
    let all : take c.loop-i.i joined ≡ joined = take_all c.loop-i.i joined past in
    let none : slice_get joined c.loop-i.i ≡ None = slice_past joined c.loop-i.i past in
    subst (λ n. map version_of_buf c.loop-i.versions.items ≡ reverse (trimmed (kept pins n (reverse joined)))) none
    (subst (λ (ms : List TreeMessage). map version_of_buf c.loop-i.versions.items ≡ reverse (trimmed (kept pins (slice_get joined c.loop-i.i) (reverse ms)))) all c.loop-i.invariant.versions_are)

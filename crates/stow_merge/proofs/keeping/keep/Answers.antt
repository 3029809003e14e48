use Rattle.std.proofs.Common.{◌≡◌, false, None, Some, List, [], ◌∷◌, ◌++◌, reverse, take, length, get_or, subst, sym, ap, ◌∙◌, refl, arith, ◌+◌, ◌<◌, ◌≤◌, map, take_all}
use Rattle.std.specs.Prelude.{if◌then◌else◌, ◌&&◌, ◌||◌, is_some, slice_get}
use Rattle.std.proofs.Math.ListN.{get_or-map}
use Rattle.std.proofs.lemmas.Grind.{common_steps}
use Rattle.std.proofs.lemmas.List.{length-map}
use Rattle.std.proofs.lemmas.Option.{slice_get-get_or}
use Rattle.stow_page.specs.StowTreeModel.Merged.{trimmed, kept, begins_with, is_kept, version_at}
use Rattle.stow_page.specs.StowTreeModel.Operations.{outcome}
use Rattle.stow_page.specs.StowTreeModel.TreeMessage.{TreeMessage, message_of}
use Rattle.stow_page.proofs.StowTreeModel.Folds.{Folded, fold_none, one_more, loop_step, slice_past}
use Rattle.stow_merge.specs.KeptVersion.{value_between, kept_version, is_of_key}
use Rattle.stow_merge.specs.Pins.{pins_in}
use Rattle.stow_merge.proofs.Pieces.{IsBehind, behind_none, behind_after, behind_if, value_if, value_more, is_some-value, map_if}
use Rattle.stow_merge.proofs.keeping.keep.Goals as goal
use Rattle.stow_merge.proofs.keeping.keep.Goals.{then-follows, else-follows, then-follows-2, else-follows-2, then-is_kept+then-has, then-is_kept+else-has, else-is_kept, then-is_kept-2, else-is_kept-2}

pub loop-i-init : goal.loop-i-init
loop-i-init g c = (subst (λ vs. Folded (pins_in c.args.pins.now) (slice_get (map message_of c.args.joined.now) 0) [] None false (map (kept_version (map message_of c.args.joined.now)) vs)) (sym c.in_ok-kept.ensures.items) (fold_none (pins_in c.args.pins.now) (slice_get (map message_of c.args.joined.now) 0)), behind_none 0, λ m e. refl)

pub loop-i-preserved : goal.loop-i-preserved
loop-i-preserved g c =
    let joined : List TreeMessage = map message_of c.args.joined.now in
    let i = c.loop-i.i in
    let m = message_of c.index-joined-i.result in
    let pins = pins_in c.args.pins.now in
    let done : List TreeMessage = reverse (take i joined) in
    let start = c.loop-i.start in
    let before : c.if-follows.before ≡ (if c.loop-i.follows then start else None) = elim c.if-follows.branch [ then-follows w ↦ grind (arith, common_steps) | else-follows w ↦ grind (arith, common_steps) ] in
    let has : c.if-follows-2.has ≡ (c.loop-i.follows && c.loop-i.has_older) = elim c.if-follows-2.branch [ then-follows-2 w ↦ grind (arith, common_steps) | else-follows-2 w ↦ grind (arith, common_steps) ] in
    let added : c.if-is_kept.is_added ≡ (c.keeps-is_kept.result && (c.if-follows-2.has || is_some c.after-start.result)) = elim c.if-is_kept.branch [ then-is_kept+then-has w ↦ grind (arith, common_steps) | then-is_kept+else-has w ↦ grind (arith, common_steps) | else-is_kept w ↦ grind (arith, common_steps) ] in
    let more : c.if-is_kept-2.has_older ≡ (c.keeps-is_kept.result || c.if-follows-2.has) = elim c.if-is_kept-2.branch [ then-is_kept-2 w ↦ grind (arith, common_steps) | else-is_kept-2 w ↦ grind (arith, common_steps) ] in
    let in_range : i < length joined = subst (λ n. i < n) (sym (length-map c.args.joined.now message_of)) c.loop-i-test.true in
    let here : m ≡ get_or joined i m = ap message_of c.index-joined-i.is ∙ sym (get_or-map message_of c.args.joined.now i c.index-joined-i.result) in
    let begun : c.loop-i.follows ≡ begins_with m.key done = c.loop-i.invariant.2 m (slice_get-get_or joined i m in_range ∙ ap (λ x. Some x) (sym here)) in
    let behind : IsBehind c.if-follows.before i = subst (λ b. IsBehind b i) (sym before) (behind_if c.loop-i.follows start i c.loop-i.invariant.1) in
    let value : value_between joined c.after-start.result (i + 1) ≡ outcome m.op (if begins_with m.key done then value_between joined start i else None) =
    ap (λ s. value_between joined s (i + 1)) c.after-start.ensures
    ∙ value_more joined i m c.if-follows.before behind in_range here m.op refl
    ∙ ap (λ b. outcome m.op (value_between joined b i)) before
    ∙ ap (outcome m.op) (value_if joined c.loop-i.follows start i)
    ∙ ap (λ b. outcome m.op (if b then value_between joined start i else None)) begun in
    let step = loop_step joined i pins m (value_between joined start i) (value_between joined c.after-start.result (i + 1)) c.loop-i.has_older c.if-follows-2.has c.keeps-is_kept.result (map (kept_version joined) c.loop-i.kept.items) (map (kept_version joined) c.add.new.kept.items)
    c.requires in_range here c.loop-i.invariant.0
    value
    (has ∙ ap (λ b. b && c.loop-i.has_older) begun)
    (c.keeps-is_kept.ensures ∙ ap (λ n. is_kept pins n m) c.nth-newer.ensures)
    (ap (map (kept_version joined)) c.in_ok-add.ensures
    ∙ map_if joined c.if-is_kept.is_added c.loop-i.kept.items _
    ∙ ap (λ b. if b then map (kept_version joined) c.loop-i.kept.items ++ version_at m (value_between joined c.after-start.result (i + 1)) ∷ [] else map (kept_version joined) c.loop-i.kept.items)
    (added ∙ ap (λ b. c.keeps-is_kept.result && (c.if-follows-2.has || b)) (is_some-value joined c.after-start.result (i + 1)))) in (
      subst (λ b. Folded pins (slice_get joined (i + 1)) (reverse (take (i + 1) joined)) (value_between joined c.after-start.result (i + 1)) b (map (kept_version joined) c.add.new.kept.items)) (sym more) step,
      subst (λ s. IsBehind s (i + 1)) (sym c.after-start.ensures) (behind_after i m.op c.if-follows.before behind),
      λ newer e. c.is_of_key-is_followed.ensures ∙ ap (is_of_key m.key) (c.nth-newer.ensures ∙ e) ∙ sym (ap (begins_with newer.key) (one_more joined i m in_range here)),
    )

pub returns : goal.returns
returns g c =
    let joined : List TreeMessage = map message_of c.args.joined.now in
    let pins = pins_in c.args.pins.now in
    let past : length joined ≤ c.loop-i.i = subst (λ n. n ≤ c.loop-i.i) (sym (length-map c.args.joined.now message_of)) c.loop-i-test.false in
    let all : take c.loop-i.i joined ≡ joined = take_all c.loop-i.i joined past in
    let none : slice_get joined c.loop-i.i ≡ None = slice_past joined c.loop-i.i past in
    subst (λ n. map (kept_version joined) c.loop-i.kept.items ≡ reverse (trimmed (kept pins n (reverse joined)))) none
    (subst (λ (ms : List TreeMessage). map (kept_version joined) c.loop-i.kept.items ≡ reverse (trimmed (kept pins (slice_get joined c.loop-i.i) (reverse ms)))) all c.loop-i.invariant.0.versions_are)

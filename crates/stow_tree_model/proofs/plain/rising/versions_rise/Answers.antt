use Rattle.std.proofs.Common.{◌≡◌, ◌∙◌, ◌-◌, true, false, refl, length, get_or, sym, ap, arith, map}
use Rattle.std.proofs.lemmas.List.{length-map}
use Rattle.std.proofs.Math.ListN.{get_or-map}
use Rattle.std.proofs.lemmas.Grind.{common_steps}
use Rattle.std.specs.declared.cmp.Ordering.TheVariants.{Less}
use Rattle.stow_tree_model.specs.Order.{place_cmp, place_of, version_place}
use Rattle.stow_tree_model.specs.Version.{version_of}
use Rattle.stow_tree_model.proofs.Rising.{rises_by_steps, less_from, steps_more, step_of_rises, not_less, place_there}
use Rattle.stow_tree_model.proofs.plain.rising.versions_rise.Goals as goal

pub loop-i-preserved : goal.loop-i-preserved
loop-i-preserved c =
    let xs = map version_of c.args.versions.now in
    let i = c.loop-i.i in
    let first = version_of c.index-versions-i.result in
    let second = version_of c.index-versions-i-in-loop-i.result in
    let from_one = c.loop-i.auto.i in
    let below = c.loop-i-test.true in
    let same_length : length (map version_place xs) ≡ length c.args.versions.now = length-map xs version_place ∙ length-map c.args.versions.now version_of in
    let at_first : version_place first ≡ get_or (map version_place xs) (i - 1) (version_place first) = place_there version_place xs (i - 1) first (ap version_of c.index-versions-i.is ∙ sym (get_or-map version_of c.args.versions.now (i - 1) c.index-versions-i.result)) in
    let at_second : version_place second ≡ get_or (map version_place xs) i (version_place second) = place_there version_place xs i second (ap version_of c.index-versions-i-in-loop-i.is ∙ sym (get_or-map version_of c.args.versions.now i c.index-versions-i-in-loop-i.result)) in
    let is_less : c.is_lt.result ≡ true = grind (arith, common_steps) in
    let less : place_cmp (version_place first) (version_place second) ≡ Less = (λ k. place_cmp (place_of (sym c.row_as_message-before.ensures k)) (place_of (sym c.row_as_message.ensures k))) ∙ sym c.compare.ensures ∙ less_from c.compare.result (sym c.is_lt.ensures ∙ is_less) in
    steps_more (map version_place xs) (i - 1) i (version_place first) (version_place second) (omega arith) (omega arith) at_first at_second less c.loop-i.invariant

pub returns : goal.returns
returns c =
    let xs = map version_of c.args.versions.now in
    let past = c.loop-i-test.false in
    let same_length : length (map version_place xs) ≡ length c.args.versions.now = length-map xs version_place ∙ length-map c.args.versions.now version_of in
    ((λ _. rises_by_steps (map version_place xs) c.loop-i.i (omega arith) c.loop-i.invariant), (λ _. refl))

pub returns-then-not-is_lt : goal.returns-then-not-is_lt
returns-then-not-is_lt c =
    let xs = map version_of c.args.versions.now in
    let i = c.loop-i.i in
    let first = version_of c.index-versions-i.result in
    let second = version_of c.index-versions-i-in-loop-i.result in
    let from_one = c.loop-i.auto.i in
    let below = c.loop-i-test.true in
    let same_length : length (map version_place xs) ≡ length c.args.versions.now = length-map xs version_place ∙ length-map c.args.versions.now version_of in
    let at_first : version_place first ≡ get_or (map version_place xs) (i - 1) (version_place first) = place_there version_place xs (i - 1) first (ap version_of c.index-versions-i.is ∙ sym (get_or-map version_of c.args.versions.now (i - 1) c.index-versions-i.result)) in
    let at_second : version_place second ≡ get_or (map version_place xs) i (version_place second) = place_there version_place xs i second (ap version_of c.index-versions-i-in-loop-i.is ∙ sym (get_or-map version_of c.args.versions.now i c.index-versions-i-in-loop-i.result)) in
    let is_not : c.is_lt.result ≡ false = grind (arith, common_steps) in
    let same : place_cmp (version_place first) (version_place second) ≡ c.compare.result = (λ k. place_cmp (place_of (sym c.row_as_message-before.ensures k)) (place_of (sym c.row_as_message.ensures k))) ∙ sym c.compare.ensures in (
      (λ e. let z : false ≡ true = e in absurd (cc)),
      (λ rises. absurd (not_less c.compare.result (sym c.is_lt.ensures ∙ is_not) (sym same ∙ step_of_rises (map version_place xs) (i - 1) i (version_place first) (version_place second) (omega arith) (omega arith) at_first at_second rises))),
    )

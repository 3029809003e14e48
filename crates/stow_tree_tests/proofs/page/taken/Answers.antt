use Rattle.std.proofs.Common.{◌++◌, List, take, drop, sym, subst}
use Rattle.std.proofs.lemmas.List.{take-append-drop}
use Rattle.stow_merge.proofs.KeyLemmas.{rises_after, rises_front}
use Rattle.stow_tree_model.specs.Order.{VersionsRise}
use Rattle.stow_tree_model.specs.Version.{Version}
use Rattle.stow_tree_tests.proofs.page.taken.Goals as goal

pub push_rows-requires-clause-rise : goal.push_rows-requires-clause-rise
push_rows-requires-clause-rise g c =
    let all = c.args.packed.now in let to = c.len-to.result in let from = c.args.from in
    let front : VersionsRise (take to all) = rises_front (take to all) (drop to all) (subst VersionsRise (sym (take-append-drop to all)) c.len-to.ensures.rise) in
    let last : VersionsRise (drop from (take to all)) = rises_after (take from (take to all)) (drop from (take to all)) (subst VersionsRise (sym (take-append-drop from (take to all))) front) in
    subst (λ (into : List Version). VersionsRise (into ++ drop from (take to all))) (sym c.in_ok-into.ensures) last

use Rattle.std.proofs.Common.{◌≡◌, ◌∙◌, ◌≤◌, List, ℕ, Option, length, drop, take, map, ap, sym, subst, Some}
use Rattle.stow_page.specs.StowBytes.Limits.{value_limit}
use Rattle.stow_page.specs.StowTreeModel.TreeMessage.{message_of}
use Rattle.stow_merge.specs.KeptVersion.{bytes_between, value_between}
use Rattle.stow_merge.proofs.WritingLemmas.{between_bytes}
use Rattle.stow_merge.proofs.fitting.is_short.Goals as goal

pub returns-in-Some : goal.returns-in-Some
returns-in-Some g c =
    let items = c.args.survey.now.joined.items in
    let from = c.in-Some.from in
    let to = c.args.version.to in
    let value : List ℕ = bytes_between (map message_of items) from to in
    let part = between_bytes items c.between.result.now from to (c.between.ensures ∙ ap (λ xs. drop from (take to xs)) c.as_slice.ensures.value) in
    let whole : value_between (map message_of items) c.args.version.from to ≡ Some value = ap (λ f. value_between (map message_of items) f to) c.in-Some.is in (
      (λ t. record {
        is_short = λ bytes e.
            let same : value ≡ bytes = (let z : ◌≡◌ {A = Option (List ℕ)} (Some value) (Some bytes) = sym whole ∙ e in cc) in
            subst (λ (b : List ℕ). length b ≤ value_limit) (part ∙ same) (c.carry_a_value.ensures.0 t);
      }),
      λ v. c.carry_a_value.ensures.1 (subst (λ (b : List ℕ). length b ≤ value_limit) (sym part) (v.is_short value whole)),
    )

use Rattle.std.proofs.Common.{◌≡◌, ◌≢◌, ◌∙◌, refl, sym, ap, false}
use Rattle.std.specs.Prelude.{not}
use Rattle.std.specs.Ordering.{is_eq}
use Rattle.std.specs.Cmp.{tied_itself}
use Rattle.std.proofs.lemmas.Bool.{true≢false}
use Rattle.stow_message.proofs.RisingLists.{was_false}
use Rattle.stow_page.specs.StowTreeModel.Order.{place_cmp, place_of, version_place}
use Rattle.stow_page.specs.StowTreeModel.TreeMessage.{message_of}
use Rattle.stow_page.specs.StowTreeModel.Version.{version_of}
use Rattle.stow_page.proofs.StowTreeModel.Orders.{place_total}
use Rattle.stow_merge.proofs.Places.{new_by_none, new_by_last, new_is_elsewhere}
use Rattle.stow_merge.proofs.fitting.is_new.Goals as goal

pub returns-then-count-eq0 : goal.returns-then-count-eq0
returns-then-count-eq0 g c =
    (λ _. new_by_none c.args.rows.now (message_of c.args.message) c.count_up_to-count.result c.count_up_to-count.ensures c.if-count-eq0.true, λ _. refl)

pub returns : goal.returns
returns g c =
    let rows = c.args.rows.now in
    let m = message_of c.args.message in
    let last = version_of c.get.result in
    let told : c.is_eq.result ≡ is_eq (place_cmp (version_place last) (place_of m)) = c.is_eq.ensures ∙ ap is_eq c.compare.ensures in (
      λ t.
          let other : is_eq (place_cmp (version_place last) (place_of m)) ≡ false = sym told ∙ was_false c.is_eq.result t in
          let elsewhere : version_place last ≢ place_of m = λ e. true≢false (sym (ap (λ p. is_eq (place_cmp p (place_of m))) e ∙ ap is_eq (tied_itself place_total (place_of m))) ∙ other) in
          new_by_last rows m c.count_up_to-count.result last c.get.ensures.rise c.count_up_to-count.ensures c.if-count-eq0.false c.get.ensures.version elsewhere,
      λ new. ap not (told ∙ new_is_elsewhere rows m _ last c.get.ensures.version new),
    )

use Rattle.std.proofs.Common.{◌∙◌, ◌++◌, ◌∷◌, [], sym, subst}
use Rattle.stow_merge.specs.Pages.{ArePagesOf}
use Rattle.stow_merge.proofs.PagedLemmas.{alone_page}
use Rattle.stow_merge.proofs.merging.one_page.Goals as goal

pub returns : goal.returns
returns g c =
    subst (ArePagesOf c.args.block.now c.args.target) (sym (c.in_ok-push.ensures.items ∙ (λ i. c.new-pages.ensures.items i ++ (c.in_ok-new.ensures ∙ c.in_ok-exact.ensures) i ∷ []))) (alone_page c.args.target c.args.block.now c.requires)

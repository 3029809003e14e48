use Rattle.std.proofs.Common.{refl, ◌∙◌, ap, option_map}
use Rattle.stow_leaf_cache.proofs.Held.{used-cache, none-rows_under, first-rows_under}
use Rattle.stow_leaf_cache.proofs.leaf_cache.LeafCache.find.Goals as goal

pub returns-then-not-promote : goal.returns-then-not-promote
returns-then-not-promote g c = (
  (refl, λ _. tt, used-cache _ _ _ _ c.self.view_is _ c.promote.ensures.entries),
  record { after = tt; rows = none-rows_under _ c.self.inside.leaves _ _ c.self.view_is _ c.promote.ensures.value c.if-not-promote.true },
)

pub returns-in_err-rows : goal.returns-in_err-rows
returns-in_err-rows g c =
    let first = first-rows_under _ _ _ _ c.self.view_is _ c.promote.ensures.entries _ _ _ c.in_err-rows.was c.peek_mru.ensures c.promote.ensures.value c.if-not-promote.false in (
      (refl, λ _. tt, used-cache _ _ _ _ c.self.view_is _ c.promote.ensures.entries),
      record { after = tt; rows = ap (option_map (λ r. r.now)) c.from_residual.ensures ∙ first },
    )

pub returns : goal.returns
returns g c = (
  (refl, λ _. tt, used-cache _ _ _ _ c.self.view_is _ c.promote.ensures.entries),
  record { after = tt; rows = first-rows_under _ _ _ _ c.self.view_is _ c.promote.ensures.entries _ _ _ c.in_ok-rows.was c.peek_mru.ensures c.promote.ensures.value c.if-not-promote.false },
)

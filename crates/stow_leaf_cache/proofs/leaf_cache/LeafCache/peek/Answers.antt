use Rattle.std.proofs.Common.{sym, ◌∙◌, ap}
use Rattle.stow_leaf_cache.specs.Cache.{rows_under}
use Rattle.stow_leaf_cache.proofs.Held.{rows_under-map}
use Rattle.stow_leaf_cache.proofs.leaf_cache.LeafCache.peek.Goals as goal

pub returns : goal.returns
returns g c =
    c.peek.ensures ∙ sym (rows_under-map c.args.low_fence.now c.self.inside.leaves.entries) ∙ ap (λ cache. rows_under c.args.low_fence.now cache.leaves) c.self.view_is

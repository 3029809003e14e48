use Rattle.std.proofs.Common.{sym, ◌∙◌, ap}
use Rattle.stow_leaf_cache.specs.Cache.{leaves_without, leaves_of}
use Rattle.stow_leaf_cache.proofs.Held.{leaves_without-map, gone-rows_under}
use Rattle.stow_leaf_cache.proofs.leaf_cache.LeafCache.forget.Goals as goal

pub returns-clause-leaves : goal.returns-clause-leaves
returns-clause-leaves g c =
    ap leaves_of c.pop-rows.ensures.entries ∙ sym (leaves_without-map c.args.low_fence.now c.self.inside.leaves.entries)
    ∙ ap (λ cache. leaves_without c.args.low_fence.now cache.leaves) c.self.view_is

pub returns-clause-gone : goal.returns-clause-gone
returns-clause-gone g c = gone-rows_under c.args.low_fence.now c.self.inside.leaves c.pop-rows.new.self _ c.len-known.ensures.valid.0 c.pop-rows.ensures.entries

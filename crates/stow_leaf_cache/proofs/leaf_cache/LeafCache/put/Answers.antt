use Rattle.std.proofs.Common.{◌≤◌, sym, ◌∙◌, ap, subst, inl, inr}
use Rattle.std.proofs.lemmas.Bool.{true≢false}
use Rattle.stow_leaf_cache.specs.Cache.{IsOffered, leaves_of, leaves_kept}
use Rattle.stow_leaf_cache.proofs.Held.{kept-put, nothing-under, limited}
use Rattle.stow_leaf_cache.proofs.leaf_cache.LeafCache.put.Goals as goal

pub returns-in-Ok-clause-leaves : goal.returns-in-Ok-clause-leaves
returns-in-Ok-clause-leaves g c =
    let some : 1 ≤ c.self.inside.limit = subst (λ cache. 1 ≤ cache.limit) (sym c.self.view_is) c.requires in
    let cap = limited c.self.inside.limit c.self.inside.leaves some c.self.invariant in
    let valid = c.len-known.ensures.valid in
    subst (λ cache. IsOffered cache c.args.key.items c.args.rows (leaves_of c.put.new.self)) c.self.view_is
    (inl (ap leaves_of c.in-Ok.ensures.entries ∙ kept-put c.self.inside.leaves.cap c.args.key c.args.rows c.self.inside.leaves.entries valid.1 valid.2
    ∙ ap (λ limit. leaves_kept limit c.args.key.items c.args.rows (leaves_of c.self.inside.leaves)) cap))

pub returns-clause-leaves : goal.returns-clause-leaves
returns-clause-leaves g c =
    subst (λ cache. IsOffered cache c.args.key.items c.args.rows (leaves_of c.put.new.self)) c.self.view_is
    (inr (ap leaves_of c.in-Err.ensures.err ∙ nothing-under c.args.key.items c.self.inside.leaves.entries (λ some. true≢false (sym (c.in-Err.ensures.succeeds some)))))

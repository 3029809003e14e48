use Rattle.std.proofs.Common.{◌≡◌, take, sym, ◌∙◌, ap, arith}
use Rattle.std.proofs.lemmas.List.{take-map}
use Rattle.std.specs.NonZero.{non_zero_usize_get}
use Rattle.lru.specs.LruCache.{lru_cache}
use Rattle.stow_leaf_cache.specs.Cache.{leaves_of, leaf_of}
use Rattle.stow_leaf_cache.proofs.leaf_cache.LeafCache.resize.Goals as goal

pub returns-clause-ok : goal.returns-clause-ok
returns-clause-ok g c =
    let some = c.if-limit-eq0.false in
    let room : non_zero_usize_get c.room_for.result ≡ c.args.limit = c.room_for.ensures ∙ omega arith in
    let same = ap leaves_of c.resize.ensures ∙ ap (λ n. leaves_of (lru_cache (take n c.self.inside.leaves.entries) n)) room
    ∙ sym (take-map leaf_of c.args.limit c.self.inside.leaves.entries) ∙ ap (λ cache. take c.args.limit cache.leaves) c.self.view_is in
    λ i. record { leaves = same i; limit = c.args.limit }

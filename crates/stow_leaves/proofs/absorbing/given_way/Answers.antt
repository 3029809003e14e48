use Rattle.std.proofs.Common.{List, [], ◌∷◌, ◌++◌, length, map, ap, ◌∙◌}
use Rattle.stow_leaf.specs.LeafRows.{leaf_rows}
use Rattle.stow_leaf.specs.declared.leaf.Leaf.{Leaf}
use Rattle.stow_leaf.specs.StowMerge.Pins.{pins_in}
use Rattle.stow_leaf.specs.StowMessage.Rising.{in_range}
use Rattle.stow_leaves.proofs.Forgotten.{forgets_nothing}
use Rattle.stow_leaves.proofs.GivenWay.{forgets_alone}
use Rattle.stow_leaves.proofs.Replaced.{can_take}
use Rattle.stow_leaves.proofs.absorbing.given_way.Goals as goal

pub returns-then-len-eq0-clause-cache : goal.returns-then-len-eq0-clause-cache
returns-then-len-eq0-clause-cache g c =
    forgets_nothing (leaf_rows c.args.leaf ∷ []) (map leaf_rows c.push.new.self.items) c.args.cache.now
    (ap (map leaf_rows) (c.in_ok-push.ensures.items ∙ ap (λ (l : List (Leaf g.row.A.Denot)). l ++ c.args.leaf ∷ []) c.new-same.ensures.items))

pub replacement-requires : goal.replacement-requires
replacement-requires g c =
    can_take (leaf_rows c.args.leaf) c.args.high.bytes.now c.args.buffer.now.messages (pins_in c.args.pins.now) c.args.target c.requires
    (λ none. c.if-len-eq0.false (c.len.ensures ∙ ap length (c.in_range.ensures.messages ∙ ap (λ low. in_range low c.args.high.bytes.now c.args.buffer.now.messages) c.as_key.ensures ∙ none)))

pub returns-clause-cache : goal.returns-clause-cache
returns-clause-cache g c =
    forgets_alone (leaf_rows c.args.leaf) (map leaf_rows c.in_ok-others.others.items) c.as_key-2.result.bytes.now c.args.cache.now c.forget.new.self
    c.as_key-2.ensures c.forget.ensures.limit c.forget.ensures.leaves c.forget.ensures.gone

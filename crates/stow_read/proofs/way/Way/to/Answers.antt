use Rattle.std.proofs.Common.{[], ◌∷◌, ◌++◌, map, false, ap, ◌∙◌, sym, subst}
use Rattle.stow_node.specs.StowLeaf.Intervals.{spans}
use Rattle.stow_node.proofs.StowLeaf.Intervals.{lt}
use Rattle.stow_tree_model.specs.Merged.{row_message}
use Rattle.stow_tree_model.specs.Messages.{ops_in}
use Rattle.stow_read.specs.NextKey.{IsNextKey}
use Rattle.stow_read.specs.Way.{AreNext, HaveAll, buffers_of, key_in}
use Rattle.stow_read.proofs.Gathered.{all_join}
use Rattle.stow_read.proofs.Ways.{AreOnWay, on_way_first, on_way_on, on_way_end, buffers_more}
use Rattle.stow_read.proofs.way.Way.to.Goals as goal

pub loop-levels-init : goal.loop-levels-init
loop-levels-init g c = record {
  on_way = subst (λ items. AreOnWay c.args.node.now c.args.node.now c.args.key.bytes.now c.top_key-end.result.bytes.now (buffers_of items)) (sym c.new-levels.ensures.items)
      (subst (λ end. AreOnWay c.args.node.now c.args.node.now c.args.key.bytes.now end []) (sym c.top_key-end.ensures) (on_way_first c.args.node.now c.args.key.bytes.now c.requires));
  next = subst (AreNext c.args.key.bytes.now false c.args.to.bytes.now) (sym c.new-levels.ensures.items) tt;
}

pub below_until-below-requires : goal.below_until-below-requires
below_until-below-requires g c = c.loop-levels.invariant.on_way.within

pub returns-in-Leaf : goal.returns-in-Leaf
returns-in-Leaf g c =
    let key = c.args.key.bytes.now in
    let levels = c.loop-levels.levels.items in
    let more = buffers_more levels c.push.new.self.items c.new.result c.loop-levels.here.now.buffer c.in_ok-push.ensures.items (c.new.ensures.buffer ∙ c.buffer.ensures) in
    let end = on_way_end c.args.node.now c.loop-levels.here.now c.in-Leaf.leaf c.children-known.result.now c.below_until-below.result.child.now key c.loop-levels.end.bytes.now c.below_until-below.result.high.bytes.now (buffers_of levels) c.loop-levels.invariant.on_way c.children-known.ensures c.below_until-below.ensures c.in-Leaf.is in
    record {
      inside = ap (lt key) c.lower_key-end.ensures ∙ end.0;
      all = λ other s. subst (λ bs. HaveAll c.args.node.now other bs (ops_in (map row_message c.in-Leaf.leaf.rows) other)) (sym more) (end.1 other (ap (λ e. spans key e other) (sym c.lower_key-end.ensures) ∙ s));
      stands = record {
        levels = subst (AreNext key false c.args.to.bytes.now) (sym c.in_ok-push.ensures.items)
            (all_join (λ level. IsNextKey (ops_in level.buffer.now.messages) key false c.args.to.bytes.now (key_in level.next)) levels (c.new.result ∷ []) c.loop-levels.invariant.next (c.new.ensures.next, tt));
        row = c.next_in_rows-next_row.ensures;
      };
    }

pub loop-levels-smaller : goal.loop-levels-smaller
loop-levels-smaller g c =
    (on_way_on c.args.node.now c.loop-levels.here.now c.in-Node.lower c.children-known.result.now c.below_until-below.result.child.now c.args.key.bytes.now c.loop-levels.end.bytes.now c.below_until-below.result.high.bytes.now (buffers_of c.loop-levels.levels.items) c.loop-levels.invariant.on_way c.children-known.ensures c.below_until-below.ensures c.in-Node.is).0

pub loop-levels-preserved : goal.loop-levels-preserved
loop-levels-preserved g c =
    let key = c.args.key.bytes.now in
    let levels = c.loop-levels.levels.items in
    let more = buffers_more levels c.push.new.self.items c.new.result c.loop-levels.here.now.buffer c.in_ok-push.ensures.items (c.new.ensures.buffer ∙ c.buffer.ensures) in
    record {
      on_way = subst (λ bs. AreOnWay c.args.node.now c.in-Node.lower key c.lower_key-end.result.bytes.now bs) (sym more)
          (subst (λ end. AreOnWay c.args.node.now c.in-Node.lower key end (buffers_of levels ++ c.loop-levels.here.now.buffer ∷ [])) (sym c.lower_key-end.ensures)
          (on_way_on c.args.node.now c.loop-levels.here.now c.in-Node.lower c.children-known.result.now c.below_until-below.result.child.now key c.loop-levels.end.bytes.now c.below_until-below.result.high.bytes.now (buffers_of levels) c.loop-levels.invariant.on_way c.children-known.ensures c.below_until-below.ensures c.in-Node.is).1);
      next = subst (AreNext key false c.args.to.bytes.now) (sym c.in_ok-push.ensures.items)
          (all_join (λ level. IsNextKey (ops_in level.buffer.now.messages) key false c.args.to.bytes.now (key_in level.next)) levels (c.new.result ∷ []) c.loop-levels.invariant.next (c.new.ensures.next, tt));
    }

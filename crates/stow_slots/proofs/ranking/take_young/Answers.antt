use Rattle.std.proofs.Common.{◌≡◌, ℕ, ◌-◌, List, Some, sym, ap, subst, ◌∙◌, arith}
use Rattle.std.specs.Prelude.{slice_get}
use Rattle.std.specs.List.{insert, remove}
use Rattle.std.proofs.lemmas.Option.{slice_get-get_or}
use Rattle.stow_slots.specs.Young.{young_slot, AreRising, HasOneMore, IsRank}
use Rattle.stow_slots.specs.declared.young_slot.YoungSlot.{YoungSlot}
use Rattle.stow_slots.proofs.Merged.{put_back, rank_within, remove_rank}
use Rattle.stow_slots.proofs.ranking.take_young.Goals as goal

-- what is left, and the one that was taken again, are the list
taken : (young left : List YoungSlot) (index rank : ℕ) (y : YoungSlot) → AreRising 0 young → IsRank 0 index young rank → slice_get young rank ≡ Some y → y.behind ≡ index - rank → left ≡ remove young rank → HasOneMore left index y.slot young
taken young left index rank y rise ranked at place is = let w = rank_within 0 index young rank ranked in record {
  rank = rank;
  is_rank = subst (λ ys. IsRank 0 index ys rank) (sym is) (remove_rank 0 index young rank y rise ranked at (omega (arith, place, w.1)));
  are = sym ((λ i. insert (is i) rank (young_slot (sym place i) y.slot)) ∙ put_back young rank y at);
}

some_same : {y z : YoungSlot} → Some y ≡ Some z → y ≡ z
some_same e = cc

pub overflow_sub-index : goal.overflow_sub-index
overflow_sub-index g c = (rank_within 0 c.args.index c.as_slice.result.now c.rank_of-rank.result c.rank_of-rank.ensures).1

pub returns-then-index-rank-clause-taken : goal.returns-then-index-rank-clause-taken
returns-then-index-rank-clause-taken g c =
    let young = c.args.young.now.items in let rank = c.rank_of-rank.result in let y = c.index.result.now in let z = c.remove.result in
    let at : slice_get young rank ≡ Some z = slice_get-get_or young rank z (omega (arith, c.if-rank-len.true, c.len.ensures)) ∙ ap Some (sym c.remove.ensures.value) in
    let seen : slice_get young rank ≡ Some y = slice_get-get_or young rank y (omega (arith, c.if-rank-len.true, c.len.ensures)) ∙ ap Some (sym c.index.ensures) in
    let same : z ≡ y = some_same (sym at ∙ seen) in
    taken young c.remove.new.self.items c.args.index rank z c.requires
    (subst (λ ys. IsRank 0 c.args.index ys rank) c.as_slice.ensures.value c.rank_of-rank.ensures) at
    (ap (λ (x : YoungSlot). x.behind) same ∙ c.if-index-rank.true) c.remove.ensures.items

use Rattle.std.proofs.Common.{rules, ◌≡◌, ◌<◌, ◌+◌, ◌-◌, length, take, [], ◌∷◌, ◌++◌, true, false, inl, inr, ap, sym, ◌∙◌, subst, arith}
use Rattle.std.specs.FinMap as finite
use Rattle.std.specs.List.{list_any}
use Rattle.std.specs.Str.{bytes_eq}
use Rattle.stow_model.specs.LentWords.{words_in}
use Rattle.stow_core.specs.Prepared.{IsChargedWithout}
use Rattle.stow_core.specs.State.{store_of}
use Rattle.stow_core.specs.Taken.{AreTaken}
use Rattle.stow_core.proofs.Deletions.{none_freed, one_more_freed, sized_some, sized_none}
use Rattle.stow_core.proofs.Taking.{taken_none, taken_more, taken_same}
use Rattle.stow_ledger.specs.Shown.{sized_option}
use Rattle.stow_tree_model.specs.Keys.{packed, IsTenantKey}
use Rattle.stow_tree_model.proofs.Packed.{length-packed}
use Rattle.stow_core.proofs.Core.taken.Goals as goal
use Rattle.stow_core.proofs.Core.taken.Goals.{in-Some+then-not-is_among+in_ok-push, in-Some+else-not-is_among, in_default}

pub loop-index-init : goal.loop-index-init
loop-index-init g c =
    let core = c.args.self.now in
    let t = c.args.tenant in
    record {
      taken = subst (AreTaken t (store_of core t).rows []) (sym c.requires.none) (taken_none t (store_of core t).rows);
      charged = subst (λ ks. IsChargedWithout core t ks c.present-charge.result) (sym c.requires.none)
          (none_freed core t c.tenancy.result.now c.tenancy.ensures.own c.tenancy.ensures.sound c.tenancy.ensures.account c.present-charge.result c.present-charge.ensures.present c.present-charge.ensures.within c.present-charge.ensures.given);
    }

pub loop-index-preserved : goal.loop-index-preserved
loop-index-preserved g c =
    let core = c.args.self.now in
    let t = c.args.tenant in
    let rows = (store_of core t).rows in
    let keys = words_in c.args.keys in
    let k = c.get.result.now in
    let taken = c.loop-index.taken in
    let before = c.loop-index.invariant in
    let below : c.loop-index.index < length keys = search rules in
    let buffer : c.sized_row.new.buffer.items ≡ packed t k = c.in_ok-row.ensures.buffer in
    let sized : c.in_ok-row.row.version ≡ sized_option (finite.get rows k) = c.in_ok-row.ensures.row in
    elim c.match-row.branch [
      | in-Some+then-not-is_among+in_ok-push w ↦
          let none : list_any (bytes_eq (packed t k)) taken ≡ false = (λ i. list_any (bytes_eq ((sym buffer ∙ sym w.as_slice.ensures.value) i)) (sym w.lent.ensures i)) ∙ sym w.is_among.ensures ∙ w.if-not-is_among.true in
          let more : c.match-row.taken ≡ taken ++ packed t k ∷ [] = w.taken-is ∙ w.in_ok-push.ensures.ok ∙ ap (λ b. taken ++ b ∷ []) (w.as_slice-then-not-is_among.ensures.value ∙ buffer) in
          let is : sized_option (finite.get rows k) ≡ _ = sym sized ∙ w.in-Some.is in
          let long : w.len.result - 4 ≡ length k = (let l = w.len.ensures in let p = length-packed t k in let b = ap length buffer in omega (arith, l, p, b)) in
          record {
            taken = subst (AreTaken t rows (take (c.loop-index.index + 1) keys)) (sym more)
                (taken_more t rows keys taken c.loop-index.index k below c.get.ensures (subst IsTenantKey buffer c.in_ok-row.ensures.is_key) before.taken (sized_some (finite.get rows k) w.in-Some.version is) none);
            charged = subst (λ ks. IsChargedWithout core t ks c.match-row.charge) (sym more) (subst (IsChargedWithout core t (taken ++ packed t k ∷ [])) (sym w.charge-is)
                (one_more_freed core t taken k (w.len.result - 4) w.in-Some.version c.loop-index.charge w.charge_without-charge.result before.charged w.charge_without-charge.ensures.within w.charge_without-charge.ensures.charged long (sym is) before.taken.own none));
          }
      | in-Some+else-not-is_among w ↦
          let some : list_any (bytes_eq (packed t k)) taken ≡ true = (λ i. list_any (bytes_eq ((sym buffer ∙ sym w.as_slice.ensures.value) i)) (sym w.lent.ensures i)) ∙ sym w.is_among.ensures ∙ w.if-not-is_among.false in
          record {
            taken = subst (AreTaken t rows (take (c.loop-index.index + 1) keys)) (sym w.taken-is) (taken_same t rows keys taken c.loop-index.index k below c.get.ensures before.taken (inr some));
            charged = subst (λ ks. IsChargedWithout core t ks c.match-row.charge) (sym w.taken-is) (subst (IsChargedWithout core t taken) (sym w.charge-is) before.charged);
          }
      | in_default w ↦ record {
        taken = subst (AreTaken t rows (take (c.loop-index.index + 1) keys)) (sym w.taken-is) (taken_same t rows keys taken c.loop-index.index k below c.get.ensures before.taken (inl (sized_none (finite.get rows k) (sym sized ∙ w.in_default.is))));
        charged = subst (λ ks. IsChargedWithout core t ks c.match-row.charge) (sym w.taken-is) (subst (IsChargedWithout core t taken) (sym w.charge-is) before.charged);
      }
    ]

use Rattle.std.proofs.Common.{sym, subst}
use Rattle.stow_core.specs.State.{store_of, Moves}
use Rattle.stow_core.specs.Prepared.{effect_of}
use Rattle.stow_core.proofs.Core.commit.Goals as goal

pub returns-in-Count-clause-own : goal.returns-in-Count-clause-own
returns-in-Count-clause-own g c = λ _.
    subst (λ change. Moves c.args.self.now c.args.prepared.tenant (effect_of change (store_of c.args.self.now c.args.prepared.tenant)) c.count.new.self) (sym c.in-Count.is) c.count.ensures

pub returns-in-Refuse-clause-own : goal.returns-in-Refuse-clause-own
returns-in-Refuse-clause-own g c = λ _.
    subst (λ change. Moves c.args.self.now c.args.prepared.tenant (effect_of change (store_of c.args.self.now c.args.prepared.tenant)) c.refuse.new.self) (sym c.in-Refuse.is) c.refuse.ensures

pub returns-in-Write-clause-own : goal.returns-in-Write-clause-own
returns-in-Write-clause-own g c = λ _.
    subst (λ change. Moves c.args.self.now c.args.prepared.tenant (effect_of change (store_of c.args.self.now c.args.prepared.tenant)) c.put.new.self) (sym c.in-Write.is) c.put.ensures

pub returns-in-Take-clause-own : goal.returns-in-Take-clause-own
returns-in-Take-clause-own g c = λ _.
    subst (λ change. Moves c.args.self.now c.args.prepared.tenant (effect_of change (store_of c.args.self.now c.args.prepared.tenant)) c.take.new.self) (sym c.in-Take.is) c.take.ensures

pub returns-in-Drop-clause-own : goal.returns-in-Drop-clause-own
returns-in-Drop-clause-own g c = λ _.
    subst (λ change. Moves c.args.self.now c.args.prepared.tenant (effect_of change (store_of c.args.self.now c.args.prepared.tenant)) c.drop_snapshot.new.self) (sym c.in-Drop.is) c.drop_snapshot.ensures

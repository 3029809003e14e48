use Rattle.std.proofs.Common.{take, arith}
use Rattle.stow_tree_model.specs.TreeMessage.{message_of}
use Rattle.stow_message.specs.Filter.{IsCovered}
use Rattle.stow_message.proofs.Covered.{covers_more}
use Rattle.stow_message.proofs.Each.{each_next, each_of_all}
use Rattle.stow_message.proofs.marking.mark_run.Goals as goal

pub loop-i-init : goal.loop-i-init
loop-i-init g c = record { covers = tt; stay = λ other h. h }

pub loop-i-preserved : goal.loop-i-preserved
loop-i-preserved g c =
    let l = c.loop-i in
    record {
      covers = each_next (IsCovered c.add.new.self) c.args.run.now l.i (message_of c.get.result) (omega (arith, c.loop-i-test.true, c.len-i-end.ensures)) c.get.ensures c.add.ensures.added
          (covers_more l.filter c.add.new.self (take l.i c.args.run.now) c.add.ensures.stay l.invariant.covers);
      stay = λ other h. c.add.ensures.stay other (l.invariant.stay other h);
    }

pub returns-clause-added : goal.returns-clause-added
returns-clause-added g c = each_of_all (IsCovered c.loop-i.filter) c.args.run.now c.loop-i.i (omega (arith, c.loop-i-test.false, c.len-i-end.ensures)) c.loop-i.invariant.covers

pub returns-clause-stay : goal.returns-clause-stay
returns-clause-stay g c = c.loop-i.invariant.stay

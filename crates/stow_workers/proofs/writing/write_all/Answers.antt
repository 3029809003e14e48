use Rattle.std.proofs.Common.{◌++◌, take, ◌∙◌}
use Rattle.std.proofs.KnownBytes.{Appends-trans}
use Rattle.stow_workers.proofs.Sending.{goes_on}
use Rattle.stow_workers.proofs.writing.write_all.Goals as goal

pub loop-rest-preserved : goal.loop-rest-preserved
loop-rest-preserved g c =
    let (done, split, appended, none, same) = c.loop-rest.invariant in
    let n = c.in-Ok.count in
    (done ++ take n c.loop-rest.rest.now, goes_on _ done c.loop-rest.rest.now n split, Appends-trans _ _ _ _ _ appended c.in-Ok.ensures.bytes, c.in-Ok.ensures.failures.0 c.if-count-gt0.true ∙ none, c.in-Ok.ensures.same_borrow ∙ same)

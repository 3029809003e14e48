use Rattle.std.proofs.Common.{rules, ◌≡◌, [], None, ◌++◌, ◌∙◌, refl, ap, subst, inl, take, arith, append-nil, length-append}
use Rattle.std.proofs.KnownBytes.{Consumes-nil, Consumes-trans, Consumes-kept}
use Rattle.std.specs.Io.KnownBytes.{Consumes}
use Rattle.stow_workers.specs.Failures.{HasFailed}
use Rattle.stow_workers.proofs.Pieces.{begins, goes_on, served_from_here, reader_stays, failed_served, ended_served}
use Rattle.stow_workers.proofs.serving.serve_connection.Goals as goal

pub loop-init : goal.loop-init
loop-init g c =
    let e = c.new-client.ensures in
    ([], Consumes-nil _, omega arith, refl, begins _ _ _ _ _ _ _ e.tenant e.unread e.waiting e.failed, (e.failed, e.waiting), refl, refl, e.rested)

pub returns-in-Some-clause-serves : goal.returns-in-Some-clause-serves
returns-in-Some-clause-serves g c =
    let (read, consumed, counted, same, waits, even, reader, writer, rested) = c.loop.invariant in
    let n = c.in-Ok.count in
    record {
      read = read ++ take n c.read.new.room;
      consumes = Consumes-trans _ _ _ _ _ consumed c.in-Ok.ensures.bytes.0;
      end = (reader_stays c.in-Some.served 0 0 _ _ c.in-Some.ensures.ends refl).1;
      served = served_from_here _ _ _ _ _ _ _ _ (c.in-Some.ensures.serves _ _ read (goes_on _ _ _ _ read _ waits) even);
    }

pub returns-in-Some-clause-reader : goal.returns-in-Some-clause-reader
returns-in-Some-clause-reader g c =
    let (read, consumed, counted, same, waits, even, reader, writer, rested) = c.loop.invariant in
    (reader_stays c.in-Some.served _ _ None [] c.in-Some.ensures.ends (c.in-Ok.ensures.failures ∙ same)).0

pub loop-preserved : goal.loop-preserved
loop-preserved g c =
    let (read, consumed, counted, same, waits, even, reader, writer, rested) = c.loop.invariant in
    let n = c.in-Ok.count in
    let after = c.in_default-serve_piece.ensures.serves _ _ read (goes_on _ _ _ _ read _ waits) even in
    (read ++ take n c.read.new.room, Consumes-trans _ _ _ _ _ consumed c.in-Ok.ensures.bytes.0, omega (arith, length-append read (take n c.read.new.room), c.in-Ok.ensures.bound.1), c.in-Ok.ensures.failures ∙ same, after.0, after.1, c.in-Ok.ensures.same_borrow ∙ reader, c.in_default-serve_piece.ensures.same_borrow ∙ writer, c.in_default-serve_piece.ensures.rests _ _ read (goes_on _ _ _ _ read _ waits))

pub returns-in_default-clause-serves : goal.returns-in_default-clause-serves
returns-in_default-clause-serves g c =
    let (read, consumed, counted, same, waits, even, reader, writer, rested) = c.loop.invariant in
    record {
      read = read;
      consumes = Consumes-kept _ _ _ _ consumed c.in_default.ensures.bytes;
      end = tt;
      served = served_from_here _ _ _ _ _ _ _ _ (failed_served _ _ _ _ read _ waits even);
    }

pub returns-in_default-clause-reader : goal.returns-in_default-clause-reader
returns-in_default-clause-reader g c =
    let (read, consumed, counted, same, waits, even, reader, writer, rested) = c.loop.invariant in
    subst (λ n. HasFailed n (g.R.Source.failures c.read.new.self)) same c.in_default.ensures.failures

pub returns-then-count-eq0-clause-serves : goal.returns-then-count-eq0-clause-serves
returns-then-count-eq0-clause-serves g c =
    let (read, consumed, counted, same, waits, even, reader, writer, rested) = c.loop.invariant in
    let none : read ++ take c.in-Ok.count c.read.new.room ≡ read = ap (λ k. read ++ take k c.read.new.room) c.if-count-eq0.true ∙ append-nil read in
    record {
      read = read;
      consumes = subst (Consumes _ _) none (Consumes-trans _ _ _ _ _ consumed c.in-Ok.ensures.bytes.0);
      end = inl (c.in-Ok.ensures.bytes.1 c.if-count-eq0.true (search rules));
      served = served_from_here _ _ _ _ _ _ _ _ (ended_served _ _ _ _ read _ waits even);
    }

pub serve_piece-requires : goal.serve_piece-requires
serve_piece-requires g c =
    let (read, consumed, counted, same, waits, even, reader, writer, rested) = c.loop.invariant in
    record { rested = rested }

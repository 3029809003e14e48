use Rattle.stow_workers.proofs.pool.fn.serve.scope+FnOnce.call_once.Goals as goal

-- what the closure's types may do in other threads is what it requires, behind that its types live long enough
pub scope-requires : goal.scope-requires
scope-requires g c =
    let t = c.requires.1.1.1.1.0 in
    (t.4, (t.5, (t.0, (t.1, (t.2, (t.3, (t.6, t)))))))

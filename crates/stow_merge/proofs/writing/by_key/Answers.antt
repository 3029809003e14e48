use Rattle.std.proofs.Common.{◌≡◌, ◌∙◌, ◌+◌, ◌-◌, ◌<◌, ◌≤◌, ◌∷◌, [], ◌++◌, List, length, drop, take, get_or, map, sym, ap, subst, arith, append_assoc, length-drop, take_all}
use Rattle.std.proofs.lemmas.List.{append-nil, map-append}
use Rattle.std.proofs.Math.Seq.{drop-drop, drop-length}
use Rattle.stow_page.proofs.StowTreeModel.Readings.{drop_one_less}
use Rattle.stow_merge.specs.Writing.{AreRuns, IsKeyRun}
use Rattle.stow_merge.specs.declared.kept_version.KeptVersion as coded
use Rattle.stow_merge.proofs.KeyLemmas.{one_run, run_more}
use Rattle.stow_merge.proofs.writing.by_key.Goals as goal

pub loop-at-preserved : goal.loop-at-preserved
loop-at-preserved g c =
    let kept = c.args.kept.now in
    let at = c.loop-at.at in
    let m = c.run_length-length.result in
    let n = 1 + m in
    let first = c.index-rest-0.result in
    let rest : List coded.KeptVersion = drop at kept in
    let left : length rest ≡ length kept - at = length-drop at kept in
    let filled : 0 < length rest = (let l = c.loop-at-test.true in omega arith) in
    let whole : take (length kept - at) rest ≡ rest = take_all (length kept - at) rest (omega arith) in
    let is_first : first ≡ get_or rest 0 first = c.index-rest-0.is ∙ ap (λ xs. get_or xs 0 first) whole in
    let split : rest ≡ first ∷ drop 1 rest = drop_one_less rest 0 first filled is_first in
    let others : take (length rest - 1) (drop 1 rest) ≡ drop 1 rest = take_all (length rest - 1) (drop 1 rest) (omega (arith, length-drop 1 rest)) in
    let within : m ≤ length (drop 1 rest) = subst (λ (xs : List coded.KeptVersion). m ≤ length xs) others (subst (λ (xs : List coded.KeptVersion). m ≤ length (take (length xs - 1) (drop 1 xs))) whole c.run_length-length.ensures.within) in
    let later_run : IsKeyRun first.key.bytes.now (take m (drop 1 rest)) (drop m (drop 1 rest)) =
    subst (λ (xs : List coded.KeptVersion). IsKeyRun first.key.bytes.now (take m xs) (drop m xs)) others
    (subst (λ (xs : List coded.KeptVersion). IsKeyRun first.key.bytes.now (take m (take (length xs - 1) (drop 1 xs))) (drop m (take (length xs - 1) (drop 1 xs)))) whole
    (subst (λ (k : coded.KeptVersion). IsKeyRun k.key.bytes.now (take m (take (length (take (length kept - at) rest) - 1) (drop 1 (take (length kept - at) rest)))) (drop m (take (length (take (length kept - at) rest) - 1) (drop 1 (take (length kept - at) rest))))) (sym c.index-rest-0.is) c.run_length-length.ensures.run)) in
    let run : IsKeyRun first.key.bytes.now (take n rest) (drop n rest) = one_run rest first (drop 1 rest) m split later_run in
    let items : map (λ key. key.now) c.push.new.self.items ≡ map (λ key. key.now) c.loop-at.keys.items ++ take n rest ∷ [] =
    ap (map (λ key. key.now)) c.in_ok-push.ensures.items ∙ map-append (λ key. key.now) c.loop-at.keys.items _ ∙ ap (λ xs. map (λ key. key.now) c.loop-at.keys.items ++ take n xs ∷ []) whole in (
      (let w = within in let l = c.loop-at.invariant.0 in omega (arith, length-drop 1 rest)),
      λ later h.
          subst (AreRuns kept) (sym (ap (λ ks. ks ++ later) items ∙ append_assoc (map (λ key. key.now) c.loop-at.keys.items) (take n rest ∷ []) later))
          (c.loop-at.invariant.1 (take n rest ∷ later)
          (run_more rest first n later (drop 1 rest, split) run
          (subst (λ xs. AreRuns xs later) (sym (drop-drop n at kept)) h))),
    )

pub returns : goal.returns
returns g c =
    let at_end : c.loop-at.at ≡ length c.args.kept.now = (let a = c.loop-at.invariant.0 in let b = c.loop-at-test.false in omega arith) in
    subst (AreRuns c.args.kept.now) (append-nil (map (λ key. key.now) c.loop-at.keys.items))
    (c.loop-at.invariant.1 [] (ap (λ n. drop n c.args.kept.now) at_end ∙ drop-length c.args.kept.now))

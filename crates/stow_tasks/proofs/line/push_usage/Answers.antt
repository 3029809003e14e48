use Rattle.std.proofs.Common.{◌≡◌, ℕ, List, [], ◌∷◌, ◌++◌, Result, Ok, Err, ap, sym, ◌∙◌, append_assoc}
use Rattle.std.specs.Prelude.{OnOk}
use Rattle.stow_tasks.specs.Lines.{sizes_text, counts_text}
use Rattle.stow_tasks.proofs.Telling.{ok_so}
use Rattle.stow_tasks.proofs.line.push_usage.Goals as goal

-- two texts and an end, one after another
together : (out mid new a b e : List ℕ) → mid ≡ out ++ a → new ≡ mid ++ (b ++ e) → new ≡ out ++ ((a ++ b) ++ e)
together out mid new a b e first second =
    second ∙ ap (λ x. x ++ (b ++ e)) first ∙ append_assoc out a (b ++ e) ∙ ap (λ x. out ++ x) (sym (append_assoc a b e))

pub returns-clause-ok : goal.returns-clause-ok
returns-clause-ok g c =
    ok_so c.push_counts.result (together c.args.out.now.items _ _ (sizes_text c.args.name.now c.args.usage) (counts_text c.args.usage) (10 ∷ []) c.in_ok-push_sizes.ensures.ok) c.push_counts.ensures.ok

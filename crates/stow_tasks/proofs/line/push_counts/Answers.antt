use Rattle.std.proofs.Common.{◌≡◌, ℕ, List, [], ◌∷◌, ◌++◌, refl, ap, sym, ◌∙◌, append_assoc}
use Rattle.std.specs.Prelude.{codes}
use Rattle.std.specs.Fmt.{decimal}
use Rattle.stow_tasks.proofs.line.push_counts.Goals as goal

-- what is written behind more is written behind all
grow : (out x y z : List ℕ) → out ++ x ≡ z → out ++ (x ++ y) ≡ z ++ y
grow out x y z is = sym (append_assoc out x y) ∙ ap (λ w. w ++ y) is

-- four names with their numbers, and an end, one after another
told : (out a i b j c k d l e : List ℕ) → out ++ ((a ++ i ++ b ++ j ++ c ++ k ++ d ++ l) ++ e) ≡ out ++ a ++ i ++ b ++ j ++ c ++ k ++ d ++ l ++ e
told out a i b j c k d l e =
    grow out (a ++ i ++ b ++ j ++ c ++ k ++ d ++ l) e _ (grow out (a ++ i ++ b ++ j ++ c ++ k ++ d) l _
    (grow out (a ++ i ++ b ++ j ++ c ++ k) d _ (grow out (a ++ i ++ b ++ j ++ c) k _
    (grow out (a ++ i ++ b ++ j) c _ (grow out (a ++ i ++ b) j _ (grow out (a ++ i) b _ (grow out a i _ refl)))))))

pub returns-clause-ok : goal.returns-clause-ok
returns-clause-ok g c =
    let u = c.args.usage in
    c.in_ok-push.ensures.items
    ∙ ap (λ x. x ++ 10 ∷ []) (c.in_ok-push_count-4.ensures.ok
    ∙ ap (λ x. x ++ codes " snapshots=" ++ decimal u.snapshots) (c.in_ok-push_count-3.ensures.ok
    ∙ ap (λ x. x ++ codes " refusals=" ++ decimal u.refusals) (c.in_ok-push_count-2.ensures.ok
    ∙ ap (λ x. x ++ codes " commands=" ++ decimal u.commands) c.in_ok-push_count.ensures.ok)))
    ∙ sym (told c.args.out.now.items (codes " writes=") (decimal u.writes) (codes " commands=") (decimal u.commands) (codes " refusals=") (decimal u.refusals) (codes " snapshots=") (decimal u.snapshots) (10 ∷ []))

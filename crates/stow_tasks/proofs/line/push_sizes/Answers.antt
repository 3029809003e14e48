use Rattle.std.proofs.Common.{◌≡◌, ℕ, List, ◌++◌, length, refl, ap, sym, ◌∙◌, append_assoc, arith}
use Rattle.std.proofs.Math.Seq.{take-append_seam}
use Rattle.std.proofs.lemmas.List.{length-append, take-take}
use Rattle.std.specs.Io.{StartsWith}
use Rattle.std.specs.Prelude.{codes, take}
use Rattle.std.specs.Fmt.{decimal}
use Rattle.stow_tasks.proofs.line.push_sizes.Goals as goal

-- what is written behind more is written behind all
grow : (out x y z : List ℕ) → out ++ x ≡ z → out ++ (x ++ y) ≡ z ++ y
grow out x y z is = sym (append_assoc out x y) ∙ ap (λ w. w ++ y) is

-- a name, and three names with their numbers, one after another
told : (out n a i b j c k : List ℕ) → out ++ (n ++ a ++ i ++ b ++ j ++ c ++ k) ≡ out ++ n ++ a ++ i ++ b ++ j ++ c ++ k
told out n a i b j c k =
    grow out (n ++ a ++ i ++ b ++ j ++ c) k _ (grow out (n ++ a ++ i ++ b ++ j) c _ (grow out (n ++ a ++ i ++ b) j _
    (grow out (n ++ a ++ i) b _ (grow out (n ++ a) i _ (grow out n a _ refl)))))

pub returns-clause-ok : goal.returns-clause-ok
returns-clause-ok g c =
    let u = c.args.usage in
    c.in_ok-push_count-3.ensures.ok
    ∙ ap (λ x. x ++ codes " quota=" ++ decimal u.quota) (c.in_ok-push_count-2.ensures.ok
    ∙ ap (λ x. x ++ codes " charge=" ++ decimal u.charge) (c.in_ok-push_count.ensures.ok
    ∙ ap (λ x. x ++ codes " rows=" ++ decimal u.rows) c.in_ok-extend_from_slice.ensures.items))
    ∙ sym (told c.args.out.now.items c.args.name.now (codes " rows=") (decimal u.rows) (codes " charge=") (decimal u.charge) (codes " quota=") (decimal u.quota))

-- what begins with more begins with its beginning
shorter : (xs ys p rest : List ℕ) → StartsWith xs ys → ys ≡ p ++ rest → StartsWith xs p
shorter xs ys p rest s e =
    sym (take-take (length p) (length ys) xs (let l = ap length e ∙ length-append p rest in omega (arith, l)))
    ∙ ap (take (length p)) (s ∙ e) ∙ take-append_seam p rest

pub returns-in_err-push_count-3-clause-front : goal.returns-in_err-push_count-3-clause-front
returns-in_err-push_count-3-clause-front g c =
    let u = c.args.usage in
    let out = c.push_count-3.new.out.items in
    let named = c.extend_from_slice.new.self.items in
    let rows = c.push_count.new.out.items in
    let second = shorter out c.push_count-2.new.out.items rows (codes " charge=" ++ decimal u.charge) c.push_count-3.ensures.front
    (c.in_ok-push_count-2.ensures.ok ∙ append_assoc rows (codes " charge=") (decimal u.charge)) in
    let first = shorter out rows named (codes " rows=" ++ decimal u.rows) second
    (c.in_ok-push_count.ensures.ok ∙ append_assoc named (codes " rows=") (decimal u.rows)) in
    shorter out named c.args.out.now.items c.args.name.now first c.in_ok-extend_from_slice.ensures.items

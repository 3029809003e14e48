use Rattle.std.proofs.Common.{◌≡◌, ◌+◌, Some, arith, length, length-append, subst, sym}
use Rattle.std.specs.Int.{to_be_bytes, w16, w32}
use Rattle.stow_page.specs.Format.{tail}
use Rattle.stow_merge.proofs.measuring.before_value.Goals as goal

pub returns-in-One-clause-size : goal.returns-in-One-clause-size
returns-in-One-clause-size c = λ value. subst (λ f. length (tail f (Some value)) ≡ 3 + length value) (sym c.in-One.is)
    (let l = length-append (to_be_bytes w16 (length value)) value in omega arith)

pub returns-in-Two-clause-size : goal.returns-in-Two-clause-size
returns-in-Two-clause-size c = λ value. subst (λ f. length (tail f (Some value)) ≡ 5 + length value) (sym c.in-Two.is)
    (let l = length-append (to_be_bytes w32 (length value)) value in omega arith)

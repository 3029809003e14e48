use Rattle.std.proofs.Common.{◌≡◌, ◌∙◌, ◌==◌, ◌+◌, ◌<◌, ℕ, zero, suc, Bool, false, sym, arith}
use mathlib.Core.Bool.{false≢true}
use Rattle.std.specs.Vec.{vec_len}
use Rattle.stow_node.proofs.coming.take_in.Goals as goal

-- a list that isn't empty has items
some_there : (count : ℕ) (empty : Bool) → empty ≡ (count == 0) → empty ≡ false → 0 < count
some_there zero empty is not = absurd (false≢true (sym not ∙ is))
some_there (suc count) empty is not = omega arith

pub put_behind-wide-requires-clause-empty : goal.put_behind-wide-requires-clause-empty
put_behind-wide-requires-clause-empty g c =
    let some : 0 < vec_len c.args.room.now.came = some_there (vec_len c.args.room.now.came) c.is_empty.result c.is_empty.ensures c.if-is_empty.false in
    (c.wide-wide.ensures.wide 0 (vec_len c.args.children.now + vec_len c.args.room.now.came) (c.requires.places some)).0.0

pub put_behind-wide-requires-clause-places : goal.put_behind-wide-requires-clause-places
put_behind-wide-requires-clause-places g c =
    let some : 0 < vec_len c.args.room.now.came = some_there (vec_len c.args.room.now.came) c.is_empty.result c.is_empty.ensures c.if-is_empty.false in
    rw c.wide-wide.ensures.came (c.wide-wide.ensures.wide 0 (vec_len c.args.children.now + vec_len c.args.room.now.came) (c.requires.places some)).0.1

pub returns-clause-wides : goal.returns-clause-wides
returns-clause-wides g c = λ levels places some h. (c.wide-wide.ensures.wide levels places h).1

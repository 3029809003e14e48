use Rattle.std.proofs.Common.{◌≡◌, ◌+◌, ◌<◌, ◌≤◌, ℕ, List, [], ◌∷◌, ◌++◌, length, map, take, ap, sym, ◌∙◌, arith, add-one}
use Rattle.std.specs.List.{flat_map}
use Rattle.stow_model.specs.Reply.{encoding}
use Rattle.stow_house.specs.Outputs.{Told, told_as, replies_to}
use Rattle.stow_house.proofs.Runs.{take_map_more, take_map_all, bytes_more_own, bytes_more_other}
use Rattle.stow_house.proofs.outputs.Outputs.bytes.Goals as goal
use Rattle.stow_house.proofs.outputs.Outputs.bytes.Goals.{then-told-connection+in_ok-write, else-told-connection}

pub loop-told-preserved : goal.loop-told-preserved
loop-told-preserved g c =
    let i = c.loop-told.told-index in
    let all = map told_as c.deref-told-items.result.now in
    let t : Told = told_as c.told-item.result in
    let lt : i < length c.deref-told-items.result.now = omega arith in
    let bytes : List Told → List ℕ = λ told. flat_map encoding (replies_to c.args.connection told) in
    let more : take i all ++ t ∷ [] ≡ take (i + 1) all = sym (take_map_more told_as c.deref-told-items.result.now i c.told-item.result lt c.told-item.is) ∙ ap (λ n. take n all) (sym (add-one i)) in
    elim c.if-told-connection.branch [
      | then-told-connection+in_ok-write w ↦ ap (λ b. b.items) w.bytes-is ∙ w.in_ok-write.ensures.ok ∙ ap (λ b. b ++ encoding t.1) c.loop-told.invariant ∙ sym (bytes_more_own c.args.connection (take i all) t w.if-told-connection.true) ∙ ap bytes more
      | else-told-connection w ↦ ap (λ b. b.items) w.bytes-is ∙ c.loop-told.invariant ∙ sym (bytes_more_other c.args.connection (take i all) t w.if-told-connection.false) ∙ ap bytes more
    ]

pub returns : goal.returns
returns g c =
    let le : length c.deref-told-items.result.now ≤ c.loop-told.told-index = omega arith in
    c.loop-told.invariant
    ∙ ap (λ told. flat_map encoding (replies_to c.args.connection told)) (take_map_all told_as c.deref-told-items.result.now c.loop-told.told-index le)
    ∙ ap (λ told. flat_map encoding (replies_to c.args.connection (map told_as told))) c.deref-told-items.ensures.value

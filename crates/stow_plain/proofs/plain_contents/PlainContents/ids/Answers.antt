use Rattle.std.proofs.Common.{◌≡◌, ◌≤◌, ◌+◌, ◌++◌, ◌∷◌, [], drop, ap, sym, ◌∙◌, subst, append_assoc, map as each}
use Rattle.std.specs.Prelude.{pos}
use Rattle.std.specs.List.{AllByRecursion}
use Rattle.std.proofs.lemmas.List.{drop_more}
use Rattle.stow_bytes.specs.Limits.{number_limit}
use Rattle.stow_model.specs.Item.{Integer}
use Rattle.stow_plain.proofs.Kept.{ids_seen, ids_within}
use Rattle.stow_plain.proofs.plain_contents.PlainContents.ids.Goals as goal

pub loop-copy-init : goal.loop-copy-init
loop-copy-init g c =
    let lent = c.deref-copy-items.ensures.value in
    record {
      told = ap (λ t. t ++ each (λ copy. Integer (pos copy.id)) c.deref-copy-items.result.now) c.new-items.ensures
          ∙ ap (each (λ copy. Integer (pos copy.id))) lent
          ∙ ids_seen c.self.inside.rows c.self.inside.copies.items c.self.inside.next c.args.self.now c.self.invariant c.self.view_is;
      within = subst (AllByRecursion (λ copy. copy.id ≤ number_limit)) (sym lent) (ids_within c.self.inside.next c.self.inside.copies.items c.self.invariant.ids_within c.self.invariant.ids_below);
    }

pub loop-copy-preserved : goal.loop-copy-preserved
loop-copy-preserved g c =
    let xs = c.deref-copy-items.result.now in
    let i = c.loop-copy.copy-index in
    let left : drop i xs ≡ c.copy-item.result ∷ drop (i + 1) xs = drop_more xs i c.copy-item.result c.loop-copy-test.true ∙ ap (λ x. x ∷ drop (i + 1) xs) (sym c.copy-item.is) in
    record {
      told = ap (λ t. t ++ each (λ copy. Integer (pos copy.id)) (drop (i + 1) xs)) c.in_ok-push_id.ensures
          ∙ append_assoc c.loop-copy.items (Integer (pos c.copy-item.result.id) ∷ []) (each (λ copy. Integer (pos copy.id)) (drop (i + 1) xs))
          ∙ ap (λ t. c.loop-copy.items ++ each (λ copy. Integer (pos copy.id)) t) (sym left)
          ∙ c.loop-copy.invariant.told;
      within = (subst (AllByRecursion (λ copy. copy.id ≤ number_limit)) left c.loop-copy.invariant.within).1;
    }

pub push_id-requires : goal.push_id-requires
push_id-requires g c =
    let xs = c.deref-copy-items.result.now in
    let i = c.loop-copy.copy-index in
    let left : drop i xs ≡ c.copy-item.result ∷ drop (i + 1) xs = drop_more xs i c.copy-item.result c.loop-copy-test.true ∙ ap (λ x. x ∷ drop (i + 1) xs) (sym c.copy-item.is) in
    (subst (AllByRecursion (λ copy. copy.id ≤ number_limit)) left c.loop-copy.invariant.within).0

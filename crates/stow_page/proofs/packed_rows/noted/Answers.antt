use Rattle.std.proofs.Common.{◌≡◌, ℕ, ◌+◌, List, true, take, sym, ◌∙◌, subst, arith}
use Rattle.std.proofs.lemmas.List.{length-map}
use Rattle.std.proofs.lemmas.Option.{slice_get_within}
use Rattle.std.specs.Prelude.{drop}
use Rattle.stow_filter.specs.Filter.{may_have}
use Rattle.stow_filter.proofs.Covered.{covers_more, covers_next}
use Rattle.stow_tree_model.specs.Version.{Version, version_of}
use Rattle.stow_page.specs.Rows.{CoversRows, rows_in, version_in}
use Rattle.stow_page.proofs.Marked.{not_known}
use Rattle.stow_page.proofs.Noting.{next_noted, more_noted, lent_is_some}
use Rattle.stow_page.proofs.packed_rows.noted.Given as given
use Rattle.stow_page.proofs.packed_rows.noted.Goals as goal
use Rattle.stow_page.proofs.packed_rows.noted.Goals.{After-add_hashed, then-is_same, else-is_same+then-alone, else-is_same+else-alone}

covers : (g : given.Over) (c : After-add_hashed g) → CoversRows c.add_hashed.new.self (take (c.loop-index.index + 1) (rows_in c.args.format c.args.bytes.now c.args.places.now))
covers g c =
    let rows = rows_in c.args.format c.args.bytes.now c.args.places.now in let i = c.loop-index.index in
    covers_next (λ (v : Version). v.key) c.add_hashed.new.self rows i (version_of c.lent_at-version.result) c.lent_at-version.ensures (subst (λ (key : List ℕ). may_have c.add_hashed.new.self key ≡ true) c.new-key.ensures c.add_hashed.ensures.added)
    (covers_more (λ (v : Version). v.key) c.loop-index.filter c.add_hashed.new.self (take i rows) c.add_hashed.ensures.stay c.loop-index.invariant.covers)

pub loop-index-preserved : goal.loop-index-preserved
loop-index-preserved g c =
    let rows = rows_in c.args.format c.args.bytes.now c.args.places.now in
    elim c.if-is_same.branch [
      | then-is_same w ↦ rw w.alone-is (more_noted rows c.loop-index.index c.add_hashed.new.self (version_of c.lent_at-version.result) c.new-key.result.bytes.now c.lent_at-version.ensures c.new-key.ensures (covers g (goal.at.loop-index-preserved g c).After-add_hashed))
      | else-is_same+then-alone w ↦ rw w.alone-is (next_noted rows c.loop-index.index c.loop-index.filter c.add_hashed.new.self c.loop-index.alone _ _ (version_of c.lent_at-version.result) c.new-key.result.bytes.now c.lent_at-version.ensures c.new-key.ensures (covers g (goal.at.loop-index-preserved g c).After-add_hashed) c.loop-index.invariant (c.is_same.ensures w.if-is_same.false)
          (λ some. (w.if-alone.true, lent_is_some c.lent_at-version.result.value (sym w.is_some-alone.ensures ∙ some))))
      | else-is_same+else-alone w ↦ rw (w.alone-is, w.if-alone.false) (next_noted rows c.loop-index.index c.loop-index.filter c.add_hashed.new.self c.loop-index.alone _ _ (version_of c.lent_at-version.result) c.new-key.result.bytes.now c.lent_at-version.ensures c.new-key.ensures (covers g (goal.at.loop-index-preserved g c).After-add_hashed) c.loop-index.invariant (c.is_same.ensures w.if-is_same.false) not_known)
    ]

pub returns-clause-alone : goal.returns-clause-alone
returns-clause-alone g c = λ known. record {
  are_apart = record {
    apart = λ i v w e f. c.loop-index.invariant.seen known i v w
        (let low = slice_get_within (rows_in c.args.format c.args.bytes.now c.args.places.now) (i + 1) w f in
        let end = c.loop-index-test.false in
        omega (arith, low, end, length-map c.args.places.now (λ p. version_in c.args.format (drop p c.args.bytes.now)))) e f;
  };
  values = λ i v e. c.loop-index.invariant.values known i v
      (let low = slice_get_within (rows_in c.args.format c.args.bytes.now c.args.places.now) i v e in
      let end = c.loop-index-test.false in
      omega (arith, low, end, length-map c.args.places.now (λ p. version_in c.args.format (drop p c.args.bytes.now)))) e;
}

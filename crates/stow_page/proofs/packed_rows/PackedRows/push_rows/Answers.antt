use Rattle.std.proofs.Common.{◌≡◌, ◌+◌, ◌-◌, ◌≤◌, ◌++◌, map, ap, ◌∙◌, arith, length, length-append}
use Rattle.std.specs.Prelude.{slice_range}
use Rattle.stow_page.specs.Rows.{with_count}
use Rattle.stow_page.proofs.Joined.{alike_block, block_of}
use Rattle.stow_page.proofs.Marked.{none_marked, not_known}
use Rattle.stow_page.proofs.Pushed.{IsWritten, block_has_header}
use Rattle.stow_page.proofs.Taken.{AreTaken, some_of, bounds_within, stand_above, moved_fit, all_few, rows_taken}
use Rattle.stow_page.proofs.packed_rows.PackedRows.push_rows.Given as given
use Rattle.stow_page.proofs.packed_rows.PackedRows.push_rows.Goals as goal
use Rattle.stow_page.proofs.packed_rows.PackedRows.push_rows.Goals.{After-as_slice, After-self, After-len, After-forget}

within : (g : given.Over) (c : After-as_slice g) → (c.place_of-first.result ≤ c.place_of-end.result) × (c.place_of-end.result ≤ length c.as_slice.result.now)
within g c =
    let both = bounds_within c.other.inside.format _ _ c.args.other.now c.args.from c.args.to c.place_of-first.result c.place_of-end.result (block_of _ _ _ _ c.other.invariant.block c.other.view_is)
    (record { order = c.requires.order; first_is = c.place_of-first.ensures.place; end_is = c.place_of-end.ensures.place }) in
    let len = ap length c.as_slice.ensures.value in
    let last = both.1 in
    (both.0, omega (arith, len, last))

pub slice_bounds-entries-count : goal.slice_bounds-entries-count
slice_bounds-entries-count g c = (within g (goal.at.slice_bounds-entries-count g c).After-as_slice).0

pub slice_bounds-entries-start : goal.slice_bounds-entries-start
slice_bounds-entries-start g c = let both = within g (goal.at.slice_bounds-entries-start g c).After-as_slice in let low = both.0 in let high = both.1 in omega (arith, low, high)

pub slice_bounds-entries-end : goal.slice_bounds-entries-end
slice_bounds-entries-end g c = let both = within g (goal.at.slice_bounds-entries-end g c).After-as_slice in let low = both.0 in let high = both.1 in omega (arith, low, high)

taken : (g : given.Over) (c : After-self g) → AreTaken c.self.inside.format c.self.inside.bytes.items c.self.inside.places.items c.other.inside.bytes.items c.other.inside.places.items c.args.self.now c.args.other.now c.args.from c.args.to c.place_of-first.result c.place_of-end.result
taken g c = record {
  low = block_of _ _ _ _ c.self.invariant.block c.self.view_is;
  up = alike_block _ _ _ _ _ _ c.args.self.now c.args.other.now c.self.invariant.block c.self.view_is c.other.invariant.block c.other.view_is c.requires.can.alike;
  within = c.requires.within;
  bounds = record { order = c.requires.order; first_is = c.place_of-first.ensures.place; end_is = c.place_of-end.ensures.place };
  rise = c.requires.rise;
  can = c.requires.can;
}

pub append_moved-requires-clause-above : goal.append_moved-requires-clause-above
append_moved-requires-clause-above g c = rw c.as_slice-2.ensures.value (stand_above _ _ _ _ _ _ _ _ _ _ _ (taken g (goal.at.append_moved-requires-clause-above g c).After-self))

pub append_moved-requires-clause-fit : goal.append_moved-requires-clause-fit
append_moved-requires-clause-fit g c = rw c.as_slice-2.ensures.value (moved_fit _ _ _ _ _ _ _ _ _ _ _ (taken g (goal.at.append_moved-requires-clause-fit g c).After-self))

places_are : (g : given.Over) (c : After-len g) → c.append_moved.new.places.items ≡ c.self.inside.places.items ++ map (λ place. place - c.place_of-first.result + length c.self.inside.bytes.items) (slice_range c.other.inside.places.items c.args.from c.args.to)
places_are g c = c.in_ok-append_moved.ensures.places
    ∙ ap (λ ps. c.self.inside.places.items ++ map (λ place. place - c.place_of-first.result + length c.self.inside.bytes.items) (slice_range ps c.args.from c.args.to)) c.as_slice-2.ensures.value

bytes_are : (g : given.Over) (c : After-len g) → c.append_moved.new.bytes.items ≡ c.self.inside.bytes.items ++ slice_range c.other.inside.bytes.items c.place_of-first.result c.place_of-end.result
bytes_are g c = c.in_ok-append_moved.ensures.bytes ∙ ap (λ bs. c.self.inside.bytes.items ++ slice_range bs c.place_of-first.result c.place_of-end.result) c.as_slice.ensures.value

pub overflow_cast-len : goal.overflow_cast-len
overflow_cast-len g c =
    let few = all_few _ _ _ _ _ _ _ _ _ _ _ (taken g (goal.at.overflow_cast-len g c).After-self) _ (places_are g (goal.at.overflow_cast-len g c).After-len) in
    let len = c.len.ensures ∙ c.append_moved.new.places.ok.0 in
    omega (arith, few, len)

pub write_count-requires : goal.write_count-requires
write_count-requires g c =
    let header = block_has_header _ _ _ _ c.self.invariant.block in
    let more = ap length (bytes_are g (goal.at.write_count-requires g c).After-len) ∙ length-append c.self.inside.bytes.items _ in
    omega (arith, header, more)

made : (g : given.Over) (c : After-forget g) → AreTaken c.self.inside.format c.self.inside.bytes.items c.self.inside.places.items c.other.inside.bytes.items c.other.inside.places.items c.args.self.now c.args.other.now c.args.from c.args.to c.place_of-first.result c.place_of-end.result
    → c.append_moved.new.places.items ≡ c.self.inside.places.items ++ map (λ place. place - c.place_of-first.result + length c.self.inside.bytes.items) (slice_range c.other.inside.places.items c.args.from c.args.to)
    → c.append_moved.new.bytes.items ≡ c.self.inside.bytes.items ++ slice_range c.other.inside.bytes.items c.place_of-first.result c.place_of-end.result
    → IsWritten c.self.inside.format c.write_count.new.bytes.items c.append_moved.new.places.items (c.args.self.now ++ some_of c.args.other.now c.args.from c.args.to)
made g c h p b = rows_taken _ _ _ _ _ _ _ _ _ _ _ h _ _ p (c.write_count.ensures ∙ (λ i. with_count (b i) ((c.len.ensures ∙ c.append_moved.new.places.ok.0) i)))

pub invariant_of-self-2 : goal.invariant_of-self-2
invariant_of-self-2 g c =
    let at = goal.at.invariant_of-self-2 g c in
    record {
      covers = none_marked _ _ (ap length c.forget.ensures);
      alone = not_known;
      block = (made g at.After-forget (taken g at.After-self) (places_are g at.After-len) (bytes_are g at.After-len)).are_packed;
    }

pub returns-clause-ok : goal.returns-clause-ok
returns-clause-ok g c = let at = goal.at.returns-clause-ok g c in (made g at.After-forget (taken g at.After-self) (places_are g at.After-len) (bytes_are g at.After-len)).are_rows

-- The laws of rising lists of messages.
use Rattle.std.proofs.Common.{◌≡◌, ℕ, zero, suc, ◌<◌, Bool, true, false, List, [], ◌∷◌, length, drop, get_or, refl, sym, ap, subst, ◌∙◌, arith, inl, inr}
use Rattle.std.specs.Prelude.{◌⊎◌, if◌then◌else◌, not}
use Rattle.std.specs.Ordering.{is_lt, ordering_reverse}
use Rattle.std.specs.List.{Contains, filter}
use Rattle.std.specs.List.Sorted.{IsStrictlySortedBy}
use Rattle.stow_tree_model.specs.TreeMessage.{TreeMessage}
use Rattle.stow_tree_model.specs.Order.{VersionPlace, place_of, MessagesRise}
use Rattle.stow_message.specs.Laws.{PlacedRises, AllPlacedRise, AllPlacedHold, RangeAndRest, MoveKeepsAll, TakenAndRest, RestsRise, SizesAddUp}
use Rattle.stow_message.specs.Rising.{is_below, is_same, is_first, placed, all_placed, is_between, in_range, out_of_range, without}
use Rattle.stow_message.proofs.Placed.{itself, merged, put_in, merged_is, all_placed_rises, all_other, sum-all_placed}
use Rattle.stow_message.proofs.Ranges.{filter_rises, above_filter}
use Rattle.stow_message.proofs.RisingLists.{AllAbove, all_by, place_total, placed_rises}
use Rattle.stow_message.proofs.Taken.{unfound, kept, unfound_above, kept_without, held_found, same_is, without_rises}

merged_front : (m : TreeMessage) (ms ns : List TreeMessage) → AllAbove (place_of m) ns → merged itself (m ∷ ms) ns ≡ m ∷ merged itself ms ns
merged_front m ms [] h = refl
merged_front m ms (n ∷ ns) h = ap (λ o. if is_lt o then n ∷ put_in itself m (merged itself ms) ns else m ∷ merged itself ms (n ∷ ns)) (place_total.antisymm (place_of n) (place_of m) ∙ ap ordering_reverse h.0)

merged_back : (m : TreeMessage) (ms ns : List TreeMessage) → AllAbove (place_of m) ms → merged itself ms (m ∷ ns) ≡ m ∷ merged itself ms ns
merged_back m [] ns h = refl
merged_back m (x ∷ ms) ns h = ap (λ o. if is_lt o then m ∷ put_in itself x (merged itself ms) ns else x ∷ merged itself ms (m ∷ ns)) h.0

-- what passes a test and what doesn't make up the list
split : (f : TreeMessage → Bool) (ms : List TreeMessage) → MessagesRise ms → merged itself (filter f ms) (filter (λ m. not (f m)) ms) ≡ ms
unfolding IsStrictlySortedBy
split f [] up = refl
split f (m ∷ ms) up = step (f m) (split f ms up.1) where
  step : (t : Bool) → merged itself (filter f ms) (filter (λ m. not (f m)) ms) ≡ ms
      → merged itself (if t then m ∷ filter f ms else filter f ms) (if not t then m ∷ filter (λ m. not (f m)) ms else filter (λ m. not (f m)) ms) ≡ m ∷ ms
  step true on = merged_front m (filter f ms) (filter (λ m. not (f m)) ms) (above_filter (place_of m) (λ m. not (f m)) ms up.0) ∙ ap (λ l. m ∷ l) on
  step false on = merged_back m (filter f ms) (filter (λ m. not (f m)) ms) (above_filter (place_of m) f ms up.0) ∙ ap (λ l. m ∷ l) on

pub range_and_rest : RangeAndRest
range_and_rest from to ms up = sym (merged_is (in_range from to ms) (out_of_range from to ms) (filter_rises (is_between from to) ms up)) ∙ split (is_between from to) ms up

above_kept : (p : VersionPlace) (bs ms : List TreeMessage) → AllAbove p ms → AllAbove p (kept itself bs ms)
above_kept p bs [] h = tt
above_kept p bs (m ∷ ms) h = step (is_first m bs) (above_kept p (drop 1 bs) ms h.1) (above_kept p bs ms h.1) where
  step : (t : Bool) → AllAbove p (kept itself (drop 1 bs) ms) → AllAbove p (kept itself bs ms) → AllAbove p (if t then kept itself (drop 1 bs) ms else m ∷ kept itself bs ms)
  step true one other = one
  step false one other = (h.0, other)

put_back : (bs ms : List TreeMessage) → MessagesRise ms → unfound bs ms ≡ [] → merged itself bs (kept itself bs ms) ≡ ms
unfolding IsStrictlySortedBy
put_back bs [] up e = subst (λ l. merged itself l [] ≡ []) (sym e) refl
put_back [] (m ∷ ms) up e = ap (λ l. m ∷ l) (put_back [] ms up.1 e)
put_back (b ∷ bs) (m ∷ ms) up e = step (is_same b m) refl (put_back bs ms up.1) (put_back (b ∷ bs) ms up.1) e where
  step : (t : Bool) → t ≡ is_same b m → (unfound bs ms ≡ [] → merged itself bs (kept itself bs ms) ≡ ms) → (unfound (b ∷ bs) ms ≡ [] → merged itself (b ∷ bs) (kept itself (b ∷ bs) ms) ≡ ms)
      → unfound (if t then bs else b ∷ bs) ms ≡ [] → merged itself (b ∷ bs) (if t then kept itself bs ms else m ∷ kept itself (b ∷ bs) ms) ≡ m ∷ ms
  step true q one other e = ap (λ x. merged itself (x ∷ bs) (kept itself bs ms)) (same_is b m (sym q)) ∙ merged_front m bs (kept itself bs ms) (above_kept (place_of m) bs ms up.0) ∙ ap (λ l. m ∷ l) (one e)
  step false q one other e = merged_back m (b ∷ bs) (kept itself (b ∷ bs) ms) (unfound_above (place_of m) (b ∷ bs) ms up.0 e) ∙ ap (λ l. m ∷ l) (other e)

pub taken_and_rest : TakenAndRest
taken_and_rest bs ms rise up held = let all = held_found bs ms rise up (all_by (Contains ms) bs held) in
    sym (merged_is bs (without bs ms) rise) ∙ ap (merged itself bs) (sym (kept_without bs ms up all)) ∙ put_back bs ms up all

-- what a list contains

first_or_later : (x m : TreeMessage) (ms : List TreeMessage) → Contains (m ∷ ms) x → (m ≡ x) ⊎ Contains ms x
first_or_later x m ms h = step h.0 h.1 h.2 where
  step : (k : ℕ) → k < length (m ∷ ms) → get_or (m ∷ ms) k x ≡ x → (m ≡ x) ⊎ Contains ms x
  step zero lt e = inl e
  step (suc k) lt e = inr (k, omega (arith, lt), e)

first : (x m : TreeMessage) (ms : List TreeMessage) → m ≡ x → Contains (m ∷ ms) x
first x m ms e = (0, omega arith, e)

later : (x m : TreeMessage) (ms : List TreeMessage) → Contains ms x → Contains (m ∷ ms) x
later x m ms h = (suc h.0, omega (arith, h.1), h.2)

placed_gives : (x m : TreeMessage) (ns : List TreeMessage) → Contains (placed m ns) x → (m ≡ x) ⊎ Contains ns x
placed_gives x m [] h = first_or_later x m [] h
placed_gives x m (n ∷ ns) h = step (is_below (place_of m) n) (placed_gives x m ns) h where
  step : (t : Bool) → (Contains (placed m ns) x → (m ≡ x) ⊎ Contains ns x) → Contains (if t then n ∷ placed m ns else m ∷ n ∷ ns) x → (m ≡ x) ⊎ Contains (n ∷ ns) x
  step true on c = elim (first_or_later x n (placed m ns) c) [ inl e ↦ inr (first x n ns e) | inr c ↦ elim (on c) [ inl e ↦ inl e | inr c ↦ inr (later x n ns c) ] ]
  step false on c = first_or_later x m (n ∷ ns) c

placed_has : (x m : TreeMessage) (ns : List TreeMessage) → (m ≡ x) ⊎ Contains ns x → Contains (placed m ns) x
placed_has x m [] (inl e) = first x m [] e
placed_has x m [] (inr c) = later x m [] c
placed_has x m (n ∷ ns) h = step (is_below (place_of m) n) (placed_has x m ns) h where
  step : (t : Bool) → ((m ≡ x) ⊎ Contains ns x → Contains (placed m ns) x) → (m ≡ x) ⊎ Contains (n ∷ ns) x → Contains (if t then n ∷ placed m ns else m ∷ n ∷ ns) x
  step true on (inl e) = later x n (placed m ns) (on (inl e))
  step true on (inr c) = elim (first_or_later x n ns c) [ inl e ↦ first x n (placed m ns) e | inr c ↦ later x n (placed m ns) (on (inr c)) ]
  step false on (inl e) = first x m (n ∷ ns) e
  step false on (inr c) = later x m (n ∷ ns) c

gives : (x : TreeMessage) (ms ns : List TreeMessage) → Contains (all_placed ms ns) x → Contains ms x ⊎ Contains ns x
gives x [] ns h = inr h
gives x (m ∷ ms) ns h = elim (gives x ms (placed m ns) h) [ inl c ↦ inl (later x m ms c) | inr c ↦ elim (placed_gives x m ns c) [ inl e ↦ inl (first x m ms e) | inr c ↦ inr c ] ]

nothing_there : (x : TreeMessage) → Contains [] x → ⊥
nothing_there x h = omega (arith, h.1)

has : (x : TreeMessage) (ms ns : List TreeMessage) → Contains ms x ⊎ Contains ns x → Contains (all_placed ms ns) x
has x [] ns (inl c) = absurd (nothing_there x c)
has x [] ns (inr c) = c
has x (m ∷ ms) ns (inl c) = elim (first_or_later x m ms c) [ inl e ↦ has x ms (placed m ns) (inr (placed_has x m ns (inl e))) | inr c ↦ has x ms (placed m ns) (inl c) ]
has x (m ∷ ms) ns (inr c) = has x ms (placed m ns) (inr (placed_has x m ns (inr c)))

pub all_placed_hold : AllPlacedHold
all_placed_hold ms ns x = (gives x ms ns, has x ms ns)

pub move_keeps_all : MoveKeepsAll
move_keeps_all from to ms ns x up = let inside = in_range from to ms in let rest = out_of_range from to ms in let whole = range_and_rest from to ms up in (
  λ h. elim h [
    | inl c ↦ inl (subst (λ l. Contains l x) whole (has x inside rest (inr c)))
    | inr c ↦ elim (gives x inside ns c) [ inl c ↦ inl (subst (λ l. Contains l x) whole (has x inside rest (inl c))) | inr c ↦ inr c ]
  ],
  λ h. elim h [
    | inl c ↦ elim (gives x inside rest (subst (λ l. Contains l x) (sym whole) c)) [ inl c ↦ inr (has x inside ns (inl c)) | inr c ↦ inl c ]
    | inr c ↦ inr (has x inside ns (inr c))
  ],
)

pub placed_rise : PlacedRises
placed_rise m ms up new = placed_rises m ms up new

pub all_placed_rise : AllPlacedRise
all_placed_rise ms ns rise up new = all_placed_rises ms ns rise up (all_other ms ns new)

pub rests_rise : RestsRise
rests_rise from to batch ms up = (filter_rises (is_between from to) ms up, filter_rises (λ m. not (is_between from to m)) ms up, without_rises batch ms up)

pub sizes_add_up : SizesAddUp
sizes_add_up ms ns = sum-all_placed ms ns

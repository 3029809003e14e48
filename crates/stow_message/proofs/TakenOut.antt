-- A block out of which a batch is taken, in one pass over its messages.
use Rattle.std.proofs.Common.{◌≡◌, ℕ, zero, suc, ◌+◌, ◌-◌, ◌*◌, ◌<◌, ◌≤◌, Bool, true, false, List, [], ◌∷◌, ◌++◌, map, length, take, drop, get_or, refl, sym, ap, subst, ◌∙◌, arith, drop-drop, length-append, length-take, length-drop, take-append-drop}
use Rattle.std.proofs.Math.Seq.{take-add}
use Rattle.std.proofs.lemmas.List.{drop_all, drop_at, drop_more, length-map, take_at}
use Rattle.std.specs.Prelude.{if◌then◌else◌}
use Rattle.std.specs.declared.cmp.Ordering.TheVariants.{Less}
use Rattle.std.specs.List.{AllByRecursion, drop-map, remove_range}
use Rattle.stow_tree_model.specs.TreeMessage.{TreeMessage}
use Rattle.stow_tree_model.specs.Order.{place_cmp, place_of, MessagesRise}
use Rattle.stow_slots.specs.StowRaw.RawBuf.{RawLists, raw_lists}
use Rattle.stow_message.specs.Packed.{message_at, BeginsWith}
use Rattle.stow_message.specs.MessageBuf.{messages_in, messages_from, IsFilledFrom, IsPackedBuffer}
use Rattle.stow_message.specs.Rising.{is_below, below, is_same, is_first}
use Rattle.stow_message.proofs.Merged.{drop_after}
use Rattle.stow_message.proofs.Oldest.{first_is, held_is_first, less_not_same}
use Rattle.stow_message.proofs.Removed.{all_dropped}
use Rattle.stow_message.proofs.RisingLists.{lt_is, no_path}
use Rattle.stow_message.proofs.Searched.{rises_from}
use Rattle.stow_message.proofs.Stored.{get_or-map}
use Rattle.stow_message.proofs.Taken.{same_is, same_self, unfound, kept, found_held, at, stay, taken}

-- what stands below a message isn't it
below_other : (b m : TreeMessage) → is_below (place_of b) m ≡ true → is_same b m ≡ false
below_other b m low = step (is_same b m) refl where
  step : (t : Bool) → t ≡ is_same b m → t ≡ false
  step true e = let less : place_cmp (place_of m) (place_of b) ≡ Less = lt_is (place_cmp (place_of m) (place_of b)) low in
      absurd (less_not_same (place_of m) (place_of b) less (ap place_of (same_is b m (sym e))))
  step false e = refl

-- the walk passes what stands below the batch's next message
passed_by : (b : TreeMessage) (bs ms : List TreeMessage) (c : ℕ) → c ≤ below (place_of b) ms → unfound (b ∷ bs) ms ≡ unfound (b ∷ bs) (drop c ms)
passed_by b bs ms zero le = refl
passed_by b bs [] (suc c) le = absurd (omega (arith, le))
passed_by b bs (m ∷ ms) (suc c) le = step (is_below (place_of b) m) refl le (passed_by b bs ms c) where
  step : (t : Bool) → t ≡ is_below (place_of b) m → suc c ≤ (if t then suc (below (place_of b) ms) else 0) → (c ≤ below (place_of b) ms → unfound (b ∷ bs) ms ≡ unfound (b ∷ bs) (drop c ms))
      → unfound (b ∷ bs) (m ∷ ms) ≡ unfound (b ∷ bs) (drop c ms)
  step true e l on = ap (λ t. unfound (if t then bs else b ∷ bs) ms) (below_other b m (sym e)) ∙ on (omega (arith, l))
  step false e l on = absurd (omega (arith, l))

-- .. and keeps it
kept_by : {X : Type 0} (f : X → TreeMessage) (b : TreeMessage) (bs : List TreeMessage) (xs : List X) (c : ℕ) → c ≤ below (place_of b) (map f xs) → kept f (b ∷ bs) xs ≡ take c xs ++ kept f (b ∷ bs) (drop c xs)
kept_by f b bs xs zero le = refl
kept_by f b bs [] (suc c) le = absurd (omega (arith, le))
kept_by f b bs (x ∷ xs) (suc c) le = step (is_below (place_of b) (f x)) refl le (kept_by f b bs xs c) where
  step : (t : Bool) → t ≡ is_below (place_of b) (f x) → suc c ≤ (if t then suc (below (place_of b) (map f xs)) else 0) → (c ≤ below (place_of b) (map f xs) → kept f (b ∷ bs) xs ≡ take c xs ++ kept f (b ∷ bs) (drop c xs))
      → kept f (b ∷ bs) (x ∷ xs) ≡ x ∷ (take c xs ++ kept f (b ∷ bs) (drop c xs))
  step true e l on = ap (λ t. if t then kept f bs xs else x ∷ kept f (b ∷ bs) xs) (below_other b (f x) (sym e)) ∙ ap (λ r. x ∷ r) (on (omega (arith, l)))
  step false e l on = absurd (omega (arith, l))

kept_all : {X : Type 0} (f : X → TreeMessage) (xs : List X) → kept f [] xs ≡ xs
kept_all f [] = refl
kept_all f (x ∷ xs) = ap (λ l. x ∷ l) (kept_all f xs)

some_first : (b : TreeMessage) (xs : List TreeMessage) → is_first b xs ≡ true → 0 < length xs
some_first b [] e = absurd (no_path e)
some_first b (x ∷ xs) e = omega arith

module _ (raw : RawLists) (bs : List TreeMessage) where
  -- while the search goes on from slot i: k slots stay, and j of the batch went
  pub record Taking (now : RawLists) (k j i : ℕ) : Type 0 where
    pub raw_is : now ≡ raw_lists raw.front (take k (stay raw bs) ++ drop k raw.slots) raw.capacity
    pub rest : drop k (stay raw bs) ≡ kept (at raw bs) (drop j bs) (drop i raw.slots)
    pub on : unfound (drop j bs) (drop i (messages_in raw)) ≡ []
    pub counts : k + j ≡ i
    pub within : (j ≤ length bs) × (k ≤ length (stay raw bs)) × (i ≤ length raw.slots)

  pub begun : unfound bs (messages_in raw) ≡ [] → Taking raw 0 0 0
  begun all = record { raw_is = refl; rest = refl; on = all; counts = omega arith; within = (omega arith, omega arith, omega arith) }

module _ (raw : RawLists) (h : IsPackedBuffer raw) (bs : List TreeMessage) (now : RawLists) (k j i : ℕ) (w : Taking raw bs now k j i) where
  abbrev f : ℕ → TreeMessage
  f = at raw bs

  abbrev stays : List ℕ
  stays = stay raw bs

  same_front : now.front ≡ raw.front
  same_front = ap (λ (r : RawLists). r.front) w.raw_is

  same_old : drop i now.slots ≡ drop i raw.slots
  same_old = ap (λ (r : RawLists). drop i r.slots) w.raw_is ∙ drop_after stays raw.slots k i w.within.1 (omega (arith, w.counts))

  same_messages : messages_from now i ≡ drop i (messages_in raw)
  same_messages = (λ t. map (λ slot. message_at (drop slot (same_front t))) (same_old t)) ∙ sym (drop-map f i raw.slots)

  pub slots_stay : length now.slots ≡ length raw.slots
  slots_stay = omega (arith, ap (λ (r : RawLists). length r.slots) w.raw_is, length-append (take k stays) (drop k raw.slots), length-take k stays, length-drop k raw.slots, w.within, w.counts)

  pub small_now : length now.front + 4 * length now.slots < 4294967296
  small_now = omega (arith, ap length same_front, slots_stay, h.within)

  pub filled_now : IsFilledFrom now i
  filled_now = record {
    whole = subst (λ (p : List ℕ × List ℕ). AllByRecursion (λ slot. BeginsWith (drop slot p.0)) p.1) (sym (λ t. (same_front t, same_old t)))
        (all_dropped (λ slot. BeginsWith (drop slot raw.front)) raw.slots i h.whole);
    rising = subst MessagesRise (sym same_messages) (rises_from (messages_in raw) i h.rising);
    small = small_now;
  }

  -- the slots below the batch's next message stay, and it goes
  module _ (lt : j < length bs) (b : TreeMessage) (is : b ≡ get_or bs j b) (end : ℕ) (e : end ≡ i + below (place_of b) (messages_from now i)) where
    abbrev left : List TreeMessage
    left = drop (j + 1) bs

    abbrev olds : List ℕ
    olds = drop i raw.slots

    abbrev ms : List TreeMessage
    ms = drop i (messages_in raw)

    abbrev few : ℕ
    few = below (place_of b) ms

    next_is : drop j bs ≡ b ∷ left
    next_is = drop_more bs j b lt ∙ ap (λ x. x ∷ left) (sym is)

    pub end_is : end ≡ i + few
    end_is = e ∙ ap (λ l. i + below (place_of b) l) same_messages

    on_here : unfound (b ∷ left) ms ≡ []
    on_here = ap (λ l. unfound l ms) (sym next_is) ∙ w.on

    first_here : is_first b (drop few ms) ≡ true
    first_here = held_is_first b ms (rises_from (messages_in raw) i h.rising) few refl (found_held (b ∷ left) ms on_here).0

    few_within : few < length ms
    few_within = omega (arith, some_first b (drop few ms) first_here, length-drop few ms)

    olds_are : map f olds ≡ ms
    olds_are = sym (drop-map f i raw.slots)

    few_olds : few < length olds
    few_olds = omega (arith, few_within, ap length olds_are, length-map olds f)

    pub end_within : (i ≤ end) × (end < length raw.slots)
    end_within = (omega (arith, end_is), omega (arith, end_is, few_olds, length-drop i raw.slots, w.within))

    slot_is : f (get_or olds few 0) ≡ b
    slot_is = sym (get_or-map f olds few 0 b few_olds) ∙ ap (λ l. get_or l few b) olds_are ∙ first_is b ms few first_here few_within

    goes : kept f (b ∷ left) (drop few olds) ≡ kept f left (drop (few + 1) olds)
    goes = let s = get_or olds few 0 in ap (kept f (b ∷ left)) (drop_more olds few 0 few_olds)
        ∙ ap (λ t. if t then kept f left (drop (few + 1) olds) else s ∷ kept f (b ∷ left) (drop (few + 1) olds)) (ap (is_same b) slot_is ∙ same_self b)

    rest_passed : drop k stays ≡ take few olds ++ kept f left (drop (few + 1) olds)
    rest_passed = w.rest ∙ ap (λ l. kept f l olds) next_is ∙ kept_by f b left olds few (omega (arith, ap (below (place_of b)) olds_are)) ∙ ap (λ l. take few olds ++ l) goes

    first_few : length (take few olds) ≡ few
    first_few = omega (arith, length-take few olds, few_olds)

    starts_long : length (take k stays) ≡ k
    starts_long = omega (arith, length-take k stays, w.within)

    slots_passed : take (k + few) (take k stays ++ olds) ≡ take (k + few) stays
    slots_passed = let starts = take k stays in
        take-add k few (starts ++ olds) ∙ (λ t. take_at starts olds k starts_long t ++ take few (drop_at starts olds k starts_long t))
        ∙ ap (λ l. starts ++ l) (sym (ap (take few) rest_passed ∙ take_at (take few olds) (kept f left (drop (few + 1) olds)) few first_few))
        ∙ sym (take-add k few stays)

    found_here : unfound left (drop (few + 1) ms) ≡ []
    found_here = let x = get_or ms few b in let same : x ≡ b = first_is b ms few first_here few_within in
        sym (passed_by b left ms few (omega arith) ∙ ap (unfound (b ∷ left)) (drop_more ms few b few_within) ∙ ap (λ t. unfound (if t then left else b ∷ left) (drop (few + 1) ms)) (ap (is_same b) same ∙ same_self b)) ∙ on_here

    went : (new : RawLists) → new ≡ raw_lists now.front (take (k + few) (remove_range now.slots k i) ++ drop (k + few) now.slots) now.capacity → Taking raw bs new (k + few) (j + 1) (i + (few + 1))
    went new g = let starts = take k stays in
        let begin : take k now.slots ≡ starts = ap (λ (r : RawLists). take k r.slots) w.raw_is ∙ take_at starts (drop k raw.slots) k starts_long in
        let after : drop (k + few) now.slots ≡ drop (k + few) raw.slots = ap (λ (r : RawLists). drop (k + few) r.slots) w.raw_is ∙ drop_after stays raw.slots k (k + few) w.within.1 (omega arith) in
        record {
          raw_is = g ∙ (λ t. raw_lists (same_front t) (take (k + few) (begin t ++ same_old t) ++ after t) ((w.raw_is t).capacity))
              ∙ ap (λ l. raw_lists raw.front (l ++ drop (k + few) raw.slots) raw.capacity) slots_passed;
          rest = sym (drop-drop few k stays) ∙ ap (drop few) rest_passed ∙ drop_at (take few olds) (kept f left (drop (few + 1) olds)) few first_few ∙ ap (kept f left) (drop-drop (few + 1) i raw.slots);
          on = ap (unfound left) (sym (drop-drop (few + 1) i (messages_in raw))) ∙ found_here;
          counts = omega (arith, w.counts);
          within = (omega (arith, lt), omega (arith, ap length rest_passed, length-append (take few olds) (kept f left (drop (few + 1) olds)), first_few, length-drop k stays, w.within), omega (arith, end_within, end_is));
        }

    pub next : (c : ℕ) → c ≡ end - i → (new : RawLists) → new ≡ raw_lists now.front (take (k + c) (remove_range now.slots k i) ++ drop (k + c) now.slots) now.capacity
        → (k₂ : ℕ) → k₂ ≡ k + c → (i₂ : ℕ) → i₂ ≡ end + 1 → Taking raw bs new k₂ (j + 1) i₂
    next c size new g k₂ stayed i₂ last =
        let many : c ≡ few = omega (arith, size, end_is) in let kept_is : k + few ≡ k₂ = omega (arith, stayed, many) in let last_is : i + (few + 1) ≡ i₂ = omega (arith, last, end_is) in
        subst (λ (p : ℕ × ℕ). Taking raw bs new p.0 (j + 1) p.1) (λ t. (kept_is t, last_is t))
        (went new (g ∙ (λ t. raw_lists now.front (take (k + many t) (remove_range now.slots k i) ++ drop (k + many t) now.slots) now.capacity)))

  -- once all of the batch went the slots of the hole go
  module _ (past : length bs ≤ j) where
    pub whole_went : k + length bs ≡ i
    whole_went = omega (arith, w.counts, w.within, past)

    pub taken_is : (new : RawLists) (n : ℕ) → n ≡ i - k → new ≡ raw_lists now.front (remove_range now.slots k (k + n)) now.capacity → new ≡ taken raw bs
    taken_is new n many g = let end : k + n ≡ i = omega (arith, many, whole_went) in let starts = take k stays in
        let long : length starts ≡ k = omega (arith, length-take k stays, w.within) in
        let begin : take k now.slots ≡ starts = ap (λ (r : RawLists). take k r.slots) w.raw_is ∙ take_at starts (drop k raw.slots) k long in
        let rest : drop i raw.slots ≡ drop k stays = sym (w.rest ∙ ap (λ l. kept f l (drop i raw.slots)) (drop_all j bs past) ∙ kept_all f (drop i raw.slots)) in
        g ∙ (λ t. raw_lists now.front (take k now.slots ++ drop (end t) now.slots) now.capacity)
        ∙ (λ t. raw_lists (same_front t) (begin t ++ (same_old ∙ rest) t) ((w.raw_is t).capacity))
        ∙ ap (λ l. raw_lists raw.front l raw.capacity) (take-append-drop k stays)

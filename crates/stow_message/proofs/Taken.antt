-- A batch that is taken out of a rising list, and what is left.
use Rattle.std.proofs.Common.{◌≡◌, ℕ, zero, suc, ◌+◌, ◌*◌, ◌<◌, ◌≤◌, Bool, true, false, List, [], ◌∷◌, map, length, drop, get_or, refl, sym, ap, subst, ◌∙◌, arith, eqb-true, eq-eqb, drop-drop, length-drop}
use Rattle.std.proofs.lemmas.List.{get_or-drop, length-map}
use Rattle.std.proofs.lemmas.List.Sums.{sum_by-cons}
use Rattle.std.proofs.lemmas.Slice.Eq.{bytes_eq-Decides}
use Rattle.std.specs.Prelude.{if◌then◌else◌, not, ◌&&◌}
use Rattle.std.specs.declared.cmp.Ordering.{Ordering}
use Rattle.std.specs.declared.cmp.Ordering.TheVariants.{Less, Equal, Greater}
use Rattle.std.specs.Ordering.{is_lt, is_eq, ordering_reverse}
use Rattle.std.specs.List.{AllByRecursion, Contains, filter, sum_by}
use Rattle.std.specs.List.Sorted.{IsStrictlySortedBy}
use Rattle.stow_tree_model.specs.TreeMessage.{TreeMessage}
use Rattle.stow_tree_model.specs.Order.{VersionPlace, place_cmp, place_of, MessagesRise}
use Rattle.stow_tree_model.specs.Op.{bytes_in}
use Rattle.stow_slots.specs.StowRaw.RawBuf.{RawLists, raw_lists, raw_used}
use Rattle.stow_message.specs.Packed.{kind_of, op_by, message_size, message_at, BeginsWith}
use Rattle.stow_message.specs.MessageBuf.{op_is, messages_in, IsPackedBuffer}
use Rattle.stow_message.specs.Rising.{is_same, is_first, without}
use Rattle.stow_message.proofs.Stored.{all_at}
use Rattle.stow_message.proofs.Placed.{itself}
use Rattle.stow_message.proofs.Ranges.{filter_rises}
use Rattle.stow_message.proofs.RisingLists.{place_total, no_path, of_map, AllAbove, above_all, none_of}

self_equal : (o : Ordering) → o ≡ ordering_reverse o → o ≡ Equal
self_equal Less e = cc
self_equal Equal e = refl
self_equal Greater e = cc

at_itself : (p : VersionPlace) → place_cmp p p ≡ Equal
at_itself p = self_equal (place_cmp p p) (place_total.antisymm p p)

and_parts : (a b : Bool) → (a && b) ≡ true → (a ≡ true) × (b ≡ true)
and_parts true b e = (refl, e)
and_parts false b e = absurd (no_path e)

pub same_is : (m n : TreeMessage) → is_same m n ≡ true → m ≡ n
same_is m n e = let p = and_parts _ _ e in let q = and_parts _ _ p.1 in let r = and_parts _ _ q.1 in
    let number : m.number ≡ n.number = eqb-true m.number n.number p.0 in let kind : kind_of m.op ≡ kind_of n.op = eqb-true (kind_of m.op) (kind_of n.op) q.0 in
    let key : m.key ≡ n.key = (bytes_eq-Decides m.key n.key).0 r.0 in let value : bytes_in m.op ≡ bytes_in n.op = (bytes_eq-Decides (bytes_in m.op) (bytes_in n.op)).0 r.1 in
    let op : m.op ≡ n.op = sym (op_is m.op) ∙ (λ i. op_by (kind i) (value i)) ∙ op_is n.op in
    λ i. record { key = key i; number = number i; op = op i }

pub same_self : (m : TreeMessage) → is_same m m ≡ true
same_self m = let number = eq-eqb m.number m.number refl in let kind = eq-eqb (kind_of m.op) (kind_of m.op) refl in
    let key = (bytes_eq-Decides m.key m.key).1 refl in let value = (bytes_eq-Decides (bytes_in m.op) (bytes_in m.op)).1 refl in
    λ i. number i && (kind i && (key i && value i))

-- what is left of the batch after a message
abbrev pub next : TreeMessage → List TreeMessage → List TreeMessage
next m bs = if is_first m bs then drop 1 bs else bs

-- the messages of the batch that the walk doesn't find
abbrev pub unfound : List TreeMessage → List TreeMessage → List TreeMessage
unfound bs [] = bs
unfound bs (m ∷ ms) = unfound (next m bs) ms

-- what the walk keeps of things that each name a message
abbrev pub kept : {X : Type 0} → (X → TreeMessage) → List TreeMessage → List X → List X
kept f bs [] = []
kept f bs (x ∷ xs) = if is_first (f x) bs then kept f (drop 1 bs) xs else x ∷ kept f bs xs

map_kept : {X : Type 0} (f : X → TreeMessage) (bs : List TreeMessage) (xs : List X) → map f (kept f bs xs) ≡ kept itself bs (map f xs)
map_kept f bs [] = refl
map_kept f bs (x ∷ xs) = step (is_first (f x) bs) (map_kept f (drop 1 bs) xs) (map_kept f bs xs) where
  step : (t : Bool) → map f (kept f (drop 1 bs) xs) ≡ kept itself (drop 1 bs) (map f xs) → map f (kept f bs xs) ≡ kept itself bs (map f xs)
      → map f (if t then kept f (drop 1 bs) xs else x ∷ kept f bs xs) ≡ (if t then kept itself (drop 1 bs) (map f xs) else f x ∷ kept itself bs (map f xs))
  step true one other = one
  step false one other = ap (λ l. f x ∷ l) other

-- what stands above all of a list stands above what is found in it
pub unfound_above : (p : VersionPlace) (bs ms : List TreeMessage) → AllAbove p ms → unfound bs ms ≡ [] → AllAbove p bs
unfound_above p bs [] h e = subst (AllAbove p) (sym e) tt
unfound_above p [] (m ∷ ms) h e = tt
unfound_above p (b ∷ bs) (m ∷ ms) h e = step (is_same b m) refl (unfound_above p bs ms h.1) (unfound_above p (b ∷ bs) ms h.1) e where
  step : (t : Bool) → t ≡ is_same b m → (unfound bs ms ≡ [] → AllAbove p bs) → (unfound (b ∷ bs) ms ≡ [] → AllAbove p (b ∷ bs)) → unfound (if t then bs else b ∷ bs) ms ≡ [] → AllAbove p (b ∷ bs)
  step true q one other e = (subst (λ x. place_cmp p (place_of x) ≡ Less) (sym (same_is b m (sym q))) h.0, one e)
  step false q one other e = other e

abbrev Other : TreeMessage → TreeMessage → Bool
Other b m = not (is_eq (place_cmp (place_of m) (place_of b)))

keep_above : (m : TreeMessage) (bs ms : List TreeMessage) → AllAbove (place_of m) bs → without bs (m ∷ ms) ≡ m ∷ without bs ms
keep_above m [] ms h = refl
keep_above m (b ∷ bs) ms h = ap (λ o. without bs (if not (is_eq o) then m ∷ filter (Other b) ms else filter (Other b) ms)) h.0 ∙ keep_above m bs (filter (Other b) ms) h.1

filter_all : (b : TreeMessage) (ms : List TreeMessage) → AllByRecursion (λ n. is_eq (place_cmp (place_of n) (place_of b)) ≡ false) ms → filter (Other b) ms ≡ ms
filter_all b [] h = refl
filter_all b (m ∷ ms) h = ap (λ t. if not t then m ∷ filter (Other b) ms else filter (Other b) ms) h.0 ∙ ap (λ l. m ∷ l) (filter_all b ms h.1)

-- what a walk keeps that finds the whole batch
pub kept_without : (bs ms : List TreeMessage) → MessagesRise ms → unfound bs ms ≡ [] → kept itself bs ms ≡ without bs ms
unfolding IsStrictlySortedBy
kept_without bs [] up e = subst (λ l. [] ≡ without l []) (sym e) refl
kept_without [] (m ∷ ms) up e = ap (λ l. m ∷ l) (kept_without [] ms up.1 e)
kept_without (b ∷ bs) (m ∷ ms) up e = step (is_same b m) refl (kept_without bs ms up.1) (kept_without (b ∷ bs) ms up.1) e where
  step : (t : Bool) → t ≡ is_same b m → (unfound bs ms ≡ [] → kept itself bs ms ≡ without bs ms) → (unfound (b ∷ bs) ms ≡ [] → kept itself (b ∷ bs) ms ≡ without (b ∷ bs) ms)
      → unfound (if t then bs else b ∷ bs) ms ≡ [] → (if t then kept itself bs ms else m ∷ kept itself (b ∷ bs) ms) ≡ without (b ∷ bs) (m ∷ ms)
  step true q one other e = let same : b ≡ m = same_is b m (sym q) in one e ∙ ap (without bs) (sym (filter_all m ms (none_of (place_of m) ms up.0)))
      ∙ ap (λ o. without bs (if not (is_eq o) then m ∷ filter (Other m) ms else filter (Other m) ms)) (sym (at_itself (place_of m)))
      ∙ ap (λ x. without bs (filter (Other x) (m ∷ ms))) (sym same)
  step false q one other e = ap (λ l. m ∷ l) (other e) ∙ sym (keep_above m (b ∷ bs) ms (unfound_above (place_of m) (b ∷ bs) ms up.0 e))

-- each of the batch is there exactly where the walk finds all of it

weaker : (m : TreeMessage) (ms bs : List TreeMessage) → AllByRecursion (Contains ms) bs → AllByRecursion (Contains (m ∷ ms)) bs
weaker m ms [] h = tt
weaker m ms (b ∷ bs) h = ((suc h.0.0, omega (arith, h.0.1), h.0.2), weaker m ms bs h.1)

pub found_held : (bs ms : List TreeMessage) → unfound bs ms ≡ [] → AllByRecursion (Contains ms) bs
found_held bs [] e = subst (AllByRecursion (Contains [])) (sym e) tt
found_held [] (m ∷ ms) e = tt
found_held (b ∷ bs) (m ∷ ms) e = step (is_same b m) refl (found_held bs ms) (found_held (b ∷ bs) ms) e where
  step : (t : Bool) → t ≡ is_same b m → (unfound bs ms ≡ [] → AllByRecursion (Contains ms) bs) → (unfound (b ∷ bs) ms ≡ [] → AllByRecursion (Contains ms) (b ∷ bs))
      → unfound (if t then bs else b ∷ bs) ms ≡ [] → AllByRecursion (Contains (m ∷ ms)) (b ∷ bs)
  step true q one other e = ((0, omega arith, sym (same_is b m (sym q))), weaker m ms bs (one e))
  step false q one other e = weaker m ms (b ∷ bs) (other e)

-- what is among a message and others, and above the message, is among the others
past : (m x : TreeMessage) (ms : List TreeMessage) → place_cmp (place_of m) (place_of x) ≡ Less → Contains (m ∷ ms) x → Contains ms x
past m x ms less h = step h.0 h.1 h.2 where
  step : (k : ℕ) → k < length (m ∷ ms) → get_or (m ∷ ms) k x ≡ x → Contains ms x
  step zero lt e = absurd (no_path (ap is_lt (sym (at_itself (place_of m)) ∙ ap (λ y. place_cmp (place_of m) (place_of y)) e ∙ less)))
  step (suc k) lt e = (k, omega (arith, lt), e)

all_past : (m : TreeMessage) (ms bs : List TreeMessage) → AllAbove (place_of m) bs → AllByRecursion (Contains (m ∷ ms)) bs → AllByRecursion (Contains ms) bs
all_past m ms [] above h = tt
all_past m ms (b ∷ bs) above h = (past m b ms above.0 h.0, all_past m ms bs above.1 h.1)

-- a message of a rising list that is not the first stands above it
above_first : (m b : TreeMessage) (ms : List TreeMessage) → AllAbove (place_of m) ms → is_same b m ≡ false → Contains (m ∷ ms) b → place_cmp (place_of m) (place_of b) ≡ Less
above_first m b ms above not_same h = step h.0 h.1 h.2 where
  step : (k : ℕ) → k < length (m ∷ ms) → get_or (m ∷ ms) k b ≡ b → place_cmp (place_of m) (place_of b) ≡ Less
  step zero lt e = absurd (no_path (sym not_same ∙ ap (λ x. is_same b x) e ∙ same_self b))
  step (suc k) lt e = subst (λ x. place_cmp (place_of m) (place_of x) ≡ Less) e (all_at (λ n. place_cmp (place_of m) (place_of n) ≡ Less) ms k b (of_map (λ q. place_cmp (place_of m) q ≡ Less) ms above) (omega (arith, lt)))

pub held_found : (bs ms : List TreeMessage) → MessagesRise bs → MessagesRise ms → AllByRecursion (Contains ms) bs → unfound bs ms ≡ []
unfolding IsStrictlySortedBy
held_found [] [] rise up h = refl
held_found (b ∷ bs) [] rise up h = absurd (omega (arith, h.0.1))
held_found [] (m ∷ ms) rise up h = held_found [] ms rise up.1 (nothing ms) where
  nothing : (l : List TreeMessage) → AllByRecursion (Contains l) []
  nothing l = tt
held_found (b ∷ bs) (m ∷ ms) rise up h = step (is_same b m) refl (held_found bs ms rise.1 up.1) (held_found (b ∷ bs) ms rise up.1) where
  step : (t : Bool) → t ≡ is_same b m → (AllByRecursion (Contains ms) bs → unfound bs ms ≡ []) → (AllByRecursion (Contains ms) (b ∷ bs) → unfound (b ∷ bs) ms ≡ []) → unfound (if t then bs else b ∷ bs) ms ≡ []
  step true q one other = one (all_past m ms bs (subst (λ x. AllAbove (place_of x) bs) (same_is b m (sym q)) rise.0) h.1)
  step false q one other = let less = above_first m b ms up.0 (sym q) h.0 in other (all_past m ms (b ∷ bs) (less, above_all (place_of m) (place_of b) bs less rise.0) h)

-- what is kept and what is found make up the list
pub count : {X : Type 0} (f : X → TreeMessage) (bs : List TreeMessage) (xs : List X) → length (kept f bs xs) + length bs ≡ length xs + length (unfound bs (map f xs))
count f bs [] = omega arith
count f [] (x ∷ xs) = omega (arith, count f [] xs)
count f (b ∷ bs) (x ∷ xs) = step (is_same b (f x)) (count f bs xs) (count f (b ∷ bs) xs) where
  step : (t : Bool) → length (kept f bs xs) + length bs ≡ length xs + length (unfound bs (map f xs)) → length (kept f (b ∷ bs) xs) + suc (length bs) ≡ length xs + length (unfound (b ∷ bs) (map f xs))
      → length (if t then kept f bs xs else x ∷ kept f (b ∷ bs) xs) + suc (length bs) ≡ suc (length xs) + length (unfound (if t then bs else b ∷ bs) (map f xs))
  step true one other = omega (arith, one)
  step false one other = omega (arith, other)

-- what is kept is not dead
pub kept_sizes : (bs ms : List TreeMessage) → sum_by message_size (kept itself bs ms) + 4 * length ms ≤ sum_by message_size ms + 4 * length (kept itself bs ms)
kept_sizes bs [] = omega arith
kept_sizes bs (m ∷ ms) = step (is_first m bs) (kept_sizes (drop 1 bs) ms) (kept_sizes bs ms) where
  step : (t : Bool) → sum_by message_size (kept itself (drop 1 bs) ms) + 4 * length ms ≤ sum_by message_size ms + 4 * length (kept itself (drop 1 bs) ms)
      → sum_by message_size (kept itself bs ms) + 4 * length ms ≤ sum_by message_size ms + 4 * length (kept itself bs ms)
      → sum_by message_size (if t then kept itself (drop 1 bs) ms else m ∷ kept itself bs ms) + 4 * suc (length ms) ≤ sum_by message_size (m ∷ ms) + 4 * length (if t then kept itself (drop 1 bs) ms else m ∷ kept itself bs ms)
  step true one other = omega (arith, one, sum_by-cons message_size m ms)
  step false one other = omega (arith, other, sum_by-cons message_size m ms, sum_by-cons message_size m (kept itself bs ms))

pub all_kept : {X : Type 0} (P : X → Type 0) (f : X → TreeMessage) (bs : List TreeMessage) (xs : List X) → AllByRecursion P xs → AllByRecursion P (kept f bs xs)
all_kept P f bs [] h = tt
all_kept P f bs (x ∷ xs) h = step (is_first (f x) bs) (all_kept P f (drop 1 bs) xs h.1) (all_kept P f bs xs h.1) where
  step : (t : Bool) → AllByRecursion P (kept f (drop 1 bs) xs) → AllByRecursion P (kept f bs xs) → AllByRecursion P (if t then kept f (drop 1 bs) xs else x ∷ kept f bs xs)
  step true one other = one
  step false one other = (h.0, other)

pub from_drop : {X : Type 0} (xs : List X) (k : ℕ) (x : X) (ys : List X) → drop k xs ≡ x ∷ ys → (k < length xs) × (x ≡ get_or xs k x) × (drop (k + 1) xs ≡ ys)
from_drop xs k x ys e = let at : k + 0 ≡ k = omega arith in
    (omega (arith, length-drop k xs, ap length e), ap (λ l. get_or l 0 x) (sym e) ∙ get_or-drop k xs 0 x ∙ ap (λ n. get_or xs n x) at, sym (drop-drop 1 k xs) ∙ ap (drop 1) e)

pub without_rises : (bs ms : List TreeMessage) → MessagesRise ms → MessagesRise (without bs ms)
without_rises [] ms up = up
without_rises (b ∷ bs) ms up = without_rises bs (filter (Other b) ms) (filter_rises (Other b) ms up)

-- a block of which a batch is taken out
module _ (raw : RawLists) (bs : List TreeMessage) where
  abbrev pub at : ℕ → TreeMessage
  at slot = message_at (drop slot raw.front)

  abbrev pub stay : List ℕ
  stay = kept at bs raw.slots

  abbrev pub taken : RawLists
  taken = raw_lists raw.front stay raw.capacity

module _ (raw : RawLists) (h : IsPackedBuffer raw) (bs : List TreeMessage) where
  module _ (all : unfound bs (messages_in raw) ≡ []) where
    pub taken_messages : messages_in (taken raw bs) ≡ without bs (messages_in raw)
    taken_messages = map_kept (at raw bs) bs raw.slots ∙ kept_without bs (messages_in raw) h.rising all

    pub taken_used : raw_used (taken raw bs) + 4 * length bs ≡ raw_used raw
    taken_used = omega (arith, count (at raw bs) bs raw.slots, ap length all)

    pub taken_filled : IsPackedBuffer (taken raw bs)
    taken_filled = record {
      whole = all_kept (λ slot. BeginsWith (drop slot raw.front)) (at raw bs) bs raw.slots h.whole;
      rising = subst MessagesRise (sym taken_messages) (without_rises bs (messages_in raw) h.rising);
      live = omega (arith, h.live, taken_used, kept_sizes bs (messages_in raw), ap (sum_by message_size) (map_kept (at raw bs) bs raw.slots), ap length (map_kept (at raw bs) bs raw.slots), length-map (stay raw bs) (at raw bs), length-map raw.slots (at raw bs), count (at raw bs) bs raw.slots, ap length all);
      within = (omega (arith, h.within, taken_used), h.within.1);
    }

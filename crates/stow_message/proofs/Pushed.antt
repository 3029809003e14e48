-- A block after one more message.
use Rattle.std.proofs.Common.{◌≡◌, ℕ, zero, suc, slice_set, ◌+◌, ◌<◌, ◌≤◌, List, [], ◌∷◌, ◌++◌, map, length, drop, refl, sym, ap, subst, ◌∙◌, arith, length-append, append_assoc, append-nil}
use Rattle.std.proofs.lemmas.List.{length-map, drop-append-le, drop_at}
use Rattle.std.specs.Prelude.{replicate}
use Rattle.std.specs.List.{AllByRecursion, sum_by, insert}
use Rattle.std.specs.List.Sorted.{IsStrictlySortedBy}
use Rattle.stow_tree_model.specs.Op.{bytes_in}
use Rattle.stow_tree_model.specs.TreeMessage.{TreeMessage, message_of}
use Rattle.stow_tree_model.specs.declared.message.Message as coded
use Rattle.stow_tree_model.specs.Order.{place_of, MessagesRise}
use Rattle.stow_slots.specs.StowRaw.RawBuf.{RawLists, raw_lists, raw_used}
use Rattle.stow_message.specs.Packed.{head_of, message_bytes, message_size, IsMessage, message_at, BeginsWith}
use Rattle.stow_message.specs.MessageBuf.{MessageList, message_list, Fits, with_message, messages_in, IsPackedBuffer}
use Rattle.stow_message.specs.Rising.{below, placed, IsNew}
use Rattle.stow_message.proofs.Reading.{length-message_bytes, message_read}
use Rattle.stow_message.proofs.Stored.{room, read_is}
use Rattle.stow_message.proofs.RisingLists.{below_within, placed_is, placed_rises, sum-placed}

-- bytes that begin with a message still do with more after them
pub still_begins : (bs more : List ℕ) → BeginsWith bs → BeginsWith (bs ++ more)
still_begins bs more b = record { message = b.message; rest = b.rest ++ more; is_message = b.is_message; is = ap (λ l. l ++ more) b.is ∙ append_assoc (message_bytes b.message) b.rest more }

module _ (front more : List ℕ) where
  past : (at : ℕ) → BeginsWith (drop at front) → drop at (front ++ more) ≡ drop at front ++ more
  past at b = drop-append-le at front more (omega (arith, room front at b))

  pub still_there : (at : ℕ) → BeginsWith (drop at front) → BeginsWith (drop at (front ++ more))
  still_there at b = subst BeginsWith (sym (past at b)) (still_begins (drop at front) more b)

  still_read : (at : ℕ) → BeginsWith (drop at front) → message_at (drop at (front ++ more)) ≡ message_at (drop at front)
  unfolding still_begins
  still_read at b = let on = still_begins (drop at front) more b in
      ap message_at (past at b) ∙ ap message_at on.is ∙ message_read on.message on.rest on.is_message ∙ sym (read_is front at b)

  pub all_still_there : (slots : List ℕ) → AllByRecursion (λ slot. BeginsWith (drop slot front)) slots → AllByRecursion (λ slot. BeginsWith (drop slot (front ++ more))) slots
  all_still_there [] h = tt
  all_still_there (s ∷ ss) h = (still_there s h.0, all_still_there ss h.1)

  pub all_still_read : (slots : List ℕ) → AllByRecursion (λ slot. BeginsWith (drop slot front)) slots → map (λ slot. message_at (drop slot (front ++ more))) slots ≡ map (λ slot. message_at (drop slot front)) slots
  all_still_read [] h = refl
  all_still_read (s ∷ ss) h = λ i. still_read s h.0 i ∷ all_still_read ss h.1 i

all_insert : {X : Type 0} (P : X → Type 0) (xs : List X) (i : ℕ) (x : X) → AllByRecursion P xs → P x → AllByRecursion P (insert xs i x)
all_insert P xs zero x h p = (p, h)
all_insert P [] (suc i) x h p = (p, tt)
all_insert P (y ∷ ys) (suc i) x h p = (h.0, all_insert P ys i x h.1 p)

map-insert : {X Y : Type 0} (f : X → Y) (xs : List X) (i : ℕ) (x : X) → map f (insert xs i x) ≡ insert (map f xs) i (f x)
map-insert f xs zero x = refl
map-insert f [] (suc i) x = refl
map-insert f (y ∷ ys) (suc i) x = ap (λ l. f y ∷ l) (map-insert f ys i x)

length-insert : {X : Type 0} (xs : List X) (i : ℕ) (x : X) → length (insert xs i x) ≡ suc (length xs)
length-insert xs zero x = refl
length-insert [] (suc i) x = refl
length-insert (y ∷ ys) (suc i) x = ap suc (length-insert ys i x)

pub slots_of_messages : (raw : RawLists) → length (messages_in raw) ≡ length raw.slots
slots_of_messages raw = length-map raw.slots (λ slot. message_at (drop slot raw.front))

module _ (raw : RawLists) (h : IsPackedBuffer raw) (m : TreeMessage) (ok : IsMessage m) where
  abbrev pub pushed : RawLists
  pushed = raw_lists (raw.front ++ message_bytes m) (insert raw.slots (below (place_of m) (messages_in raw)) (length raw.front)) raw.capacity

  begins_here : BeginsWith (drop (length raw.front) (raw.front ++ message_bytes m))
  begins_here = record { message = m; rest = []; is_message = ok; is = drop_at raw.front (message_bytes m) (length raw.front) refl ∙ sym (append-nil (message_bytes m)) }

  pub pushed_messages : messages_in pushed ≡ placed m (messages_in raw)
  unfolding begins_here
  pushed_messages = let front = raw.front ++ message_bytes m in let i = below (place_of m) (messages_in raw) in let at = length raw.front in
      map-insert (λ slot. message_at (drop slot front)) raw.slots i at
      ∙ (λ j. insert (all_still_read raw.front (message_bytes m) raw.slots h.whole j) i (read_is front at begins_here j)) ∙ placed_is m (messages_in raw)

  pub pushed_used : raw_used pushed ≡ raw_used raw + message_size m
  pushed_used = let i = below (place_of m) (messages_in raw) in
      omega (arith, length-append raw.front (message_bytes m), length-message_bytes m, length-insert raw.slots i (length raw.front))

  pub pushed_filled : IsNew m (messages_in raw) → raw_used raw + message_size m ≤ raw.capacity → IsPackedBuffer pushed
  pushed_filled new fits = let i = below (place_of m) (messages_in raw) in record {
    whole = all_insert (λ slot. BeginsWith (drop slot (raw.front ++ message_bytes m))) raw.slots i (length raw.front) (all_still_there raw.front (message_bytes m) raw.slots h.whole) begins_here;
    rising = subst MessagesRise (sym pushed_messages) (placed_rises m (messages_in raw) h.rising new);
    live = omega (arith, ap (sum_by message_size) pushed_messages, sum-placed m (messages_in raw), h.live, pushed_used);
    within = (omega (arith, pushed_used), h.within.1);
  }

  -- the steps of a push
  module _ (r : RawLists) (e : r ≡ raw_lists (raw.front ++ message_bytes m) raw.slots raw.capacity) where
    pub slot_fits : raw_used raw + message_size m ≤ raw.capacity → raw_used r + 4 ≤ r.capacity
    slot_fits fits = omega (arith, ap raw_used e, ap (λ (s : RawLists). s.capacity) e, length-append raw.front (message_bytes m), length-message_bytes m)

    pub slots_same : r.slots ≡ raw.slots
    slots_same = ap (λ (s : RawLists). s.slots) e

    pub after_slot : (s : RawLists) (i at : ℕ) → s ≡ raw_lists r.front (insert r.slots i at) r.capacity → i ≡ below (place_of m) (messages_in raw) → at ≡ length raw.front → s ≡ pushed
    after_slot s i at last here slot =
        last ∙ (λ j. raw_lists (e j).front (insert (e j).slots i at) (e j).capacity) ∙ (λ j. raw_lists (raw.front ++ message_bytes m) (insert raw.slots (here j) (slot j)) raw.capacity)

-- a push into a block: its message's bytes stand at the front, and its slot comes
pub record Push (raw r : RawLists) (v : MessageList) (m : TreeMessage) (index : ℕ) : Type 0 where
  pub room : (index ≤ length r.slots) × (raw_used r + 4 ≤ r.capacity)
  pub filled : (last : RawLists) (at : ℕ) → at ≡ length raw.front → last ≡ raw_lists r.front (insert r.slots index at) r.capacity → IsPackedBuffer last
  pub is : (last : RawLists) (at : ℕ) → at ≡ length raw.front → last ≡ raw_lists r.front (insert r.slots index at) r.capacity
      → message_list (messages_in last) (raw_used last) last.capacity ≡ with_message m v

module _ (raw : RawLists) (h : IsPackedBuffer raw) (v : MessageList) (view : message_list (messages_in raw) (raw_used raw) raw.capacity ≡ v) (message : coded.Message) (asked : Fits v (message_of message) × IsNew (message_of message) v.messages) where
  abbrev lent : TreeMessage
  lent = message_of message

  is_valid : IsMessage lent
  is_valid = record { is_key = message.key.is_key; is_of_tenant = message.is_of_tenant; is_numbered = message.is_numbered; is_short = message.is_short }

  fits : raw_used raw + message_size lent ≤ raw.capacity
  fits = subst (λ (w : MessageList). w.used + message_size lent ≤ w.capacity) (sym view) asked.0

  pub bytes_fit : raw_used raw + length (message_bytes lent) ≤ raw.capacity
  bytes_fit = omega (arith, fits, length-message_bytes lent)

  module _ (r : RawLists) (e : r ≡ raw_lists (raw.front ++ message_bytes lent) raw.slots raw.capacity) (index : ℕ) (i : index ≡ below (place_of lent) v.messages) where
    here : index ≡ below (place_of lent) (messages_in raw)
    here = i ∙ ap (λ (w : MessageList). below (place_of lent) w.messages) (sym view)

    new_here : IsNew lent (messages_in raw)
    new_here = subst (λ (w : MessageList). IsNew lent w.messages) (sym view) asked.1

    last_is : (last : RawLists) (at : ℕ) → at ≡ length raw.front → last ≡ raw_lists r.front (insert r.slots index at) r.capacity → last ≡ pushed raw h lent is_valid
    last_is last at f g = after_slot raw h lent is_valid r e last index at g here f

    pub push : Push raw r v lent index
    push = record {
      room = (omega (arith, here, below_within (place_of lent) (messages_in raw), slots_of_messages raw, ap length (slots_same raw h lent is_valid r e)), slot_fits raw h lent is_valid r e fits);
      filled = λ last at f g. subst IsPackedBuffer (sym (last_is last at f g)) (pushed_filled raw h lent is_valid new_here fits);
      is = λ last at f g. ap (λ (b : RawLists). message_list (messages_in b) (raw_used b) b.capacity) (last_is last at f g)
          ∙ (λ j. message_list (pushed_messages raw h lent is_valid j) (pushed_used raw h lent is_valid j) raw.capacity)
          ∙ ap (with_message lent) view;
    }

-- one slot more before the others, then written over
pub set_first : (r s last : RawLists) (at : ℕ) → s ≡ raw_lists r.front (replicate 1 0 ++ r.slots) r.capacity → last ≡ raw_lists s.front (slice_set s.slots 0 at) s.capacity
    → last ≡ raw_lists r.front (insert r.slots 0 at) r.capacity
set_first r s last at e f = f ∙ ap (λ (b : RawLists). raw_lists b.front (slice_set b.slots 0 at) b.capacity) e

-- a message is packed in three parts
module _ (raw r₁ r₂ r₃ : RawLists) (m : TreeMessage) (hs vs : List ℕ) (e₁ : r₁ ≡ raw_lists (raw.front ++ hs) raw.slots raw.capacity) (e₂ : r₂ ≡ raw_lists (r₁.front ++ m.key) r₁.slots r₁.capacity)
    (e₃ : r₃ ≡ raw_lists (r₂.front ++ vs) r₂.slots r₂.capacity) (head : hs ≡ head_of m) (value : vs ≡ bytes_in m.op) where
  pub after_bytes : r₃ ≡ raw_lists (raw.front ++ message_bytes m) raw.slots raw.capacity
  unfolding message_bytes
  after_bytes =
      e₃ ∙ (λ i. raw_lists ((e₂ i).front ++ vs) (e₂ i).slots (e₂ i).capacity) ∙ (λ i. raw_lists (((e₁ i).front ++ m.key) ++ vs) (e₁ i).slots (e₁ i).capacity)
      ∙ ap (λ l. raw_lists l raw.slots raw.capacity) (append_assoc (raw.front ++ hs) m.key vs ∙ append_assoc raw.front hs (m.key ++ vs) ∙ (λ i. raw.front ++ (head i ++ (m.key ++ value i))))

pub empty_filled : (capacity : ℕ) → capacity < 4294967296 → IsPackedBuffer (raw_lists [] [] capacity)
unfolding IsStrictlySortedBy
empty_filled capacity small = record { whole = tt; rising = tt; live = omega arith; within = (omega arith, small) }

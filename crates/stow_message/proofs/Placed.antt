-- Messages that are put to their places in a rising list.
use Rattle.std.proofs.Common.{◌≡◌, ℕ, zero, suc, ◌+◌, ◌<◌, ◌≤◌, Bool, true, false, List, [], ◌∷◌, ◌++◌, map, length, take, drop, get_or, refl, sym, ap, ◌∙◌, arith, drop-drop}
use Rattle.std.proofs.lemmas.List.{drop_more, get_or-drop}
use Rattle.std.proofs.lemmas.List.Sums.{sum_by-cons}
use Rattle.std.specs.Prelude.{if◌then◌else◌}
use Rattle.std.specs.Ordering.{is_lt, is_eq}
use Rattle.std.specs.List.{AllByRecursion, sum_by}
use Rattle.std.specs.List.Sorted.{IsStrictlySortedBy}
use Rattle.stow_tree_model.specs.TreeMessage.{TreeMessage}
use Rattle.stow_tree_model.specs.Order.{place_cmp, place_of, MessagesRise}
use Rattle.stow_message.specs.Packed.{message_size}
use Rattle.stow_message.specs.Rising.{is_below, is_first_below, below, placed, all_placed, AreNew}
use Rattle.stow_message.proofs.RisingLists.{AllAbove, above_all, all_by, lt_is, new_rises, sum-placed}

abbrev Other : TreeMessage → TreeMessage → Type 0
Other m n = is_eq (place_cmp (place_of n) (place_of m)) ≡ false

other_placed : (m n : TreeMessage) (ns : List TreeMessage) → Other m n → AllByRecursion (Other m) ns → AllByRecursion (Other m) (placed n ns)
other_placed m n [] o h = (o, tt)
other_placed m n (x ∷ xs) o h = step (is_below (place_of n) x) (other_placed m n xs o h.1) where
  step : (b : Bool) → AllByRecursion (Other m) (placed n xs) → AllByRecursion (Other m) (if b then x ∷ placed n xs else n ∷ x ∷ xs)
  step true on = (h.0, on)
  step false on = (o, h)

abbrev pub AllOther : List TreeMessage → List TreeMessage → Type 0
AllOther ms ns = AllByRecursion (λ m. AllByRecursion (Other m) ns) ms

pub all_other_placed : (n : TreeMessage) (ms ns : List TreeMessage) → AllAbove (place_of n) ms → AllOther ms ns → AllOther ms (placed n ns)
all_other_placed n [] ns above h = tt
all_other_placed n (m ∷ ms) ns above h = (other_placed m n ns (ap is_eq above.0) h.0, all_other_placed n ms ns above.1 h.1)

pub all_other : (ms ns : List TreeMessage) → AreNew ms ns → AllOther ms ns
all_other [] ns new = tt
all_other (m ∷ ms) ns new = (all_by (Other m) ns (new 0 m (omega arith)), all_other ms ns (λ k d lt. new (suc k) d (omega arith)))

-- new messages keep the list rising
pub all_placed_rises : (ms ns : List TreeMessage) → MessagesRise ms → MessagesRise ns → AllOther ms ns → MessagesRise (all_placed ms ns)
unfolding IsStrictlySortedBy
all_placed_rises [] ns rise up h = up
all_placed_rises (m ∷ ms) ns rise up h = all_placed_rises ms (placed m ns) rise.1 (new_rises m ns up h.0) (all_other_placed m ms ns rise.0 h.1)

-- sizes add up
pub sum-all_placed : (ms ns : List TreeMessage) → sum_by message_size (all_placed ms ns) ≡ sum_by message_size ms + sum_by message_size ns
sum-all_placed [] ns = omega arith
sum-all_placed (m ∷ ms) ns = omega (arith, sum-all_placed ms (placed m ns), sum-placed m ns, sum_by-cons message_size m ms)

-- a message below those that are put stays first
pub placed_first : (m : TreeMessage) (ms ns : List TreeMessage) → AllAbove (place_of m) ms → all_placed ms (m ∷ ns) ≡ m ∷ all_placed ms ns
placed_first m [] ns h = refl
placed_first m (x ∷ ms) ns h = ap (λ o. all_placed ms (if is_lt o then m ∷ placed x ns else x ∷ m ∷ ns)) h.0 ∙ placed_first m ms (placed x ns) h.1

-- two lists merged, each thing with the message that it names: the next of the first list stands before what isn't below it
abbrev pub put_in : {X : Type 0} → (X → TreeMessage) → X → (List X → List X) → List X → List X
put_in f x rest [] = x ∷ rest []
put_in f x rest (y ∷ ys) = if is_below (place_of (f x)) (f y) then y ∷ put_in f x rest ys else x ∷ rest (y ∷ ys)

abbrev pub merged : {X : Type 0} → (X → TreeMessage) → List X → List X → List X
merged f [] ys = ys
merged f (x ∷ xs) ys = put_in f x (merged f xs) ys

abbrev pub itself : TreeMessage → TreeMessage
itself m = m

put_in_is : (m : TreeMessage) (ms : List TreeMessage) (rest : List TreeMessage → List TreeMessage) → ((l : List TreeMessage) → rest l ≡ all_placed ms l) → AllAbove (place_of m) ms
    → (ns : List TreeMessage) → put_in itself m rest ns ≡ all_placed ms (placed m ns)
put_in_is m ms rest all above [] = ap (λ l. m ∷ l) (all []) ∙ sym (placed_first m ms [] above)
put_in_is m ms rest all above (n ∷ ns) = step (is_below (place_of m) n) refl (put_in_is m ms rest all above ns) where
  step : (t : Bool) → t ≡ is_below (place_of m) n → put_in itself m rest ns ≡ all_placed ms (placed m ns)
      → (if t then n ∷ put_in itself m rest ns else m ∷ rest (n ∷ ns)) ≡ all_placed ms (if t then n ∷ placed m ns else m ∷ n ∷ ns)
  step true e on = ap (λ l. n ∷ l) on ∙ sym (placed_first n ms (placed m ns) (above_all (place_of n) (place_of m) ms (lt_is (place_cmp (place_of n) (place_of m)) (sym e)) above))
  step false e on = ap (λ l. m ∷ l) (all (n ∷ ns)) ∙ sym (placed_first m ms (n ∷ ns) above)

pub merged_is : (ms ns : List TreeMessage) → MessagesRise ms → merged itself ms ns ≡ all_placed ms ns
unfolding IsStrictlySortedBy
merged_is [] ns up = refl
merged_is (m ∷ ms) ns up = put_in_is m ms (merged itself ms) (λ l. merged_is ms l up.1) up.0 ns

map_put_in : {X : Type 0} (f : X → TreeMessage) (x : X) (rest : List X → List X) (all : List TreeMessage → List TreeMessage) → ((l : List X) → map f (rest l) ≡ all (map f l)) → (ys : List X) → map f (put_in f x rest ys) ≡ put_in itself (f x) all (map f ys)
map_put_in f x rest all h [] = ap (λ l. f x ∷ l) (h [])
map_put_in f x rest all h (y ∷ ys) = step (is_below (place_of (f x)) (f y)) (map_put_in f x rest all h ys) where
  step : (t : Bool) → map f (put_in f x rest ys) ≡ put_in itself (f x) all (map f ys) → map f (if t then y ∷ put_in f x rest ys else x ∷ rest (y ∷ ys)) ≡ (if t then f y ∷ put_in itself (f x) all (map f ys) else f x ∷ all (f y ∷ map f ys))
  step true on = ap (λ l. f y ∷ l) on
  step false on = ap (λ l. f x ∷ l) (h (y ∷ ys))

pub map_merged : {X : Type 0} (f : X → TreeMessage) (xs ys : List X) → map f (merged f xs ys) ≡ merged itself (map f xs) (map f ys)
map_merged f [] ys = refl
map_merged f (x ∷ xs) ys = map_put_in f x (merged f xs) (merged itself (map f xs)) (λ l. map_merged f xs l) ys

all_put_in : {X : Type 0} (P : X → Type 0) (f : X → TreeMessage) (x : X) (rest : List X → List X) → P x → ((l : List X) → AllByRecursion P l → AllByRecursion P (rest l)) → (ys : List X) → AllByRecursion P ys → AllByRecursion P (put_in f x rest ys)
all_put_in P f x rest p h [] all = (p, h [] all)
all_put_in P f x rest p h (y ∷ ys) all = step (is_below (place_of (f x)) (f y)) (all_put_in P f x rest p h ys all.1) where
  step : (t : Bool) → AllByRecursion P (put_in f x rest ys) → AllByRecursion P (if t then y ∷ put_in f x rest ys else x ∷ rest (y ∷ ys))
  step true on = (all.0, on)
  step false on = (p, h (y ∷ ys) all)

pub all_merged : {X : Type 0} (P : X → Type 0) (f : X → TreeMessage) (xs ys : List X) → AllByRecursion P xs → AllByRecursion P ys → AllByRecursion P (merged f xs ys)
all_merged P f [] ys h all = all
all_merged P f (x ∷ xs) ys h all = all_put_in P f x (merged f xs) h.0 (λ l. all_merged P f xs l h.1) ys all

length-put_in : {X : Type 0} (f : X → TreeMessage) (x : X) (n : ℕ) (rest : List X → List X) → ((l : List X) → length (rest l) ≡ n + length l) → (ys : List X) → length (put_in f x rest ys) ≡ suc n + length ys
length-put_in f x n rest h [] = omega (arith, h [])
length-put_in f x n rest h (y ∷ ys) = step (is_below (place_of (f x)) (f y)) (length-put_in f x n rest h ys) where
  step : (t : Bool) → length (put_in f x rest ys) ≡ suc n + length ys → length (if t then y ∷ put_in f x rest ys else x ∷ rest (y ∷ ys)) ≡ suc n + suc (length ys)
  step true on = omega (arith, on)
  step false on = omega (arith, h (y ∷ ys))

pub length-merged : {X : Type 0} (f : X → TreeMessage) (xs ys : List X) → length (merged f xs ys) ≡ length xs + length ys
length-merged f [] ys = omega arith
length-merged f (x ∷ xs) ys = length-put_in f x (length xs) (merged f xs) (λ l. length-merged f xs l) ys

-- while the second list's messages stand below the first one's next, they come first
pub passes : {X : Type 0} (f : X → TreeMessage) (x : X) (rest : List X → List X) (ys : List X) (b : ℕ) → b ≤ below (place_of (f x)) (map f ys) → put_in f x rest ys ≡ take b ys ++ put_in f x rest (drop b ys)
passes f x rest ys zero le = refl
passes f x rest [] (suc b) le = absurd (omega (arith, le))
passes f x rest (y ∷ ys) (suc b) le = step (is_below (place_of (f x)) (f y)) le (passes f x rest ys b) where
  step : (t : Bool) → suc b ≤ (if t then suc (below (place_of (f x)) (map f ys)) else 0) → (b ≤ below (place_of (f x)) (map f ys) → put_in f x rest ys ≡ take b ys ++ put_in f x rest (drop b ys))
      → (if t then y ∷ put_in f x rest ys else x ∷ rest (y ∷ ys)) ≡ y ∷ (take b ys ++ put_in f x rest (drop b ys))
  step true le on = ap (λ l. y ∷ l) (on (omega (arith, le)))
  step false le on = absurd (omega (arith, le))

-- the first of two merged lists
merged_step : {X : Type 0} (f : X → TreeMessage) (x d : X) (xs ys : List X) → merged f (x ∷ xs) ys ≡ (if is_first_below (f x) (map f ys) then get_or ys 0 d ∷ merged f (x ∷ xs) (drop 1 ys) else x ∷ merged f xs ys)
merged_step f x d xs [] = refl
merged_step f x d xs (y ∷ ys) = refl

-- two lists are merged on, from places in both
pub merged_next : {X : Type 0} (f : X → TreeMessage) (xs ys : List X) (n o : ℕ) (d : X) (m : TreeMessage) (t : Bool) → n < length xs → m ≡ f (get_or xs n d) → t ≡ is_first_below m (map f (drop o ys))
    → merged f (drop n xs) (drop o ys) ≡ (if t then get_or ys o d ∷ merged f (drop n xs) (drop (o + 1) ys) else get_or xs n d ∷ merged f (drop (n + 1) xs) (drop o ys))
merged_next f xs ys n o d m t lt is e = let x = get_or xs n d in let more = drop_more xs n d lt in let at : o + 0 ≡ o = omega arith in
    ap (λ l. merged f l (drop o ys)) more ∙ merged_step f x d (drop (n + 1) xs) (drop o ys)
    ∙ (λ k. if is_first_below (sym is k) (map f (drop o ys)) then (get_or-drop o ys 0 d ∙ ap (λ i. get_or ys i d) at) k ∷ merged f (sym more k) (drop-drop 1 o ys k) else x ∷ merged f (drop (n + 1) xs) (drop o ys))
    ∙ ap (λ b. if b then get_or ys o d ∷ merged f (drop n xs) (drop (o + 1) ys) else x ∷ merged f (drop (n + 1) xs) (drop o ys)) (sym e)

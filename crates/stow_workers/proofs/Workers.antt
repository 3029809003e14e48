-- What calls do to a seat, one connection after another, and what flushes do; and relations of lists place by place.
use Rattle.std.proofs.Common.{◌≡◌, ◌≤◌, ◌<◌, ℕ, zero, suc, Bool, List, [], ◌∷◌, ◌++◌, ◌∙◌, refl, sym, subst, ap, length, take, drop, arith}
use Rattle.stow_model.specs.Reply.{Reply}
use Rattle.stow_shared.specs.StowHouse.Conversations.{DoorCall}
use Rattle.stow_shared.specs.StowHouse.FlushDoors.{Flushing}
use Rattle.stow_shared.specs.Seats.{SeatState, SeatCalls, SeatFlushes}
use Rattle.stow_workers.specs.Exchanges.{Call, LeadTo}
use Rattle.stow_workers.specs.Flushes.{FlushTo, HasFlushed}
use Rattle.stow_workers.specs.Pools.{HasCalled, AreEach, AreEachUpTo}

-- ---- calls

-- calls after calls lead on
leads_on : {D : Type 0} (answers : DoorCall D) (old mid : D) (earlier : List Call) → LeadTo answers old earlier mid → (calls : List Call) (new : D) → LeadTo answers mid calls new → LeadTo answers old (calls ++ earlier) new
unfolding LeadTo
leads_on answers old mid earlier led [] new on = subst (λ d. LeadTo answers old earlier d) (sym on) led
leads_on answers old mid earlier led (call ∷ calls) new on = (on.0, leads_on answers old mid earlier led calls on.0 on.1, on.2)

-- a door that stays at its seat leads the seat by the same calls
leads_seat : {D N : Type 0} (name : D → N) (seat : D → SeatState) (keeps : Bool) (old : D) (calls : List Call) (new : D)
    → LeadTo (λ (before : D) (tenant : ℕ) (words : List (List ℕ)) (told : Reply) (after : D). (name after ≡ name before) × SeatCalls keeps (seat before) tenant words told (seat after)) old calls new
    → (name new ≡ name old) × LeadTo (SeatCalls keeps) (seat old) calls (seat new)
unfolding LeadTo
leads_seat name seat keeps old [] new led = (ap name led, ap seat led)
leads_seat name seat keeps old (call ∷ calls) new led =
    let earlier = leads_seat name seat keeps old calls led.0 led.1 in
    (led.2.0 ∙ earlier.0, (seat led.0, earlier.1, led.2.1))

pub no_calls : (keeps : Bool) (seat : SeatState) → HasCalled keeps seat seat
unfolding LeadTo
no_calls keeps seat = record { calls = []; led = refl }

pub calls_on : (keeps : Bool) (old mid new : SeatState) → HasCalled keeps old mid → HasCalled keeps mid new → HasCalled keeps old new
calls_on keeps old mid new before after = record {
  calls = after.calls ++ before.calls;
  led = leads_on (SeatCalls keeps) old mid before.calls before.led after.calls new after.led;
}

-- what a door at a seat did is what the seat gained
pub at_the_seat : {D N : Type 0} (name : D → N) (seat : D → SeatState) (keeps : Bool) (old new : D) (calls : List Call) (last : SeatState)
    → LeadTo (λ (before : D) (tenant : ℕ) (words : List (List ℕ)) (told : Reply) (after : D). (name after ≡ name before) × SeatCalls keeps (seat before) tenant words told (seat after)) old calls new
    → (name old ≡ name new → last ≡ seat new) → HasCalled keeps (seat old) last
at_the_seat name seat keeps old new calls last led at_end =
    let h = leads_seat name seat keeps old calls new led in
    record { calls = calls; led = subst (λ s. LeadTo (SeatCalls keeps) (seat old) calls s) (sym (at_end (sym h.0))) h.1 }

-- ---- flushes

-- a door that stays at its seat leads the seat by the same plans and installs
flushes_seat : {D N : Type 0} (name : D → N) (seat : D → SeatState) (keeps : Bool) (old : D) (done : List Flushing) (new : D)
    → FlushTo (λ (before : D) (step : Flushing) (after : D). (name after ≡ name before) × SeatFlushes keeps (seat before) step (seat after)) old done new
    → (name new ≡ name old) × FlushTo (SeatFlushes keeps) (seat old) done (seat new)
unfolding FlushTo
flushes_seat name seat keeps old [] new led = (ap name led, ap seat led)
flushes_seat name seat keeps old (step ∷ done) new led =
    let earlier = flushes_seat name seat keeps old done led.0 led.1 in
    (led.2.0 ∙ earlier.0, (seat led.0, earlier.1, led.2.1))

-- what a flusher's door at a seat did is what the seat gained
pub flushed_at_the_seat : {D N : Type 0} (name : D → N) (seat : D → SeatState) (keeps : Bool) (old new : D) (last : SeatState)
    → HasFlushed (λ (before : D) (step : Flushing) (after : D). (name after ≡ name before) × SeatFlushes keeps (seat before) step (seat after)) old new
    → (name old ≡ name new → last ≡ seat new) → HasFlushed (SeatFlushes keeps) (seat old) last
flushed_at_the_seat name seat keeps old new last has at_end =
    let h = flushes_seat name seat keeps old has.done new has.led in
    record { done = has.done; led = subst (λ s. FlushTo (SeatFlushes keeps) (seat old) has.done s) (sym (at_end (sym h.0))) h.1 }

-- ---- place by place

pub each_none : {X Y : Type 0} (R : X → Y → Type 0) → AreEach R [] []
unfolding AreEach
each_none R = tt

pub each_more : {X Y : Type 0} (R : X → Y → Type 0) (xs : List X) (ys : List Y) (x : X) (y : Y) → AreEach R xs ys → R x y → AreEach R (xs ++ x ∷ []) (ys ++ y ∷ [])
unfolding AreEach
each_more R [] [] x y each last = (last, tt)
each_more R (x' ∷ xs) (y' ∷ ys) x y each last = (each.0, each_more R xs ys x y each.1 last)
each_more R [] (y' ∷ ys) x y each last = absurd each
each_more R (x' ∷ xs) [] x y each last = absurd each

pub each_same : {X : Type 0} (R : X → X → Type 0) → ((x : X) → R x x) → (xs : List X) → AreEach R xs xs
unfolding AreEach
each_same R same [] = tt
each_same R same (x ∷ xs) = (same x, each_same R same xs)

pub each_then : {X Y Z : Type 0} (R : X → Y → Type 0) (S : Y → Z → Type 0) (T : X → Z → Type 0) → ((x : X) (y : Y) (z : Z) → R x y → S y z → T x z)
    → (xs : List X) (ys : List Y) (zs : List Z) → AreEach R xs ys → AreEach S ys zs → AreEach T xs zs
unfolding AreEach
each_then R S T both [] [] [] first second = tt
each_then R S T both (x ∷ xs) (y ∷ ys) (z ∷ zs) first second = (both x y z first.0 second.0, each_then R S T both xs ys zs first.1 second.1)
each_then R S T both [] [] (z ∷ zs) first second = absurd second
each_then R S T both [] (y ∷ ys) zs first second = absurd first
each_then R S T both (x ∷ xs) [] zs first second = absurd first
each_then R S T both (x ∷ xs) (y ∷ ys) [] first second = absurd second

-- the same of the first so many
each_take : {X Y : Type 0} (R : X → Y → Type 0) (n : ℕ) (xs : List X) (ys : List Y) → AreEach R xs ys → AreEach R (take n xs) (take n ys)
unfolding AreEach
each_take R zero xs ys each = tt
each_take R (suc n) [] [] each = tt
each_take R (suc n) (x ∷ xs) (y ∷ ys) each = (each.0, each_take R n xs ys each.1)
each_take R (suc n) [] (y ∷ ys) each = absurd each
each_take R (suc n) (x ∷ xs) [] each = absurd each

-- the same of what stands behind the first so many
each_drop : {X Y : Type 0} (R : X → Y → Type 0) (n : ℕ) (xs : List X) (ys : List Y) → AreEach R xs ys → AreEach R (drop n xs) (drop n ys)
unfolding AreEach
each_drop R zero xs ys each = each
each_drop R (suc n) [] [] each = tt
each_drop R (suc n) (x ∷ xs) (y ∷ ys) each = each_drop R n xs ys each.1
each_drop R (suc n) [] (y ∷ ys) each = absurd each
each_drop R (suc n) (x ∷ xs) [] each = absurd each

-- ---- the first so many and the others

pub none_up_to : {X Y : Type 0} (n : ℕ) (R S : X → Y → Type 0) → AreEachUpTo n R S [] []
none_up_to n R S = record { first = each_take R n [] [] (each_none R); others = each_drop S n [] [] (each_none S) }

pub same_up_to : {X : Type 0} (n : ℕ) (R S : X → X → Type 0) → ((x : X) → R x x) → ((x : X) → S x x) → (xs : List X) → AreEachUpTo n R S xs xs
same_up_to n R S same others xs = record { first = each_same R same (take n xs); others = each_same S others (drop n xs) }

pub then_up_to : {X Y Z : Type 0} (n : ℕ) (R R' : X → Y → Type 0) (S : Y → Z → Type 0) (T T' : X → Z → Type 0) → ((x : X) (y : Y) (z : Z) → R x y → S y z → T x z) → ((x : X) (y : Y) (z : Z) → R' x y → S y z → T' x z)
    → (xs : List X) (ys : List Y) (zs : List Z) → AreEachUpTo n R R' xs ys → AreEach S ys zs → AreEachUpTo n T T' xs zs
then_up_to n R R' S T T' both both' xs ys zs each then = record {
  first = each_then R S T both (take n xs) (take n ys) (take n zs) each.first (each_take S n ys zs then);
  others = each_then R' S T' both' (drop n xs) (drop n ys) (drop n zs) each.others (each_drop S n ys zs then);
}

-- one more is among the first where there were fewer, and else among the others
more_up_to : {X Y : Type 0} (n : ℕ) (R S : X → Y → Type 0) (xs : List X) (ys : List Y) (x : X) (y : Y) → length xs ≡ length ys → AreEach R (take n xs) (take n ys) → AreEach S (drop n xs) (drop n ys)
    → (length ys < n → R x y) → (n ≤ length ys → S x y) → AreEachUpTo n R S (xs ++ x ∷ []) (ys ++ y ∷ [])
unfolding AreEach
more_up_to zero R S xs ys x y same first others here there = record { first = tt; others = each_more S xs ys x y others (there (omega arith)) }
more_up_to (suc n) R S [] [] x y same first others here there = record { first = (here (omega arith), each_take R n [] [] tt); others = each_drop S n [] [] tt }
more_up_to (suc n) R S (x' ∷ xs) (y' ∷ ys) x y same first others here there =
    let later = more_up_to n R S xs ys x y (omega (arith, same)) first.1 others (λ lt. here (omega (arith, lt))) (λ le. there (omega (arith, le))) in
    record { first = (first.0, later.first); others = later.others }
more_up_to (suc n) R S [] (y' ∷ ys) x y same first others here there = absurd (omega (arith, same))
more_up_to (suc n) R S (x' ∷ xs) [] x y same first others here there = absurd (omega (arith, same))

pub one_more_up_to : {X Y : Type 0} (n : ℕ) (R S : X → Y → Type 0) (xs : List X) (ys : List Y) (x : X) (y : Y) → length xs ≡ length ys → AreEachUpTo n R S xs ys
    → (length ys < n → R x y) → (n ≤ length ys → S x y) → AreEachUpTo n R S (xs ++ x ∷ []) (ys ++ y ∷ [])
one_more_up_to n R S xs ys x y same each here there = more_up_to n R S xs ys x y same each.first each.others here there

pub nothing_left : {X : Type 0} (xs : List X) → length xs ≡ 0 → xs ≡ []
nothing_left [] none = refl
nothing_left (x ∷ xs) none = absurd (omega arith)

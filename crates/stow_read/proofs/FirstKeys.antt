-- The first keys of an interval that have a value, one after another.
use Rattle.std.proofs.Common.{◌≡◌, ℕ, zero, suc, ◌+◌, ◌<◌, ◌≤◌, Bool, true, false, cond, List, [], ◌∷◌, ◌++◌, length, Option, Some, None, refl, ap, ◌∙◌, sym, arith, ⊎_elim, inl, inr}
use Rattle.std.specs.Prelude.{Contains, IsSome, not, ◌&&◌}
use Rattle.std.specs.List.{AllByRecursion}
use Rattle.std.specs.Ordering.{is_lt}
use Rattle.std.specs.List.Sorted.{IsStrictlySortedBy}
use Rattle.std.specs.declared.cmp.Ordering.TheVariants.{Less}
use Rattle.std.proofs.lemmas.List.{length-append}
use Rattle.std.proofs.lemmas.List.Elements.{Contains-append_left, Contains-append_right}
use Rattle.stow_bytes.specs.Bytes.{bytes_cmp}
use Rattle.stow_tree_model.specs.Operations.{Operations, latest}
use Rattle.stow_tree_model.proofs.Histories.{latest_none}
use Rattle.stow_node.proofs.StowMessage.RisingLists.{lt_is}
use Rattle.stow_node.specs.StowLeaf.Intervals.{spans, top_key}
use Rattle.stow_node.proofs.StowLeaf.Found.{found, none_some}
use Rattle.stow_node.proofs.StowLeaf.Intervals.{lt, by_test, lt_self, lt_not, lt_trans, le_lt, lt_le, le_le, at_most, under, beyond, not_spanned}
use Rattle.stow_node.specs.Nodes.{AreChildren}
use Rattle.stow_node.specs.Subtree.{Subtree, messages_of}
use Rattle.stow_node.specs.declared.child.Child.{Child}
use Rattle.stow_tree_model.specs.Messages.{ops_in}
use Rattle.stow_tree_model.specs.TreeMessage.{TreeMessage}
use Rattle.stow_read.proofs.Gathered.{all_join}
use Rattle.stow_read.proofs.Walked.{none_outside}
use Rattle.stow_read.specs.NextKey.{is_from, HaveNone, IsNextKey}
use Rattle.stow_read.specs.Walk.{is_inside, AreBelow, AreFirst}
use Rattle.stow_read.proofs.NextKeys.{apart, not_is, not_under, from_above}

-- ---- intervals

both_left : (a b : Bool) → (a && b) ≡ true → a ≡ true
both_left true b e = refl
both_left false b e = absurd (let z : false ≡ true = e in cc)

both_right : (a b : Bool) → (a && b) ≡ true → b ≡ true
both_right true b e = e
both_right false b e = absurd (let z : false ≡ true = e in cc)

both_true : (a b : Bool) → a ≡ true → b ≡ true → (a && b) ≡ true
both_true true b e f = f
both_true false b e f = absurd (let z : false ≡ true = e in cc)

pub inside_from : (start : List ℕ) (after : Bool) (to key : List ℕ) → is_inside start after to key ≡ true → is_from start after key ≡ true
inside_from start after to key e = both_left (is_from start after key) (lt key to) e

pub inside_to : (start : List ℕ) (after : Bool) (to key : List ℕ) → is_inside start after to key ≡ true → lt key to ≡ true
inside_to start after to key e = both_right (is_from start after key) (lt key to) e

pub insided : (start : List ℕ) (after : Bool) (to key : List ℕ) → is_from start after key ≡ true → lt key to ≡ true → is_inside start after to key ≡ true
insided start after to key e f = both_true (is_from start after key) (lt key to) e f

-- ---- the keys so far

-- the key stands before the next one
abbrev pub IsBefore : Option (List ℕ) → List ℕ → Type 0
IsBefore None key = Unit {0}
IsBefore (Some k) key = lt key k ≡ true

-- the next key is of the interval, and all keys are below it
abbrev pub IsNextOf : List ℕ → Bool → List ℕ → List (List ℕ) → Option (List ℕ) → Type 0
IsNextOf start after to keys None = Unit {0}
IsNextOf start after to keys (Some k) = (is_inside start after to k ≡ true) × AreBelow keys k

-- a message of the key is there
pub record IsHeld (ops : List ℕ → Operations) (key : List ℕ) : Type 0 where
  pub number : ℕ
  pub there : IsSome (ops key number)

abbrev pub IsNextHeld : (List ℕ → Operations) → Option (List ℕ) → Type 0
IsNextHeld ops None = Unit {0}
IsNextHeld ops (Some k) = IsHeld ops k

next_held : (ops : List ℕ → Operations) (start : List ℕ) (after : Bool) (to : List ℕ) (next : Option (List ℕ)) → IsNextKey ops start after to next → IsNextHeld ops next
next_held ops start after to None none = tt
next_held ops start after to (Some k) low = record { number = low.number; there = low.there }

-- the keys before the next one have been gone over
pub record AreFirstSoFar (ops : List ℕ → Operations) (start : List ℕ) (after : Bool) (to : List ℕ) (at count : ℕ) (keys : List (List ℕ)) (next : Option (List ℕ)) : Type 0 where
  pub rise : IsStrictlySortedBy bytes_cmp keys
  pub inside : AllByRecursion (λ (k : List ℕ). is_inside start after to k ≡ true) keys
  pub there : AllByRecursion (λ (k : List ℕ). IsSome (latest (ops k) at)) keys
  pub few : length keys ≤ count
  pub next_is : IsNextOf start after to keys next
  pub held : IsNextHeld ops next
  pub all : (key : List ℕ) → is_inside start after to key ≡ true → IsSome (latest (ops key) at) → IsBefore next key → Contains keys key

nothing : {X : Type 0} (f : Operations) (at : ℕ) → ((n : ℕ) → f n ≡ None) → IsSome (latest f at) → X
nothing f at none s = absurd (let z = latest_none f at (λ k l. none k) in cc)

pub keys_first : (ops : List ℕ → Operations) (start : List ℕ) (after : Bool) (to : List ℕ) (at count : ℕ) (next : Option (List ℕ)) → IsNextKey ops start after to next → AreFirstSoFar ops start after to at count [] next
unfolding IsStrictlySortedBy
keys_first ops start after to at count None none = record {
  rise = tt;
  inside = tt;
  there = tt;
  few = omega arith;
  next_is = tt;
  held = tt;
  all = λ key s v b. nothing (ops key) at (none key (inside_from start after to key s) (inside_to start after to key s)) v;
}
keys_first ops start after to at count (Some k) low = record {
  rise = tt;
  inside = tt;
  there = tt;
  few = omega arith;
  next_is = (insided start after to k low.from low.below, tt);
  held = record { number = low.number; there = low.there };
  all = λ key s v b. nothing (ops key) at (low.none key (inside_from start after to key s) b) v;
}

-- no key between the one that was gone over and the next one has a value
between : (ops : List ℕ → Operations) (start : List ℕ) (after : Bool) (to : List ℕ) (at : ℕ) (k : List ℕ) (next : Option (List ℕ)) (key : List ℕ) → IsNextKey ops k true to next → lt k key ≡ true → is_inside start after to key ≡ true → IsBefore next key → IsSome (latest (ops key) at) → ⊥
between ops start after to at k None key none l s b v = nothing (ops key) at (none key l (inside_to start after to key s)) v
between ops start after to at k (Some j) key low l s b v = nothing (ops key) at (low.none key l b) v

next_of : (ops : List ℕ → Operations) (start : List ℕ) (after : Bool) (to k : List ℕ) (keys : List (List ℕ)) (next : Option (List ℕ)) → IsNextKey ops k true to next → is_inside start after to k ≡ true → ((j : List ℕ) → lt k j ≡ true → AreBelow keys j) → IsNextOf start after to keys next
next_of ops start after to k keys None none s below = tt
next_of ops start after to k keys (Some j) low s below = (
  insided start after to j (from_above start after k j (inside_from start after to k s) (lt_not k j low.from)) low.below,
  below j low.from,
)

below_more : (keys : List (List ℕ)) (k j : List ℕ) → AreBelow keys k → lt k j ≡ true → AreBelow keys j
below_more [] k j a l = tt
below_more (x ∷ xs) k j a l = (lt_trans x k j a.0 l, below_more xs k j a.1 l)

-- the key has no value
pub keys_past : (ops : List ℕ → Operations) (start : List ℕ) (after : Bool) (to : List ℕ) (at count : ℕ) (keys : List (List ℕ)) (k : List ℕ) (next : Option (List ℕ)) → AreFirstSoFar ops start after to at count keys (Some k) → latest (ops k) at ≡ None → IsNextKey ops k true to next → AreFirstSoFar ops start after to at count keys next
keys_past ops start after to at count keys k next r none is = record {
  rise = r.rise;
  inside = r.inside;
  there = r.there;
  few = r.few;
  next_is = next_of ops start after to k keys next is r.next_is.0 (λ j l. below_more keys k j r.next_is.1 l);
  held = next_held ops k true to next is;
  all = λ key s v b. by_test (lt key k)
      (λ e. r.all key s v e)
      (λ e. ⊎_elim
      (λ (h : k ≡ key). absurd (let z : latest (ops key) at ≡ None = ap (λ x. latest (ops x) at) (sym h) ∙ none in cc))
      (λ (h : lt k key ≡ true). absurd (between ops start after to at k next key is h s b v))
      (at_most k key e));
}

pub push_rises : (keys : List (List ℕ)) (k : List ℕ) → IsStrictlySortedBy bytes_cmp keys → AreBelow keys k → IsStrictlySortedBy bytes_cmp (keys ++ k ∷ [])
unfolding IsStrictlySortedBy
push_rises [] k up u = (tt, tt)
push_rises (x ∷ xs) k up u = (all_join (λ q. bytes_cmp x q ≡ Less) xs (k ∷ []) up.0 (lt_is (bytes_cmp x k) u.0, tt), push_rises xs k up.1 u.1)

-- the key has a value
pub keys_more : (ops : List ℕ → Operations) (start : List ℕ) (after : Bool) (to : List ℕ) (at count : ℕ) (keys : List (List ℕ)) (k : List ℕ) (next : Option (List ℕ)) → AreFirstSoFar ops start after to at count keys (Some k) → IsSome (latest (ops k) at) → length keys < count → IsNextKey ops k true to next → AreFirstSoFar ops start after to at count (keys ++ k ∷ []) next
keys_more ops start after to at count keys k next r has room is = record {
  rise = push_rises keys k r.rise r.next_is.1;
  inside = all_join (λ (x : List ℕ). is_inside start after to x ≡ true) keys (k ∷ []) r.inside (r.next_is.0, tt);
  there = all_join (λ (x : List ℕ). IsSome (latest (ops x) at)) keys (k ∷ []) r.there (has, tt);
  few = omega (arith, length-append keys (k ∷ []));
  next_is = next_of ops start after to k (keys ++ k ∷ []) next is r.next_is.0 (λ j l. all_join (λ (x : List ℕ). lt x j ≡ true) keys (k ∷ []) (below_more keys k j r.next_is.1 l) (l, tt));
  held = next_held ops k true to next is;
  all = λ key s w b. by_test (lt key k)
      (λ e. Contains-append_left keys (k ∷ []) key (r.all key s w e))
      (λ e. ⊎_elim
      (λ (h : k ≡ key). Contains-append_right keys (k ∷ []) key (0, omega arith, h))
      (λ (h : lt k key ≡ true). absurd (between ops start after to at k next key is h s b w))
      (at_most k key e));
}

-- no key is left
pub keys_all : (ops : List ℕ → Operations) (start : List ℕ) (after : Bool) (to : List ℕ) (at count : ℕ) (keys : List (List ℕ)) → AreFirstSoFar ops start after to at count keys None → AreFirst ops start after to at count keys
keys_all ops start after to at count keys r = record { rise = r.rise; inside = r.inside; there = r.there; few = r.few; all = λ key s v. inl (r.all key s v tt) }

-- there are as many as were asked for
pub keys_enough : (ops : List ℕ → Operations) (start : List ℕ) (after : Bool) (to : List ℕ) (at count : ℕ) (keys : List (List ℕ)) (k : List ℕ) → AreFirstSoFar ops start after to at count keys (Some k) → length keys ≡ count → AreFirst ops start after to at count keys
keys_enough ops start after to at count keys k r full = record {
  rise = r.rise;
  inside = r.inside;
  there = r.there;
  few = r.few;
  all = λ key s v. by_test (lt key k)
      (λ e. inl (r.all key s v e))
      (λ e. inr (full, below_all keys key e r.next_is.1));
}
  where
    below_all : (xs : List (List ℕ)) (key : List ℕ) → lt key k ≡ false → AreBelow xs k → AreBelow xs key
    below_all [] key e a = tt
    below_all (x ∷ xs) key e a = (lt_le x k key a.0 e, below_all xs key e a.1)

-- ---- one call behind another

last_too : {X : Type 0} (P : X → Type 0) (xs : List X) (x : X) → AllByRecursion P (xs ++ x ∷ []) → P x
last_too P [] x a = a.0
last_too P (y ∷ ys) x a = last_too P ys x a.1

below_last : (keys : List (List ℕ)) (k : List ℕ) → IsStrictlySortedBy bytes_cmp (keys ++ k ∷ []) → AreBelow keys k
unfolding IsStrictlySortedBy
below_last [] k up = tt
below_last (x ∷ xs) k up = (ap is_lt (last_too (λ q. bytes_cmp x q ≡ Less) xs k up.0), below_last xs k up.1)

-- all of the first keys stand below all of the others
AreApart : List (List ℕ) → List (List ℕ) → Type 0
AreApart keys more = AllByRecursion (λ x. AllByRecursion (λ y. bytes_cmp x y ≡ Less) more) keys

all_less : (x k : List ℕ) (to : List ℕ) (more : List (List ℕ)) → lt k x ≡ false → AllByRecursion (λ (y : List ℕ). is_inside k true to y ≡ true) more → AllByRecursion (λ y. bytes_cmp x y ≡ Less) more
all_less x k to [] l a = tt
all_less x k to (y ∷ ys) l a = (lt_is (bytes_cmp x y) (le_lt x k y l (inside_from k true to y a.0)), all_less x k to ys l a.1)

are_apart : (keys : List (List ℕ)) (k to : List ℕ) (more : List (List ℕ)) → AreBelow keys k → AllByRecursion (λ (y : List ℕ). is_inside k true to y ≡ true) more → AreApart (keys ++ k ∷ []) more
unfolding AreApart
are_apart [] k to more b a = (all_less k k to more (lt_self k) a, tt)
are_apart (x ∷ xs) k to more b a = (all_less x k to more (lt_not x k b.0) a, are_apart xs k to more b.1 a)

rises_join : (keys more : List (List ℕ)) → IsStrictlySortedBy bytes_cmp keys → IsStrictlySortedBy bytes_cmp more → AreApart keys more → IsStrictlySortedBy bytes_cmp (keys ++ more)
unfolding IsStrictlySortedBy AreApart
rises_join [] more up up' a = up'
rises_join (x ∷ xs) more up up' a = (all_join (λ q. bytes_cmp x q ≡ Less) xs more up.0 a.0, rises_join xs more up.1 up' a.1)

still_inside : (start : List ℕ) (after : Bool) (to k : List ℕ) (more : List (List ℕ)) → is_inside start after to k ≡ true → AllByRecursion (λ (y : List ℕ). is_inside k true to y ≡ true) more → AllByRecursion (λ (y : List ℕ). is_inside start after to y ≡ true) more
still_inside start after to k [] s a = tt
still_inside start after to k (y ∷ ys) s a = (
  insided start after to y (from_above start after k y (inside_from start after to k s) (lt_not k y (inside_from k true to y a.0))) (inside_to k true to y a.0),
  still_inside start after to k ys s a.1,
)

-- as many keys as were asked for, and then those after the last one, are the first ones of both calls
pub keys_join : (ops : List ℕ → Operations) (start : List ℕ) (after : Bool) (to : List ℕ) (at count more_count : ℕ) (keys : List (List ℕ)) (k : List ℕ) (more : List (List ℕ)) → AreFirst ops start after to at count (keys ++ k ∷ []) → length (keys ++ k ∷ []) ≡ count → AreFirst ops k true to at more_count more
    → AreFirst ops start after to at (count + more_count) ((keys ++ k ∷ []) ++ more)
keys_join ops start after to at count more_count keys k more first full next = record {
  rise = rises_join (keys ++ k ∷ []) more first.rise next.rise (are_apart keys k to more (below_last keys k first.rise) next.inside);
  inside = all_join (λ (x : List ℕ). is_inside start after to x ≡ true) (keys ++ k ∷ []) more first.inside (still_inside start after to k more own next.inside);
  there = all_join (λ (x : List ℕ). IsSome (latest (ops x) at)) (keys ++ k ∷ []) more first.there next.there;
  few = (let few = next.few in omega (arith, few, full, length-append (keys ++ k ∷ []) more));
  all = λ key s v. ⊎_elim
      (λ (c : Contains (keys ++ k ∷ []) key). inl (Contains-append_left (keys ++ k ∷ []) more key c))
      (λ (c : (length (keys ++ k ∷ []) ≡ count) × AreBelow (keys ++ k ∷ []) key). ⊎_elim
      (λ (d : Contains more key). inl (Contains-append_right (keys ++ k ∷ []) more key d))
      (λ (d : (length more ≡ more_count) × AreBelow more key). inr (
        (let e = d.0 in omega (arith, e, full, length-append (keys ++ k ∷ []) more)),
        all_join (λ (x : List ℕ). lt x key ≡ true) (keys ++ k ∷ []) more c.1 d.1,
      ))
      (next.all key (insided k true to key (last_too (λ (x : List ℕ). lt x key ≡ true) keys k c.1) (inside_to start after to key s)) v))
      (first.all key s v);
}
  where
    own : is_inside start after to k ≡ true
    own = last_too (λ (x : List ℕ). is_inside start after to x ≡ true) keys k first.inside

-- fewer keys than were asked for are all that have a value
pub keys_whole : (ops : List ℕ → Operations) (start : List ℕ) (after : Bool) (to : List ℕ) (at count : ℕ) (keys : List (List ℕ)) → AreFirst ops start after to at count keys → length keys < count
    → (key : List ℕ) → is_inside start after to key ≡ true → IsSome (latest (ops key) at) → Contains keys key
keys_whole ops start after to at count keys first fewer key s v = ⊎_elim
    (λ (c : Contains keys key). c)
    (λ (c : (length keys ≡ count) × AreBelow keys key). absurd (let full = c.0 in omega (arith, full, fewer)))
    (first.all key s v)

-- ---- the keys that are left

-- how many messages stand from the key on
abbrev pub count_from : List ℕ → List TreeMessage → ℕ
count_from k [] = 0
count_from k (m ∷ ms) = cond (lt m.key k) (count_from k ms) (suc (count_from k ms))

abbrev pub left_from : List TreeMessage → Option (List ℕ) → ℕ
left_from ms None = 0
left_from ms (Some k) = count_from k ms

counted_less : (ms : List TreeMessage) (k j : List ℕ) → lt k j ≡ true → count_from j ms ≤ count_from k ms
counted_less [] k j l = omega arith
counted_less (m ∷ ms) k j l = step (lt m.key k) (lt m.key j) refl refl (counted_less ms k j l) where
  step : (a b : Bool) → lt m.key k ≡ a → lt m.key j ≡ b → count_from j ms ≤ count_from k ms → cond b (count_from j ms) (suc (count_from j ms)) ≤ cond a (count_from k ms) (suc (count_from k ms))
  step true true e f h = h
  step true false e f h = apart (lt_trans m.key k j e l) f
  step false true e f h = omega arith
  step false false e f h = omega arith

held_counts : (ms : List TreeMessage) (k j : List ℕ) (w : TreeMessage) → lt k j ≡ true → Contains ms w → w.key ≡ k → count_from j ms < count_from k ms
held_counts [] k j w l c e = absurd (let i = c.1 in omega arith)
held_counts (m ∷ ms) k j w l (zero, i, is) e = step (lt m.key k) (lt m.key j) refl refl (counted_less ms k j l) where
  own : m.key ≡ k
  own = ap (λ (x : TreeMessage). x.key) is ∙ e

  step : (a b : Bool) → lt m.key k ≡ a → lt m.key j ≡ b → count_from j ms ≤ count_from k ms → cond b (count_from j ms) (suc (count_from j ms)) < cond a (count_from k ms) (suc (count_from k ms))
  step true b f g h = apart f (ap (λ x. lt x k) own ∙ lt_self k)
  step false true f g h = omega arith
  step false false f g h = apart (ap (λ x. lt x j) own ∙ l) g
held_counts (m ∷ ms) k j w l (suc p, i, is) e = step (lt m.key k) (lt m.key j) refl refl (held_counts ms k j w l (p, (omega arith), is) e) where
  step : (a b : Bool) → lt m.key k ≡ a → lt m.key j ≡ b → count_from j ms < count_from k ms → cond b (count_from j ms) (suc (count_from j ms)) < cond a (count_from k ms) (suc (count_from k ms))
  step true true f g h = h
  step true false f g h = apart (lt_trans m.key k j f l) g
  step false true f g h = omega arith
  step false false f g h = omega arith

counts : (ms : List TreeMessage) (k : List ℕ) (w : TreeMessage) → Contains ms w → w.key ≡ k → 0 < count_from k ms
counts [] k w c e = absurd (let i = c.1 in omega arith)
counts (m ∷ ms) k w (zero, i, is) e = step (lt m.key k) refl where
  step : (a : Bool) → lt m.key k ≡ a → 0 < cond a (count_from k ms) (suc (count_from k ms))
  step true f = apart f (ap (λ (x : TreeMessage). lt x.key k) is ∙ ap (λ x. lt x k) e ∙ lt_self k)
  step false f = omega arith
counts (m ∷ ms) k w (suc p, i, is) e = step (lt m.key k) (counts ms k w (p, (omega arith), is) e) where
  step : (a : Bool) → 0 < count_from k ms → 0 < cond a (count_from k ms) (suc (count_from k ms))
  step true h = h
  step false h = omega arith

-- fewer messages stand from the next key on than from the one that was gone over
pub fewer_left : (ms : List TreeMessage) (to k : List ℕ) (next : Option (List ℕ)) → IsHeld (ops_in ms) k → IsNextKey (ops_in ms) k true to next → left_from ms next < left_from ms (Some k)
fewer_left ms to k None held none = found ms k held.number held.there (λ w c e. counts ms k w c e)
fewer_left ms to k (Some j) held low = found ms k held.number held.there (λ w c e. held_counts ms k j w low.from c e)

-- ---- the keys of a node

pub held_inside : {A : Type 0} (t : Subtree) (cs : List (Child A)) (key : List ℕ) → AreChildren t cs → IsHeld (ops_in (messages_of t)) key → spans t.low top_key key ≡ true
held_inside t cs key are held = by_test (spans t.low top_key key)
    (λ e. e)
    (λ e. absurd (none_some (ops_in (messages_of t) key held.number) (none_outside t cs key held.number are e) held.there))

is_above : (start : List ℕ) (after : Bool) (key : List ℕ) → lt start key ≡ true → is_from start after key ≡ true
is_above start true key l = l
is_above start false key l = ap not (lt_not start key l)

-- below the node's low fence there is nothing
pub from_low : {A : Type 0} (t : Subtree) (cs : List (Child A)) (start : List ℕ) (after : Bool) (to : List ℕ) (next : Option (List ℕ)) → AreChildren t cs → lt start t.low ≡ true → IsNextKey (ops_in (messages_of t)) t.low false to next → IsNextKey (ops_in (messages_of t)) start after to next
from_low t cs start after to None are l none = λ key f below n. by_test (lt key t.low)
    (λ e. none_outside t cs key n are (under t.low top_key key e))
    (λ e. none key (ap not e) below n)
from_low t cs start after to (Some k) are l low = record {
  from = is_above start after k (lt_le start t.low k l (not_is (lt k t.low) low.from));
  below = low.below;
  number = low.number;
  there = low.there;
  none = λ key f below n. by_test (lt key t.low)
      (λ e. none_outside t cs key n are (under t.low top_key key e))
      (λ e. low.none key (ap not e) below n);
}

-- a key that the node may not hold, and that is not below its low fence, is above all that it holds
pub none_from : {A : Type 0} (t : Subtree) (cs : List (Child A)) (start : List ℕ) (after : Bool) (to : List ℕ) → AreChildren t cs → lt start t.low ≡ false → spans t.low top_key start ≡ false → HaveNone (ops_in (messages_of t)) start after to
none_from t cs start after to are low out key f below n =
    none_outside t cs key n are
    (not_spanned t.low top_key start out
    (λ e. apart e low)
    (λ _ high. beyond t.low top_key key (le_le top_key start key high (not_under start after key f))))

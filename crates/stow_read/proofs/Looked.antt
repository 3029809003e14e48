-- A look at a key's messages in one buffer.
use Rattle.std.proofs.Common.{◌≡◌, ℕ, zero, suc, ◌+◌, ◌-◌, ◌<◌, Bool, true, false, cond, List, [], ◌∷◌, ◌++◌, length, take, drop, reverse, get_or, Option, Some, None, refl, ap, ◌∙◌, sym, subst, arith, ⊎_elim}
use Rattle.std.specs.Prelude.{IsSome, ◌==◌}
use Rattle.std.specs.List.{AllByRecursion}
use Rattle.std.specs.Ordering.{is_eq}
use Rattle.std.specs.Cmp.{tied_itself}
use Rattle.std.specs.Cmp.Lexicographic.{nat_list_cmp_total}
use Rattle.std.proofs.lemmas.Bool.{cond-true}
use Rattle.std.proofs.lemmas.List.{reverse-append}
use Rattle.stow_bytes.specs.Bytes.{bytes_cmp}
use Rattle.stow_tree_model.specs.Op.{Append}
use Rattle.stow_tree_model.specs.Operations.{NumberedValue, Operations, applied, latest, or_else, over, numbered, value_in, bytes_or_none}
use Rattle.stow_tree_model.specs.Messages.{ops_in}
use Rattle.stow_tree_model.specs.Order.{MessagesRise}
use Rattle.stow_tree_model.specs.TreeMessage.{TreeMessage}
use Rattle.stow_tree_model.specs.Merged.{same_key}
use Rattle.stow_tree_model.proofs.Falling.{IsHistory}
use Rattle.stow_tree_model.proofs.Folds.{one_more, rises_take}
use Rattle.stow_tree_model.proofs.Latest.{latest_same}
use Rattle.stow_tree_model.proofs.Ordered.{history_of}
use Rattle.stow_tree_model.proofs.Orders.{key_cases}
use Rattle.stow_tree_model.proofs.Readings.{drop_one_less}
use Rattle.stow_node.specs.StowMessage.Rising.{of_key}
use Rattle.stow_node.proofs.StowMessage.Ranges.{filter_rises}
use Rattle.stow_node.proofs.StowLeaf.Found.{first_stays}
use Rattle.stow_node.proofs.StowLeaf.Ops.{ops-filter}
use Rattle.stow_read.specs.Suffixes.{SuffixList, with_suffix, extended, continued, IsAbove}
use Rattle.stow_read.specs.UpTo.{IsUpTo}
use Rattle.stow_read.proofs.NewestFirst.{read_own}
use Rattle.stow_read.proofs.UpTo.{ops_reversed, front_there, own_up_to, none_behind}

-- ---- the history of a key in a buffer

-- a key's messages of a buffer, the newest first
abbrev pub newest_of : List ℕ → List TreeMessage → List TreeMessage
newest_of key ms = reverse (of_key key ms)

pub of_key_rises : (key : List ℕ) (ms : List TreeMessage) → MessagesRise ms → MessagesRise (of_key key ms)
of_key_rises key ms up = filter_rises (λ m. is_eq (bytes_cmp m.key key)) ms up

pub newest_falls : (key : List ℕ) (ms : List TreeMessage) → MessagesRise ms → IsHistory (newest_of key ms)
newest_falls key ms up = history_of (of_key key ms) (of_key_rises key ms up)

of_key_all : (key : List ℕ) (ms : List TreeMessage) → AllByRecursion (λ (m : TreeMessage). key ≡ m.key) (of_key key ms)
of_key_all key [] = tt
of_key_all key (m ∷ ms) = step (is_eq (bytes_cmp m.key key)) refl (of_key_all key ms) where
  step : (b : Bool) → is_eq (bytes_cmp m.key key) ≡ b → AllByRecursion (λ (n : TreeMessage). key ≡ n.key) (of_key key ms) → AllByRecursion (λ (n : TreeMessage). key ≡ n.key) (cond b (m ∷ of_key key ms) (of_key key ms))
  step true e all = (
    ⊎_elim
        (λ (h : (m.key ≡ key) × (is_eq (bytes_cmp m.key key) ≡ true)). sym h.0)
        (λ (h : (m.key ≡ key → ⊥) × (is_eq (bytes_cmp m.key key) ≡ false)). absurd (let z : true ≡ false = sym e ∙ h.1 in cc))
        (key_cases m.key key),
    all,
  )
  step false e all = all

all_push : {X : Type 0} (P : X → Type 0) (xs : List X) (x : X) → AllByRecursion P xs → P x → AllByRecursion P (xs ++ x ∷ [])
all_push P [] x h l = (l, tt)
all_push P (r ∷ rs) x h l = (h.0, all_push P rs x h.1 l)

all_reversed : {X : Type 0} (P : X → Type 0) (xs : List X) → AllByRecursion P xs → AllByRecursion P (reverse xs)
all_reversed P [] h = h
all_reversed P (x ∷ xs) h = subst (AllByRecursion P) (sym (reverse-append (x ∷ []) xs)) (all_push P (reverse xs) x (all_reversed P xs h.1) h.0)

pub newest_all : (key : List ℕ) (ms : List TreeMessage) → AllByRecursion (λ (m : TreeMessage). key ≡ m.key) (newest_of key ms)
newest_all key ms = all_reversed (λ (m : TreeMessage). key ≡ m.key) (of_key key ms) (of_key_all key ms)

-- they have the key's operations
pub ops_of_newest : (key : List ℕ) (ms : List TreeMessage) (n : ℕ) → MessagesRise ms → ops_in (newest_of key ms) key n ≡ ops_in ms key n
ops_of_newest key ms n up =
    ops_reversed (of_key key ms) key n (of_key_rises key ms up)
    ∙ ops-filter (λ k. is_eq (bytes_cmp k key)) ms key n
    ∙ cond-true (is_eq (bytes_cmp key key)) (ops_in ms key n) None (ap is_eq (tied_itself nat_list_cmp_total key))

pub falls_dropped : (ms : List TreeMessage) (i : ℕ) → IsHistory ms → IsHistory (drop i ms)
falls_dropped ms zero h = h
falls_dropped [] (suc i) h = h
falls_dropped (m ∷ ms) (suc i) h = falls_dropped ms i h.1

pub there_dropped : (ms : List TreeMessage) (i : ℕ) (key : List ℕ) (n : ℕ) → IsSome (ops_in (drop i ms) key n) → IsSome (ops_in ms key n)
there_dropped ms zero key n s = s
there_dropped [] (suc i) key n s = s
there_dropped (m ∷ ms) (suc i) key n s = first_stays m ms key n (there_dropped ms i key n s)

-- ---- suffixes

pub extended-push : (base : Option (List ℕ)) (ss : List (List ℕ)) (s : List ℕ) → extended base (ss ++ s ∷ []) ≡ extended (Some (bytes_or_none base ++ s)) ss
extended-push base [] s = refl
extended-push base (x ∷ ss) s = ap (λ v. Some (bytes_or_none v ++ x)) (extended-push base ss s)

-- an append below the suffixes is one more of them
pub append_below : (list : SuffixList) (n : ℕ) (s : List ℕ) (below : Option NumberedValue) → continued list (applied n (Some (Append s)) below) ≡ continued (with_suffix n s list) below
append_below (newest, []) n s below = refl
append_below (newest, x ∷ older) n s below = ap (numbered newest) (sym (extended-push (value_in below) (x ∷ older) s))

-- a missing value counts as empty
extended-missing : (base : Option (List ℕ)) (ss : List (List ℕ)) → bytes_or_none (extended (Some (bytes_or_none base)) ss) ≡ bytes_or_none (extended base ss)
extended-missing base [] = refl
extended-missing base (s ∷ ss) = ap (λ bytes. bytes ++ s) (extended-missing base ss)

pub not_empty : (n m : ℕ) → false ≡ (n == 0) → m ≡ n → 0 < m
not_empty zero m f e = absurd (let z : false ≡ true = f in cc)
not_empty (suc n) m f e = omega arith

-- suffixes that were folded are what they make of what is below
pub folded_is : (number : ℕ) (ss : List (List ℕ)) (base : Option NumberedValue) (below value : List ℕ) → 0 < length ss → below ≡ bytes_or_none (value_in base) → value ≡ bytes_or_none (extended (Some below) ss)
    → ◌≡◌ {A = Option NumberedValue} (Some (record { number = number; value = value })) (continued (number, ss) base)
folded_is number [] base below value l e is = absurd (omega arith)
folded_is number (s ∷ older) base below value l e is =
    ap (λ bytes. Some (record { number = number; value = bytes }))
    (is ∙ ap (λ bytes. bytes_or_none (extended (Some bytes) older) ++ s) e ∙ ap (λ bytes. bytes ++ s) (extended-missing (value_in base) older))

-- one more suffix is folded
pub folded_next : (base : Option (List ℕ)) (ss : List (List ℕ)) (count i : ℕ) (s bytes bytes' : List ℕ) → count ≡ length ss → i < count → s ≡ get_or ss (count - 1 - i) s
    → Some bytes ≡ extended base (drop (count - i) ss) → bytes' ≡ bytes ++ s → Some bytes' ≡ extended base (drop (count - (i + 1)) ss)
folded_next base ss count i s bytes bytes' len l e so_far more =
    let here : count - (i + 1) ≡ count - 1 - i = omega arith in
    let next : suc (count - 1 - i) ≡ count - i = omega arith in
    ap (λ x. Some x) (more ∙ ap (λ v. bytes_or_none v ++ s) so_far)
    ∙ ap (λ k. extended base (s ∷ drop k ss)) (sym next)
    ∙ ap (extended base) (sym (ap (λ k. drop k ss) here ∙ drop_one_less ss (count - 1 - i) s (omega arith) e))

-- ---- the look

-- the messages behind the first ones have been looked at
pub record IsLooking (ms : List TreeMessage) (key : List ℕ) (at left : ℕ) (old now : SuffixList) : Type 0 where
  pub so_far : (older : Operations) → IsAbove (ops_in ms key) older
      → continued old (latest (over (ops_in ms key) older) at) ≡ continued now (latest (over (ops_in (reverse (take left ms)) key) older) at)

front_reversed : (ms : List TreeMessage) (key : List ℕ) (left n : ℕ) → MessagesRise ms → ops_in (reverse (take left ms)) key n ≡ ops_in (take left ms) key n
front_reversed ms key left n up = ops_reversed (take left ms) key n (rises_take ms left up)

pub looking_first : (ms : List TreeMessage) (key : List ℕ) (at count : ℕ) (old : SuffixList) → MessagesRise ms → IsUpTo ms key at count → IsLooking ms key at count old old
looking_first ms key at count old up front = record {
  so_far = λ older above. ap (continued old) (latest_same (over (ops_in ms key) older) (over (ops_in (reverse (take count ms)) key) older) at
      (λ k l. ap (λ o. or_else o (older k)) (sym (front_reversed ms key count k up ∙ front.whole k l))));
}

-- what the next message makes of what is below it
module _ (ms : List TreeMessage) (key : List ℕ) (at count : ℕ) (old now : SuffixList) (i : ℕ) (m : TreeMessage) (up : MessagesRise ms) (front : IsUpTo ms key at count)
    (inside : i < count) (is : m ≡ get_or ms (count - 1 - i) m) (looking : IsLooking ms key at (count - i) old now) where
  abbrev pub place : ℕ
  place = count - 1 - i

  next : place + 1 ≡ count - i
  next = omega (arith, inside)

  within : place < length ms
  within = let w = front.within in omega (arith, inside, w)

  split : reverse (take (place + 1) ms) ≡ m ∷ reverse (take place ms)
  split = one_more ms place m within is

  falls : IsHistory (m ∷ reverse (take place ms))
  falls = subst IsHistory split (history_of (take (place + 1) ms) (rises_take ms (place + 1) up))

  still_above : (older : Operations) → IsAbove (ops_in ms key) older → IsAbove (ops_in (m ∷ reverse (take place ms)) key) older
  still_above older above n k s t = above n k (front_there ms (place + 1) key n (subst IsSome (front_reversed ms key (place + 1) n up) (subst (λ xs. IsSome (ops_in xs key n)) (sym split) s))) t

  here : (older : Operations) → IsAbove (ops_in ms key) older → continued old (latest (over (ops_in ms key) older) at) ≡ continued now (latest (over (ops_in (reverse (take (place + 1) ms)) key) older) at)
  here older above = looking.so_far older above ∙ ap (λ p. continued now (latest (over (ops_in (reverse (take p ms)) key) older) at)) (sym next)

  pub applied_next : m.key ≡ key → (older : Operations) → IsAbove (ops_in ms key) older
      → continued old (latest (over (ops_in ms key) older) at) ≡ continued now (applied m.number (Some m.op) (latest (over (ops_in (reverse (take place ms)) key) older) at))
  applied_next own older above =
      here older above
      ∙ ap (λ xs. continued now (latest (over (ops_in xs key) older) at)) split
      ∙ ap (continued now) (read_own m (reverse (take place ms)) key older at (sym own) falls (own_up_to ms key at count front place m (omega (arith, inside)) is own) (still_above older above))

  pub looking_on : (s : List ℕ) → m.key ≡ key → m.op ≡ Append s → IsLooking ms key at (count - (i + 1)) old (with_suffix m.number s now)
  looking_on s own op = record {
    so_far = λ older above. applied_next own older above
        ∙ ap (λ o. continued now (applied m.number (Some o) (latest (over (ops_in (reverse (take place ms)) key) older) at))) op
        ∙ append_below now m.number s (latest (over (ops_in (reverse (take place ms)) key) older) at)
        ∙ ap (λ p. continued (with_suffix m.number s now) (latest (over (ops_in (reverse (take p ms)) key) older) at)) less;
  }
    where
      less : place ≡ count - (i + 1)
      less = omega (arith, inside)

  -- the next message is another key's: none are left
  pub looked_past : same_key m.key key ≡ false → (older : Operations) → IsAbove (ops_in ms key) older → continued old (latest (over (ops_in ms key) older) at) ≡ continued now (latest older at)
  looked_past other older above =
      here older above
      ∙ ap (continued now) (latest_same (over (ops_in (reverse (take (place + 1) ms)) key) older) older at
      (λ k a. ap (λ o. or_else o (older k)) (front_reversed ms key (place + 1) k up ∙ none_behind ms key at count front place m (omega (arith, inside)) is up other k)))

-- all of them have been looked at
pub looked_all : (ms : List TreeMessage) (key : List ℕ) (at left : ℕ) (old now : SuffixList) → IsLooking ms key at left old now → left ≡ 0 → (older : Operations) → IsAbove (ops_in ms key) older
    → continued old (latest (over (ops_in ms key) older) at) ≡ continued now (latest older at)
looked_all ms key at left old now looking none older above =
    looking.so_far older above
    ∙ ap (λ p. continued now (latest (over (ops_in (reverse (take p ms)) key) older) at)) none
    ∙ ap (continued now) (latest_same (over (ops_in [] key) older) older at (λ k a. refl))

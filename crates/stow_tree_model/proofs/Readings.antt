-- A key's value, read off messages in order.
use Rattle.std.proofs.Common.{◌≡◌, ◌≢◌, ℕ, suc, ◌+◌, ◌<◌, ◌≤◌, true, false, List, [], ◌∷◌, length, take, drop, reverse, get_or, Option, refl, ap, ◌∙◌, sym, subst, arith, ⊎_elim}
use Rattle.std.specs.Prelude.{◌&&◌, nat_le}
use Rattle.std.specs.List.Sorted.{IsStrictlySortedBy}
use Rattle.std.proofs.Math.Seq.{drop-cons}
use Rattle.std.proofs.lemmas.Bool.{le-leb}
use Rattle.stow_tree_model.specs.TreeMessage.{TreeMessage}
use Rattle.stow_tree_model.specs.Order.{place_of, MessagesRise}
use Rattle.stow_tree_model.specs.Operations.{NumberedValue, value_in, numbered, outcome}
use Rattle.stow_tree_model.specs.Messages.{Messages, ops_of, ops_in, value, in_order}
use Rattle.stow_tree_model.specs.Merged.{same_key}
use Rattle.stow_tree_model.proofs.Orders.{key_cases}
use Rattle.stow_tree_model.proofs.Falling.{IsHistory, value_by}
use Rattle.stow_tree_model.proofs.Latest.{latest_same, latest_stays}
use Rattle.stow_tree_model.proofs.Histories.{value_by-own, value_by-later, value_in-numbered, value_of-step, older_value, history_shows_law, ops_in-above}
use Rattle.stow_tree_model.proofs.Merges.{history, is_history, ops_in-history}
use Rattle.stow_tree_model.proofs.Folds.{one_more, rises_take}
use Rattle.stow_tree_model.proofs.Ordered.{history_of, in_order_rises}

pub rises_nothing : MessagesRise []
unfolding IsStrictlySortedBy
rises_nothing = tt

pub rises-in_order : (messages : Messages) (ms : List TreeMessage) → ms ≡ in_order messages → MessagesRise ms
rises-in_order messages ms e = subst MessagesRise (sym e) (in_order_rises messages)

pub drop_all : {X : Type 0} (xs : List X) → drop (length xs) xs ≡ []
drop_all [] = refl
drop_all (x ∷ xs) = drop_all xs

pub drop_one_less : {X : Type 0} (xs : List X) (i : ℕ) (x : X) → i < length xs → x ≡ get_or xs i x → drop i xs ≡ x ∷ drop (suc i) xs
drop_one_less xs i x l e = drop-cons xs i x l ∙ ap (λ y. y ∷ drop (suc i) xs) (sym e)

no_newer : (m : TreeMessage) (older : List TreeMessage) (n : ℕ) → IsHistory (m ∷ older) → m.number ≤ n → value_by older m.key n ≡ value_by older m.key m.number
no_newer m older n h l =
    history_shows_law older m.key n h.1
    ∙ latest_stays (ops_in older m.key) m.number n l (λ k b c. ops_in-above (place_of m) older k (omega arith) h.0)
    ∙ sym (history_shows_law older m.key m.number h.1)

-- one more message of the key
own_step : (m : TreeMessage) (older : List TreeMessage) (n at : ℕ) (found : Option (List ℕ)) → IsHistory (m ∷ older) → same_key m.key m.key ≡ true → m.number ≤ n → numbered at found ≡ value_by older m.key n → numbered m.number (outcome m.op found) ≡ value_by (m ∷ older) m.key n
own_step m older n at found h same l e =
    ap (λ v. numbered m.number (outcome m.op v)) (sym (value_in-numbered at found) ∙ ap value_in (e ∙ no_newer m older n h l) ∙ older_value m older h)
    ∙ ap (numbered m.number) (sym (value_of-step m older))
    ∙ sym (value_by-own m older m.key n (ap (λ b. b && nat_le m.number n) same ∙ le-leb m.number n l))

same_keys : (a b : List ℕ) → same_key a b ≡ true → a ≡ b
same_keys a b e = ⊎_elim
    (λ (h : (a ≡ b) × (same_key a b ≡ true)). h.0)
    (λ (h : (a ≢ b) × (same_key a b ≡ false)). let z : true ≡ false = sym e ∙ h.1 in absurd (cc))
    (key_cases a b)

-- one more message of the key, in a list
pub read_own : (ms : List TreeMessage) (i n at : ℕ) (m : TreeMessage) (key : List ℕ) (found : Option (List ℕ)) → MessagesRise ms → i < length ms → m ≡ get_or ms i m → same_key key m.key ≡ true → m.number ≤ n
    → numbered at found ≡ value_by (reverse (take i ms)) key n → numbered m.number (outcome m.op found) ≡ value_by (reverse (take (i + 1) ms)) key n
read_own ms i n at m key found rises l e is_same small is =
    let k : key ≡ m.key = same_keys key m.key is_same in
    let same : same_key m.key m.key ≡ true = subst (λ x. same_key x m.key ≡ true) k is_same in
    let more : reverse (take (i + 1) ms) ≡ m ∷ reverse (take i ms) = one_more ms i m l e in
    let falls : IsHistory (m ∷ reverse (take i ms)) = subst IsHistory more (history_of (take (i + 1) ms) (rises_take ms (i + 1) rises)) in
    subst (λ x. numbered m.number (outcome m.op found) ≡ value_by x key n) (sym more)
    (subst (λ x. numbered m.number (outcome m.op found) ≡ value_by (m ∷ reverse (take i ms)) x n) (sym k)
    (own_step m (reverse (take i ms)) n at found falls same small (subst (λ x. numbered at found ≡ value_by (reverse (take i ms)) x n) k is)))

-- one more message of another key or above the number
pub read_other : (ms : List TreeMessage) (i n : ℕ) (m : TreeMessage) (key : List ℕ) (found : Option NumberedValue) → i < length ms → m ≡ get_or ms i m → (same_key key m.key && nat_le m.number n) ≡ false
    → found ≡ value_by (reverse (take i ms)) key n → found ≡ value_by (reverse (take (i + 1) ms)) key n
read_other ms i n m key found l e skips is = is ∙ sym (ap (λ x. value_by x key n) (one_more ms i m l e) ∙ value_by-later m (reverse (take i ms)) key n skips)

-- all messages have been read
pub read_all : (ms : List TreeMessage) (messages : Messages) (key : List ℕ) (n : ℕ) → ms ≡ in_order messages → value_by (reverse ms) key n ≡ value messages key n
unfolding history
read_all ms messages key n e =
    ap (λ x. value_by (reverse x) key n) e
    ∙ history_shows_law (reverse (in_order messages)) key n (is_history messages)
    ∙ latest_same (ops_in (reverse (in_order messages)) key) (ops_of messages key) n (λ k l. ops_in-history messages key k)

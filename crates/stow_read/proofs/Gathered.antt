-- The messages of one key on the way down to its leaf.
use Rattle.std.proofs.Common.{◌≡◌, ℕ, ◌<◌, true, false, List, [], ◌∷◌, ◌++◌, map, Option, Some, None, refl, ap, ◌∙◌, sym, subst, arith, ⊎_elim}
use Rattle.std.specs.Prelude.{IsSome, is_some}
use Rattle.std.specs.List.{AllByRecursion}
use Rattle.std.specs.Ordering.{eq_by_cmp}
use Rattle.std.specs.declared.cmp.Ordering.TheVariants.{Less}
use Rattle.stow_tree_model.specs.Merged.{row_message}
use Rattle.stow_tree_model.specs.Messages.{ops_in}
use Rattle.stow_tree_model.specs.Op.{Op}
use Rattle.stow_tree_model.specs.Operations.{or_else}
use Rattle.stow_tree_model.specs.Order.{VersionPlace, place_cmp, place_of, MessagesRise}
use Rattle.stow_tree_model.specs.TreeMessage.{TreeMessage}
use Rattle.stow_tree_model.proofs.Falling.{IsHistory}
use Rattle.stow_tree_model.proofs.Histories.{ops_in-at, ops_in-skip, falls_number}
use Rattle.stow_tree_model.proofs.Orders.{place_cases}
use Rattle.stow_node.specs.StowLeaf.Intervals.{top_key, spans}
use Rattle.stow_node.specs.StowLeaf.LeafRows.{row_messages}
use Rattle.stow_node.specs.StowLeaf.declared.leaf.Leaf.{Leaf}
use Rattle.stow_node.proofs.StowLeaf.Found.{some_or, some_left, some_right, first_stays, or_none}
use Rattle.stow_node.proofs.StowLeaf.Ops.{ops-append}
use Rattle.stow_node.specs.declared.child.Child.{Child}
use Rattle.stow_node.specs.declared.child.Child.TheVariants as in_child
use Rattle.stow_node.specs.Nodes.{AreChildren}
use Rattle.stow_node.specs.Subtree.{Subtree, messages_of}
use Rattle.stow_read.specs.Descent.{LeadsDown}
use Rattle.stow_read.specs.Path.{NumbersFall, IsPath}
use Rattle.stow_read.specs.Suffixes.{IsAbove}
use Rattle.stow_read.proofs.Looked.{newest_of, newest_falls, newest_all, ops_of_newest}
use Rattle.stow_read.proofs.Walked.{ops_over}

-- ---- options

pub or_assoc : (p q r : Option Op) → or_else (or_else p q) r ≡ or_else p (or_else q r)
or_assoc None q r = refl
or_assoc (Some p) q r = refl

-- ---- numbers that fall

abbrev pub AllOwn : List ℕ → List TreeMessage → Type 0
AllOwn key ms = AllByRecursion (λ (m : TreeMessage). key ≡ m.key) ms

abbrev pub AllUnder : ℕ → List TreeMessage → Type 0
AllUnder n ms = AllByRecursion (λ (m : TreeMessage). m.number < n) ms

pub all_join : {X : Type 0} (P : X → Type 0) (xs ys : List X) → AllByRecursion P xs → AllByRecursion P ys → AllByRecursion P (xs ++ ys)
all_join P [] ys a b = b
all_join P (x ∷ xs) ys a b = (a.0, all_join P xs ys a.1 b)

numbers_fall : (key : List ℕ) (ms : List TreeMessage) → AllOwn key ms → IsHistory ms → NumbersFall ms
numbers_fall key [] own h = tt
numbers_fall key (m ∷ ms) own h = (under ms own.1 h.0, numbers_fall key ms own.1 h.1) where
  under : (xs : List TreeMessage) → AllOwn key xs → AllByRecursion (λ q. place_cmp q (place_of m) ≡ Less) (map place_of xs) → AllUnder m.number xs
  under [] o a = tt
  under (x ∷ xs) o a = (
    falls_number m.key x.number m.number (subst (λ k. place_cmp (k, x.number) (m.key, m.number) ≡ Less) (sym o.0 ∙ own.0) a.0),
    under xs o.1 a.1,
  )

pub there_first : (key : List ℕ) (m : TreeMessage) (ms : List TreeMessage) → key ≡ m.key → IsSome (ops_in (m ∷ ms) key m.number)
there_first key m ms e = subst (λ k. IsSome (ops_in (m ∷ ms) k m.number)) (sym e) (ap is_some (ops_in-at m ms))

all_under : (key : List ℕ) (n : ℕ) (ms : List TreeMessage) → AllOwn key ms → ((k : ℕ) → IsSome (ops_in ms key k) → k < n) → AllUnder n ms
all_under key n [] own h = tt
all_under key n (m ∷ ms) own h = (h m.number (there_first key m ms own.0), all_under key n ms own.1 (λ k s. h k (first_stays m ms key k s)))

fall_onto : (key : List ℕ) (ms ns : List TreeMessage) → AllOwn key ms → NumbersFall ms → AllOwn key ns → NumbersFall ns → IsAbove (ops_in ms key) (ops_in ns key) → NumbersFall (ms ++ ns)
fall_onto key [] ns own fall own' fall' above = fall'
fall_onto key (m ∷ ms) ns own fall own' fall' above = (
  all_join (λ (o : TreeMessage). o.number < m.number) ms ns fall.0 (all_under key m.number ns own' (λ k s. above m.number k (there_first key m ms own.0) s)),
  fall_onto key ms ns own.1 fall.1 own' fall' (λ n k a b. above n k (first_stays m ms key n a) b),
)

-- an operation of messages whose numbers are under one is at a number under it
pub under_number : (n : ℕ) (ms : List TreeMessage) (key : List ℕ) (k : ℕ) → AllUnder n ms → IsSome (ops_in ms key k) → k < n
under_number n [] key k h s = absurd cc
under_number n (m ∷ ms) key k h s = ⊎_elim
    (λ (e : (◌≡◌ {A = VersionPlace} (key, k) (place_of m)) × (eq_by_cmp place_cmp (key, k) (place_of m) ≡ true)).
    let q : k ≡ m.number = ap (λ (p : VersionPlace). p.1) e.0 in let l = h.0 in omega arith)
    (λ (e : (◌≡◌ {A = VersionPlace} (key, k) (place_of m) → ⊥) × (eq_by_cmp place_cmp (key, k) (place_of m) ≡ false)).
    under_number n ms key k h.1 (subst IsSome (ops_in-skip m ms key k e.0) s))
    (place_cases (key, k) (place_of m))

-- ---- the way down

-- these messages are those of the buffers above this node
pub record IsGathering (root here : Subtree) (key : List ℕ) (ms : List TreeMessage) : Type 0 where
  pub spanned : spans here.low top_key key ≡ true
  pub own : AllOwn key ms
  pub fall : NumbersFall ms
  pub above : IsAbove (ops_in ms key) (ops_in (messages_of here) key)
  pub messages : (n : ℕ) → ops_in (messages_of root) key n ≡ or_else (ops_in ms key n) (ops_in (messages_of here) key n)

pub gathering_first : (root : Subtree) (key : List ℕ) → spans root.low top_key key ≡ true → IsGathering root root key []
gathering_first root key s = record { spanned = s; own = tt; fall = tt; above = λ n k a b. absurd cc; messages = λ n. refl }

-- these messages are those of the buffers down to this node
record IsGathered (root here : Subtree) (key : List ℕ) (ms : List TreeMessage) : Type 0 where
  own : AllOwn key ms
  fall : NumbersFall ms
  above : IsAbove (ops_in ms key) (ops_in (here.deeper ++ row_messages here.leaves) key)
  messages : (n : ℕ) → ops_in (messages_of root) key n ≡ or_else (ops_in ms key n) (ops_in (here.deeper ++ row_messages here.leaves) key n)

gathered : {A : Type 0} (root here : Subtree) (cs : List (Child A)) (key : List ℕ) (ms : List TreeMessage) → IsGathering root here key ms → AreChildren here cs → MessagesRise here.buffer.messages → IsGathered root here key (ms ++ newest_of key here.buffer.messages)
gathered root here cs key ms g are up = record {
  own = all_join (λ (m : TreeMessage). key ≡ m.key) ms newest g.own (newest_all key here.buffer.messages);
  fall = fall_onto key ms newest g.own g.fall (newest_all key here.buffer.messages)
      (numbers_fall key newest (newest_all key here.buffer.messages) (newest_falls key here.buffer.messages up))
      (λ n k a b. g.above n k a (subst IsSome (sym (ops_over here key k)) (some_left (ops_in here.buffer.messages key k) (rest k) (subst IsSome (same k) b))));
  above = λ n k a b. some_or (ops_in ms key n) (ops_in newest key n)
      (λ s. g.above n k s (subst IsSome (sym (ops_over here key k)) (some_right (ops_in here.buffer.messages key k) (rest k) b)))
      (λ s. are.newer.above key n k (subst IsSome (same n) s) b)
      (subst IsSome (ops-append ms newest key n) a);
  messages = λ n. g.messages n
      ∙ ap (or_else (ops_in ms key n)) (ops_over here key n ∙ ap (λ o. or_else o (rest n)) (sym (same n)))
      ∙ sym (or_assoc (ops_in ms key n) (ops_in newest key n) (rest n))
      ∙ ap (λ o. or_else o (rest n)) (sym (ops-append ms newest key n));
}
  where
    newest : List TreeMessage
    newest = newest_of key here.buffer.messages

    rest : ℕ → Option Op
    rest n = ops_in (here.deeper ++ row_messages here.leaves) key n

    same : (n : ℕ) → ops_in newest key n ≡ ops_in here.buffer.messages key n
    same n = ops_of_newest key here.buffer.messages n up

pub gathering_on : {A : Type 0} (root here lower : Subtree) (cs : List (Child A)) (c : Child A) (key : List ℕ) (ms : List TreeMessage) → IsGathering root here key ms → AreChildren here cs → MessagesRise here.buffer.messages → LeadsDown here key c → c ≡ in_child.Node lower
    → IsGathering root lower key (ms ++ newest_of key here.buffer.messages)
gathering_on {A} root here lower cs c key ms g are up leads is = record {
  spanned = to.spanned;
  own = all.own;
  fall = all.fall;
  above = λ n k a b. all.above n k a (subst IsSome (sym (to.messages k)) b);
  messages = λ n. all.messages n ∙ ap (or_else (ops_in (ms ++ newest_of key here.buffer.messages) key n)) (to.messages n);
}
  where
    to : LeadsDown {A = A} here key (in_child.Node lower)
    to = subst (LeadsDown here key) is leads

    all : IsGathered root here key (ms ++ newest_of key here.buffer.messages)
    all = gathered root here cs key ms g are up

pub is_path : {A : Type 0} (root here : Subtree) (leaf : Leaf A) (cs : List (Child A)) (c : Child A) (key : List ℕ) (ms : List TreeMessage) → IsGathering root here key ms → AreChildren here cs → MessagesRise here.buffer.messages → LeadsDown here key c → c ≡ in_child.Leaf leaf
    → IsPath root key (ms ++ newest_of key here.buffer.messages) leaf.rows
is_path {A} root here leaf cs c key ms g are up leads is = record {
  own = all.own;
  fall = all.fall;
  above = λ n k a b. all.above n k a (subst IsSome (sym (rows k)) b);
  messages = λ n. all.messages n ∙ ap (or_else (ops_in (ms ++ newest_of key here.buffer.messages) key n)) (rows n);
}
  where
    to : LeadsDown {A = A} here key (in_child.Leaf leaf)
    to = subst (LeadsDown here key) is leads

    all : IsGathered root here key (ms ++ newest_of key here.buffer.messages)
    all = gathered root here cs key ms g are up

    rows : (n : ℕ) → ops_in (here.deeper ++ row_messages here.leaves) key n ≡ ops_in (map row_message leaf.rows) key n
    rows n = to.messages n ∙ ops-append (map row_message leaf.rows) [] key n ∙ or_none (ops_in (map row_message leaf.rows) key n) None refl

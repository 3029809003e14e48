-- Messages that are put one after another.
use Rattle.std.proofs.Common.{◌≡◌, ℕ, zero, suc, ◌+◌, ◌<◌, ◌≤◌, List, [], ◌∷◌, length, drop, get_or, map, refl, ap, ◌∙◌, sym, subst, arith}
use Rattle.std.proofs.Math.Seq.{drop-cons}
use Rattle.std.proofs.lemmas.List.{length-map, get_or-map}
use Rattle.stow_flush.specs.StowNode.Moves.{accepted, CanAccept}
use Rattle.stow_tree_model.specs.TreeMessage.{TreeMessage, message_of}
use Rattle.stow_tree_model.specs.declared.message.Message as lent
use Rattle.stow_tree.specs.declared.tree.Tree.TheInside.{Inside}
use Rattle.stow_tree.specs.Putting.{IsReserved, Puts}
use Rattle.stow_tree.specs.TreeState.{TreeState, IsTree}
use Rattle.stow_tree.proofs.Lowest.{in_tree}
use Rattle.stow_tree.proofs.Put.{can_accept, reserved_after, puts_after, puts_nothing, short_after}

-- what the code's type stands for
abbrev pub state_of : {A : Type 0} → Inside A → TreeState
state_of tree = record { root = tree.root; cache = tree.cache }

-- all but the first messages are still to be put
pub record IsPutting {A : Type 0} (all : List TreeMessage) (old : TreeState) (now : Inside A) (i : ℕ) : Type 0 where
  pub reserved : IsReserved (state_of now) (drop i all)
  pub onward : (new : TreeState) → Puts (drop i all) (state_of now) new → Puts all old new
  pub is_tree : IsTree now

pub putting_first : {A : Type 0} (all : List TreeMessage) (old : TreeState) (now : Inside A) → state_of now ≡ old → IsTree now → IsReserved old all → IsPutting all old now 0
putting_first all old now is tree reserved = record {
  reserved = subst (λ t. IsReserved t all) (sym is) reserved;
  onward = λ new puts. subst (λ t. Puts all t new) is puts;
  is_tree = tree;
}

drop-at : (ms : List lent.Message) (i : ℕ) (m : lent.Message) → i < length ms → m ≡ get_or ms i m → drop i (map message_of ms) ≡ message_of m ∷ drop (suc i) (map message_of ms)
drop-at ms i m l is =
    drop-cons (map message_of ms) i (message_of m) (subst (λ n. i < n) (sym (length-map ms message_of)) l)
    ∙ ap (λ x. x ∷ drop (suc i) (map message_of ms)) (get_or-map message_of ms i m (message_of m) l ∙ ap message_of (sym is))

drop-past : {X : Type 0} (xs : List X) (i : ℕ) → length xs ≤ i → drop i xs ≡ []
drop-past [] zero l = refl
drop-past [] (suc i) l = refl
drop-past (x ∷ xs) zero l = absurd (omega (arith, l))
drop-past (x ∷ xs) (suc i) l = drop-past xs i (omega (arith, l))

reserved_at : {A : Type 0} (ms : List lent.Message) (old : TreeState) (now : Inside A) (i : ℕ) (m : lent.Message) → i < length ms → m ≡ get_or ms i m → IsPutting (map message_of ms) old now i → IsReserved (state_of now) (message_of m ∷ drop (suc i) (map message_of ms))
reserved_at ms old now i m l is so = subst (IsReserved (state_of now)) (drop-at ms i m l is) so.reserved

pub can_push : {A : Type 0} (ms : List lent.Message) (old : TreeState) (now : Inside A) (i : ℕ) (m : lent.Message) → i < length ms → m ≡ get_or ms i m → IsPutting (map message_of ms) old now i → CanAccept (message_of m ∷ []) now.root
can_push ms old now i m l is so = can_accept (state_of now) (message_of m) (drop (suc i) (map message_of ms)) (reserved_at ms old now i m l is so) (in_tree now.root.low m.key.bytes.now so.is_tree.low m.key.is_key m.is_of_tenant)

pub putting_on : {A : Type 0} (ms : List lent.Message) (old : TreeState) (now new : Inside A) (i : ℕ) (m : lent.Message) → i < length ms → m ≡ get_or ms i m → IsPutting (map message_of ms) old now i → new ≡ record now { root = accepted (message_of m ∷ []) now.root } → IsPutting (map message_of ms) old new (i + 1)
putting_on ms old now new i m l is so becomes = subst (IsPutting (map message_of ms) old new) next (subst (λ t. IsPutting (map message_of ms) old t (suc i)) (sym becomes) (record {
  reserved = reserved_after (state_of now) (message_of m) (drop (suc i) (map message_of ms)) reserved;
  onward = λ last puts. so.onward last (subst (λ rest. Puts rest (state_of now) last) (sym (drop-at ms i m l is)) (puts_after (state_of now) (message_of m) (drop (suc i) (map message_of ms)) last reserved puts));
  is_tree = record {
    sizes = so.is_tree.sizes;
    low = so.is_tree.low;
    few = so.is_tree.few;
    root_block = so.is_tree.root_block;
    block = so.is_tree.block;
    short = short_after (state_of now) (message_of m) reserved.can.each.0 so.is_tree.short;
    held = so.is_tree.held;
  };
}))
  where
    next : suc i ≡ i + 1
    next = omega arith

    reserved : IsReserved (state_of now) (message_of m ∷ drop (suc i) (map message_of ms))
    reserved = reserved_at ms old now i m l is so

pub putting_last : {A : Type 0} (ms : List lent.Message) (old : TreeState) (now : Inside A) (i : ℕ) → length ms ≤ i → IsPutting (map message_of ms) old now i → Puts (map message_of ms) old (state_of now)
putting_last ms old now i l so = so.onward (state_of now) (subst (λ rest. Puts rest (state_of now) (state_of now)) (sym (drop-past (map message_of ms) i (subst (λ n. n ≤ i) (sym (length-map ms message_of)) l))) (puts_nothing (state_of now)))

-- What a tree means, by its root.
use Rattle.std.proofs.Common.{◌≡◌, ℕ, zero, suc, ◌≤◌, List, [], ◌∷◌, None, refl, ap, ◌∙◌, sym, subst, arith}
use Rattle.std.specs.List.{AllByRecursion}
use Rattle.stow_flush.proofs.StowLeaf.Found.{ops-set_of}
use Rattle.stow_flush.specs.StowLeaf.Replacements.{MeanTheSame}
use Rattle.stow_flush.specs.StowNode.Subtree.{messages_of}
use Rattle.stow_flush.proofs.StowLeaf.Over.{same_nothing}
use Rattle.stow_flush.specs.Rooms.{BytesFit, RootStands}
use Rattle.stow_tree_model.specs.Agreement.{TenantPins, AgreeAt}
use Rattle.stow_tree_model.specs.Keys.{tenant_of}
use Rattle.stow_tree_model.specs.Messages.{ops_of, ops_in, set_of, value}
use Rattle.stow_tree_model.specs.Operations.{Operations, latest, outcome, value_in, NoneAbove}
use Rattle.stow_tree_model.specs.TreeMessage.{TreeMessage}
use Rattle.stow_tree_model.specs.Value.{IsValue}
use Rattle.stow_tree_model.proofs.Latest.{latest_same}
use Rattle.stow_tree_model.proofs.SetLemmas.{same_agreement}
use Rattle.stow_tree.specs.TreeState.{TreeState, tree_messages, AgreeUnder}
use Rattle.stow_tree.specs.Putting.{CanAdd, CanReserve, IsReserved, bytes_of}

pub ops_messages : (t : TreeState) (key : List ℕ) → ops_of (tree_messages t) key ≡ ops_in (messages_of t.root) key
unfolding tree_messages
ops_messages t key i n = ops-set_of (messages_of t.root) key n i

pub all_ops : (t : TreeState) → ops_of (tree_messages t) ≡ ops_in (messages_of t.root)
all_ops t i key = ops_messages t key i

pub same_messages : (s t : TreeState) → t.root ≡ s.root → tree_messages t ≡ tree_messages s
unfolding tree_messages
same_messages s t e = ap (λ r. set_of (messages_of r)) e

pub agree_under : (pins : TenantPins) (s t : TreeState) → RootStands pins s.root t.root → AgreeUnder pins (tree_messages s) (tree_messages t)
agree_under pins s t stands bound has key =
    same_agreement (sym (ops_messages s key)) (sym (ops_messages t key)) refl
    ((stands.means key).way (bound (tenant_of key)) (subst (NoneAbove (bound (tenant_of key))) (ops_messages s key) (has key)))

-- operations that have none from a number on, and others that mean the same
pub record StillNone (f g : Operations) (number : ℕ) : Type 0 where
  pub none : (n : ℕ) → number ≤ n → g n ≡ None
  pub same : latest g number ≡ latest f number

pub still_none : (pins : List ℕ) (f g : Operations) (number : ℕ) → MeanTheSame pins f g → ((n : ℕ) → number ≤ n → f n ≡ None) → StillNone f g number
still_none pins f g zero means none = record {
  none = λ n l. same_nothing pins f g means (λ k. none k (omega arith)) n;
  same = latest_same g f 0 (λ k l. same_nothing pins f g means (λ j. none j (omega arith)) k ∙ sym (none k (omega arith)));
}
still_none pins f g (suc b) means none = record {
  none = λ n l. agreed.right_below n (omega (arith, l));
  same = sym (agreed.from_bound (suc b) (omega arith));
}
  where
    agreed : AgreeAt f g pins b
    agreed = means.way b (λ n l. none n (omega (arith, l)))

-- a message can be added to what means the same
pub can_add_under : (pins : TenantPins) (s t : TreeState) (m : TreeMessage) → RootStands pins s.root t.root → CanAdd (tree_messages s) m → CanAdd (tree_messages t) m
can_add_under pins s t m stands can = record {
  newest = λ n l. (λ i. ops_messages t m.key i n) ∙ still.none n l;
  short = subst (λ v. IsValue (outcome m.op (value_in v))) same can.short;
}
  where
    still : StillNone (ops_in (messages_of s.root) m.key) (ops_in (messages_of t.root) m.key) m.number
    still = still_none (pins (tenant_of m.key)) (ops_in (messages_of s.root) m.key) (ops_in (messages_of t.root) m.key) m.number (stands.means m.key) (λ n l. (λ i. sym (ops_messages s m.key) i n) ∙ can.newest n l)

    same : value (tree_messages s) m.key m.number ≡ value (tree_messages t) m.key m.number
    same = ap (λ (f : Operations). latest f m.number) (ops_messages s m.key) ∙ sym still.same ∙ ap (λ (f : Operations). latest f m.number) (sym (ops_messages t m.key))

all_under : (pins : TenantPins) (s t : TreeState) (ms : List TreeMessage) → RootStands pins s.root t.root → AllByRecursion (CanAdd (tree_messages s)) ms → AllByRecursion (CanAdd (tree_messages t)) ms
all_under pins s t [] stands all = tt
all_under pins s t (m ∷ ms) stands all = (can_add_under pins s t m stands all.0, all_under pins s t ms stands all.1)

-- what could be put before room was made can be put where there is room
pub reserved : (pins : TenantPins) (s t : TreeState) (ms : List TreeMessage) → RootStands pins s.root t.root → CanReserve s ms → BytesFit (bytes_of ms) t.root → IsReserved t ms
reserved pins s t ms stands can room = record {
  can = record { apart = can.can.apart; each = all_under pins s t ms stands can.can.each };
  room = room;
}

-- What the newest operation on a key tells of its value.
use Rattle.std.proofs.Common.{◌≡◌, ℕ, zero, suc, ◌<◌, ◌≤◌, List, [], ◌++◌, map, Option, Some, None, refl, ap, ◌∙◌, sym, subst, arith}
use Rattle.std.specs.Prelude.{is_some}
use Rattle.std.specs.Option.{option_map}
use Rattle.stow_tree_model.specs.Merged.{row_message}
use Rattle.stow_tree_model.specs.Messages.{ops_in}
use Rattle.stow_tree_model.specs.Op.{op_of}
use Rattle.stow_tree_model.specs.Operations.{NumberedValue, Operations, NoneUpTo, applied, latest, or_else, over}
use Rattle.stow_tree_model.specs.declared.message.Message.{Message}
use Rattle.stow_tree_model.proofs.Latest.{latest_same, latest_stays}
use Rattle.stow_node.specs.StowLeaf.LeafRows.{row_messages}
use Rattle.stow_node.specs.StowLeaf.declared.leaf.Leaf.{Leaf}
use Rattle.stow_node.proofs.StowLeaf.Found.{none_unless}
use Rattle.stow_node.specs.declared.child.Child.{Child}
use Rattle.stow_node.specs.declared.child.Child.TheVariants as in_child
use Rattle.stow_node.specs.Nodes.{AreChildren}
use Rattle.stow_node.specs.Subtree.{Subtree, messages_of}
use Rattle.stow_read.specs.Descent.{LeadsDown}
use Rattle.stow_read.specs.Found.{lent_of}
use Rattle.stow_read.specs.Glance.{IsToldOf}
use Rattle.stow_read.specs.Suffixes.{Carries}
use Rattle.stow_read.specs.UpTo.{IsTop}
use Rattle.stow_read.specs.declared.lent_value.LentValue.{LentValue}
use Rattle.stow_read.specs.declared.newest.Newest.{Newest}
use Rattle.stow_read.specs.declared.suffixes.Look.TheVariants as in_look
use Rattle.stow_read.proofs.Walked.{IsWalking, ops_over, walking_on, walked}

-- the newest operation makes the value of some value below it
applied_top : (f : Operations) (n at : ℕ) → n ≤ at → ((k : ℕ) → n < k → k ≤ at → f k ≡ None) → (before : Option NumberedValue) × (latest f at ≡ applied n (f n) before)
unfolding latest
applied_top f zero at l none = (None, latest_stays f zero at l none)
applied_top f (suc n) at l none = (latest f n, latest_stays f (suc n) at l none)

-- the newest one of a node's own buffer tells of what the root has
pub told_here : {A : Type 0} (root here : Subtree) (cs : List (Child A)) (key : List ℕ) (at : ℕ) (m : Message) (told : Newest) → IsWalking root here key at (0, []) (0, []) → AreChildren here cs → IsTop (ops_in here.buffer.messages key) at m
    → ((before : Option NumberedValue) → IsToldOf (applied m.number (Some (op_of m.op)) before) told) → IsToldOf (latest (ops_in (messages_of root) key) at) told
told_here root here cs key at m told walking are top tells = subst (λ v. IsToldOf v told) (sym value) (tells made.0) where
  own : Operations
  own = ops_in here.buffer.messages key

  rest : Operations
  rest = ops_in (here.deeper ++ row_messages here.leaves) key

  none : (k : ℕ) → m.number < k → k ≤ at → over own rest k ≡ None
  none k more l = ap (λ o. or_else o (rest k)) (top.none k more l)
      ∙ none_unless (rest k) (λ s. let below = are.newer.above key m.number k (ap is_some top.there) s in omega (arith, below, more))

  made : (before : Option NumberedValue) × (latest (over own rest) at ≡ applied m.number (over own rest m.number) before)
  made = applied_top (over own rest) m.number at top.within none

  value : latest (ops_in (messages_of root) key) at ≡ applied m.number (Some (op_of m.op)) made.0
  value = walking.so_far
      ∙ latest_same (ops_in (messages_of here) key) (over own rest) at (λ k l. ops_over here key k)
      ∙ made.1
      ∙ ap (λ o. applied m.number (or_else o (rest m.number)) made.0) top.there

-- where the buffer has nothing up to the number, the value stands below
pub goes_deeper : (ops : Operations) (at : ℕ) → NoneUpTo at ops → Carries ops at (0, []) (0, []) in_look.Deeper
goes_deeper ops at none older above = latest_same (over ops older) older at (λ k l. ap (λ o. or_else o (older k)) (none k l))

-- no buffer down to this node has anything of the key up to the number
pub record HasNoneSoFar (root here : Subtree) (key : List ℕ) (at : ℕ) : Type 0 where
  pub walking : IsWalking root here key at (0, []) (0, [])
  pub none : NoneUpTo at (ops_in here.buffer.messages key)

-- what stands below such a node
module _ {A : Type 0} (root here : Subtree) (cs : List (Child A)) (c : Child A) (key : List ℕ) (at : ℕ) (so_far : HasNoneSoFar root here key at) (are : AreChildren here cs) (leads : LeadsDown here key c) where
  carries : Carries (ops_in here.buffer.messages key) at (0, []) (0, []) in_look.Deeper
  carries = goes_deeper (ops_in here.buffer.messages key) at so_far.none

  pub below_so_far : (lower : Subtree) → c ≡ in_child.Node lower → IsWalking root lower key at (0, []) (0, [])
  below_so_far lower is = walking_on root here lower cs c key at (0, []) (0, []) (0, []) in_look.Deeper so_far.walking are carries refl leads is

  -- a leaf's row is all that the root has
  pub row_is : (leaf : Leaf A) (base : Option LentValue) → c ≡ in_child.Leaf leaf → option_map lent_of base ≡ latest (ops_in (map row_message leaf.rows) key) at → latest (ops_in (messages_of root) key) at ≡ option_map lent_of base
  row_is leaf base is found = walked root here leaf cs c key at (0, []) (0, []) (0, []) in_look.Deeper base so_far.walking are carries refl leads is found

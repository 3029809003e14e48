-- The walk down to a key's leaf.
use Rattle.std.proofs.Common.{◌≡◌, ℕ, ◌<◌, true, false, List, [], ◌++◌, map, Option, None, refl, ap, ◌∙◌, sym, subst, append_assoc, arith}
use Rattle.std.specs.Prelude.{Contains}
use Rattle.std.specs.Option.{option_map}
use Rattle.stow_tree_model.specs.Merged.{row_message}
use Rattle.stow_tree_model.specs.Messages.{ops_in}
use Rattle.stow_tree_model.specs.Operations.{latest, or_else, over}
use Rattle.stow_tree_model.proofs.Latest.{latest_same}
use Rattle.stow_node.specs.StowLeaf.Intervals.{top_key, spans}
use Rattle.stow_node.specs.StowLeaf.LeafRows.{LeafRows, leaf_rows, row_messages}
use Rattle.stow_node.specs.StowLeaf.declared.leaf.Leaf.{Leaf}
use Rattle.stow_node.proofs.StowLeaf.Found.{or_none, both_none}
use Rattle.stow_node.proofs.StowLeaf.Intervals.{lt, not_spanned}
use Rattle.stow_node.proofs.Lowered.{rows_by_part}
use Rattle.stow_node.proofs.Row.{Taken, Apart, message_taken, row_taken, messages_apart, rows_apart, none_before, none_from}
use Rattle.stow_tree_model.proofs.Histories.{latest_none}
use Rattle.std.specs.List.{flat_map}
use Rattle.stow_node.proofs.StowLeaf.Ops.{ops-append}
use Rattle.stow_node.specs.declared.child.Child.{Child}
use Rattle.stow_node.specs.declared.child.Child.TheVariants as in_child
use Rattle.stow_node.specs.Nodes.{parts_of, AreChildren}
use Rattle.stow_node.specs.Subtree.{Subtree, messages_of}
use Rattle.stow_read.specs.Descent.{LeadsDown}
use Rattle.stow_read.specs.Found.{lent_of}
use Rattle.stow_read.specs.Suffixes.{SuffixList, continued, looked, Carries}
use Rattle.stow_read.specs.declared.lent_value.LentValue.{LentValue}
use Rattle.stow_read.specs.declared.suffixes.Look.{Look}
use Rattle.stow_read.specs.declared.suffixes.Look.TheVariants as in_look

-- a node's own messages stand over what is below
pub ops_over : (t : Subtree) (key : List ℕ) (k : ℕ) → ops_in (messages_of t) key k ≡ or_else (ops_in t.buffer.messages key k) (ops_in (t.deeper ++ row_messages t.leaves) key k)
ops_over t key k =
    ap (λ ms. ops_in ms key k) (append_assoc t.buffer.messages t.deeper (row_messages t.leaves))
    ∙ ops-append t.buffer.messages (t.deeper ++ row_messages t.leaves) key k

-- the nodes down to this one have been looked at
pub record IsWalking (root here : Subtree) (key : List ℕ) (at : ℕ) (old now : SuffixList) : Type 0 where
  pub spanned : spans here.low top_key key ≡ true
  pub so_far : continued old (latest (ops_in (messages_of root) key) at) ≡ continued now (latest (ops_in (messages_of here) key) at)
  pub leaves : (leaf : LeafRows) → Contains here.leaves leaf → Contains root.leaves leaf

pub walking_first : (root : Subtree) (key : List ℕ) (at : ℕ) (old : SuffixList) → spans root.low top_key key ≡ true → IsWalking root root key at old old
walking_first root key at old s = record { spanned = s; so_far = refl; leaves = λ leaf c. c }

-- what a look makes of all that a node has
pub looked_here : {A : Type 0} (root here : Subtree) (cs : List (Child A)) (key : List ℕ) (at : ℕ) (old before now : SuffixList) (look : Look) → IsWalking root here key at old before → AreChildren here cs → Carries (ops_in here.buffer.messages key) at before now look
    → continued old (latest (ops_in (messages_of root) key) at) ≡ looked look now (latest (ops_in (here.deeper ++ row_messages here.leaves) key) at)
looked_here root here cs key at old before now look walking are carries =
    walking.so_far
    ∙ ap (continued before) (latest_same (ops_in (messages_of here) key) (over (ops_in here.buffer.messages key) (ops_in (here.deeper ++ row_messages here.leaves) key)) at (λ k l. ops_over here key k))
    ∙ carries (ops_in (here.deeper ++ row_messages here.leaves) key) (λ n k a b. are.newer.above key n k a b)

-- the walk goes on in a lower node
pub walking_on : {A : Type 0} (root here lower : Subtree) (cs : List (Child A)) (c : Child A) (key : List ℕ) (at : ℕ) (old before now : SuffixList) (look : Look) → IsWalking root here key at old before → AreChildren here cs → Carries (ops_in here.buffer.messages key) at before now look
    → look ≡ in_look.Deeper → LeadsDown here key c → c ≡ in_child.Node lower → IsWalking root lower key at old now
walking_on {A} root here lower cs c key at old before now look walking are carries deeper leads is = record {
  spanned = to.spanned;
  so_far = looked_here root here cs key at old before now look walking are carries
      ∙ ap (λ x. looked x now (latest (ops_in (here.deeper ++ row_messages here.leaves) key) at)) deeper
      ∙ ap (continued now) (latest_same (ops_in (here.deeper ++ row_messages here.leaves) key) (ops_in (messages_of lower) key) at (λ k l. to.messages k));
  leaves = λ leaf k. walking.leaves leaf (to.leaves leaf k);
}
  where
    to : LeadsDown {A = A} here key (in_child.Node lower)
    to = subst (LeadsDown here key) is leads

-- the walk ends in a leaf
pub walked : {A : Type 0} (root here : Subtree) (leaf : Leaf A) (cs : List (Child A)) (c : Child A) (key : List ℕ) (at : ℕ) (old before now : SuffixList) (look : Look) (base : Option LentValue) → IsWalking root here key at old before → AreChildren here cs → Carries (ops_in here.buffer.messages key) at before now look
    → look ≡ in_look.Deeper → LeadsDown here key c → c ≡ in_child.Leaf leaf → option_map lent_of base ≡ latest (ops_in (map row_message leaf.rows) key) at
    → continued old (latest (ops_in (messages_of root) key) at) ≡ continued now (option_map lent_of base)
walked {A} root here leaf cs c key at old before now look base walking are carries deeper leads is found =
    looked_here root here cs key at old before now look walking are carries
    ∙ ap (λ x. looked x now (latest (ops_in (here.deeper ++ row_messages here.leaves) key) at)) deeper
    ∙ ap (continued now) (latest_same (ops_in (here.deeper ++ row_messages here.leaves) key) (ops_in (map row_message leaf.rows) key) at (λ k l.
    to.messages k ∙ ops-append (map row_message leaf.rows) [] key k ∙ or_none (ops_in (map row_message leaf.rows) key k) None refl))
    ∙ ap (continued now) (sym found)
  where
    to : LeadsDown {A = A} here key (in_child.Leaf leaf)
    to = subst (LeadsDown here key) is leads

pub leaf_there : {A : Type 0} (root here : Subtree) (leaf : Leaf A) (c : Child A) (key : List ℕ) (at : ℕ) (old now : SuffixList) → IsWalking root here key at old now → LeadsDown here key c → c ≡ in_child.Leaf leaf → Contains root.leaves (leaf_rows leaf)
leaf_there {A} root here leaf c key at old now walking leads is = walking.leaves (leaf_rows leaf) (to.leaves (leaf_rows leaf) (0, omega arith, refl))
  where
    to : LeadsDown {A = A} here key (in_child.Leaf leaf)
    to = subst (LeadsDown here key) is leads

-- the nodes down to this one hold the key's leaf
pub record IsLeading (root here : Subtree) (key : List ℕ) : Type 0 where
  pub spanned : spans here.low top_key key ≡ true
  pub leaves : (leaf : LeafRows) → Contains here.leaves leaf → Contains root.leaves leaf

pub leading_first : (root : Subtree) (key : List ℕ) → spans root.low top_key key ≡ true → IsLeading root root key
leading_first root key s = record { spanned = s; leaves = λ leaf c. c }

pub leading_on : {A : Type 0} (root here lower : Subtree) (c : Child A) (key : List ℕ) → IsLeading root here key → LeadsDown here key c → c ≡ in_child.Node lower → (lower.height < here.height) × IsLeading root lower key
leading_on {A} root here lower c key leading leads is = (to.lower, record { spanned = to.spanned; leaves = λ leaf k. leading.leaves leaf (to.leaves leaf k) }) where
  to : LeadsDown {A = A} here key (in_child.Node lower)
  to = subst (LeadsDown here key) is leads

pub leading_to : {A : Type 0} (root here : Subtree) (leaf : Leaf A) (c : Child A) (key : List ℕ) → IsLeading root here key → LeadsDown here key c → c ≡ in_child.Leaf leaf → Contains root.leaves (leaf_rows leaf)
leading_to {A} root here leaf c key leading leads is = leading.leaves (leaf_rows leaf) (to.leaves (leaf_rows leaf) (0, omega arith, refl)) where
  to : LeadsDown {A = A} here key (in_child.Leaf leaf)
  to = subst (LeadsDown here key) is leads

-- a node has nothing of a key that it may not hold
pub none_outside : {A : Type 0} (t : Subtree) (cs : List (Child A)) (key : List ℕ) (k : ℕ) → AreChildren t cs → spans t.low top_key key ≡ false → ops_in (messages_of t) key k ≡ None
none_outside t cs key k are o =
    ops_over t key k
    ∙ both_none (ops_in t.buffer.messages key k) (ops_in (t.deeper ++ row_messages t.leaves) key k) (are.from.outside key k o)
    (ops-append t.deeper (row_messages t.leaves) key k
    ∙ both_none (ops_in t.deeper key k) (ops_in (row_messages t.leaves) key k)
    (ap (λ ms. ops_in ms key k) are.deeper ∙ none_taken message_taken (messages_apart top_key (parts_of cs) are.tiled))
    (ap (λ ls. ops_in (row_messages ls) key k) are.leaves ∙ ap (λ ms. ops_in ms key k) (rows_by_part (parts_of cs)) ∙ none_taken row_taken (rows_apart top_key (parts_of cs) are.tiled)))
  where
    none_taken : (f : Taken) → Apart f top_key (parts_of cs) → ops_in (flat_map f (parts_of cs)) key k ≡ None
    none_taken f apart = not_spanned t.low top_key key o
        (λ l. none_before f top_key (parts_of cs) key k apart (ap (lt key) are.low ∙ l))
        (λ l h. none_from f top_key (parts_of cs) key k apart h)

pub nothing_outside : {A : Type 0} (t : Subtree) (cs : List (Child A)) (key : List ℕ) (at : ℕ) → AreChildren t cs → spans t.low top_key key ≡ false → latest (ops_in (messages_of t) key) at ≡ None
nothing_outside t cs key at are o = latest_none (ops_in (messages_of t) key) at (λ k l. none_outside t cs key k are o)

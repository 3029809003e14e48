-- What a key has at a number, by the newest of its operations.
use Rattle.std.proofs.Common.{◌≡◌, ℕ, zero, suc, ◌<◌, ◌≤◌, List, ◌∷◌, Some, None, ap, ◌∙◌, sym, subst, arith}
use Rattle.std.specs.Prelude.{IsSome, is_some}
use Rattle.stow_tree_model.specs.Operations.{Operations, applied, latest, or_else, over}
use Rattle.stow_tree_model.specs.Messages.{ops_in}
use Rattle.stow_tree_model.specs.Order.{VersionPlace, place_of}
use Rattle.stow_tree_model.specs.TreeMessage.{TreeMessage}
use Rattle.stow_tree_model.proofs.Falling.{IsHistory}
use Rattle.stow_tree_model.proofs.Histories.{ops_in-at, ops_in-skip, ops_in-above}
use Rattle.stow_tree_model.proofs.Latest.{latest_same, latest_stays}
use Rattle.stow_node.proofs.StowLeaf.Found.{none_unless}
use Rattle.stow_read.specs.Suffixes.{IsAbove}

top_step : (f g : Operations) (n : ℕ) → g n ≡ None → ((k : ℕ) → k < n → f k ≡ g k) → latest f n ≡ applied n (f n) (latest g n)
unfolding latest
top_step f g zero none same = sym (ap (λ o. applied 0 (f 0) (applied 0 o None)) none)
top_step f g (suc n) none same = λ i. applied (suc n) (f (suc n)) ((latest_same f g n (λ k l. same k (omega arith)) ∙ sym (ap (λ o. applied (suc n) o (latest g n)) none)) i)

-- one operation above all others
pub newest_step : (f g : Operations) (n at : ℕ) → n ≤ at → ((k : ℕ) → n < k → f k ≡ None) → ((k : ℕ) → n ≤ k → g k ≡ None) → ((k : ℕ) → k < n → f k ≡ g k) → latest f at ≡ applied n (f n) (latest g at)
newest_step f g n at l none rest same =
    latest_stays f n at l (λ k a b. none k a)
    ∙ top_step f g n (rest n (omega arith)) same
    ∙ ap (applied n (f n)) (sym (latest_stays g n at l (λ k a b. rest k (omega arith))))

-- an operation that the newest one's key has at another number is of an older message
skip_number : (m : TreeMessage) (older : List TreeMessage) (k : ℕ) → (k ≡ m.number → ⊥) → ops_in (m ∷ older) m.key k ≡ ops_in older m.key k
skip_number m older k ne = ops_in-skip m older m.key k (λ e. ne (ap (λ (p : VersionPlace). p.1) e))

-- the newest message of a history stands over the older ones and over what is older still
own_step : (m : TreeMessage) (older : List TreeMessage) (rest : Operations) (at : ℕ) → IsHistory (m ∷ older) → m.number ≤ at → ((k : ℕ) → IsSome (rest k) → k < m.number)
    → latest (over (ops_in (m ∷ older) m.key) rest) at ≡ applied m.number (Some m.op) (latest (over (ops_in older m.key) rest) at)
own_step m older rest at h l below =
    newest_step (over (ops_in (m ∷ older) m.key) rest) (over (ops_in older m.key) rest) m.number at l
    (λ k a. ap (λ o. or_else o (rest k)) (skip_number m older k (λ e. omega arith) ∙ ops_in-above (place_of m) older k (omega arith) h.0) ∙ none_at k (omega arith))
    (λ k a. ap (λ o. or_else o (rest k)) (ops_in-above (place_of m) older k a h.0) ∙ none_at k a)
    (λ k a. ap (λ o. or_else o (rest k)) (skip_number m older k (λ e. omega arith)))
    ∙ ap (λ o. applied m.number (or_else o (rest m.number)) (latest (over (ops_in older m.key) rest) at)) (ops_in-at m older)
  where
    none_at : (k : ℕ) → m.number ≤ k → rest k ≡ None
    none_at k a = none_unless (rest k) (λ s. let b = below k s in omega arith)

pub read_own : (m : TreeMessage) (older : List TreeMessage) (key : List ℕ) (rest : Operations) (at : ℕ) → key ≡ m.key → IsHistory (m ∷ older) → m.number ≤ at → IsAbove (ops_in (m ∷ older) key) rest
    → latest (over (ops_in (m ∷ older) key) rest) at ≡ applied m.number (Some m.op) (latest (over (ops_in older key) rest) at)
read_own m older key rest at e h l above =
    subst (λ k. latest (over (ops_in (m ∷ older) k) rest) at ≡ applied m.number (Some m.op) (latest (over (ops_in older k) rest) at)) (sym e)
    (own_step m older rest at h l (λ k s. above m.number k (subst (λ x. IsSome (ops_in (m ∷ older) x m.number)) (sym e) (ap is_some (ops_in-at m older))) s))

-- a message above the number says nothing
pub read_above : (m : TreeMessage) (older : List TreeMessage) (key : List ℕ) (rest : Operations) (at : ℕ) → at < m.number
    → latest (over (ops_in (m ∷ older) key) rest) at ≡ latest (over (ops_in older key) rest) at
read_above m older key rest at l =
    latest_same (over (ops_in (m ∷ older) key) rest) (over (ops_in older key) rest) at
    (λ k a. ap (λ o. or_else o (rest k)) (ops_in-skip m older key k (λ e. let q : k ≡ m.number = ap (λ (p : VersionPlace). p.1) e in omega arith)))

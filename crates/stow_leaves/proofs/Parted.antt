-- Messages of which a batch goes.
use Rattle.std.proofs.Common.{◌≡◌, ◌≢◌, ℕ, ◌<◌, ◌≤◌, true, false, List, [], ◌∷◌, map, Option, Some, None, refl, ap, ◌∙◌, sym, subst, arith, ⊎_elim}
use Rattle.std.specs.List.{filter}
use Rattle.std.specs.Ordering.{eq_by_cmp, is_eq}
use Rattle.std.specs.Prelude.{if◌then◌else◌, not, Contains, IsSome}
use Rattle.std.proofs.lemmas.Bool.{cases_lt}
use Rattle.stow_leaf.specs.StowMessage.Rising.{without}
use Rattle.stow_leaf_cache.specs.StowTreeModel.Merged.{row_message}
use Rattle.stow_leaf_cache.specs.StowTreeModel.Messages.{ops_in}
use Rattle.stow_leaf_cache.specs.StowTreeModel.Op.{Op}
use Rattle.stow_leaf_cache.specs.StowTreeModel.Operations.{or_else}
use Rattle.stow_leaf_cache.specs.StowTreeModel.Order.{VersionPlace, place_cmp, place_of}
use Rattle.stow_leaf_cache.specs.StowTreeModel.TreeMessage.{TreeMessage}
use Rattle.stow_leaf_cache.specs.StowTreeModel.Version.{Version}
use Rattle.stow_leaf_cache.proofs.StowTreeModel.Histories.{ops_in-at, ops_in-skip}
use Rattle.stow_leaf_cache.proofs.StowTreeModel.Orders.{place_cases}
use Rattle.stow_leaf.specs.LeafRows.{LeafRows}
use Rattle.stow_leaf.proofs.Found.{found_at, none_or, none_some, or_none, some_or}
use Rattle.stow_leaves.specs.Absorbs.{BatchGoes}

-- the messages of other places than this one's
abbrev others_than : TreeMessage → List TreeMessage → List TreeMessage
others_than b ms = filter (λ m. not (is_eq (place_cmp (place_of m) (place_of b)))) ms

other_stays : (b : TreeMessage) (ms : List TreeMessage) (key : List ℕ) (n : ℕ) → ◌≢◌ {A = VersionPlace} (key, n) (place_of b) → ops_in (others_than b ms) key n ≡ ops_in ms key n
other_stays b [] key n ne = refl
other_stays b (m ∷ ms) key n ne = ⊎_elim
    (λ (e : (◌≡◌ {A = VersionPlace} (place_of m) (place_of b)) × (eq_by_cmp place_cmp (place_of m) (place_of b) ≡ true)).
    ap (λ t. ops_in (if not t then m ∷ others_than b ms else others_than b ms) key n) e.1
    ∙ other_stays b ms key n ne ∙ sym (ops_in-skip m ms key n (λ at. ne (at ∙ e.0))))
    (λ (e : (◌≢◌ {A = VersionPlace} (place_of m) (place_of b)) × (eq_by_cmp place_cmp (place_of m) (place_of b) ≡ false)).
    ap (λ t. ops_in (if not t then m ∷ others_than b ms else others_than b ms) key n) e.1
    ∙ ap (λ o. if eq_by_cmp place_cmp (key, n) (place_of m) then Some m.op else o) (other_stays b ms key n ne))
    (place_cases (place_of m) (place_of b))

own_goes : (b : TreeMessage) (ms : List TreeMessage) (key : List ℕ) (n : ℕ) → ◌≡◌ {A = VersionPlace} (key, n) (place_of b) → ops_in (others_than b ms) key n ≡ None
own_goes b [] key n is = refl
own_goes b (m ∷ ms) key n is = ⊎_elim
    (λ (e : (◌≡◌ {A = VersionPlace} (place_of m) (place_of b)) × (eq_by_cmp place_cmp (place_of m) (place_of b) ≡ true)).
    ap (λ t. ops_in (if not t then m ∷ others_than b ms else others_than b ms) key n) e.1 ∙ own_goes b ms key n is)
    (λ (e : (◌≢◌ {A = VersionPlace} (place_of m) (place_of b)) × (eq_by_cmp place_cmp (place_of m) (place_of b) ≡ false)).
    ap (λ t. ops_in (if not t then m ∷ others_than b ms else others_than b ms) key n) e.1
    ∙ ops_in-skip m (others_than b ms) key n (λ at. e.0 (sym at ∙ is)) ∙ own_goes b ms key n is)
    (place_cases (place_of m) (place_of b))

none_comes : (batch ms : List TreeMessage) (key : List ℕ) (n : ℕ) → ops_in ms key n ≡ None → ops_in (without batch ms) key n ≡ None
none_comes [] ms key n none = none
none_comes (b ∷ batch) ms key n none = none_comes batch (others_than b ms) key n (⊎_elim
    (λ (e : (◌≡◌ {A = VersionPlace} (key, n) (place_of b)) × (eq_by_cmp place_cmp (key, n) (place_of b) ≡ true)). own_goes b ms key n e.0)
    (λ (e : (◌≢◌ {A = VersionPlace} (key, n) (place_of b)) × (eq_by_cmp place_cmp (key, n) (place_of b) ≡ false)). other_stays b ms key n e.0 ∙ none)
    (place_cases (key, n) (place_of b)))

rest_stays : (batch ms : List TreeMessage) (key : List ℕ) (n : ℕ) → ops_in batch key n ≡ None → ops_in (without batch ms) key n ≡ ops_in ms key n
rest_stays [] ms key n none = refl
rest_stays (b ∷ batch) ms key n none = ⊎_elim
    (λ (e : (◌≡◌ {A = VersionPlace} (key, n) (place_of b)) × (eq_by_cmp place_cmp (key, n) (place_of b) ≡ true)).
    absurd (none_some (ops_in (b ∷ batch) key n) none (subst (λ (p : VersionPlace). IsSome (ops_in (b ∷ batch) p.0 p.1)) (sym e.0) (subst IsSome (sym (ops_in-at b batch)) refl))))
    (λ (e : (◌≢◌ {A = VersionPlace} (key, n) (place_of b)) × (eq_by_cmp place_cmp (key, n) (place_of b) ≡ false)).
    rest_stays batch (others_than b ms) key n (sym (ops_in-skip b batch key n e.0) ∙ none) ∙ other_stays b ms key n e.0)
    (place_cases (key, n) (place_of b))

batch_gone : (batch ms : List TreeMessage) (key : List ℕ) (n : ℕ) → IsSome (ops_in batch key n) → ops_in (without batch ms) key n ≡ None
batch_gone [] ms key n some = absurd cc
batch_gone (b ∷ batch) ms key n some = ⊎_elim
    (λ (e : (◌≡◌ {A = VersionPlace} (key, n) (place_of b)) × (eq_by_cmp place_cmp (key, n) (place_of b) ≡ true)). none_comes batch (others_than b ms) key n (own_goes b ms key n e.0))
    (λ (e : (◌≢◌ {A = VersionPlace} (key, n) (place_of b)) × (eq_by_cmp place_cmp (key, n) (place_of b) ≡ false)).
    batch_gone batch (others_than b ms) key n (subst IsSome (ops_in-skip b batch key n e.0) some))
    (place_cases (key, n) (place_of b))

-- what is left, and what went, is all that was
parts_of_all : (batch ms : List TreeMessage) (key : List ℕ) (n : ℕ) (o : Option Op) → o ≡ ops_in batch key n → (IsSome o → ops_in ms key n ≡ o) → ops_in ms key n ≡ or_else (ops_in (without batch ms) key n) o
parts_of_all batch ms key n None is same = sym (or_none (ops_in (without batch ms) key n) None refl ∙ rest_stays batch ms key n (sym is))
parts_of_all batch ms key n (Some op) is same = same refl ∙ sym (none_or (ops_in (without batch ms) key n) (Some op) (batch_gone batch ms key n (subst IsSome is refl)))

-- where the messages of the batch's keys up to its newest of each are the batch, what is left of them is newer
pub batch_goes : {rows : List Version} (leaves : List LeafRows) (i : ℕ) (ms batch : List TreeMessage)
    → ((m : TreeMessage) → Contains batch m → (n : ℕ) → n ≤ m.number → ops_in ms m.key n ≡ ops_in batch m.key n)
    → ((key : List ℕ) (n k : ℕ) → IsSome (ops_in ms key n) → IsSome (ops_in (map row_message rows) key k) → k < n)
    → BatchGoes leaves i ms (without batch ms) batch rows
batch_goes {rows} leaves i ms batch oldest newer = record {
  parts = λ key n. parts_of_all batch ms key n (ops_in batch key n) refl (held key n);
  newer = λ key n k s left below. some_or (ops_in batch key k) (ops_in (map row_message rows) key k)
      (λ b. above key n k left b)
      (λ r. newer key n k (was key n left) r) below;
}
  where
    left_is : List TreeMessage
    left_is = without batch ms

    held : (key : List ℕ) (n : ℕ) → IsSome (ops_in batch key n) → ops_in ms key n ≡ ops_in batch key n
    held key n s = found_at batch key n s (λ m c e.
        subst (λ (p : VersionPlace). ops_in ms p.0 p.1 ≡ ops_in batch p.0 p.1) (sym e) (oldest m c m.number (omega arith)))

    was : (key : List ℕ) (n : ℕ) → IsSome (ops_in left_is key n) → IsSome (ops_in ms key n)
    was key n s = by_option (ops_in ms key n) refl where
      by_option : (o : Option Op) → o ≡ ops_in ms key n → IsSome (ops_in ms key n)
      by_option None e = absurd (none_some (ops_in left_is key n) (none_comes batch ms key n (sym e)) s)
      by_option (Some op) e = subst IsSome e refl

    above : (key : List ℕ) (n k : ℕ) → IsSome (ops_in left_is key n) → IsSome (ops_in batch key k) → k < n
    above key n k s b = ⊎_elim
        (λ (l : k < n). l)
        (λ (l : n ≤ k). absurd (none_some (ops_in left_is key n) (batch_gone batch ms key n (found_at batch key k b (λ m c e.
        subst (λ (x : List ℕ). IsSome (ops_in batch x n)) (sym (ap (λ (p : VersionPlace). p.0) e))
        (subst IsSome (oldest m c n (subst (λ j. n ≤ j) (ap (λ (p : VersionPlace). p.1) e) l))
        (subst (λ (x : List ℕ). IsSome (ops_in ms x n)) (ap (λ (p : VersionPlace). p.0) e) (was key n s)))))) s))
        (cases_lt k n)

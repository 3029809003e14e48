-- How many versions of a key a merge keeps.
use Rattle.std.proofs.Common.{◌≡◌, ℕ, ◌+◌, ◌<◌, ◌≤◌, List, [], ◌∷◌, ◌++◌, length, ◌∙◌, sym, subst, arith, ⊎_elim}
use Rattle.std.specs.Prelude.{Contains, IsSome, None, false, true, if◌then◌else◌, nat_le}
use Rattle.std.specs.List.{AllByRecursion}
use Rattle.std.specs.List.Sorted.{IsStrictlySortedBy}
use Rattle.std.proofs.lemmas.Bool.{cases_lt}
use Rattle.std.proofs.lemmas.Bool.Decides.{nat_tests}
use Rattle.std.proofs.lemmas.List.Elements.{Contains-append_left, Contains-append_right}
use Rattle.stow_page.specs.StowTreeModel.Agreement.{TenantPins}
use Rattle.stow_page.specs.StowTreeModel.Keys.{tenant_of}
use Rattle.stow_page.specs.StowTreeModel.Merged.{IsGreatestUpTo, IsKept, pruned}
use Rattle.stow_page.specs.StowTreeModel.Messages.{Messages, ops_of}
use Rattle.stow_page.specs.StowTreeModel.Operations.{NoneAbove}
use Rattle.stow_page.specs.StowTreeModel.Order.{place_cmp, VersionsRise}
use Rattle.stow_page.specs.StowTreeModel.Version.{Version}
use Rattle.stow_page.proofs.StowTreeModel.Histories.{falls_number}
use Rattle.stow_page.proofs.StowTreeModel.Latest.{contains_cases}
use Rattle.stow_page.proofs.StowTreeModel.Pruning.{pruning, contains_here, none_in_nothing}
use Rattle.stow_merge.specs.Pages.{HaveOneKey, HaveShortValues}
use Rattle.stow_merge.specs.PinLists.{pin_limit}
use Rattle.stow_merge.specs.Writing.{CanMerge}
use Rattle.stow_merge.proofs.KeyLemmas.{rises_after, rises_front}
use Rattle.stow_merge.proofs.Lists.{all_from_members}

-- ---- pins from a number on

abbrev one_from : ℕ → ℕ → ℕ
one_from n p = if nat_le n p then 1 else 0

abbrev from_on : ℕ → List ℕ → ℕ
from_on n [] = 0
from_on n (p ∷ ps) = one_from n p + from_on n ps

one_within : (n p : ℕ) → n ≤ p → one_from n p ≡ 1
one_within n p l = grind (arith, nat_tests)

one_past : (n p : ℕ) → p < n → one_from n p ≡ 0
one_past n p l = grind (arith, nat_tests)

one_most : (n p : ℕ) → one_from n p ≤ 1
one_most n p = ⊎_elim
    (λ (l : p < n). let e = one_past n p l in omega arith)
    (λ (l : n ≤ p). let e = one_within n p l in omega arith)
    (cases_lt p n)

one_falls : (a b p : ℕ) → a ≤ b → one_from b p ≤ one_from a p
one_falls a b p l = ⊎_elim
    (λ (h : p < b). let e = one_past b p h in omega arith)
    (λ (h : b ≤ p). let e = one_within b p h in let f = one_within a p (omega arith) in omega arith)
    (cases_lt p b)

from_most : (n : ℕ) (ps : List ℕ) → from_on n ps ≤ length ps
from_most n [] = omega arith
from_most n (p ∷ ps) = let one = one_most n p in let more = from_most n ps in omega arith

from_falls : (a b : ℕ) (ps : List ℕ) → a ≤ b → from_on b ps ≤ from_on a ps
from_falls a b [] l = omega arith
from_falls a b (p ∷ ps) l = let one = one_falls a b p l in let more = from_falls a b ps l in omega arith

-- a pin from one number on and below another
from_gains : (a b p : ℕ) (ps : List ℕ) → Contains ps p → a ≤ p → p < b → from_on b ps + 1 ≤ from_on a ps
from_gains a b p [] c l h = absurd (none_in_nothing p c)
from_gains a b p (q ∷ ps) c l h = ⊎_elim
    (λ (e : q ≡ p).
    let low : one_from b q ≡ 0 = one_past b q (omega arith) in
    let high : one_from a q ≡ 1 = one_within a q (omega arith) in
    let more = from_falls a b ps (omega arith) in
    omega arith)
    (λ (t : Contains ps p). let one = one_falls a b q (omega arith) in let more = from_gains a b p ps t l h in omega arith)
    (contains_cases q p ps c)

-- ---- versions of one key

none_there : (messages : Messages) (key : List ℕ) (n : ℕ) → IsSome (ops_of messages key n) → ops_of messages key n ≡ None → ⊥
none_there messages key n s e = let z : false ≡ true = subst (λ o. IsSome o) e s in cc

-- each but the last is shown by a pin of its own
key_few : (pins : TenantPins) (messages : Messages) (key : List ℕ) (v : Version) (later : List Version) → AllByRecursion (λ (w : Version). (w.key ≡ key) × IsKept pins messages key w.number) (v ∷ later) → VersionsRise (v ∷ later) → length later ≤ from_on v.number (pins (tenant_of key))
unfolding IsStrictlySortedBy
key_few pins messages key v [] all rise = omega arith
key_few pins messages key v (w ∷ later) all rise =
    let less : v.number < w.number = falls_number key v.number w.number ((λ k. place_cmp (sym all.0.0 k, v.number) (sym all.1.0.0 k, w.number)) ∙ rise.0.0) in
    let rest = key_few pins messages key w later all.1 rise.1 in
    let there : ops_of messages key w.number ≡ None → ⊥ = none_there messages key w.number all.1.0.1.0 in
    let gains : from_on w.number (pins (tenant_of key)) + 1 ≤ from_on v.number (pins (tenant_of key)) = ⊎_elim
    (λ (none : NoneAbove v.number (ops_of messages key)). absurd (there (none w.number less)))
    (λ (p : (pin : ℕ) × Contains (pins (tenant_of key)) pin × IsGreatestUpTo messages key v.number pin). ⊎_elim
    (λ (b : p.0 < w.number). from_gains v.number w.number p.0 (pins (tenant_of key)) p.1 p.2.0 b)
    (λ (b : w.number ≤ p.0). absurd (there (p.2.1 w.number less b)))
    (cases_lt p.0 w.number))
    all.0.1.1 in
    omega arith

few_in : (pins : TenantPins) (messages : Messages) (key : List ℕ) (versions : List Version) → ((t : ℕ) → length (pins t) ≤ pin_limit) → AllByRecursion (λ (w : Version). (w.key ≡ key) × IsKept pins messages key w.number) versions → VersionsRise versions → length versions ≤ 65
few_in pins messages key [] few all rise = omega arith
few_in pins messages key (v ∷ later) few all rise =
    let more = key_few pins messages key v later all rise in
    let most = from_most v.number (pins (tenant_of key)) in
    let limit = few (tenant_of key) in
    omega arith

-- versions of one key, which a merge keeps
few_of : (pins : TenantPins) (messages : Messages) (versions : List Version) → ((t : ℕ) → length (pins t) ≤ pin_limit) → HaveOneKey versions → ((w : Version) → Contains versions w → IsKept pins messages w.key w.number) → VersionsRise versions → length versions ≤ 65
few_of pins messages [] few one kept rise = omega arith
few_of pins messages (v ∷ later) few one kept rise =
    few_in pins messages v.key (v ∷ later) few
    (all_from_members (λ (w : Version). (w.key ≡ v.key) × IsKept pins messages v.key w.number) (v ∷ later) (λ w c.
    let own : w.key ≡ v.key = one.are_of_key w v c (contains_here v later) in
    (own, subst (λ k. IsKept pins messages k w.number) own (kept w c))))
    rise

-- what a merge leaves can be written
pub can_merge : (pins : TenantPins) (messages : Messages) → ((t : ℕ) → length (pins t) ≤ pin_limit) → HaveShortValues (pruned pins messages) → CanMerge (pruned pins messages)
can_merge pins messages few short =
    let law = pruning pins messages in
    record {
      rise = law.rises;
      are_short = short;
      are_few = λ before part after e one.
          few_of pins messages part few one
          (λ w c. (law.only_these w (subst (λ vs. Contains vs w) (sym e) (Contains-append_right before (part ++ after) w (Contains-append_left part after w c)))).is_kept)
          (rises_front part after (rises_after before (part ++ after) (subst VersionsRise e law.rises)));
    }

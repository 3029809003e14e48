-- Sets of messages by their look-ups.
use Rattle.std.proofs.Common.{◌≡◌, ◌≢◌, ℕ, suc, Bool, true, false, List, [], ◌∷◌, Option, Some, None, refl, ap, ◌∙◌, sym, subst, arith, ⊎_elim, eqb, cond}
use Rattle.std.specs.Ordering.{eq_by_cmp}
use Rattle.std.specs.FinMap as finite
use Rattle.std.specs.List.{AllByRecursion}
use Rattle.std.proofs.lemmas.Bool.{cases_eq, eq-eqb, ne_eqb, cond-true, cond-false}
use Rattle.stow_tree_model.specs.Keys.{tenant_of}
use Rattle.stow_tree_model.specs.Op.{Op}
use Rattle.stow_tree_model.specs.TreeMessage.{TreeMessage}
use Rattle.stow_tree_model.specs.Order.{VersionPlace, place_cmp, place_of}
use Rattle.stow_tree_model.specs.Operations.{Operations, or_else, over}
use Rattle.stow_tree_model.specs.Messages.{Messages, ops_of, with_all, ops_in, IsCall, SetByOps, CallsLeaveOthers}
use Rattle.stow_tree_model.specs.Agreement.{AgreeAt, with_bound, with_pins, AgreementChains, CallAgrees, PinAgrees, FewerPinsAgree, HigherBoundsAgree}
use Rattle.stow_tree_model.proofs.Orders.{place_total, exact_places, place_cases}
use Rattle.stow_tree_model.proofs.Latest.{merges_lem, new_pin_lem, fewer_pins_lem, higher_bound_lem}

pub set_by_ops_law : SetByOps
set_by_ops_law m n h = finite.same_map place_total exact_places m n (λ q. h q.0 q.1)

by_test : (b : Bool) (o : Option Op) (p : Op) (x : Option Op) → cond b (Some p) (or_else o x) ≡ or_else (cond b (Some p) o) x
by_test true o p x = refl
by_test false o p x = refl

-- more messages stand over those that were there
pub ops-with_all : (m : Messages) (ms : List TreeMessage) (key : List ℕ) (n : ℕ) → ops_of (with_all m ms) key n ≡ over (ops_in ms key) (ops_of m key) n
ops-with_all m [] key n = refl
ops-with_all m (x ∷ ms) key n =
    finite.get-insert place_total (with_all m ms) (place_of x) x.op (key, n)
    ∙ ap (cond (eq_by_cmp place_cmp (key, n) (place_of x)) (Some x.op)) (ops-with_all m ms key n)
    ∙ by_test _ (ops_in ms key n) x.op (ops_of m key n)

pub ops_in-other_place : (ms : List TreeMessage) (key : List ℕ) (n : ℕ) → AllByRecursion (λ m. ◌≢◌ {A = VersionPlace} (key, n) (place_of m)) ms → ops_in ms key n ≡ None
ops_in-other_place [] key n h = refl
ops_in-other_place (m ∷ ms) key n h = ⊎_elim
    (λ (e : (◌≡◌ {A = VersionPlace} (key, n) (place_of m)) × (eq_by_cmp place_cmp (key, n) (place_of m) ≡ true)). absurd (h.0 e.0))
    (λ (e : (◌≢◌ {A = VersionPlace} (key, n) (place_of m)) × (eq_by_cmp place_cmp (key, n) (place_of m) ≡ false)). cond-false _ _ _ e.1 ∙ ops_in-other_place ms key n h.1)
    (place_cases (key, n) (place_of m))

weaker : {P Q : TreeMessage → Type 0} → ((m : TreeMessage) → P m → Q m) → (ms : List TreeMessage) → AllByRecursion P ms → AllByRecursion Q ms
weaker f [] h = h
weaker f (m ∷ ms) h = (f m h.0, weaker f ms h.1)

call_elsewhere : (tenant number : ℕ) (ms : List TreeMessage) (key : List ℕ) (n : ℕ) → IsCall tenant number ms → n ≢ number → ops_in ms key n ≡ None
call_elsewhere tenant number ms key n h ne = ops_in-other_place ms key n (weaker (λ m p e. ne (ap (λ (x : VersionPlace). x.1) e ∙ p.1)) ms h)

call_others : (tenant number : ℕ) (ms : List TreeMessage) (key : List ℕ) (n : ℕ) → IsCall tenant number ms → (tenant_of key) ≢ tenant → ops_in ms key n ≡ None
call_others tenant number ms key n h ne = ops_in-other_place ms key n (weaker (λ m p e. ne (ap (λ (x : VersionPlace). tenant_of x.0) e ∙ p.0)) ms h)

pub others_stay_law : CallsLeaveOthers
others_stay_law m tenant number ms key h ne i n = (ops-with_all m ms key n ∙ ap (λ o. or_else o (ops_of m key n)) (call_others tenant number ms key n h ne)) i

own_bound : (bound : ℕ → ℕ) (tenant n t : ℕ) → t ≡ tenant → with_bound bound tenant n t ≡ n
own_bound bound tenant n t e = cond-true (eqb t tenant) _ _ (eq-eqb t tenant e)

other_bound : (bound : ℕ → ℕ) (tenant n t : ℕ) → t ≢ tenant → with_bound bound tenant n t ≡ bound t
other_bound bound tenant n t ne = cond-false (eqb t tenant) _ _ (ne_eqb t tenant ne)

-- what `Agree` says of one key depends on the key's own operations
pub same_agreement : {f f' g g' : Operations} {pins : List ℕ} {bound bound' : ℕ} → f ≡ f' → g ≡ g' → bound ≡ bound' → AgreeAt f g pins bound → AgreeAt f' g' pins bound'
same_agreement {f = f} {f' = f'} {g = g} {g' = g'} {pins = pins} {bound = b} {bound' = b'} p q e a = subst (λ x. AgreeAt f' g' pins x) e (subst (λ x. AgreeAt x g' pins b) p (subst (λ x. AgreeAt f x pins b) q a))

pub call_agrees_law : CallAgrees
call_agrees_law m n pins bound tenant ms is low a key =
    let ops : (x : Messages) → over (ops_in ms key) (ops_of x key) ≡ ops_of (with_all x ms) key = λ x i j. sym (ops-with_all x ms key j) i in
    ⊎_elim
    (λ (e : (tenant_of key) ≡ tenant).
    same_agreement (ops m) (ops n) (ap (λ t. suc (bound t)) e ∙ sym (own_bound bound tenant (suc (bound tenant)) (tenant_of key) e))
    (merges_lem (ops_in ms key) (ops_of m key) (ops_of n key) (bound (tenant_of key)) (suc (bound (tenant_of key))) (omega arith)
    (λ k l. call_elsewhere tenant (suc (bound tenant)) ms key k is (λ z. let b : bound (tenant_of key) ≡ bound tenant = ap bound e in omega arith))
    (λ k l. call_elsewhere tenant (suc (bound tenant)) ms key k is (λ z. let b : bound (tenant_of key) ≡ bound tenant = ap bound e in omega arith))
    (a key)))
    (λ (ne : (tenant_of key) ≢ tenant).
    same_agreement (sym (others_stay_law m tenant (suc (bound tenant)) ms key is ne)) (sym (others_stay_law n tenant (suc (bound tenant)) ms key is ne)) (sym (other_bound bound tenant (suc (bound tenant)) (tenant_of key) ne))
    (a key))
    (cases_eq (tenant_of key) tenant)

same_pins : (pins : ℕ → List ℕ) (tenant : ℕ) (ps : List ℕ) (t : ℕ) → t ≡ tenant → with_pins pins tenant ps t ≡ ps
same_pins pins tenant ps t e = cond-true (eqb t tenant) _ _ (eq-eqb t tenant e)

other_pins : (pins : ℕ → List ℕ) (tenant : ℕ) (ps : List ℕ) (t : ℕ) → t ≢ tenant → with_pins pins tenant ps t ≡ pins t
other_pins pins tenant ps t ne = cond-false (eqb t tenant) _ _ (ne_eqb t tenant ne)

pub pin_agrees_law : PinAgrees
pin_agrees_law m n pins bound tenant a key = ⊎_elim
    (λ (e : (tenant_of key) ≡ tenant).
    subst (λ ps. AgreeAt (ops_of m key) (ops_of n key) ps (bound (tenant_of key))) (ap (λ t. bound t ∷ pins t) e ∙ sym (same_pins pins tenant (bound tenant ∷ pins tenant) (tenant_of key) e))
    (new_pin_lem (ops_of m key) (ops_of n key) (pins (tenant_of key)) (bound (tenant_of key)) (a key)))
    (λ (ne : (tenant_of key) ≢ tenant).
    subst (λ ps. AgreeAt (ops_of m key) (ops_of n key) ps (bound (tenant_of key))) (sym (other_pins pins tenant (bound tenant ∷ pins tenant) (tenant_of key) ne)) (a key))
    (cases_eq (tenant_of key) tenant)

pub fewer_pins_agree_law : FewerPinsAgree
fewer_pins_agree_law m n pins fewer bound sub a key = fewer_pins_lem (ops_of m key) (ops_of n key) (pins (tenant_of key)) (fewer (tenant_of key)) (bound (tenant_of key)) (sub (tenant_of key)) (a key)

pub agreement_chains_law : AgreementChains
agreement_chains_law l m n pins bound a b key = record {
  at_pins = λ p h. (a key).at_pins p h ∙ (b key).at_pins p h;
  from_bound = λ k h. (a key).from_bound k h ∙ (b key).from_bound k h;
  left_below = (a key).left_below;
  right_below = (b key).right_below;
}

pub higher_bounds_agree_law : HigherBoundsAgree
higher_bounds_agree_law m n pins bound higher l a key = higher_bound_lem (ops_of m key) (ops_of n key) (bound (tenant_of key)) (higher (tenant_of key)) (l (tenant_of key)) (a key)

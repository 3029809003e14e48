-- What a deletion takes out, with what stays charged.
use Rattle.std.proofs.Common.{◌≡◌, ℕ, ◌≤◌, true, false, List, [], ◌∷◌, ◌++◌, length, map, Option, Some, None, is_some, refl, ap, sym, ◌∙◌, arith}
use Rattle.std.specs.FinMap as finite
use Rattle.std.specs.List.{list_any}
use Rattle.std.specs.Str.{bytes_eq}
use Rattle.stow_bytes.specs.Limits.{number_limit}
use Rattle.stow_core.specs.Keys.{AreKeysOf}
use Rattle.stow_core.specs.Prepared.{IsPriced, IsChargedWithout, IsRowWithout, IsChargeWithin, after_given, next_number, store_without}
use Rattle.stow_core.specs.State.{CoreState, shared_of, store_of}
use Rattle.stow_core.specs.Taken.{AreTaken}
use Rattle.stow_core.specs.Tenancies.{tenancy_of, tenancy_at}
use Rattle.stow_core.specs.declared.tenancy.Tenancy.{Tenancy}
use Rattle.stow_core.proofs.Answered.{fewer, priced_as}
use Rattle.stow_core.proofs.Written.{given_gone}
use Rattle.stow_core.proofs.Charges.{present_within}
use Rattle.stow_core.proofs.Taking.{map-push, still_there}
use Rattle.stow_ledger.specs.Accounts.{IsAccountOf, IsGivenBy, present_charge}
use Rattle.stow_ledger.specs.Shown.{charge_of, sized_option}
use Rattle.stow_ledger.specs.declared.charge.Charge.{Charge}
use Rattle.stow_ledger.specs.declared.sized_version.SizedVersion.{SizedVersion}
use Rattle.stow_ledger.proofs.KeptLemmas.{present_is_charged_law}
use Rattle.stow_model.specs.Store.{Store, Version}
use Rattle.stow_ledger.specs.StowState.State.{IsSound}
use Rattle.stow_tree_model.specs.Keys.{packed, own_key}
use Rattle.stow_tree_model.specs.Op.{Gone}

-- whether a row is there, by its size
pub sized_some : (row : Option Version) (version : SizedVersion) → sized_option row ≡ Some version → is_some row ≡ true
sized_some None version e = absurd (apart e) where
  apart : None ≡ Some version → ⊥
  apart f = cc
sized_some (Some v) version e = refl

pub sized_none : (row : Option Version) → sized_option row ≡ None → is_some row ≡ false
sized_none None e = refl
sized_none (Some v) e = absurd (apart e) where
  apart : {s : SizedVersion} → Some s ≡ None → ⊥
  apart f = cc

-- no row went yet
pub none_freed : {A : Type 0} (core : CoreState) (t : ℕ) (x : Tenancy A) → tenancy_at t core.tenancies ≡ Some (tenancy_of x) → IsSound (shared_of core) → IsAccountOf (store_of core t) x.account
    → (c : Charge) → c ≡ present_charge x.account → c.charge ≤ number_limit → IsGivenBy x.account c → IsChargedWithout core t [] c
none_freed core t x at sound account c is within given = record {
  within = present_within core t x at sound account c is within given;
  is = is ∙ present_is_charged_law (store_of core t) x.account account;
}

-- one more row goes
pub one_more_freed : (core : CoreState) (t : ℕ) (taken : List (List ℕ)) (k : List ℕ) (n : ℕ) (version : SizedVersion) (so_far c : Charge) → IsChargedWithout core t taken so_far → IsChargeWithin core t c
    → ((keys : List (List ℕ)) (own : List ℕ) → IsRowWithout (store_of core t) keys own n version → so_far ≡ charge_of (store_without keys (store_of core t)) → c ≡ charge_of (store_without (keys ++ own ∷ []) (store_of core t)))
    → n ≡ length k → Some version ≡ sized_option (finite.get (store_of core t).rows k) → AreKeysOf t taken → list_any (bytes_eq (packed t k)) taken ≡ false → IsChargedWithout core t (taken ++ packed t k ∷ []) c
one_more_freed core t taken k n version so_far c before within charged long is own none = record {
  within = within;
  is = charged (map own_key taken) k (record { key_is = long; version_is = is ∙ ap sized_option (sym (still_there t taken (store_of core t).rows k own none)) }) before.is
      ∙ ap (λ ks. charge_of (store_without ks (store_of core t))) (sym (map-push taken (packed t k)));
}

-- as many rows go as keys are taken
pub fewer_is : (t : ℕ) (store : Store) (keys taken : List (List ℕ)) → AreTaken t store.rows keys taken → length taken ≡ fewer store keys
fewer_is t store keys taken is = let counts = is.counted in omega (arith, counts)

-- what is charged without the rows is charged once a write has taken them out
pub priced_removal : (core : CoreState) (t : ℕ) (taken : List (List ℕ)) (ch : Charge) → IsChargedWithout core t taken ch → IsPriced core t ch (after_given taken Gone (store_of core t))
priced_removal core t taken ch charged = priced_as core t ch (store_without (map own_key taken) (store_of core t)) (after_given taken Gone (store_of core t))
    (given_gone (next_number core t) (map own_key taken) (store_of core t).rows) refl (record { is = charged.is; given = charged.within.given })

-- What the tree is asked for a tenant's next write.
use Rattle.std.proofs.Common.{◌≡◌, ℕ, ◌<◌, ◌≤◌, List, [], ◌∷◌, Some, ap, sym, ◌∙◌, subst, arith}
use Rattle.std.specs.FinMap as map
use Rattle.std.specs.List.{AllByRecursion}
use Rattle.stow_bytes.specs.Limits.{number_limit}
use Rattle.stow_core.specs.Keys.{AreKeysOf}
use Rattle.stow_core.specs.Prepared.{CanGive, CanWrite, next_number}
use Rattle.stow_core.specs.State.{CoreState, row_at, shared_of, store_of, IsCore}
use Rattle.stow_core.specs.Tenancies.{TenancyState, own_state, tenancy_at}
use Rattle.stow_core.specs.Writes.{writes_of, AreMessages, StaysShort}
use Rattle.stow_core.proofs.Keyed.{first_own, later_own}
use Rattle.stow_core.proofs.Room.{can_write_rows, writes_are_messages}
use Rattle.stow_core.proofs.Stores.{own_there, within, stored, row_value}
use Rattle.stow_dropping.specs.StowMerge.declared.pins.Pins.{Pins}
use Rattle.stow_model.specs.Login.{IsTenant}
use Rattle.stow_model.specs.Store.{Store}
use Rattle.stow_model.specs.Store as stored_value
use Rattle.stow_ledger.specs.StowState.State.{lasts_in}
use Rattle.stow_dropping.specs.StowTree.Putting.{CanReserve}
use Rattle.stow_dropping.specs.StowTree.TreeState.{tree_messages, HasBound}
use Rattle.stow_tree_model.specs.Keys.{packed, own_key}
use Rattle.stow_tree_model.specs.Messages.{value}
use Rattle.stow_tree_model.specs.Op.{Op}
use Rattle.stow_tree_model.specs.Operations.{value_in}

module _ {A : Type 0} (core : CoreState) (pins : Pins A) (is_core : IsCore core pins) (t : ℕ) (is : IsTenant core.entries t) (can : CanWrite core t) where
  own : TenancyState
  own = (own_there core pins t is_core is).0

  at : tenancy_at t core.tenancies ≡ Some own
  unfolding own
  at = (own_there core pins t is_core is).1

  last_is : (store_of core t).last ≡ own.last
  last_is = ap (λ (s : Store). s.last) (stored core t own at)

  bound_is : lasts_in (shared_of core) t ≡ own.last
  unfolding shared_of
  bound_is = ap (λ o. (own_state o).last) at

  below : HasBound (tree_messages core.tree) (lasts_in (shared_of core))
  unfolding shared_of
  below = is_core.sound.messages_below

  few : t ≤ 65535
  few = let h = within core pins t is_core is in let f = is_core.few in omega (arith, h, f)

  above : lasts_in (shared_of core) t < next_number core t
  above = omega (arith, bound_is, last_is)

  number_low : 1 ≤ next_number core t
  number_low = omega arith

  number_high : next_number core t ≤ number_limit
  number_high = omega (arith, can)

  -- the value of the row is the one that its key has
  value_is : (key : List ℕ) → packed t (own_key key) ≡ key → stored_value.value_in (row_at core t (own_key key)) ≡ value_in (value (tree_messages core.tree) key (lasts_in (shared_of core) t))
  value_is key is_own =
      ap (λ (s : Store). stored_value.value_in (map.get s.rows (own_key key))) (stored core t own at)
      ∙ row_value (tree_messages core.tree) t own.last key is_own
      ∙ ap (λ n. value_in (value (tree_messages core.tree) key n)) (sym bound_is)

  short_by_keys : (op : Op) (keys : List (List ℕ)) → AreKeysOf t keys → AllByRecursion (λ key. StaysShort op (stored_value.value_in (row_at core t (own_key key)))) keys
      → AllByRecursion (λ key. StaysShort op (value_in (value (tree_messages core.tree) key (lasts_in (shared_of core) t)))) keys
  short_by_keys op [] own_keys short = tt
  short_by_keys op (key ∷ keys) own_keys short = (subst (StaysShort op) (value_is key (first_own t key keys own_keys)) short.0, short_by_keys op keys (later_own t key keys own_keys) short.1)

  pub can_give : (keys : List (List ℕ)) (op : Op) → CanGive core t keys op → CanReserve core.tree (writes_of (next_number core t) op keys)
  can_give keys op give = can_write_rows (lasts_in (shared_of core)) core.tree below is_core.sizes t (next_number core t) few above op keys give.own give.distinct (short_by_keys op keys give.own give.short) give.fit

  pub gives_messages : (keys : List (List ℕ)) (op : Op) → CanGive core t keys op → AreMessages (writes_of (next_number core t) op keys)
  gives_messages keys op give = writes_are_messages t (next_number core t) op (λ key. stored_value.value_in (row_at core t (own_key key))) keys is.0 few give.own give.are_keys number_low number_high give.short

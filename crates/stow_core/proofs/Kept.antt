-- The core as it gives way to another that means the same to each tenant.
use Rattle.std.proofs.Common.{◌≡◌, ◌≢◌, ℕ, ◌<◌, List, Bool, Option, Some, None, refl, ap, sym, ◌∙◌, subst}
use Rattle.std.specs.Prelude.{Contains, IfSome}
use Rattle.stow_core.specs.State.{CoreState, shared_of, store_of, IsCore, Keeps}
use Rattle.stow_core.specs.Tenancies.{TenancyState, tenancy_at, is_among}
use Rattle.stow_core.proofs.Stores.{same_store}
use Rattle.stow_ledger.specs.Accounts.{IsAccountOf}
use Rattle.stow_dropping.specs.StowMerge.declared.pins.Pins.{Pins}
use Rattle.stow_dropping.specs.StowMerge.Pins.{room_in}
use Rattle.stow_dropping.specs.StowMerge.Pins as held
use Rattle.stow_dropping.specs.StowNode.Subtree.{Subtree}
use Rattle.stow_ledger.specs.StowState.State.{SharedState, IsSound, pins_in, lasts_in}
use Rattle.stow_ledger.specs.StowState.Steps.{SharedStep, Maintenance, moved, reply_to}
use Rattle.stow_ledger.proofs.StowState.Steps.{step_sound, step_is_there_law, steps_by_parts_law, other_views_stay_law, maintenance_chains}
use Rattle.stow_dropping.specs.StowTree.Shapes.{AreInRange}
use Rattle.stow_dropping.specs.StowTree.TreeState.{TreeState, tree_messages, AgreeUnder}
use Rattle.stow_dropping.proofs.StowTree.Sets.{same_messages}
use Rattle.stow_tree_model.specs.Agreement.{Agree}
use Rattle.stow_tree_model.specs.Messages.{Messages}
use Rattle.stow_tree_model.proofs.SetLemmas.{fewer_pins_agree_law}
use Rattle.stow_versions.proofs.PinLemmas.{same_contains}

-- where nothing changes
pub idle : (state : SharedState) → IsSound state → SharedStep state Maintenance None state
unfolding moved reply_to
idle state sound = step_is_there_law state Maintenance sound tt

pub keeps_itself : (core : CoreState) → IsSound (shared_of core) → Keeps core core
keeps_itself core sound = record { stores = λ t. refl; entries = refl; gives_way = record { sound = sound; step = idle (shared_of core) sound } }

-- each pin of the state is held
pub pins_held : {A : Type 0} (core : CoreState) (pins : Pins A) → IsCore core pins → (t p : ℕ) → Contains (pins_in (shared_of core) t) p → Contains (held.pins_in pins t) p
pins_held core pins is_core t p c = same_contains (pins_in (shared_of core) t) (held.pins_in pins t) p (sym (is_core.pins_are t p)) c

-- ---- a tree that means the same

module _ {A : Type 0} (core : CoreState) (pins : Pins A) (is_core : IsCore core pins) (tree' : TreeState) where
  abbrev new : CoreState
  new = record core { tree = tree' }

  way : AgreeUnder (held.pins_in pins) (tree_messages core.tree) (tree_messages tree') → SharedStep (shared_of core) Maintenance None (shared_of new)
  unfolding shared_of
  way agrees = steps_by_parts_law.of_maintenance (shared_of core) (shared_of new) refl
      (fewer_pins_agree_law (tree_messages core.tree) (tree_messages tree') (held.pins_in pins) (pins_in (shared_of core)) (lasts_in (shared_of core)) (pins_held core pins is_core)
      (agrees (lasts_in (shared_of core)) is_core.sound.messages_below))

  stays : SharedStep (shared_of core) Maintenance None (shared_of new) → (t : ℕ) → store_of new t ≡ store_of core t
  stays step t = same_store core new t refl (λ index. other_views_stay_law (shared_of core) (shared_of new) Maintenance None t index tt step) is_core.few

  same_pins : pins_in (shared_of new) ≡ pins_in (shared_of core)
  unfolding shared_of
  same_pins = refl

  pub core_agrees : AgreeUnder (held.pins_in pins) (tree_messages core.tree) (tree_messages tree') → tree'.root.shape ≡ core.tree.root.shape → IsCore new pins
  core_agrees agrees shape = record {
    each = is_core.each;
    few = is_core.few;
    sound = step_sound (shared_of core) (shared_of new) Maintenance None is_core.sound (way agrees);
    accounts = λ t. accounts t (tenancy_at t core.tenancies) (is_core.accounts t);
    pins_are = λ t n. is_core.pins_are t n ∙ ap (λ (ps : ℕ → List ℕ). in_list n (ps t)) (sym same_pins);
    pin_room = is_core.pin_room;
    sizes = subst AreInRange (sym shape) is_core.sizes;
  }
    where
      in_list : ℕ → List ℕ → Bool
      in_list n ps = is_among n ps

      accounts : (t : ℕ) (o : Option TenancyState) → IfSome o (λ own. IsAccountOf (store_of core t) own.account) → IfSome o (λ own. IsAccountOf (store_of new t) own.account)
      accounts t None is = is
      accounts t (Some own) is = subst (λ s. IsAccountOf s own.account) (sym (stays (way agrees) t)) is

  pub keeps_agreed : AgreeUnder (held.pins_in pins) (tree_messages core.tree) (tree_messages tree') → Keeps core new
  keeps_agreed agrees = record { stores = stays (way agrees); entries = refl; gives_way = record { sound = is_core.sound; step = way agrees } }

  -- where the tree means the same set
  means_same : tree_messages tree' ≡ tree_messages core.tree → AgreeUnder (held.pins_in pins) (tree_messages core.tree) (tree_messages tree')
  means_same same bound has key =
      subst (λ (m : Messages). Agree (tree_messages core.tree) m (held.pins_in pins) bound) (sym same)
      (λ k. record { at_pins = λ p c. refl; from_bound = λ n l. refl; left_below = has k; right_below = has k }) key

  pub core_same : tree_messages tree' ≡ tree_messages core.tree → tree'.root.shape ≡ core.tree.root.shape → IsCore new pins
  core_same same = core_agrees (means_same same)

  pub keeps_same : tree_messages tree' ≡ tree_messages core.tree → Keeps core new
  keeps_same same = keeps_agreed (means_same same)

  -- only what is held of the leaves changed
  pub core_rooted : tree'.root ≡ core.tree.root → IsCore new pins
  core_rooted same = core_same (same_messages core.tree tree' same) (ap (λ (r : Subtree). r.shape) same)

  pub keeps_rooted : tree'.root ≡ core.tree.root → Keeps core new
  keeps_rooted same = keeps_same (same_messages core.tree tree' same)

-- ---- pins with other room

-- the same pins, with room for one more of some tenant
pub core_repinned : {A : Type 0} (core : CoreState) (pins pins' : Pins A) (tenant : ℕ) → IsCore core pins → ((t : ℕ) → held.pins_in pins' t ≡ held.pins_in pins t) → (tenant ≢ 0 → 0 < room_in pins' tenant) → IsCore (record core { pin_room = tenant }) pins'
unfolding shared_of store_of
core_repinned core pins pins' tenant is_core same room = record {
  each = is_core.each;
  few = is_core.few;
  sound = is_core.sound;
  accounts = is_core.accounts;
  pins_are = λ t n. ap (is_among n) (same t) ∙ is_core.pins_are t n;
  pin_room = room;
  sizes = is_core.sizes;
}

pub keeps_repinned : (core new : CoreState) (tenant : ℕ) → IsSound (shared_of core) → new ≡ record core { pin_room = tenant } → Keeps core new
unfolding shared_of store_of
keeps_repinned core core2 tenant sound is = subst (Keeps core) (sym is) (record { stores = λ t. refl; entries = refl; gives_way = record { sound = sound; step = idle (shared_of core) sound } })

-- one after another
pub keeps_then : (a b c : CoreState) → Keeps a b → Keeps b c → Keeps a c
keeps_then a b c first second = record {
  stores = λ t. second.stores t ∙ first.stores t;
  entries = second.entries ∙ first.entries;
  gives_way = record { sound = first.gives_way.sound; step = maintenance_chains (shared_of a) (shared_of b) (shared_of c) first.gives_way.step second.gives_way.step };
}

pub kept_sound : (a b : CoreState) → Keeps a b → IsSound (shared_of b)
kept_sound a b keeps = step_sound (shared_of a) (shared_of b) Maintenance None keeps.gives_way.sound keeps.gives_way.step

-- When two sets of messages mean the same: to each tenant, at its pins and from its bound on.
use Rattle.std.specs.Prelude.{◌≡◌, ℕ, suc, ◌≤◌, List, ◌∷◌, Contains, if◌then◌else◌, ◌==◌}
use Rattle.stow_tree_model.specs.Keys.{tenant_of}
use Rattle.stow_tree_model.specs.TreeMessage.{TreeMessage}
use Rattle.stow_tree_model.specs.Operations.{Operations, latest, over, NoneAbove, NoneUpTo}
use Rattle.stow_tree_model.specs.Messages.{Messages, ops_of, with_all, IsCall}

-- each tenant's pins: the numbers at which its rows are to stay as they are
abbrev pub TenantPins : Type 0
TenantPins = ℕ → List ℕ

-- for each tenant a number that none of its messages is above
abbrev pub TenantBounds : Type 0
TenantBounds = ℕ → ℕ

-- two sets of operations on one key mean the same at each pin and from the bound on, and neither
-- goes above it
pub record AgreeAt (f g : Operations) (pins : List ℕ) (bound : ℕ) : Type 0 where
  pub at_pins : (p : ℕ) → Contains pins p → latest f p ≡ latest g p
  pub from_bound : (n : ℕ) → bound ≤ n → latest f n ≡ latest g n
  pub left_below : NoneAbove bound f
  pub right_below : NoneAbove bound g

-- two sets mean the same to each tenant under its pins and from its bound on
abbrev pub Agree : Messages → Messages → TenantPins → TenantBounds → Type 0
Agree m n pins bound = (key : List ℕ)
    → AgreeAt (ops_of m key) (ops_of n key) (pins (tenant_of key)) (bound (tenant_of key))

-- the bounds with one changed
abbrev pub with_bound : TenantBounds → ℕ → ℕ → TenantBounds
with_bound bound tenant n t = if t == tenant then n else bound t

-- the pins with one tenant's changed
abbrev pub with_pins : TenantPins → ℕ → List ℕ → TenantPins
with_pins pins tenant ps t = if t == tenant then ps else pins t

-- no pin is above its tenant's bound
abbrev pub PinsBelow : TenantPins → TenantBounds → Type 0
PinsBelow pins bound = (t p : ℕ) → Contains (pins t) p → p ≤ bound t

-- each of the first pins is among the second
abbrev pub PinsAmong : TenantPins → TenantPins → Type 0
PinsAmong fewer pins = (t p : ℕ) → Contains (fewer t) p → Contains (pins t) p

-- the messages that stay are newer than those of the leaf, key by key
abbrev pub IsNewer : Messages → Messages → TenantBounds → Type 0
IsNewer newer leaf bound = (key : List ℕ)
    → (top : ℕ) × (top ≤ bound (tenant_of key)) × NoneAbove top (ops_of leaf key)
    × NoneUpTo top (ops_of newer key) × NoneAbove (bound (tenant_of key)) (ops_of newer key)

-- the set of both, where the first wins
abbrev pub IsOver : Messages → Messages → Messages → Type 0
IsOver m newer older = (key : List ℕ) → ops_of m key ≡ over (ops_of newer key) (ops_of older key)

-- ---- the laws

-- agreement chains
abbrev pub AgreementChains : Type 0
AgreementChains = (l m n : Messages) (pins : TenantPins) (bound : TenantBounds)
    → Agree l m pins bound → Agree m n pins bound → Agree l n pins bound

-- agreement stays after the same call's messages, with the number after the bound
abbrev pub CallAgrees : Type 0
CallAgrees =
    (m n : Messages) (pins : TenantPins) (bound : TenantBounds) (tenant : ℕ) (ms : List TreeMessage)
    → IsCall tenant (suc (bound tenant)) ms → PinsBelow pins bound → Agree m n pins bound
    → Agree (with_all m ms) (with_all n ms) pins (with_bound bound tenant (suc (bound tenant)))

-- agreement stays with a new pin at the bound
abbrev pub PinAgrees : Type 0
PinAgrees = (m n : Messages) (pins : TenantPins) (bound : TenantBounds) (tenant : ℕ)
    → Agree m n pins bound → Agree m n (with_pins pins tenant (bound tenant ∷ pins tenant)) bound

-- agreement stays with fewer pins
abbrev pub FewerPinsAgree : Type 0
FewerPinsAgree = (m n : Messages) (pins fewer : TenantPins) (bound : TenantBounds)
    → PinsAmong fewer pins → Agree m n pins bound → Agree m n fewer bound

-- agreement stays where bounds are higher
abbrev pub HigherBoundsAgree : Type 0
HigherBoundsAgree = (m n : Messages) (pins : TenantPins) (bound higher : TenantBounds)
    → ((t : ℕ) → bound t ≤ higher t) → Agree m n pins bound → Agree m n pins higher

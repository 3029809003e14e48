-- A merge under the pins of its plan, and pins that came later.
use Rattle.std.proofs.Common.{◌≡◌, ℕ, ◌≤◌, ◌⊎◌, List, [], ◌∷◌, map, inl, inr, sym, subst, arith, ⊎_elim}
use Rattle.std.specs.Prelude.{All, Contains, IsSome}
use Rattle.std.proofs.lemmas.Bool.{cases_eq}
use Rattle.std.proofs.lemmas.List.Elements.{All-contains, All-map}
use Rattle.stow_merge.specs.Covering.{Covers, IsCovered}
use Rattle.stow_merge.specs.StowTreeModel.Agreement.{TenantPins}
use Rattle.stow_merge.specs.StowTreeModel.Keys.{tenant_of}
use Rattle.stow_merge.specs.StowTreeModel.Merged.{row_message, merged}
use Rattle.stow_merge.specs.StowTreeModel.Messages.{ops_in}
use Rattle.stow_merge.specs.StowTreeModel.Operations.{NoneAbove}
use Rattle.stow_merge.specs.StowTreeModel.Order.{VersionPlace}
use Rattle.stow_merge.specs.StowTreeModel.TreeMessage.{TreeMessage}
use Rattle.stow_merge.specs.StowTreeModel.Version.{Version}
use Rattle.stow_merge.proofs.StowTreeModel.Latest.{contains_cases}
use Rattle.stow_merge.proofs.StowTreeModel.Pruning.{contains_here, contains_there, none_in_nothing}
use Rattle.stow_leaf.specs.Replacements.{GiveWay, ops_with}
use Rattle.stow_leaf.proofs.Found.{found_at, merge_gives_way, none_unless, some_or}

-- a number is among others, or not
is_among : (ns : List ℕ) (p : ℕ) → Contains ns p ⊎ (Contains ns p → ⊥)
is_among [] p = inr (λ c. none_in_nothing p c)
is_among (n ∷ ns) p = ⊎_elim
    (λ (e : n ≡ p). inl (subst (Contains (n ∷ ns)) e (contains_here n ns)))
    (λ (ne : n ≡ p → ⊥). ⊎_elim
    (λ (c : Contains ns p). inl (contains_there n p ns c))
    (λ (other : Contains ns p → ⊥). inr (λ c. ⊎_elim ne other (contains_cases n p ns c)))
    (is_among ns p))
    (cases_eq n p)

-- each message's number is covered
abbrev AreAllCovered : TenantPins → TenantPins → List TreeMessage → Type 0
AreAllCovered used present ms = All (λ m. IsCovered (used (tenant_of m.key)) (present (tenant_of m.key)) m.number) ms

number_covered : (used present : TenantPins) (ms : List TreeMessage) (key : List ℕ) (n : ℕ) → AreAllCovered used present ms → IsSome (ops_in ms key n) → IsCovered (used (tenant_of key)) (present (tenant_of key)) n
number_covered used present ms key n all s = found_at ms key n s (λ m c e.
    subst (λ (p : VersionPlace). IsCovered (used (tenant_of p.0)) (present (tenant_of p.0)) p.1) (sym e)
    (All-contains (λ (x : TreeMessage). IsCovered (used (tenant_of x.key)) (present (tenant_of x.key)) x.number) ms m all c))

-- pins that are covered show after the merge what they showed before
pub covered_gives_way : (rows : List Version) (batch : List TreeMessage) (used present : TenantPins) → Covers used present rows batch
    → (key : List ℕ) → GiveWay (present (tenant_of key)) (ops_with batch rows key) (ops_in (map row_message (merged rows batch used)) key)
covered_gives_way rows batch used present covers key bound none =
    let way = merge_gives_way rows batch used key bound none in
    record {
      at_pins = λ p c. ⊎_elim (λ (u : Contains (used (tenant_of key)) p). way.at_pins p u)
          (λ (other : Contains (used (tenant_of key)) p → ⊥). (merge_gives_way rows batch used key p (none_above p c other)).from_bound p (omega arith))
          (is_among (used (tenant_of key)) p);
      from_bound = way.from_bound;
      left_below = way.left_below;
      right_below = way.right_below;
    }
  where
    of_rows : AreAllCovered used present (map row_message rows)
    of_rows = All-map (λ (m : TreeMessage). IsCovered (used (tenant_of m.key)) (present (tenant_of m.key)) m.number) row_message rows covers.rows_covered

    covered : (n : ℕ) → IsSome (ops_with batch rows key n) → IsCovered (used (tenant_of key)) (present (tenant_of key)) n
    covered n s = some_or (ops_in batch key n) (ops_in (map row_message rows) key n)
        (number_covered used present batch key n covers.batch_covered)
        (number_covered used present (map row_message rows) key n of_rows) s

    none_above : (p : ℕ) → Contains (present (tenant_of key)) p → (Contains (used (tenant_of key)) p → ⊥) → NoneAbove p (ops_with batch rows key)
    none_above p c other n l = none_unless (ops_with batch rows key n) (λ s. ⊎_elim other (λ (le : n ≤ p). absurd (omega arith))
        (All-contains (λ (q : ℕ). Contains (used (tenant_of key)) q ⊎ n ≤ q) (present (tenant_of key)) p (covered n s) c))

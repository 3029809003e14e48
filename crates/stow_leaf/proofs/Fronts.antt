-- What comes in a leaf's place: the pages of its merge.
use Rattle.std.proofs.Common.{◌≡◌, ◌≢◌, ℕ, zero, suc, ◌<◌, Bool, true, false, cond, List, [], ◌∷◌, length, map, get_or, Option, None, refl, ap, ◌∙◌, sym, subst, arith, inl, inr}
use Rattle.std.specs.Prelude.{Contains, IsSome}
use Rattle.std.specs.List.{AllByRecursion}
use Rattle.stow_merge.specs.StowTreeModel.Agreement.{TenantPins}
use Rattle.stow_merge.specs.StowTreeModel.Keys.{tenant_of}
use Rattle.stow_merge.specs.StowTreeModel.Merged.{row_message, rows_set, merged}
use Rattle.stow_merge.specs.StowTreeModel.Messages.{ops_in, with_all}
use Rattle.stow_merge.specs.StowTreeModel.Op.{Op}
use Rattle.stow_merge.specs.StowTreeModel.Operations.{or_else}
use Rattle.stow_merge.specs.StowTreeModel.Order.{VersionsRise}
use Rattle.stow_merge.specs.StowTreeModel.TreeMessage.{TreeMessage}
use Rattle.stow_merge.specs.StowTreeModel.Version.{Version}
use Rattle.stow_merge.proofs.StowTreeModel.Pruning.{none_in_nothing, pruning}
use Rattle.stow_merge.specs.StowMessage.Rising.{in_range}
use Rattle.stow_merge.specs.FlushJobs.{IsMergeOf}
use Rattle.stow_merge.specs.Pages.{AreLeafPages, ArePagesOf, HaveShortValues}
use Rattle.stow_merge.specs.Pins.{pins_in}
use Rattle.stow_merge.specs.declared.flush_job.FlushJob.{FlushJob}
use Rattle.stow_leaf.specs.Intervals.{spans, NoneOutside}
use Rattle.stow_leaf.specs.LeafRows.{LeafRows, row_messages, first_fence, IsLeafTile, LeavesTo}
use Rattle.stow_leaf.specs.Making.{leaves_from, AreFilled}
use Rattle.stow_leaf.specs.Replacements.{IsLeafSize, GiveWay, AreThere, HasShortValues, ops_with, IsFence, CanReplace, TakePlace, IsReplacement, IsJobOf}
use Rattle.stow_leaf.proofs.Covered.{covered_gives_way}
use Rattle.stow_leaf.proofs.Ops.{ops-in_range}
use Rattle.stow_leaf.proofs.Found.{some_or, some_left, some_right, rows_within, merge_gives_way, merged_within, merged_there, merged_keys, short_rows}
use Rattle.stow_leaf.proofs.Tiles.{tiles, leaf_fences, leaf_sizes, leaf_messages}

-- ---- pages

-- there is one page without versions, or there are others
by_pages : {X : Type 0} (pages : List (List Version)) → (pages ≡ [] ∷ [] → X) → (pages ≢ [] ∷ [] → X) → X
by_pages [] f g = g (λ e. cc)
by_pages ([] ∷ []) f g = f refl
by_pages ([] ∷ p ∷ ps) f g = g (λ e. cc)
by_pages ((v ∷ p) ∷ ps) f g = g (λ e. cc)

filled_from : (target : ℕ) (pages : List (List Version)) (i : ℕ) (d : List Version) → AreLeafPages target pages → i < length pages → get_or pages i d ≢ []
filled_from target [] i d a l = absurd (omega arith)
filled_from target (p ∷ pages) zero d a l = a.0.is_filled
filled_from target (p ∷ pages) (suc i) d a l = filled_from target pages i d a.1 (omega arith)

pub filled_pages : (versions : List Version) (target : ℕ) (pages : List (List Version)) → ArePagesOf versions target pages → AreFilled pages
filled_pages versions target pages are i d l = by_pages pages
    (λ e. absurd (let one = ap length e in omega arith))
    (λ ne. filled_from target pages (suc i) d (are.are_cut ne) l)

-- no versions are a leaf of any size
pub no_rows_size : (target : ℕ) → IsLeafSize target []
no_rows_size target above = record { are_of_key = λ v w c d. absurd (none_in_nothing v c) }

merged_rise : (rows : List Version) (batch : List TreeMessage) (pins : TenantPins) → VersionsRise (merged rows batch pins)
merged_rise rows batch pins = (pruning pins (with_all (rows_set rows) batch)).rises

-- ---- the messages of an interval among all

in_interval : (low high : List ℕ) (ms : List TreeMessage) (key : List ℕ) (n : ℕ) → spans low high key ≡ true → ops_in (in_range low high ms) key n ≡ ops_in ms key n
in_interval low high ms key n s = rw (ops-in_range low high ms key n, s) refl

some_of : (t : Bool) (o : Option Op) → IsSome (cond t o None) → IsSome o
some_of true o h = h
some_of false o h = absurd cc

-- what messages of an interval and rows have, all messages have with them
wider : (leaf : LeafRows) (high : List ℕ) (ms : List TreeMessage) (key : List ℕ) → AreThere (ops_with (in_range leaf.0 high ms) leaf.1 key) → AreThere (ops_with ms leaf.1 key)
wider leaf high ms key t = (
  t.0,
  some_or (ops_in (in_range leaf.0 high ms) key t.0) (ops_in (map row_message leaf.1) key t.0)
      (λ s. some_left (ops_in ms key t.0) (ops_in (map row_message leaf.1) key t.0) (some_of (spans leaf.0 high key) (ops_in ms key t.0) (subst IsSome (ops-in_range leaf.0 high ms key t.0) s)))
      (λ s. some_right (ops_in ms key t.0) (ops_in (map row_message leaf.1) key t.0) s)
      t.1,
)

one_leaf : (low : List ℕ) (pages : List (List Version)) → length pages ≡ 1 → length (leaves_from low pages) ≡ 1
one_leaf low [] e = absurd (omega (arith, e))
one_leaf low (p ∷ []) e = refl
one_leaf low (p ∷ q ∷ pages) e = absurd (omega (arith, e))

-- ---- the pages in the leaf's place

-- a batch that was merged under used pins: all messages' operations on the leaf's keys are its own
record Merge (leaf : LeafRows) (high : List ℕ) (ms batch : List TreeMessage) (used present : TenantPins) : Type 0 where
  tile : IsLeafTile leaf high
  within : NoneOutside leaf.0 high batch
  short : HaveShortValues (merged leaf.1 batch used)
  gives : (key : List ℕ) → GiveWay (present (tenant_of key)) (ops_with batch leaf.1 key) (ops_in (map row_message (merged leaf.1 batch used)) key)
  of_key : (key : List ℕ) (n : ℕ) → spans leaf.0 high key ≡ true → ops_with batch leaf.1 key n ≡ ops_with ms leaf.1 key n
  wider : (key : List ℕ) → AreThere (ops_with batch leaf.1 key) → AreThere (ops_with ms leaf.1 key)

pages_take_place : (leaf : LeafRows) (high : List ℕ) (ms batch : List TreeMessage) (used present : TenantPins) (target : ℕ) (pages : List (List Version)) → Merge leaf high ms batch used present → ArePagesOf (merged leaf.1 batch used) target pages
    → TakePlace leaf high ms present target (leaves_from leaf.0 pages)
pages_take_place leaf high ms batch used present target pages m are = record {
  tiled = by_pages pages
      (λ e. subst (λ ps. LeavesTo high (leaves_from leaf.0 ps)) (sym e) (record { ordered = m.tile.ordered; rows = rows_within leaf.0 high [] (λ v c. absurd (none_in_nothing v c)) }, tt))
      (λ ne. tiles target leaf.0 high pages (are.are_cut ne) (subst VersionsRise (sym are.are) (merged_rise leaf.1 batch used))
      (λ v c. merged_within leaf.0 high leaf.1 batch used m.tile.rows m.within v (subst (λ vs. Contains vs v) are.are c)) m.tile.ordered);
  first = first pages are.is_one_there;
  sizes = by_pages pages
      (λ e. subst (λ ps. AllByRecursion (λ (l : LeafRows). IsLeafSize target l.1) (leaves_from leaf.0 ps)) (sym e) (no_rows_size target, tt))
      (λ ne. leaf_sizes target leaf.0 pages (are.are_cut ne));
  agrees = λ key s. subst (λ f. GiveWay (present (tenant_of key)) f (ops_in (row_messages (leaves_from leaf.0 pages)) key)) (λ i n. m.of_key key n s i)
      (subst (λ l. GiveWay (present (tenant_of key)) (ops_with batch leaf.1 key) (ops_in l key)) (sym messages) (m.gives key));
  short = λ key s v. subst (λ l. HasShortValues (ops_in l key)) (sym messages) (short_rows (merged leaf.1 batch used) key m.short);
  fences = by_pages pages
      (λ e. subst (λ ps. AllByRecursion (λ (l : LeafRows). IsFence leaf ms l.0) (leaves_from leaf.0 ps)) (sym e) (inl refl, tt))
      (λ ne. leaf_fences (IsFence leaf ms) target leaf.0 pages (are.are_cut ne) (inl refl)
      (λ v c. inr (m.wider v.key (v.number, merged_there leaf.1 batch used v (subst (λ vs. Contains vs v) are.are c)))));
  keys = λ key t. m.wider key (merged_keys leaf.1 batch used key t.0 (subst (λ l. IsSome (ops_in l key t.0)) messages t.1));
}
  where
    messages : row_messages (leaves_from leaf.0 pages) ≡ map row_message (merged leaf.1 batch used)
    messages = leaf_messages leaf.0 pages ∙ ap (map row_message) are.are

    first : (ps : List (List Version)) → ps ≢ [] → first_fence high (leaves_from leaf.0 ps) ≡ leaf.0
    first [] ne = absurd (ne refl)
    first (p ∷ ps) ne = refl

pub replacement_is : (leaf : LeafRows) (high : List ℕ) (ms : List TreeMessage) (pins : TenantPins) (target : ℕ) (pages : List (List Version)) → CanReplace leaf high ms pins target → ArePagesOf (merged leaf.1 (in_range leaf.0 high ms) pins) target pages
    → IsReplacement leaf high ms pins target (leaves_from leaf.0 pages)
replacement_is leaf high ms pins target pages can are = record {
  place = pages_take_place leaf high ms batch pins pins target pages
      (record {
        tile = can.tile;
        within = can.within;
        short = can.short;
        gives = merge_gives_way leaf.1 batch pins;
        of_key = of_key;
        wider = wider leaf high ms;
      }) are;
  one = λ fits. one_leaf leaf.0 pages (are.is_one_enough fits);
}
  where
    batch : List TreeMessage
    batch = in_range leaf.0 high ms

    of_key : (key : List ℕ) (n : ℕ) → spans leaf.0 high key ≡ true → ops_with batch leaf.1 key n ≡ ops_with ms leaf.1 key n
    of_key key n s = ap (λ o. or_else o (ops_in (map row_message leaf.1) key n)) (in_interval leaf.0 high ms key n s)

-- the messages of an interval are within it
pub range_within : (low high : List ℕ) (ms : List TreeMessage) → NoneOutside low high (in_range low high ms)
range_within low high ms = record { outside = λ key n o. rw (ops-in_range low high ms key n, o) refl }

-- the same of a job's pages
pub job_takes_place : {A : Type 0} (leaf : LeafRows) (high : List ℕ) (present : TenantPins) (job : FlushJob A) (pages : List (List Version)) → IsJobOf leaf high present job → IsMergeOf job pages
    → TakePlace leaf high job.batch.messages present job.target.leaf_target (leaves_from leaf.0 pages)
job_takes_place leaf high present job pages of are =
    pages_take_place leaf high job.batch.messages job.batch.messages (pins_in job.pins) present job.target.leaf_target pages
    (record {
      tile = of.tile;
      within = of.within;
      short = subst (λ rows. HaveShortValues (merged rows job.batch.messages (pins_in job.pins))) of.page job.can_merge.are_short;
      gives = covered_gives_way leaf.1 job.batch.messages (pins_in job.pins) present of.covers;
      of_key = λ key n s. refl;
      wider = λ key there. there;
    })
    (subst (λ rows. ArePagesOf (merged rows job.batch.messages (pins_in job.pins)) job.target.leaf_target pages) of.page are)

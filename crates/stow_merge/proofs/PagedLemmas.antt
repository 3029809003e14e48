-- From kept versions to their pages.
use Rattle.std.proofs.Common.{◌≡◌, ℕ, ◌-◌, ◌<◌, ◌≤◌, ◌^◌, List, [], ◌∷◌, length, map, refl, ap, ◌∙◌, sym, subst, arith, suc}
use Rattle.std.specs.Prelude.{Result, Ok, Err, IfOk, sum}
use Rattle.std.specs.Borrow.{Bor}
use Rattle.std.specs.List.{AllByRecursion}
use Rattle.std.proofs.lemmas.List.{append-nil, length-map}
use Rattle.stow_page.proofs.StowTreeModel.Pruning.{none_in_nothing}
use Rattle.std.proofs.Math.Seq.{take-length}
use Rattle.std.proofs.lemmas.List.Sums.{sum-map}
use Rattle.stow_page.proofs.Pushed.{length-packed_page}
use Rattle.stow_page.specs.Format.{entries, format_of, packed_page}
use Rattle.stow_page.specs.declared.format.Format.{Format}
use Rattle.stow_page.specs.StowTreeModel.Order.{VersionsRise}
use Rattle.stow_page.specs.StowTreeModel.Version.{Version}
use Rattle.stow_merge.specs.Cuts.{size_between, ArePages}
use Rattle.stow_merge.specs.Pages.{read_in_order, HaveShortValues, AreLeafPages, ArePagesOf}
use Rattle.stow_merge.specs.Writing.{versions_in, keys_in, AreRuns, AreSizes, AreFewAndShort, CanMerge, CanPack, pages_at, at_least_one_page}
use Rattle.stow_merge.specs.declared.kept_version.KeptVersion as coded
use Rattle.stow_merge.specs.declared.survey.Survey.{Survey}
use Rattle.stow_merge.proofs.Formats.{AreToldIn, own_tells}
use Rattle.stow_merge.proofs.KeyLemmas.{KeysRise, runs_rise, runs_read}
use Rattle.stow_merge.proofs.PageLemmas.{AreWritten, size-read, written, keys_short, can_pack}

pub if_ok : {X E : Type 0} (r : Result X E) (P Q : X → Type 0) → ((x : X) → P x → Q x) → IfOk r P → IfOk r Q
if_ok (Ok x) P Q h p = h x p
if_ok (Err e) P Q h p = tt

-- versions key by key
pub record AreKeys (versions : List Version) (keys : List (List Version)) : Type 0 where
  pub rise : KeysRise keys
  pub are : read_in_order keys ≡ versions

of_runs : {A : Type 0} (survey : Survey A) (keys : List (Bor (List coded.KeptVersion))) → map (versions_in survey) (map (λ key. key.now) keys) ≡ keys_in survey keys
of_runs survey [] = refl
of_runs survey (key ∷ keys) = ap (λ vs. versions_in survey key.now ∷ vs) (of_runs survey keys)

pub are_keys : {A : Type 0} (survey : Survey A) (kept : List coded.KeptVersion) (keys : List (Bor (List coded.KeptVersion))) → VersionsRise (versions_in survey kept) → AreRuns kept (map (λ key. key.now) keys) → AreKeys (versions_in survey kept) (keys_in survey keys)
are_keys survey kept keys rise h = subst (AreKeys (versions_in survey kept)) (of_runs survey keys) (record {
  rise = runs_rise survey kept (map (λ key. key.now) keys) h rise;
  are = runs_read survey kept (map (λ key. key.now) keys) h;
})

pub are_short : (versions : List Version) (keys : List (List Version)) → CanMerge versions → AreKeys versions keys → AllByRecursion AreFewAndShort keys
are_short versions keys can h = keys_short versions [] keys can (sym h.are) h.rise

small_of : (format : Format) (keys : List (List Version)) → AllByRecursion (λ size. size ≤ 68225235) (map (λ key. length (entries format key)) keys) → AllByRecursion (λ key. length (entries format key) ≤ 68225235) keys
small_of format [] h = tt
small_of format (key ∷ keys) h = (h.0, small_of format keys h.1)

pub are_written : (target room : ℕ) (versions : List Version) (keys : List (List Version)) (sizes ends : List ℕ) → target < 2 ^ 32 → room ≡ target - 5 → AreKeys versions keys → AreSizes (format_of versions) keys sizes → ArePages sizes room 0 ends (length sizes)
    → AreWritten target keys 0 (pages_at keys 0 ends)
are_written target room versions keys sizes ends low r h s cuts =
    let format : Format = format_of versions in
    let size : List Version → ℕ = λ key. length (entries format key) in
    written target format keys ends 0 low h.rise (small_of format keys (subst (AllByRecursion (λ size. size ≤ 68225235)) s.are s.are_small))
    (subst (AreToldIn format) (sym h.are) (own_tells versions))
    (subst (λ n. ArePages (map size keys) n 0 ends (length keys)) r
    (subst (λ n. ArePages (map size keys) room 0 ends n) (length-map keys size)
    (subst (λ ss. ArePages ss room 0 ends (length ss)) s.are cuts)))

pub can_write : (target : ℕ) (versions : List Version) (keys pages : List (List Version)) → CanMerge versions → AreKeys versions keys → AreWritten target keys 0 pages → AllByRecursion CanPack pages
can_write target versions keys pages can h w =
    can_pack pages w.have_room (subst VersionsRise (sym (w.are ∙ h.are)) can.rise) (subst HaveShortValues (sym (w.are ∙ h.are)) can.are_short)

-- all fit one page, so there is no other
pub one_page_of : (target room : ℕ) (versions : List Version) (keys : List (List Version)) (sizes ends : List ℕ) → room ≡ target - 5 → AreKeys versions keys → AreSizes (format_of versions) keys sizes → (size_between sizes 0 (length sizes) ≤ room → length ends ≤ 1) → length (packed_page versions) ≤ target → length (pages_at keys 0 ends) ≤ 1
one_page_of target room versions keys sizes ends r h s one fits =
    let format : Format = format_of versions in
    let all : sum sizes ≡ length (entries format versions) = ap sum s.are ∙ sum-map (λ key. length (entries format key)) keys ∙ sym (size-read format keys) ∙ ap (λ vs. length (entries format vs)) h.are in
    let whole : size_between sizes 0 (length sizes) ≡ sum sizes = ap sum (take-length sizes) in
    let page = length-packed_page versions in
    let few = one (omega (arith, all, whole, page, fits, r)) in
    let same = as_many keys 0 ends in
    omega (arith, few, same)
  where
    as_many : (keys : List (List Version)) (from : ℕ) (ends : List ℕ) → length (pages_at keys from ends) ≡ length ends
    as_many keys from [] = refl
    as_many keys from (e ∷ ends) = ap (λ n. suc n) (as_many keys e ends)

filled : (target : ℕ) (versions : List Version) (pages : List (List Version)) → (length (packed_page versions) ≤ target → length pages ≤ 1) → AreLeafPages target pages → read_in_order pages ≡ versions → ArePagesOf versions target (at_least_one_page pages)
filled target versions [] one all e = record { are = e; is_one_there = λ z. cc; is_one_enough = λ fits. refl; are_cut = λ other. absurd (other refl) }
filled target versions (page ∷ pages) one all e = record { are = e; is_one_there = λ z. cc; is_one_enough = λ fits. (let n = one fits in omega (arith, n)); are_cut = λ _. all }

pub pages_of : (target : ℕ) (versions : List Version) (keys pages : List (List Version)) → (length (packed_page versions) ≤ target → length pages ≤ 1) → AreKeys versions keys → AreWritten target keys 0 pages → ArePagesOf versions target (at_least_one_page pages)
pages_of target versions keys pages one h w = filled target versions pages one w.are_leaf_pages (w.are ∙ h.are)

-- versions that one page holds within the target are pages for themselves
pub alone_page : (target : ℕ) (versions : List Version) → length (packed_page versions) ≤ target → ArePagesOf versions target (versions ∷ [])
alone_page target versions fits = record {
  are = append-nil versions;
  is_one_there = λ z. cc;
  is_one_enough = λ _. refl;
  are_cut = λ other. (
    record {
      is_filled = λ none. other (ap (λ vs. vs ∷ []) none);
      fits = λ over. absurd (omega (arith, fits, over));
      is_below = record { are_below = λ v w c d. absurd (none_in_nothing w d) };
    },
    tt,
  );
}

-- One entry more at a journal's end, and the same among a seat's receipts.
use Rattle.std.proofs.Common.{◌≡◌, Bool, true, false, Result, Ok, Err, List, [], ◌∷◌, ◌++◌, map, reverse, ap, sym, ◌∙◌}
use Rattle.std.specs.Prelude.{◌↔◌, IfOk, IfErr, OnErr, if◌then◌else◌}
use Rattle.std.proofs.lemmas.List.{map-append, reverse-append}
use Rattle.stow_shared.specs.declared.entry.Entry as coded
use Rattle.stow_house.specs.StowMerge.declared.flush_job.FlushJob.{FlushJob}
use Rattle.stow_house.specs.StowNode.declared.installed.Installed.{Installed}
use Rattle.stow_house.specs.StowNode.declared.installed.Installed.TheVariants as installed
use Rattle.stow_house.specs.StowCore.Flushing.{TakesResultOf}
use Rattle.stow_house.specs.StowNode.Installs.{BatchIsGone}
use Rattle.stow_house.specs.StowCore.State.{Keeps}
use Rattle.stow_shared.specs.Entries.{Entry, entry_of, entries_of, install_entry}
use Rattle.stow_shared.specs.Journals.{with_entry}
use Rattle.stow_shared.specs.Seats.{SeatState}
use Rattle.stow_shared.specs.Books.{BookState, Installs}

-- where entries are kept, the entry is
pub is_kept : (keeps : Bool) (entry told : Entry) (es : List Entry) → keeps ≡ true → entry ≡ told → entry ∷ es ≡ with_entry keeps told es
is_kept keeps entry told es is same = λ i. with_entry (sym is i) (same i) es

pub one_more : {A : Type 0} (keeps : Bool) (told : Entry) (old mid new : List (coded.Entry A)) (entry : coded.Entry A) → keeps ≡ true → mid ≡ old → new ≡ mid ++ entry ∷ [] → entry_of entry ≡ told → entries_of new ≡ with_entry keeps told (entries_of old)
one_more keeps told old mid new entry is before after says =
    ap entries_of (after ∙ ap (λ es. es ++ entry ∷ []) before)
    ∙ ap reverse (map-append entry_of old (entry ∷ []))
    ∙ reverse-append (map entry_of old) (entry_of entry ∷ [])
    ∙ is_kept keeps (entry_of entry) told (entries_of old) is says

-- what an error tells
pub err_so : {T E P : Type 0} (r : Result T E) → P → OnErr r P
err_so (Ok x) p = tt
err_so (Err e) p = p

pub first_back : {T M E : Type 0} (Q : M × E → Type 0) (m : M) (r : Result T (M × E)) → IfErr r (λ e. (e.0 ≡ m) × Q e) → IfErr r (λ e. e.0 ≡ m)
first_back Q m (Ok x) p = tt
first_back Q m (Err e) p = p.0

-- ---- where no entries are kept

none_kept : (keeps : Bool) (entry : Entry) (es : List Entry) → keeps ≡ false → with_entry keeps entry es ≡ es
none_kept keeps entry es is = ap (λ (k : Bool). if k then entry ∷ es else es) is

pub installs_unkept : {A E : Type 0} (keeps : Bool) (old : BookState) (seat : SeatState) (job : FlushJob A) (r : Result Installed E) (new : BookState) → keeps ≡ false → new.entries ≡ old.entries → Keeps old.core new.core
    → IfOk r (λ told. told ≡ installed.Stale ↔ ¬ (TakesResultOf old.core job)) → IfOk r (λ told. told ≡ installed.Stale → new.core ≡ old.core) → IfOk r (λ told. told ≡ installed.Done → BatchIsGone job.batch.messages new.core.tree.root)
    → IfOk r (λ told. Installs keeps old seat job told new seat)
installs_unkept keeps old seat job (Ok told) new is same stays stale unmoved gone =
    let entry = install_entry seat.number told in
    record {
      core = record { keeps = stays; stale = stale; unmoved = unmoved; gone = gone };
      adds = record {
        journal = same ∙ sym (none_kept keeps entry old.entries is);
        receipt = ap (λ rs. record seat { receipts = rs }) (sym (none_kept keeps entry seat.receipts is));
      };
    }
installs_unkept keeps old seat job (Err e) new is same stays stale unmoved gone = tt

use Rattle.std.proofs.Common.{◌≡◌, ℕ, List, [], map, ap, sym, ◌∙◌, refl}
use Rattle.stow_model.specs.Login as login
use Rattle.stow_model.specs.Login.{quota_of, entry_at}
use Rattle.stow_model.specs.Reply.{encoding}
use Rattle.stow_model.specs.Store.{Store, store_after, replies_after}
use Rattle.stow_model.specs.History.{TwoRuns, line_of}
use Rattle.stow_shared.proofs.laws.two_journals.Goals as goal

-- an entry tells the quota, as the law of histories says of two empty ones
same_quota : TwoRuns → (entries entries' : List login.Entry) (tenant tenant' : ℕ) → entry_at entries tenant ≡ entry_at entries' tenant' → quota_of entries tenant ≡ quota_of entries' tenant'
unfolding line_of store_after
same_quota two_runs entries entries' tenant tenant' entry = ap (λ (store : Store). store.quota) (two_runs entries entries' tenant tenant' [] [] (record { entry = entry; line = refl })).2

pub returns : goal.returns
returns c = λ core core' journal journal' tenant tenant' legal legal' alike.
    let quota = same_quota c.two_runs.ensures core.entries core'.entries tenant tenant' alike.entry in
    let replies = legal.told tenant alike.known ∙ (λ i. replies_after (quota i) (alike.line i)) ∙ sym (legal'.told tenant' alike.known') in
    (replies, ap (map encoding) replies, legal.stores tenant alike.known ∙ (λ i. store_after (quota i) (alike.line i)) ∙ sym (legal'.stores tenant' alike.known'))

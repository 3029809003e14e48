-- What a prepared answer is, as the tenant's own step says it.
use Rattle.std.proofs.Common.{◌≡◌, ◌≢◌, ◌⊎◌, ⊎_elim, inl, inr, ℕ, zero, suc, ◌<◌, ◌≤◌, ◌^◌, length, arith, true, false, nat_lt, List, [], ◌∷◌, ◌+◌, Option, Some, None, map, refl, eqb, ap, sym, ◌∙◌, subst, pos, to_z, w64}
use Rattle.std.proofs.Math.Bool.{◌&&◌, false≢true}
use Rattle.std.specs.declared.alloc.AllocError.{AllocError}
use Rattle.std.specs.Result.{IsErr}
use Rattle.std.specs.Prelude.{◌-◌, Result, Ok, Err, IfOk, IfSome, IsSomeAnd, IsTrue}
use Rattle.std.specs.FinMap as rows
use Rattle.std.proofs.lemmas.Bool.{cases_lt, cond-true, cond-false, eq-eqb, ne_eqb}
use Rattle.std.proofs.lemmas.Int.{to_z_pos}
use Rattle.stow_bytes.specs.Limits.{number_limit}
use Rattle.stow_commands.specs.Commands.{command_of}
use Rattle.stow_commands.specs.declared.command.Command as asked
use Rattle.stow_core.proofs.Written.{given_gone}
use Rattle.stow_model.specs.declared.refusal.Refusal.{Refusal}
use Rattle.stow_model.specs.declared.refusal.Refusal.TheVariants as refusal
use Rattle.stow_model.specs.declared.reply.Reply as coded
use Rattle.stow_model.specs.Reply.{Reply, reply_of}
use Rattle.stow_model.specs.Reply as reply
use Rattle.stow_model.specs.Command.{Command, Change, Update, Understood, Refused, reading}
use Rattle.stow_model.specs.Login.{Entry, IsTenant}
use Rattle.stow_model.specs.declared.reply.Reply.TheVariants as in_reply
use Rattle.stow_model.specs.Store.{Store, Answer, Request, Asked, counted, served, answer, answer_to, answer_with, can_take, take_answer, del_answer, change_answer, written, exceeds_quota, Written, Unchanged, Failed, outcome, value_in, rows_without}
use Rattle.stow_ledger.specs.Accounts.{IsGivenBy, is_allowed}
use Rattle.stow_ledger.specs.Shown.{charge_of}
use Rattle.stow_core.specs.Memory.{NeedsNoMemory}
use Rattle.stow_core.specs.Tenancies.{TenancyState, tenancy_at}
use Rattle.stow_ledger.specs.declared.charge.Charge.{Charge}
use Rattle.stow_core.specs.declared.change.Change.TheVariants as in_change
use Rattle.stow_core.specs.declared.prepared.Prepared.{Prepared}
use Rattle.stow_core.proofs.Changed.{same_charge}
use Rattle.stow_core.proofs.Kept.{keeps_itself}
use Rattle.stow_ledger.specs.StowState.Rows.{IsIndex}
use Rattle.stow_ledger.specs.StowState.State.{IsSound, view}
use Rattle.stow_core.specs.Prepared.{effect, prepared_answer, after_given, after_refusal, after_take, gives, serves, IsPriced, IsCharged, IsPrepared, OnlyCounts}
use Rattle.stow_core.specs.State.{CoreState, store_of, shared_of, Answers, AnswersWithMemory, Calls, Keeps, Moves}
use Rattle.stow_ledger.specs.StowState.Steps.{Maintenance}
use Rattle.stow_ledger.proofs.StowState.Steps.{call_of_nothing, step_sound, steps_after_maintenance_law}
use Rattle.stow_tree_model.specs.Keys.{packed, own_key}
use Rattle.stow_tree_model.specs.Op.{Op, Gone}
use Rattle.stow_tree_model.specs.Operations.{numbered}
use Rattle.stow_tree_model.specs.Operations.{outcome as operated}
use Rattle.stow_ledger.specs.StowState.Rows.{version_of, with_row}
use Rattle.stow_tree_model.proofs.Packed.{own_key-packed}

pub if_ok : {X E : Type 0} (r : Result X E) (P Q : X → Type 0) → ((x : X) → P x → Q x) → IfOk r P → IfOk r Q
if_ok (Ok x) P Q f h = f x h
if_ok (Err e) P Q f h = h

pub if_all_ok : {X E : Type 0} (r : Result X E) (P Q R S : X → Type 0) → ((x : X) → P x → Q x → R x → S x) → IfOk r P → IfOk r Q → IfOk r R → IfOk r S
if_all_ok (Ok x) P Q R S f p q s = f x p q s
if_all_ok (Err e) P Q R S f p q s = p

-- ---- quotas

-- an outcome exceeds the quota of the store before, whether that was counted or not
exceeds_same : (s a b : Store) → a.rows ≡ b.rows → a.snapshots ≡ b.snapshots → exceeds_quota (counted s) a ≡ exceeds_quota s b
exceeds_same s a b rows snapshots = λ i. nat_lt s.quota (same_charge b a rows snapshots i) && nat_lt (same_charge s (counted s) refl refl i) (same_charge b a rows snapshots i)

-- what a write is answered: it is done, or the quota refuses it, or no number is left
module _ (store : Store) (keys : List (List ℕ)) (op : Op) (r : Reply) where
  pub write_done : nat_lt store.last number_limit ≡ true → exceeds_quota store (after_given keys op store) ≡ false → ◌≡◌ {A = Answer} (after_given keys op store, r) (gives keys op r store)
  write_done can within = sym (cond-true (nat_lt store.last number_limit) _ _ can
      ∙ cond-false (exceeds_quota (counted store) (after_given keys op store)) _ _ (exceeds_same store (after_given keys op store) (after_given keys op store) refl refl ∙ within))

  pub write_exceeds : nat_lt store.last number_limit ≡ true → exceeds_quota store (after_given keys op store) ≡ true → ◌≡◌ {A = Answer} (after_refusal store, reply.Error refusal.QuotaExceeded) (gives keys op r store)
  write_exceeds can above = sym (cond-true (nat_lt store.last number_limit) _ _ can
      ∙ cond-true (exceeds_quota (counted store) (after_given keys op store)) _ _ (exceeds_same store (after_given keys op store) (after_given keys op store) refl refl ∙ above))

  pub write_full : nat_lt store.last number_limit ≡ false → ◌≡◌ {A = Answer} (counted store, reply.Error refusal.WriteNumbersUsedUp) (gives keys op r store)
  write_full full = sym (cond-false (nat_lt store.last number_limit) _ _ full)

-- a price is that of each store with the same rows and copies
pub priced_as : (core : CoreState) (t : ℕ) (c : Charge) (s s' : Store) → s'.rows ≡ s.rows → s'.snapshots ≡ s.snapshots → IsPriced core t c s → IsPriced core t c s'
priced_as core t c s s2 same snapshots priced = record {
  is = priced.is ∙ (λ i. record { charge = sym (same_charge s s2 same snapshots) i; rows = rows.len (sym same i) });
  given = priced.given;
}

-- ---- deletions

-- how many rows fewer there are without the keys
abbrev pub fewer : Store → List (List ℕ) → ℕ
fewer store keys = rows.len store.rows - rows.len (rows_without keys store.rows)

pub del_none : (store : Store) (keys : List (List ℕ)) (n : ℕ) → n ≡ fewer store keys → n ≡ 0 → ◌≡◌ {A = Answer} (counted store, reply.Integer (pos 0)) (del_answer (counted store) keys)
del_none store keys n e none = sym (cond-true (eqb (fewer store keys) 0) _ _ (eq-eqb (fewer store keys) 0 (sym e ∙ none)))

-- what takes the rows of the keys away is what a deletion of them is answered by
pub del_given : (store : Store) (taken keys : List (List ℕ)) (n : ℕ) → rows_without (map own_key taken) store.rows ≡ rows_without keys store.rows → n ≡ fewer store keys → n ≢ 0 → n < 2 ^ 63
    → gives taken Gone (reply.Integer (to_z w64 n)) store ≡ del_answer (counted store) keys
del_given store taken keys n left e some fits =
    (λ i. written (counted store) ((given_gone (store.last + 1) (map own_key taken) store.rows ∙ left) i) (reply.Integer ((to_z_pos w64 n fits ∙ ap pos e) i)))
    ∙ sym (cond-false (eqb (fewer store keys) 0) _ _ (ne_eqb (fewer store keys) 0 (λ z. some (e ∙ z))))

-- ---- snapshots

pub take_done : (store : Store) → can_take store ≡ true → (n : ℕ) → n ≡ store.next → n < 2 ^ 63 → ◌≡◌ {A = Answer} (after_take store, reply.Integer (to_z w64 n)) (take_answer (counted store))
take_done store can n e fits = (λ i. (after_take store, reply.Integer ((to_z_pos w64 n fits ∙ ap pos e) i))) ∙ sym (cond-true (can_take store) _ _ can)

pub take_refused : (store : Store) → can_take store ≡ false → ◌≡◌ {A = Answer} (counted store, reply.Error refusal.TooManySnapshots) (take_answer (counted store))
take_refused store cannot = sym (cond-false (can_take store) _ _ cannot)

-- ---- prepared answers

-- an answer that changes nothing but the count
pub counted_prepared : {A : Type 0} (old new : CoreState) (t : ℕ) (f : Store → Answer) (r : coded.Reply A) → Keeps old new → IsTenant old.entries t → ◌≡◌ {A = Answer} (counted (store_of old t), reply_of r) (f (store_of old t))
    → IsPrepared {A = A} old t f new (Ok (record { tenant = t; change = in_change.Count; reply = r }))
counted_prepared old new t f r keeps is says = record { keeps = keeps; room = subst (λ entries. IsTenant entries t) (sym keeps.entries) is; tenant_is = refl; answers = says }

pub only_counted_prepared : {A : Type 0} (old new : CoreState) (t : ℕ) (f : Store → Answer) (r : coded.Reply A) (p : Prepared A) → p ≡ record { tenant = t; change = in_change.Count; reply = r } → Keeps old new → IsTenant old.entries t → ◌≡◌ {A = Answer} (counted (store_of old t), reply_of r) (f (store_of old t))
    → IsPrepared {A = A} old t f new (Ok p)
only_counted_prepared old new t f r p e keeps is says = subst (λ q. IsPrepared old t f new (Ok q)) (sym e) (counted_prepared old new t f r keeps is says)

pub counts_prepared : {A : Type 0} (old new : CoreState) (t : ℕ) (f : Store → Answer) (told : Result (coded.Reply A) AllocError) (result : Result (Prepared A) AllocError) → OnlyCounts t told result → Keeps old new → IsTenant old.entries t
    → IfOk told (λ r. ◌≡◌ {A = Answer} (counted (store_of old t), reply_of r) (f (store_of old t))) → IsPrepared old t f new result
counts_prepared old new t f (Ok r) result is keeps tenant says = subst (IsPrepared old t f new) (sym is) (counted_prepared old new t f r keeps tenant says)
counts_prepared old new t f (Err e) result is keeps tenant says = subst (IsPrepared old t f new) (sym is) (record { keeps = keeps; room = tt; tenant_is = tt; answers = tt })

-- a reply to a command that changes nothing but the count
pub command_prepared : {A : Type 0} (core : CoreState) (t : ℕ) (command is : asked.Command) (told : Result (coded.Reply A) AllocError) (result : Result (Prepared A) AllocError) (r : Reply) → command ≡ is → OnlyCounts t told result → IsSound (shared_of core) → IsTenant core.entries t
    → IfOk told (λ x. reply_of x ≡ r) → ◌≡◌ {A = Answer} (counted (store_of core t), r) (serves (command_of is) (store_of core t)) → IsPrepared core t (serves (command_of command)) core result
command_prepared core t command is told result r same counts sound tenant tells says = subst (λ k. IsPrepared core t (serves (command_of k)) core result) (sym same)
    (counts_prepared core core t (serves (command_of is)) told result counts (keeps_itself core sound) tenant (if_ok told _ _ (λ x h. (λ i. (counted (store_of core t), h i)) ∙ says) tells))

-- an answer to which memory was refused
pub failed_prepared : {A : Type 0} (old new : CoreState) (t : ℕ) (f : Store → Answer) (e : AllocError) → Keeps old new → IsPrepared {A = A} old t f new (Err e)
failed_prepared old new t f e keeps = record { keeps = keeps; room = tt; tenant_is = tt; answers = tt }

-- the same where only that it failed is known
pub error_prepared : {A : Type 0} (old new : CoreState) (t : ℕ) (f : Store → Answer) (result : Result (Prepared A) AllocError) → IsErr result → Keeps old new → IsPrepared {A = A} old t f new result
error_prepared old new t f (Ok p) failed keeps = absurd (false≢true failed)
error_prepared old new t f (Err e) failed keeps = failed_prepared old new t f e keeps

-- a write that the quota refuses
pub refused_prepared : {A : Type 0} (old new : CoreState) (t : ℕ) (f : Store → Answer) (p : Prepared A) → p ≡ record { tenant = t; change = in_change.Refuse; reply = in_reply.Error refusal.QuotaExceeded } → Keeps old new → IsTenant old.entries t
    → ◌≡◌ {A = Answer} (after_refusal (store_of old t), reply.Error refusal.QuotaExceeded) (f (store_of old t)) → IsPrepared {A = A} old t f new (Ok p)
refused_prepared old new t f p e keeps is says = subst (λ q. IsPrepared old t f new (Ok q)) (sym e) (record { keeps = keeps; room = subst (λ entries. IsTenant entries t) (sym keeps.entries) is; tenant_is = refl; answers = says })

-- a charge stays one where the store and the tenant's part do
pub charged_kept : (old new : CoreState) (t : ℕ) (c : Charge) (f : Store → Store) → IsCharged old t c (f (store_of old t)) → store_of new t ≡ store_of old t → tenancy_at t new.tenancies ≡ tenancy_at t old.tenancies → IsCharged new t c (f (store_of new t))
charged_kept old new t c f charged same own = record {
  is = charged.is ∙ ap (λ s. charge_of (f s)) (sym same);
  given = subst (λ (o : Option TenancyState). IfSome o (λ x. IsGivenBy x.account c)) (sym own) charged.given;
  allowed = subst (λ (o : Option TenancyState). IfSome o (λ x. IsTrue (is_allowed x.account c))) (sym own) charged.allowed;
}

-- the same answer in other words
pub prepared_as : {A : Type 0} (old new : CoreState) (t : ℕ) (f h : Store → Answer) (result : Result (Prepared A) AllocError) → f (store_of old t) ≡ h (store_of old t) → IsPrepared old t f new result → IsPrepared old t h new result
prepared_as old new t f h result same is = record { keeps = is.keeps; room = is.room; tenant_is = is.tenant_is; answers = if_ok result _ _ (λ p says. says ∙ same) is.answers }

-- ---- answers

pub understood : (store : Store) (words : List (List ℕ)) (c : Command) → Understood c ≡ reading words → served (counted store) c ≡ answer store words
unfolding answer
understood store words c e = ap (answer_to (counted store)) e

pub refused_words : (store : Store) (words : List (List ℕ)) (r : Refusal) → Refused r ≡ reading words → ◌≡◌ {A = Answer} (counted store, reply.Error r) (answer store words)
unfolding answer
refused_words store words r e = ap (answer_to (counted store)) e

-- ---- changes of a row

-- the answer to a write that makes this of a key's row
abbrev gives_value : Store → Reply → List ℕ → Option (List ℕ) → Answer
gives_value store r key value = written (counted store) (with_row key (version_of (numbered (store.last + 1) value)) store.rows) r

-- the answer to a change that gives the row's key a value
pub changed_row : (store : Store) (t : ℕ) (packed_key key : List ℕ) (op : Op) (update : Update) (r : Reply) → packed_key ≡ packed t key → IsSomeAnd (operated op (value_in (rows.get store.rows key))) (λ value. outcome update (value_in (rows.get store.rows key)) ≡ Written value r)
    → gives (packed_key ∷ []) op r store ≡ serves (Change key update) store
changed_row store t packed_key key op update r is told =
    ap (λ k. gives_value store r k (operated op (value_in (rows.get store.rows k)))) (ap own_key is ∙ own_key-packed t key)
    ∙ one (operated op (value_in (rows.get store.rows key))) told
  where
    one : (o : Option (List ℕ)) → IsSomeAnd o (λ value. outcome update (value_in (rows.get store.rows key)) ≡ Written value r) → gives_value store r key o ≡ serves (Change key update) store
    one None told = absurd told
    one (Some value) told = ap (change_answer (counted store) key) (sym told)

pub changed_nothing : {A : Type 0} (store : Store) (key : List ℕ) (update : Update) (r : coded.Reply A) → outcome update (value_in (rows.get store.rows key)) ≡ Unchanged (reply_of r) → ◌≡◌ {A = Answer} (counted store, reply_of r) (serves (Change key update) store)
changed_nothing store key update r told = ap (change_answer (counted store) key) (sym told)

pub change_refused : (store : Store) (key : List ℕ) (update : Update) (r : Refusal) → outcome update (value_in (rows.get store.rows key)) ≡ Failed r → ◌≡◌ {A = Answer} (counted store, reply.Error r) (serves (Change key update) store)
change_refused store key update r told = ap (change_answer (counted store) key) (sym told)

-- a prepared answer was carried out
answered : (old mid new : CoreState) (t : ℕ) (words : List (List ℕ)) (store : Store) (told : Reply) → Keeps old mid → Moves mid t store new
    → ◌≡◌ {A = Answer} (store, told) (answer (store_of old t) words) → AnswersWithMemory old new t words told
unfolding answer_with
answered old mid new t words store told keeps moves is =
    let again : ◌≡◌ {A = Answer} (answer (store_of mid t) words) (store, told) = ap (λ s. answer s words) (keeps.stores t) ∙ sym is in
    let request : Request = record { words = words; is_refused = false } in
    record {
      alone = ap (λ s. (s, told)) moves.own ∙ is;
      step = steps_after_maintenance_law (shared_of old) (shared_of mid) (shared_of new) t (Asked request) (Some told) keeps.gives_way.sound keeps.gives_way.step
          (moves.step (Asked request) (Some told) (λ i. ((again i).0, Some (again i).1)));
    }

pub out_of_memory : (old new : CoreState) (t : ℕ) (words : List (List ℕ)) → IsIndex t → store_of old t ≡ view (shared_of old) t → Keeps old new → Answers old new t words (reply.Error refusal.OutOfMemory)
unfolding answer_with
out_of_memory old new t words index seen keeps =
    let request : Request = record { words = words; is_refused = true } in (
      true,
      record {
        alone = ap (λ s. (s, reply.Error refusal.OutOfMemory)) (keeps.stores t);
        step = steps_after_maintenance_law (shared_of old) (shared_of new) (shared_of new) t (Asked request) (Some (reply.Error refusal.OutOfMemory)) keeps.gives_way.sound keeps.gives_way.step
            (call_of_nothing (shared_of new) t (Asked request) (Some (reply.Error refusal.OutOfMemory)) (step_sound (shared_of old) (shared_of new) Maintenance None keeps.gives_way.sound keeps.gives_way.step) index refl);
      },
    )

-- ---- a whole call

tenant_cases : (entries : List Entry) (t : ℕ) → IsTenant entries t ⊎ (IsTenant entries t → ⊥)
tenant_cases entries zero = inr (λ is. let low = is.0 in absurd (omega (arith, low)))
tenant_cases entries (suc p) = ⊎_elim
    (λ (l : p < length entries). inl (omega arith, omega (arith, l)))
    (λ (l : length entries ≤ p). inr (λ is. let high = is.1 in absurd (omega (arith, high, l))))
    (cases_lt p (length entries))

-- a prepared answer carried out is a call: of a tenant's by its own step, and of whom is no tenant's by nothing
pub called : {A : Type 0} (old mid new : CoreState) (t : ℕ) (words : List (List ℕ)) (p : Prepared A) (told : Reply) → Keeps old mid → p.tenant ≡ t → told ≡ reply_of p.reply
    → (IsTenant old.entries t → prepared_answer p (store_of old t) ≡ answer (store_of old t) words)
    → ((IsTenant old.entries t → ⊥) → (reply_of p.reply ≡ reply.Error refusal.NotAuthenticated) × (mid ≡ old))
    → (IsTenant mid.entries p.tenant → Moves mid p.tenant (effect p (store_of mid p.tenant)) new) → ((IsTenant mid.entries p.tenant → ⊥) → new ≡ mid) → Calls old t words told new
called {A = A} old mid new t words p told keeps same says own stranger carried unmoved = record {
  own = λ is. (false, answers is);
  needless = λ is _. answers is;
  stranger = λ unknown. record { told_is = says ∙ (stranger unknown).0; unchanged = stays unknown };
  others = λ other ne. ⊎_elim
      (λ (is : IsTenant old.entries t). (moves is).others other ne ∙ keeps.stores other)
      (λ (unknown : IsTenant old.entries t → ⊥). ap (λ c. store_of c other) (stays unknown))
      (tenant_cases old.entries t);
  entries = ⊎_elim
      (λ (is : IsTenant old.entries t). (moves is).entries ∙ keeps.entries)
      (λ (unknown : IsTenant old.entries t → ⊥). ap (λ (c : CoreState). c.entries) (stays unknown))
      (tenant_cases old.entries t);
}
  where
    to_mid : IsTenant old.entries t → IsTenant mid.entries p.tenant
    to_mid is = subst (IsTenant mid.entries) (sym same) (subst (λ entries. IsTenant entries t) (sym keeps.entries) is)

    from_mid : IsTenant mid.entries p.tenant → IsTenant old.entries t
    from_mid is = subst (λ entries. IsTenant entries t) keeps.entries (subst (IsTenant mid.entries) same is)

    moves : IsTenant old.entries t → Moves mid t (effect p (store_of old t)) new
    moves is = subst (λ s. Moves mid t (effect p s) new) (keeps.stores t) (subst (λ u. Moves mid u (effect p (store_of mid u)) new) same (carried (to_mid is)))

    answers : IsTenant old.entries t → AnswersWithMemory old new t words told
    answers is = answered old mid new t words (effect p (store_of old t)) told keeps (moves is) ((λ i. (effect p (store_of old t), says i)) ∙ own is)

    stays : (IsTenant old.entries t → ⊥) → new ≡ old
    stays unknown = unmoved (λ is. unknown (from_mid is)) ∙ (stranger unknown).1

-- a call that was refused memory, which neither whom is no tenant's is nor one whose words need none
pub starved : (old new : CoreState) (t : ℕ) (words : List (List ℕ)) → (IsTenant old.entries t → IsIndex t) → (IsTenant old.entries t → store_of old t ≡ view (shared_of old) t) → Keeps old new → (NeedsNoMemory words → ⊥) → ((IsTenant old.entries t → ⊥) → ⊥)
    → Calls old t words (reply.Error refusal.OutOfMemory) new
starved old new t words index seen keeps needs some = record {
  own = λ is. out_of_memory old new t words (index is) (seen is) keeps;
  needless = λ is none. absurd (needs none);
  stranger = λ unknown. absurd (some unknown);
  others = λ other ne. keeps.stores other;
  entries = keeps.entries;
}

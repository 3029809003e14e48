-- The steps of a call, from what the core promises.
use Rattle.std.proofs.Common.{◌≡◌, ℕ, Bool, true, false, List, refl, ap, ◌∙◌, sym, subst, Some, None, Option, ⊎_elim, inl, inr}
use Rattle.std.specs.Prelude.{Ok}
use Rattle.std.proofs.lemmas.Bool.{cond-true, cond-false}
use Rattle.stow_model.specs.declared.refusal.Refusal.TheVariants as refusal
use Rattle.stow_model.specs.declared.reply.Reply as coded
use Rattle.stow_model.specs.Login as login
use Rattle.stow_model.specs.Login.{IsTenant}
use Rattle.stow_model.specs.Reply.{Reply, reply_of}
use Rattle.stow_model.specs.Reply as reply
use Rattle.stow_model.specs.Store.{Request, Answer, Asked, answer, answer_with, is_out_of_memory}
use Rattle.stow_model.proofs.Refused.{want_of_memory_lem}
use Rattle.stow_house.specs.StowCore.declared.prepared.Prepared.{Prepared}
use Rattle.stow_house.specs.StowCore.Prepared.{effect, prepared_answer, RefusesStranger}
use Rattle.stow_house.specs.StowCore.State.{CoreState, store_of, AnswersRequest, Keeps, Moves}
use Rattle.stow_house.proofs.StowState.Steps.{steps_after_maintenance_law}
use Rattle.stow_house.specs.StowCore.State as in_core
use Rattle.stow_shared.specs.declared.copies.Copies.{Copies}
use Rattle.stow_shared.specs.Books.{BookState, ServesCall, CallStep}
use Rattle.stow_shared.specs.Copies.{AreCopies, AreAlike, copied}
use Rattle.stow_shared.specs.Entries.{Entry, call_entry}
use Rattle.stow_shared.specs.Journals.{with_entry}
use Rattle.stow_shared.specs.Seats.{SeatState, SeatCalls, with_refusal}
use Rattle.stow_shared.proofs.Legal.{tenant_or_not}

pub alike : {A : Type 0} (keeps : Bool) (words : List (List ℕ)) (copies : Option (Copies A)) → AreCopies keeps words copies → AreAlike keeps copies
alike keeps words None are = are
alike keeps words (Some copies) are = (are.0, are.2 ∙ sym are.1)

-- what is added is the entry of the words, where it is kept
entry_of_copies : {A : Type 0} (keeps : Bool) (words : List (List ℕ)) (copies : Option (Copies A)) → AreCopies keeps words copies → (n t : ℕ) (told : Reply) (es : List Entry)
    → with_entry keeps (call_entry n t (copied copies) told) es ≡ with_entry keeps (call_entry n t words told) es
entry_of_copies true words None are n t told es = cc are
entry_of_copies false words None are n t told es = refl
entry_of_copies keeps words (Some copies) are n t told es = ap (λ w. with_entry keeps (call_entry n t w told) es) are.1

-- the entry that is added tells the words and what was told
pub entry_is : {A : Type 0} (keeps : Bool) (words : List (List ℕ)) (copies : Option (Copies A)) → AreCopies keeps words copies → (n t : ℕ) (told told' : Reply) (es : List Entry) → told' ≡ told
    → with_entry keeps (call_entry n t (copied copies) told) es ≡ with_entry keeps (call_entry n t words told') es
entry_is keeps words copies are n t told told' es e = entry_of_copies keeps words copies are n t told es ∙ ap (λ r. with_entry keeps (call_entry n t words r) es) (sym e)

-- ---- what the core does

-- what is prepared for words, and carried out, is what they are answered, whatever gave way meanwhile
own_served : {A : Type 0} (old mid new : CoreState) (tenant : ℕ) (words : List (List ℕ)) (p : Prepared A) (told : coded.Reply A) → Keeps old mid
    → prepared_answer p (store_of old tenant) ≡ answer (store_of old tenant) words → told ≡ p.reply → Moves mid tenant (effect p (store_of mid tenant)) new
    → AnswersRequest old new tenant (record { words = words; is_refused = false }) (reply_of told)
unfolding answer_with
own_served old mid new tenant words p told keeps own says moves =
    let request : Request = record { words = words; is_refused = false } in
    let here : ◌≡◌ {A = Answer} (answer_with (store_of mid tenant) request) (effect p (store_of mid tenant), reply_of told) =
    ap (λ s. answer s words) (keeps.stores tenant) ∙ sym own ∙ (λ i. (effect p (sym (keeps.stores tenant) i), reply_of (sym says i))) in
    record {
      alone = (λ i. ((moves.own ∙ ap (effect p) (keeps.stores tenant)) i, reply_of (says i))) ∙ own;
      step = steps_after_maintenance_law (in_core.shared_of old) (in_core.shared_of mid) (in_core.shared_of new) tenant (Asked request) (Some (reply_of told)) keeps.gives_way.sound keeps.gives_way.step
          (moves.step (Asked request) (Some (reply_of told)) (λ i. ((here i).0, Some (here i).1)));
    }

serves : {A : Type 0} (old mid new : CoreState) (tenant : ℕ) (words : List (List ℕ)) (p : Prepared A) (told : coded.Reply A)
    → Keeps old mid → p.tenant ≡ tenant
    → (IsTenant old.entries tenant → prepared_answer p (store_of old tenant) ≡ answer (store_of old tenant) words)
    → (¬ (IsTenant old.entries tenant) → RefusesStranger old mid (Ok p))
    → told ≡ p.reply
    → (IsTenant mid.entries p.tenant → Moves mid p.tenant (effect p (store_of mid p.tenant)) new)
    → (¬ (IsTenant mid.entries p.tenant) → new ≡ mid)
    → ServesCall old tenant words (reply_of told) new
serves {A = A} old mid new tenant words p told keeps is own stranger says moves stays =
    let P : List login.Entry → ℕ → Type 0 = λ es t. IsTenant es t in
    let as_mid : IsTenant old.entries tenant → IsTenant mid.entries p.tenant = λ known. subst (λ es. P es p.tenant) (sym keeps.entries) (subst (λ t. P old.entries t) (sym is) known) in
    let as_old : IsTenant mid.entries p.tenant → IsTenant old.entries tenant = λ known. subst (λ t. P old.entries t) is (subst (λ es. P es p.tenant) keeps.entries known) in
    let here : IsTenant old.entries tenant → Moves mid tenant (effect p (store_of mid tenant)) new = λ known. subst (λ t. Moves mid t (effect p (store_of mid t)) new) is (moves (as_mid known)) in
    let unmoved : ¬ IsTenant old.entries tenant → new ≡ old = λ no. stays (λ known. no (as_old known)) ∙ (stranger no).unchanged in
    record {
      own = λ known. own_served old mid new tenant words p told keeps (own known) says (here known);
      stranger = λ no. record { told_is = ap reply_of says ∙ (stranger no).answers.1; unchanged = unmoved no };
      others = λ other differ. ⊎_elim
          (λ (known : IsTenant old.entries tenant). (here known).others other differ ∙ keeps.stores other)
          (λ (no : ¬ IsTenant old.entries tenant). ap (λ c. store_of c other) (unmoved no))
          (tenant_or_not old.entries tenant);
      tenants = ⊎_elim
          (λ (known : IsTenant old.entries tenant). (here known).entries ∙ keeps.entries)
          (λ (no : ¬ IsTenant old.entries tenant). ap (λ c. c.entries) (unmoved no))
          (tenant_or_not old.entries tenant);
    }

-- the same of an answer that was given back
pub serves_back : {A : Type 0} (old mid new : CoreState) (tenant : ℕ) (words : List (List ℕ)) (p q : Prepared A) (told : coded.Reply A) → q ≡ p
    → Keeps old mid → p.tenant ≡ tenant
    → (IsTenant old.entries tenant → prepared_answer p (store_of old tenant) ≡ answer (store_of old tenant) words)
    → (¬ (IsTenant old.entries tenant) → RefusesStranger old mid (Ok p))
    → told ≡ q.reply
    → (IsTenant mid.entries q.tenant → Moves mid q.tenant (effect q (store_of mid q.tenant)) new)
    → (¬ (IsTenant mid.entries q.tenant) → new ≡ mid)
    → ServesCall old tenant words (reply_of told) new
serves_back {A = A} old mid new tenant words p q told back keeps is own stranger says moves stays =
    let M : Prepared A → Type 0 = λ x. IsTenant mid.entries x.tenant → Moves mid x.tenant (effect x (store_of mid x.tenant)) new in
    let S : Prepared A → Type 0 = λ x. ¬ (IsTenant mid.entries x.tenant) → new ≡ mid in
    serves old mid new tenant words p told keeps is own stranger (says ∙ ap (λ x. x.reply) back) (subst M back moves) (subst S back stays)

-- ---- what a seat gains

-- what an answered call is told isn't want of memory
answered_memory : (old : CoreState) (tenant : ℕ) (words : List (List ℕ)) (told : Reply) (new : CoreState) → ServesCall old tenant words told new → is_out_of_memory told ≡ false
answered_memory old tenant words told new s =
    ⊎_elim
    (λ (known : IsTenant old.entries tenant). ap (λ (a : Answer). is_out_of_memory a.1) (s.own known).alone ∙ want_of_memory_lem (store_of old tenant) (record { words = words; is_refused = false }))
    (λ (no : ¬ IsTenant old.entries tenant). ap is_out_of_memory (s.stranger no).told_is)
    (tenant_or_not old.entries tenant)

-- a call that memory was refused to is counted
pub call_counted : (keeps : Bool) (seat : SeatState) (tenant : ℕ) (words : List (List ℕ)) (told : Reply) (seat' : SeatState) → told ≡ reply.Error refusal.OutOfMemory → seat' ≡ with_refusal seat → SeatCalls keeps seat tenant words told seat'
call_counted keeps seat tenant words told seat' says counted = counted ∙ sym (cond-true (is_out_of_memory told) _ _ (ap is_out_of_memory says))

pub seat_calls : (keeps : Bool) (old : BookState) (seat : SeatState) (tenant : ℕ) (words : List (List ℕ)) (told : Reply) (new : BookState) (seat' : SeatState) → CallStep keeps old seat tenant words told new seat' → SeatCalls keeps seat tenant words told seat'
seat_calls keeps old seat tenant words told new seat' (inl a) =
    a.adds.receipt ∙ sym (cond-false (is_out_of_memory told) _ _ (answered_memory old.core tenant words told new.core a.core))
seat_calls keeps old seat tenant words told new seat' (inr l) = call_counted keeps seat tenant words told seat' l.says l.counted

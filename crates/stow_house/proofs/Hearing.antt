-- What a conversation makes of what comes.
use Rattle.std.proofs.Common.{◌≡◌, ℕ, Bool, true, false, not, List, Option, Some, None, refl, ◌∙◌, sym, subst}
use mathlib.Core.Bool.{false≢true}
use Rattle.std.specs.Prelude.{IsSome}
use Rattle.std.specs.Bool.{then_some}
use Rattle.stow_model.specs.Login.{Entry}
use Rattle.stow_model.specs.Message.{Message}
use Rattle.stow_model.specs.Message as message
use Rattle.stow_model.specs.Command.{Kind, Login, Quit, Malformed, ForStore, kind_of}
use Rattle.stow_model.specs.Reply.{Reply}
use Rattle.stow_model.specs.Store.{Asked, is_out_of_memory}
use Rattle.stow_model.specs.History.{Status, IsOpen, Service, status_after_kind, status_after_message, served_after_message, request_as, request_of_message, kind_reply, message_reply}
use Rattle.stow_resp.specs.declared.next.Next.{Next}
use Rattle.stow_resp.specs.declared.next.Next.TheVariants as next
use Rattle.stow_resp.specs.Next.{IsTaken, IsNext}
use Rattle.stow_house.specs.declared.stop.Stop.{Stop}
use Rattle.stow_house.specs.declared.stop.Stop.TheVariants as stopped
use Rattle.stow_house.specs.Seen.{status_by}
use Rattle.stow_house.specs.Sessions.{Whole, arrival_of, Taken, Told, ForStoreOf, taking, taking_words}
use Rattle.stow_house.specs.Conversations.{Talk, status_at, Alone, Tells, Asks}

-- What a message asks of a store, the status afterwards, and what is told, by what is made of it: an answer, or words
-- for a tenant's store, whose reply is told
abbrev pub Means : (Bool → Option Service) → Status → ((List (List ℕ) → ℕ → Reply) → Option Reply) → Option ℕ → Taken → Type 0
Means request status says who (Told told ends) = ((b : Bool) → request b ≡ None) × (status ≡ status_by (not ends)) × ((f : _) → says f ≡ told)
Means request status says who (ForStoreOf tenant words) =
    ((b : Bool) → request b ≡ Some (record { tenant = tenant; event = Asked (record { words = words; is_refused = b }) })) × (status ≡ IsOpen) × ((f : _) → says f ≡ Some (f words tenant)) × (who ≡ Some tenant)

-- .. of this message, of a connection that is served as this one
abbrev pub MeansOf : List Entry → Message → Option ℕ → Taken → Type 0
MeansOf entries m who taken = Means (λ b. request_of_message m b who) (status_after_message m IsOpen) (λ f. message_reply entries m who f) who taken

means_words : (entries : List Entry) (kind : Kind) (words : List (List ℕ)) (who : Option ℕ)
    → Means (λ b. request_as kind words b who) (status_after_kind kind IsOpen) (λ f. Some (kind_reply entries kind who (f words))) who (taking_words entries kind words who)
means_words entries (Login name password) words who = (λ b. refl, refl, λ f. refl)
means_words entries Quit words who = (λ b. refl, refl, λ f. refl)
means_words entries Malformed words who = (λ b. refl, refl, λ f. refl)
means_words entries ForStore words None = (λ b. refl, refl, λ f. refl)
means_words entries ForStore words (Some tenant) = (λ b. refl, refl, λ f. refl, refl)

pub means : (entries : List Entry) (m : Message) (who : Option ℕ) → MeansOf entries m who (taking entries (Whole m) who)
means entries (message.Words words) who = means_words entries (kind_of words) words who
means entries message.Quoted who = (λ b. refl, refl, λ f. refl)
means entries message.Blank who = (λ b. refl, refl, λ f. refl)

-- ---- what is heard

-- a message was taken where it is none of the others
pub message_next : {A : Type 0} (n : Next A) (old new : List ℕ) → (n ≡ next.More → ⊥) → (n ≡ next.NoMemory → ⊥) → ((fault : _) → n ≡ next.Fault fault → ⊥) → IsNext n old new
    → (m : Message) × (arrival_of n ≡ Whole m) × IsTaken m old new
message_next (next.Message words) old new more memory fault is = (message.Words words, refl, is)
message_next next.Quoted old new more memory fault is = (message.Quoted, refl, is)
message_next next.Blank old new more memory fault is = (message.Blank, refl, is)
message_next next.More old new more memory fault is = absurd (more refl)
message_next (next.Fault f) old new more memory fault is = absurd (fault f refl)
message_next next.NoMemory old new more memory fault is = absurd (memory refl)

-- it answers by itself
by_itself : (entries : List Entry) (m : Message) (told : Option Reply) (stop : Option Stop) (old new : Talk) (ends : Bool) → IsTaken m old.unread new.unread → new.tenant ≡ served_after_message entries m old.tenant
    → MeansOf entries m old.tenant (Told told ends) → status_by (not ends) ≡ status_at stop → Alone entries told stop old new
by_itself entries m told stop old new ends taken who is at = (
  m,
  record {
    moves = record {
      can = (refl, λ refused. absurd (false≢true refused));
      status = sym at ∙ sym is.1;
      tenant = who;
      unread = taken;
    };
    asks = is.0 false;
    says = sym (is.2 _);
  },
)

pub tells : (entries : List Entry) (m : Message) (told : Option Reply) (ends : Bool) (old new : Talk) → IsTaken m old.unread new.unread → new.tenant ≡ served_after_message entries m old.tenant
    → Told told ends ≡ taking entries (Whole m) old.tenant → Tells entries told (then_some ends stopped.Quit) old new
tells entries m told true old new taken who is = by_itself entries m told (Some stopped.Quit) old new true taken who (subst (MeansOf entries m old.tenant) (sym is) (means entries m old.tenant)) refl
tells entries m told false old new taken who is = by_itself entries m told None old new false taken who (subst (MeansOf entries m old.tenant) (sym is) (means entries m old.tenant)) refl

pub asks : (entries : List Entry) (m : Message) (tenant : ℕ) (words : List (List ℕ)) (old new : Talk) → IsTaken m old.unread new.unread → new.tenant ≡ served_after_message entries m old.tenant
    → ForStoreOf tenant words ≡ taking entries (Whole m) old.tenant → Asks entries tenant words old new
asks entries m tenant words old new taken who is =
    let meant = subst (MeansOf entries m old.tenant) (sym is) (means entries m old.tenant) in (
      m,
      λ r. record {
        moves = record {
          can = (refl, λ refused. subst (λ o. IsSome o) (sym (meant.0 (is_out_of_memory r))) refl);
          status = sym meant.1;
          tenant = who;
          unread = taken;
        };
        asks = meant.0 (is_out_of_memory r);
        says = sym (meant.2 _);
      },
    )

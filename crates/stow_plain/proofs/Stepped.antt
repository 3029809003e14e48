-- A tenant's own run, one request on.
use Rattle.std.proofs.Common.{◌≡◌, ℕ, Bool, true, false, List, [], ◌∷◌, ◌++◌, map, reverse, refl, ap, ◌∙◌, sym}
use Rattle.std.proofs.lemmas.List.{map-append, reverse-append}
use Rattle.stow_model.specs.declared.refusal.Refusal.TheVariants as refusal
use Rattle.stow_model.specs.Reply.{Reply}
use Rattle.stow_model.specs.Command.{reading}
use Rattle.stow_model.specs.Store.{Request, OwnEvent, Asked, Store, Answer, empty_store, refused, counted, answer_to, answer, answer_with, store_after, replies_after}

by_memory : Store → List (List ℕ) → Bool → Answer
by_memory store words true = refused store refusal.OutOfMemory
by_memory store words false = answer store words

is_step : (store : Store) (words : List (List ℕ)) (is_refused : Bool) → by_memory store words is_refused ≡ answer_with store (record { words = words; is_refused = is_refused })
unfolding answer_with by_memory
is_step store words true = refl
is_step store words false = refl

-- memory was refused
pub step_refused : (store : Store) (words : List (List ℕ)) (is_refused : Bool) → is_refused ≡ true → ◌≡◌ {A = Answer} (refused store refusal.OutOfMemory) (answer_with store (record { words = words; is_refused = is_refused }))
unfolding by_memory
step_refused store words is_refused e = ap (by_memory store words) (sym e) ∙ is_step store words is_refused

-- the words are answered, after they were counted
pub step_answered : (store : Store) (words : List (List ℕ)) (is_refused : Bool) (done : Answer) → is_refused ≡ false → done ≡ answer_to (counted store) (reading words) → done ≡ answer_with store (record { words = words; is_refused = is_refused })
unfolding by_memory answer
step_answered store words is_refused done e is = is ∙ ap (by_memory store words) (sym e) ∙ is_step store words is_refused

-- ---- one request more

pub one_more-reverse : {A B : Type 0} (f : A → B) (xs : List A) (x : A) → reverse (map f (xs ++ x ∷ [])) ≡ f x ∷ reverse (map f xs)
one_more-reverse f xs x = ap reverse (map-append f xs (x ∷ [])) ∙ reverse-append (map f xs) (f x ∷ [])

pub store-step : (quota : ℕ) (store store' : Store) (r : Reply) (request : Request) (line : List OwnEvent) → store ≡ store_after quota line → ◌≡◌ {A = Answer} (store', r) (answer_with store request) → store' ≡ store_after quota (Asked request ∷ line)
unfolding store_after
store-step quota store store' r request line at done = ap (λ a. a.0) done ∙ ap (λ s. (answer_with s request).0) at

pub replies-step : (quota : ℕ) (store store' : Store) (r : Reply) (request : Request) (line : List OwnEvent) (replies : List Reply) → store ≡ store_after quota line → ◌≡◌ {A = Answer} (store', r) (answer_with store request) → replies ≡ replies_after quota line → r ∷ replies ≡ replies_after quota (Asked request ∷ line)
unfolding replies_after
replies-step quota store store' r request line replies at done told = λ i. (ap (λ a. a.1) done ∙ ap (λ s. (answer_with s request).1) at) i ∷ told i

pub store-none : (quota : ℕ) (store : Store) → store ≡ empty_store quota → store ≡ store_after quota []
unfolding store_after
store-none quota store e = e

pub replies-none : (quota : ℕ) (replies : List Reply) → replies ≡ [] → replies ≡ replies_after quota []
unfolding replies_after
replies-none quota replies e = e

-- What becomes of replies on their way to a writer.
use Rattle.std.proofs.Common.{◌≡◌, ◌<◌, ◌≤◌, ◌-◌, ◌+◌, ℕ, zero, suc, Bool, false, List, [], ◌∷◌, ◌++◌, length, take, drop, refl, ap, ◌∙◌, sym, subst, append_assoc, append-nil, take-append-drop, arith, inl, inr, ⊎_elim, Result, Ok, Err}
use Rattle.std.specs.Prelude.{OnErr}
use Rattle.std.specs.Result.{is_err}
use Rattle.std.proofs.lemmas.List.{take_rest, drop-drop}
use Rattle.std.proofs.KnownBytes.{Appends-trans}
use Rattle.std.specs.Io.KnownBytes.{Appends}
use Rattle.stow_workers.specs.Sent.{Written, Sent, HasSent, StaysSent, WritesAll}

-- the front of what is left was written too
pub goes_on : (all done rest : List ℕ) (n : ℕ) → all ≡ done ++ rest → all ≡ (done ++ take n rest) ++ take (length rest - n) (drop n rest)
goes_on all done rest n e =
    e ∙ ap (λ bytes. done ++ bytes) (sym (take-append-drop n rest)) ∙ sym (append_assoc done (take n rest) (drop n rest)) ∙ ap (λ bytes. (done ++ take n rest) ++ bytes) (sym (take_rest rest n))

-- what waited was written, as far as no write failed
pub flushed : {E : Type 0} (start old new : Written) (waiting all : List ℕ) (r : Result (Unit {0}) E) → WritesAll r waiting old new → HasSent start (record { writer = old; has_failed = false; waiting = waiting }) all
    → HasSent start (record { writer = new; has_failed = is_err r; waiting = [] }) all
flushed start old new waiting all (Ok done) w s = record {
  written = s.written ++ waiting;
  appends = Appends-trans _ _ _ s.written waiting s.appends w.0;
  left = s.left ∙ sym (append-nil (s.written ++ waiting));
  failures = w.1 ∙ s.failures;
}
flushed start old new waiting all (Err error) w s = record {
  written = s.written ++ w.front;
  appends = Appends-trans _ _ _ s.written w.front s.appends w.appends;
  left = (w.begins.0, s.left ∙ ap (λ bytes. s.written ++ bytes) w.begins.1 ∙ sym (append_assoc s.written w.front w.begins.0));
  failures = ⊎_elim (λ (more : old.failures < new.failures). inl (let same : old.failures ≡ start.failures = s.failures in omega arith)) (λ limit. inr limit) w.failures;
}

-- some of what waits was written
pub passed_on : (old new : Written) (waiting : List ℕ) (n : ℕ) → Appends old.contents new.contents (take n waiting) → new.failures ≡ old.failures
    → StaysSent (record { writer = old; has_failed = false; waiting = waiting }) (record { writer = new; has_failed = false; waiting = drop n waiting })
passed_on old new waiting n appends same start all s = record {
  written = s.written ++ take n waiting;
  appends = Appends-trans _ _ _ s.written (take n waiting) s.appends appends;
  left = s.left ∙ ap (λ xs. s.written ++ xs) (sym (take-append-drop n waiting)) ∙ sym (append_assoc s.written (take n waiting) (drop n waiting));
  failures = same ∙ s.failures;
}

-- some of what waits was taken
pub taken_some : (old new : Written) (was : Bool) (all bytes : List ℕ) (passed n : ℕ) → was ≡ false → all ≡ bytes → Appends old.contents new.contents (take n (take (length all - passed) (drop passed all))) → new.failures ≡ old.failures
    → StaysSent (record { writer = old; has_failed = was; waiting = drop passed bytes }) (record { writer = new; has_failed = was; waiting = drop (passed + n) bytes })
taken_some old new was all bytes passed n right same appends failures =
    subst (λ b. StaysSent (record { writer = old; has_failed = b; waiting = drop passed bytes }) (record { writer = new; has_failed = b; waiting = drop (passed + n) bytes })) (sym right)
    (subst (λ w. StaysSent (record { writer = old; has_failed = false; waiting = drop passed bytes }) (record { writer = new; has_failed = false; waiting = w })) (drop-drop n passed bytes)
    (passed_on old new (drop passed bytes) n (subst (λ xs. Appends old.contents new.contents (take n xs)) (take_rest all passed ∙ ap (drop passed) same) appends) failures))

-- the writer took what waited, or failed
pub taken : {E : Type 0} (old new : Written) (waiting left asked : List ℕ) (was fails : Bool) (r : Result (Unit {0}) E) → was ≡ false → fails ≡ is_err r → left ≡ [] → asked ≡ waiting → WritesAll r asked old new
    → StaysSent (record { writer = old; has_failed = was; waiting = waiting }) (record { writer = new; has_failed = fails; waiting = left })
taken old new waiting left asked was fails r not_failed failed none same w start all s =
    subst (λ b. HasSent start (record { writer = new; has_failed = b; waiting = left }) all) (sym failed)
    (subst (λ l. HasSent start (record { writer = new; has_failed = is_err r; waiting = l }) all) (sym none)
    (flushed start old new waiting all r (subst (λ b. WritesAll r b old new) same w) (subst (λ b. HasSent start (record { writer = old; has_failed = b; waiting = waiting }) all) not_failed s)))

-- nothing more was sent
pub stays : (a b : Sent) → b ≡ a → StaysSent a b
stays a b same start all s = subst (λ x. HasSent start x all) (sym same) s

pub stays_then : (a b c : Sent) → StaysSent a b → StaysSent b c → StaysSent a c
stays_then a b c first second start all s = second start all (first start all s)

pub err_map : {T E : Type 0} (r : Result T E) (P Q : Type 0) → (P → Q) → OnErr r P → OnErr r Q
err_map (Ok value) P Q f p = tt
err_map (Err error) P Q f p = f p

pub same_waiting : (writer : Written) (has_failed : Bool) (passed : ℕ) (old new : List ℕ) → new ≡ old → ◌≡◌ {A = Sent} (record { writer = writer; has_failed = has_failed; waiting = drop passed new }) (record { writer = writer; has_failed = has_failed; waiting = drop passed old })
same_waiting writer has_failed passed old new same i = record { writer = writer; has_failed = has_failed; waiting = drop passed (same i) }

pub drop_past : {X : Type 0} (xs : List X) (n : ℕ) → length xs ≤ n → ◌≡◌ {A = List X} (drop n xs) []
drop_past [] zero l = refl
drop_past [] (suc n) l = refl
drop_past (x ∷ xs) zero l = absurd (omega (arith, l))
drop_past (x ∷ xs) (suc n) l = drop_past xs n (omega (arith, l))

-- all that waited was written, and its room is empty
pub all_passed : (writer : Written) (was is : Bool) (passed none : ℕ) (bytes left : List ℕ) → is ≡ was → none ≡ 0 → left ≡ [] → length bytes ≤ passed
    → StaysSent (record { writer = writer; has_failed = was; waiting = drop passed bytes }) (record { writer = writer; has_failed = is; waiting = drop none left })
all_passed writer was is passed none bytes left same zeroed empty all =
    let here : drop none left ≡ drop passed bytes = ap (λ n. drop n left) zeroed ∙ empty ∙ sym (drop_past bytes passed all) in
    stays (record { writer = writer; has_failed = was; waiting = drop passed bytes }) (record { writer = writer; has_failed = is; waiting = drop none left }) (λ i. record { writer = writer; has_failed = same i; waiting = here i })

pub none_left : {X : Type 0} (xs : List X) → length xs ≡ 0 → ◌≡◌ {A = List X} xs []
none_left [] zeroed = refl
none_left (x ∷ xs) zeroed = absurd (omega (arith, zeroed))

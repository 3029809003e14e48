-- Replies that are added one after another.
use Rattle.std.proofs.Common.{◌≡◌, ◌+◌, ◌<◌, ◌≤◌, ℕ, zero, suc, List, [], ◌∷◌, ◌++◌, length, take, drop, get_or, map, refl, ap, ◌∙◌, sym, subst, arith, append-nil, append_assoc, take-append-drop}
use Rattle.std.specs.Prelude.{Result, Ok, Err, OnErr}
use Rattle.std.proofs.lemmas.List.{take_more, map-append}
use Rattle.stow_model.specs.declared.reply.Reply as coded
use Rattle.stow_model.specs.Reply.{Reply, reply_of, encoding}
use Rattle.stow_workers.specs.Pipelined.{encodings, SendsFront}
use Rattle.stow_workers.specs.Sent.{Sent, HasSent, Sends, StaysSent}

pub encodings-append : (xs ys : List Reply) → encodings (xs ++ ys) ≡ encodings xs ++ encodings ys
encodings-append [] ys = refl
encodings-append (x ∷ xs) ys = ap (λ bytes. encoding x ++ bytes) (encodings-append xs ys) ∙ sym (append_assoc (encoding x) (encodings xs) (encodings ys))

-- some bytes, and then others
pub sends_then : (a b c : Sent) (x y : List ℕ) → Sends a b x → Sends b c y → Sends a c (x ++ y)
sends_then a b c x y first second start all h = subst (λ bytes. HasSent start c bytes) (append_assoc all x y) (second start (all ++ x) (first start all h))

-- ---- the replies of one answer

-- the first, and as many others as were added
abbrev pub added : {A : Type 0} → coded.Reply A → List (coded.Reply A) → ℕ → List Reply
added first told i = reply_of first ∷ map reply_of (take i told)

pub one_added : {A : Type 0} (a b c : Sent) (first r : coded.Reply A) (told : List (coded.Reply A)) (i : ℕ) → i < length told → r ≡ get_or told i r → Sends a b (encodings (added first told i)) → Sends b c (encoding (reply_of r)) → Sends a c (encodings (added first told (i + 1)))
one_added a b c first r told i l e so_far one =
    subst (Sends a c) (sym (ap encodings more ∙ encodings-append (added first told i) (reply_of r ∷ []) ∙ ap (λ bytes. encodings (added first told i) ++ bytes) (append-nil (encoding (reply_of r)))))
    (sends_then a b c (encodings (added first told i)) (encoding (reply_of r)) so_far one)
  where
    more : added first told (i + 1) ≡ added first told i ++ reply_of r ∷ []
    more = ap (λ rs. reply_of first ∷ map reply_of rs) (take_more told i r l ∙ ap (λ x. take i told ++ x ∷ []) (sym e)) ∙ ap (λ rs. reply_of first ∷ rs) (map-append reply_of (take i told) (r ∷ []))

-- memory was refused to a later one
pub part_added : {A : Type 0} (a b c : Sent) (first : coded.Reply A) (told : List (coded.Reply A)) (i : ℕ) → Sends a b (encodings (added first told i)) → StaysSent b c → SendsFront a c (reply_of first ∷ map reply_of told)
part_added a b c first told i so_far stays = (
  encodings (added first told i),
  (encodings (map reply_of (drop i told)), sym (ap encodings whole) ∙ encodings-append (added first told i) (map reply_of (drop i told))),
  λ start all h. stays start (all ++ encodings (added first told i)) (so_far start all h),
)
  where
    whole : added first told i ++ map reply_of (drop i told) ≡ reply_of first ∷ map reply_of told
    whole = ap (λ rs. reply_of first ∷ rs) (sym (map-append reply_of (take i told) (drop i told)) ∙ ap (map reply_of) (take-append-drop i told))

-- memory was refused to the first one
pub none_added : {A : Type 0} (a c : Sent) (first : coded.Reply A) (told : List (coded.Reply A)) → StaysSent a c → SendsFront a c (reply_of first ∷ map reply_of told)
none_added a c first told stays = ([], (encodings (reply_of first ∷ map reply_of told), refl), λ start all h. subst (λ bytes. HasSent start c bytes) (sym (append-nil all)) (stays start all h))

take_whole : {X : Type 0} (xs : List X) (n : ℕ) → length xs ≤ n → take n xs ≡ xs
take_whole [] zero l = refl
take_whole [] (suc n) l = refl
take_whole (x ∷ xs) zero l = absurd (omega (arith, l))
take_whole (x ∷ xs) (suc n) l = ap (λ ys. x ∷ ys) (take_whole xs n (omega (arith, l)))

-- what holds, holds of an error
pub on_err : {T E : Type 0} (r : Result T E) (P : Type 0) → P → OnErr r P
on_err (Ok value) P p = tt
on_err (Err error) P p = p

-- all replies were added
pub all_added : {A : Type 0} (a b : Sent) (first : coded.Reply A) (told : List (coded.Reply A)) (i : ℕ) → length told ≤ i → Sends a b (encodings (added first told i)) → Sends a b (encodings (reply_of first ∷ map reply_of told))
all_added a b first told i l sends = subst (λ rs. Sends a b (encodings (reply_of first ∷ map reply_of rs))) (take_whole told i l) sends

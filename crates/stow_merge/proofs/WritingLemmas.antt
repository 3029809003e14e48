-- Versions, keys and pages written one at a time.
use Rattle.std.proofs.Common.{◌≡◌, ◌≢◌, ℕ, suc, ◌+◌, ◌<◌, ◌≤◌, List, [], ◌∷◌, ◌++◌, Option, Some, length, refl, take, drop, get_or, map, ap, ◌∙◌, sym, subst, arith, ⊎_elim, length-append, append_assoc, drop-cons}
use Rattle.std.specs.Prelude.{true, false, ◌||◌}
use Rattle.std.specs.List.{flat_map}
use Rattle.std.proofs.lemmas.Bool.{or_from}
use Rattle.std.proofs.lemmas.Grind.{flat_map-append}
use Rattle.std.proofs.lemmas.List.{append-nil, map-append, take_more, take-append-drop, take-map, drop-map}
use Rattle.std.proofs.lemmas.List.Folds.{list_any-append}
use Rattle.std.proofs.Math.Bool.{or-true}
use Rattle.stow_page.specs.StowBytes.Limits.{value_limit}
use Rattle.stow_page.specs.Format.{is_long, has_long}
use Rattle.stow_page.specs.StowTreeModel.Merged.{same_key}
use Rattle.stow_page.specs.StowTreeModel.Op.{op_of, bytes_in}
use Rattle.stow_page.specs.StowTreeModel.Order.{VersionsRise}
use Rattle.stow_page.specs.StowTreeModel.TreeMessage.{TreeMessage, message_of}
use Rattle.stow_page.specs.StowTreeModel.Value.{IsValue}
use Rattle.stow_page.specs.StowTreeModel.Version.{Version}
use Rattle.stow_page.specs.StowTreeModel.declared.message.Message as messages
use Rattle.stow_page.proofs.StowTreeModel.Orders.{key_cases}
use Rattle.stow_page.proofs.StowTreeModel.Readings.{drop_one_less}
use Rattle.stow_merge.specs.KeptVersion.{bytes_between, value_between}
use Rattle.stow_merge.specs.Pages.{read_in_order}
use Rattle.stow_merge.specs.Writing.{CanPack}
use Rattle.stow_merge.proofs.KeyLemmas.{rises_front}
use Rattle.stow_merge.proofs.PageLemmas.{can_front}

-- ---- keys that are one

pub same_from : (a b : List ℕ) → same_key a b ≡ true → a ≡ b
same_from a b e = ⊎_elim
    (λ (s : (a ≡ b) × (same_key a b ≡ true)). s.0)
    (λ (s : (a ≢ b) × (same_key a b ≡ false)). let z : true ≡ false = sym e ∙ s.1 in absurd (cc))
    (key_cases a b)

pub other_from : (a b : List ℕ) → same_key a b ≡ false → a ≢ b
other_from a b e = ⊎_elim
    (λ (s : (a ≡ b) × (same_key a b ≡ true)). let z : true ≡ false = sym s.1 ∙ e in absurd (cc))
    (λ (s : (a ≢ b) × (same_key a b ≡ false)). s.0)
    (key_cases a b)

-- ---- one more

pub one_more : {X : Type 0} (xs : List X) (i : ℕ) (x : X) → i < length xs → x ≡ get_or xs i x → take (i + 1) xs ≡ take i xs ++ x ∷ []
one_more xs i x l e = take_more xs i x l ∙ ap (λ y. take i xs ++ y ∷ []) (sym e)

pub drop_first : {X : Type 0} (xs : List X) (i : ℕ) (d : X) → i < length xs → drop i xs ≡ get_or xs i d ∷ drop (i + 1) xs
drop_first xs i d l = drop-cons xs i d l ∙ (let e : suc i ≡ i + 1 = omega arith in ap (λ n. get_or xs i d ∷ drop n xs) e)

pub around : {X : Type 0} (xs : List X) (i : ℕ) (x : X) → i < length xs → x ≡ get_or xs i x → xs ≡ (take i xs ++ x ∷ []) ++ drop (suc i) xs
around xs i x l e = sym (take-append-drop i xs) ∙ ap (λ ys. take i xs ++ ys) (drop_one_less xs i x l e) ∙ sym (append_assoc (take i xs) (x ∷ []) (drop (suc i) xs))

abbrev pub carried : List TreeMessage → List ℕ
carried ms = flat_map (λ m. bytes_in m.op) ms

pub carried_more : (ms : List messages.Message) (i : ℕ) (m : messages.Message) → i < length ms → m ≡ get_or ms i m → length (carried (map message_of (take (i + 1) ms))) ≡ length (carried (map message_of (take i ms))) + length (bytes_in (op_of m.op))
carried_more ms i m l e =
    ap (λ (xs : List messages.Message). length (carried (map message_of xs))) (one_more ms i m l e)
    ∙ ap (λ xs. length (carried xs)) (map-append message_of (take i ms) (m ∷ []))
    ∙ ap length (flat_map-append (λ (x : TreeMessage). bytes_in x.op) (map message_of (take i ms)) (message_of m ∷ []))
    ∙ length-append (carried (map message_of (take i ms))) (carried (message_of m ∷ []))
    ∙ ap (λ bs. length (carried (map message_of (take i ms))) + length bs) (append-nil (bytes_in (op_of m.op)))

pub carried_within : (ms : List messages.Message) (i : ℕ) → length (carried (map message_of (take i ms))) ≤ length (carried (map message_of ms))
carried_within ms i =
    let all : length (carried (map message_of ms)) ≡ length (carried (map message_of (take i ms))) + length (carried (map message_of (drop i ms))) =
    ap (λ (xs : List messages.Message). length (carried (map message_of xs))) (sym (take-append-drop i ms))
    ∙ ap (λ xs. length (carried xs)) (map-append message_of (take i ms) (drop i ms))
    ∙ ap length (flat_map-append (λ (x : TreeMessage). bytes_in x.op) (map message_of (take i ms)) (map message_of (drop i ms)))
    ∙ length-append (carried (map message_of (take i ms))) (carried (map message_of (drop i ms))) in
    omega arith

-- what a part of the messages carries
pub between_bytes : (items part : List messages.Message) (from to : ℕ) → part ≡ drop from (take to items) → carried (map message_of part) ≡ bytes_between (map message_of items) from to
between_bytes items part from to e =
    ap (λ (xs : List messages.Message). carried (map message_of xs)) e
    ∙ ap carried (sym (ap (drop from) (take-map message_of to items) ∙ drop-map message_of from (take to items)))

-- a value within the limit, of which this is what the messages carry
pub record IsCarried (value : Option (List ℕ)) (bytes : List ℕ) : Type 0 where
  pub is_short : length bytes ≤ value_limit
  pub is : value ≡ Some bytes

pub carried_value : (items part : List messages.Message) (from to : ℕ) (start : Option ℕ) → start ≡ Some from → part ≡ drop from (take to items) → IsValue (value_between (map message_of items) start to)
    → IsCarried (value_between (map message_of items) start to) (carried (map message_of part))
carried_value items part from to start s e short =
    let bytes : List ℕ = carried (map message_of part) in
    let value : value_between (map message_of items) start to ≡ Some bytes =
    ap (λ f. value_between (map message_of items) f to) s ∙ ap Some (sym (between_bytes items part from to e)) in
    record {
      is_short = short.is_short bytes value;
      is = value;
    }

-- ---- versions

pub mapped_more : {X Y : Type 0} (f : X → Y) (xs : List X) (i : ℕ) (x : X) → i < length xs → x ≡ get_or xs i x → map f (take (i + 1) xs) ≡ map f (take i xs) ++ f x ∷ []
mapped_more f xs i x l e = ap (map f) (one_more xs i x l e) ∙ map-append f (take i xs) (x ∷ [])

long_between : (before : List Version) (v : Version) (after : List Version) → is_long v.value ≡ true → has_long ((before ++ v ∷ []) ++ after) ≡ true
long_between [] v after long = ap (λ b. b || has_long after) long
long_between (w ∷ before) v after long = ap (λ b. is_long w.value || b) (long_between before v after long) ∙ or-true (is_long w.value)

pub long_at : {X : Type 0} (f : X → Version) (xs : List X) (i : ℕ) (x : X) → i < length xs → x ≡ get_or xs i x → is_long (f x).value ≡ true → has_long (map f xs) ≡ true
long_at f xs i x l e long = subst (λ vs. has_long vs ≡ true) (sym (ap (map f) (around xs i x l e) ∙ map-append f (take i xs ++ x ∷ []) (drop (suc i) xs) ∙ ap (λ vs. vs ++ map f (drop (suc i) xs)) (map-append f (take i xs) (x ∷ []))))
    (long_between (map f (take i xs)) (f x) (map f (drop (suc i) xs)) long)

pub long_more : {X : Type 0} (f : X → Version) (xs : List X) (i : ℕ) (x : X) → i < length xs → x ≡ get_or xs i x → has_long (map f (take i xs)) ≡ false → is_long (f x).value ≡ false → has_long (map f (take (i + 1) xs)) ≡ false
long_more f xs i x l e before here =
    ap has_long (mapped_more f xs i x l e)
    ∙ list_any-append (λ v. is_long v.value) (map f (take i xs)) (f x ∷ [])
    ∙ or_from (has_long (map f (take i xs))) (has_long (f x ∷ [])) before (or_from (is_long (f x).value) false here refl)

-- some versions and more, told around one of the others
around_next : {X : Type 0} (f : X → Version) (done : List Version) (xs : List X) (i : ℕ) (x : X) → i < length xs → x ≡ get_or xs i x → done ++ map f xs ≡ ((done ++ map f (take i xs)) ++ f x ∷ []) ++ map f (drop (suc i) xs)
around_next f done xs i x l e =
    ap (λ ys. done ++ map f ys) (around xs i x l e)
    ∙ ap (λ vs. done ++ vs) (map-append f (take i xs ++ x ∷ []) (drop (suc i) xs) ∙ ap (λ vs. vs ++ map f (drop (suc i) xs)) (map-append f (take i xs) (x ∷ [])))
    ∙ sym (append_assoc done (map f (take i xs) ++ f x ∷ []) (map f (drop (suc i) xs)))
    ∙ ap (λ vs. vs ++ map f (drop (suc i) xs)) (sym (append_assoc done (map f (take i xs)) (f x ∷ [])))

-- a page that can be made of some versions and more can be made of them and the next
pub pack_next : {X : Type 0} (f : X → Version) (done : List Version) (xs : List X) (i : ℕ) (x : X) → CanPack (done ++ map f xs) → i < length xs → x ≡ get_or xs i x → CanPack ((done ++ map f (take i xs)) ++ f x ∷ [])
pack_next f done xs i x can l e = can_front ((done ++ map f (take i xs)) ++ f x ∷ []) (map f (drop (suc i) xs)) (subst CanPack (around_next f done xs i x l e) can)

-- some versions and more rise, so they and the next do
pub rise_next : {X : Type 0} (f : X → Version) (done : List Version) (xs : List X) (i : ℕ) (x : X) → VersionsRise (done ++ map f xs) → i < length xs → x ≡ get_or xs i x → VersionsRise ((done ++ map f (take i xs)) ++ f x ∷ [])
rise_next f done xs i x rise l e = rises_front ((done ++ map f (take i xs)) ++ f x ∷ []) (map f (drop (suc i) xs)) (subst VersionsRise (around_next f done xs i x l e) rise)

pub read_more : {X : Type 0} (f : X → List Version) (xs : List X) (i : ℕ) (x : X) → i < length xs → x ≡ get_or xs i x → read_in_order (map f (take (i + 1) xs)) ≡ read_in_order (map f (take i xs)) ++ f x
read_more f xs i x l e =
    ap read_in_order (mapped_more f xs i x l e)
    ∙ flat_map-append (λ p. p) (map f (take i xs)) (f x ∷ [])
    ∙ ap (λ vs. read_in_order (map f (take i xs)) ++ vs) (append-nil (f x))

-- the same of a page and its next key
pub page_next : {X : Type 0} (f : X → List Version) (xs : List X) (i : ℕ) (x : X) → CanPack (read_in_order (map f xs)) → i < length xs → x ≡ get_or xs i x → CanPack (read_in_order (map f (take i xs)) ++ f x)
page_next f xs i x can l e =
    can_front (read_in_order (map f (take i xs)) ++ f x) (read_in_order (map f (drop (suc i) xs)))
    (subst CanPack
    (ap (λ ys. read_in_order (map f ys)) (around xs i x l e)
    ∙ ap read_in_order (map-append f (take i xs ++ x ∷ []) (drop (suc i) xs))
    ∙ flat_map-append (λ p. p) (map f (take i xs ++ x ∷ [])) (map f (drop (suc i) xs))
    ∙ ap (λ vs. read_in_order vs ++ read_in_order (map f (drop (suc i) xs))) (map-append f (take i xs) (x ∷ []))
    ∙ ap (λ vs. vs ++ read_in_order (map f (drop (suc i) xs))) (flat_map-append (λ p. p) (map f (take i xs)) (f x ∷ []) ∙ ap (λ vs. read_in_order (map f (take i xs)) ++ vs) (append-nil (f x))))
    can)

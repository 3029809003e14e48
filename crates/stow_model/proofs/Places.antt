-- Which fault it is, is told by the bytes.
use Rattle.std.proofs.Common.{◌≡◌, ◌≢◌, ℕ, List, [], ◌∷◌, ◌++◌, length, refl, ap, ◌∙◌, sym, subst, arith, append_assoc, append-nil, length-append, false, inl, inr}
use Rattle.std.specs.List.{AllByRecursion}
use Rattle.std.specs.Fmt.{decimal}
use Rattle.std.proofs.lemmas.List.{append_cancel_left}
use Rattle.stow_bytes.specs.Limits.{line_limit}
use Rattle.stow_model.specs.declared.stream_fault.StreamFault.{StreamFault}
use Rattle.stow_model.specs.declared.stream_fault.StreamFault.TheVariants.{InvalidArrayLength, ExpectedBulk, InvalidBulkLength, BulkNotEnded, InlineTooLong}
use Rattle.stow_model.specs.Wire.{number_line, bulk_line, bulk, bulks, FitsBulk, begins_array, IsLine, Spells, IsBegun, IsInLine, IsInArray, IsPlace, IsFaulty, FaultOnce}
use Rattle.stow_model.proofs.Spelling.{line_once, bulk_once, one_begins}

-- ---- one place

pub begun_front : (a b : List ℕ) → IsBegun (a ++ b) → IsBegun a
begun_front a [] h = subst IsBegun (append-nil a) h
begun_front a (c ∷ b) (m, next, more, s) = (m, c, b ++ next ∷ more, subst (Spells m) (append_assoc a (c ∷ b) (next ∷ more)) s)

no_longer : (bytes : List ℕ) (f g : StreamFault) (p : IsFaulty bytes f) (q : IsFaulty bytes g) (c : ℕ) (z : List ℕ) → p.front ≡ q.front ++ c ∷ z → ⊥
no_longer bytes f g p q c z e =
    let meet : q.front ++ q.byte ∷ q.more ≡ q.front ++ c ∷ (z ++ p.byte ∷ p.more) = sym q.at ∙ p.at ∙ ap (λ t. t ++ p.byte ∷ p.more) e ∙ append_assoc q.front (c ∷ z) (p.byte ∷ p.more) in
    let heads : q.byte ∷ q.more ≡ c ∷ (z ++ p.byte ∷ p.more) = append_cancel_left q.front (q.byte ∷ q.more) (c ∷ (z ++ p.byte ∷ p.more)) meet in
    let same : c ≡ q.byte = cc in
    let front : p.front ≡ (q.front ++ q.byte ∷ []) ++ z = e ∙ ap (λ x. q.front ++ x ∷ z) same ∙ sym (append_assoc q.front (q.byte ∷ []) z) in
    q.stuck (begun_front (q.front ++ q.byte ∷ []) z (subst IsBegun front p.begun))

front_once : (bytes : List ℕ) (f g : StreamFault) (p : IsFaulty bytes f) (q : IsFaulty bytes g) → p.front ≡ q.front
front_once bytes f g p q = elim (one_begins p.front q.front (p.byte ∷ p.more) (q.byte ∷ q.more) (sym p.at ∙ q.at)) [
  | inl h ↦ shorter h.0 h.1
  | inr h ↦ absurd (no_longer bytes g f q p h.0 h.1 h.2)
]
  where
    shorter : (z : List ℕ) → p.front ≡ q.front ++ z → p.front ≡ q.front
    shorter [] e = e ∙ append-nil q.front
    shorter (c ∷ z) e = absurd (no_longer bytes f g p q c z e)

-- ---- one kind of place

has_lf : (a b : List ℕ) → AllByRecursion (λ x. x ≢ 10) (a ++ 10 ∷ b) → ⊥
has_lf [] b h = h.0 refl
has_lf (x ∷ a) b h = has_lf a b h.1

line_has_lf : (sign n : ℕ) (part tail : List ℕ) → AllByRecursion (λ x. x ≢ 10) part → sign ∷ part ≡ number_line sign n ++ tail → ⊥
line_has_lf sign n part tail all e =
    let same : part ≡ (decimal n ++ 13 ∷ 10 ∷ []) ++ tail = cc in
    let at : part ≡ (decimal n ++ 13 ∷ []) ++ 10 ∷ tail = same ∙ append_assoc (decimal n) (13 ∷ 10 ∷ []) tail ∙ sym (append_assoc (decimal n) (13 ∷ []) (10 ∷ tail)) in
    has_lf (decimal n ++ 13 ∷ []) tail (subst (AllByRecursion (λ x. x ≢ 10)) at all)

-- no whole element is in front
NoWhole : List ℕ → Type 0
NoWhole rest = (word y : List ℕ) → FitsBulk word → rest ≡ bulk word ++ y → ⊥

no_whole-none : NoWhole []
unfolding NoWhole
no_whole-none word y fits e = cc

no_whole-line : (part : List ℕ) → IsInLine 36 part → NoWhole part
unfolding NoWhole
no_whole-line part (inside, all, e) word y fits h =
    line_has_lf 36 (length word) inside ((word ++ 13 ∷ 10 ∷ []) ++ y) all (sym e ∙ h ∙ append_assoc (bulk_line (length word)) (word ++ 13 ∷ 10 ∷ []) y)

no_whole-word : (word : List ℕ) → FitsBulk word → NoWhole (bulk_line (length word) ++ word)
unfolding NoWhole
no_whole-word word fit other y fits h =
    let lines = line_once 36 (length word) (length other) word ((other ++ 13 ∷ 10 ∷ []) ++ y) (omega arith) (omega arith) (h ∙ append_assoc (bulk_line (length other)) (other ++ 13 ∷ 10 ∷ []) y) in
    let same : length word ≡ length other = lines.0 in
    let long : length word ≡ length ((other ++ 13 ∷ 10 ∷ []) ++ y) = ap length lines.1 in
    omega (arith, length-append (other ++ 13 ∷ 10 ∷ []) y, length-append other (13 ∷ 10 ∷ []))

no_whole-cr : (word : List ℕ) → FitsBulk word → NoWhole (bulk_line (length word) ++ (word ++ 13 ∷ []))
unfolding NoWhole
no_whole-cr word fit other y fits h =
    let lines = line_once 36 (length word) (length other) (word ++ 13 ∷ []) ((other ++ 13 ∷ 10 ∷ []) ++ y) (omega arith) (omega arith) (h ∙ append_assoc (bulk_line (length other)) (other ++ 13 ∷ 10 ∷ []) y) in
    let same : length word ≡ length other = lines.0 in
    let long : length (word ++ 13 ∷ []) ≡ length ((other ++ 13 ∷ 10 ∷ []) ++ y) = ap length lines.1 in
    omega (arith, length-append word (13 ∷ []), length-append (other ++ 13 ∷ 10 ∷ []) y, length-append other (13 ∷ 10 ∷ []))

rest_once : (vs ws : List (List ℕ)) (x y : List ℕ) → AllByRecursion FitsBulk vs → AllByRecursion FitsBulk ws → NoWhole x → NoWhole y → bulks vs ++ x ≡ bulks ws ++ y → x ≡ y
unfolding NoWhole
rest_once [] [] x y fits fits' n n' e = e
rest_once [] (w ∷ ws) x y fits fits' n n' e = absurd (n w (bulks ws ++ y) fits'.0 (e ∙ append_assoc (bulk w) (bulks ws) y))
rest_once (v ∷ vs) [] x y fits fits' n n' e = absurd (n' v (bulks vs ++ x) fits.0 (sym e ∙ append_assoc (bulk v) (bulks vs) x))
rest_once (v ∷ vs) (w ∷ ws) x y fits fits' n n' e =
    rest_once vs ws x y fits.1 fits'.1 n n' (bulk_once v w (bulks vs ++ x) (bulks ws ++ y) fits.0 fits'.0 (sym (append_assoc (bulk v) (bulks vs) x) ∙ e ∙ append_assoc (bulk w) (bulks ws) y)).1

in_array_once : (bytes x y : List ℕ) → NoWhole x → NoWhole y → IsInArray bytes x → IsInArray bytes y → x ≡ y
in_array_once bytes x y n n' (c, few, words, fewer, fits, e) (c', few', words', fewer', fits', e') =
    rest_once words words' x y fits fits' n n' (line_once 42 c c' (bulks words ++ x) (bulks words' ++ y) (omega arith) (omega arith) (sym e ∙ e')).1

in_array_head : (bytes x : List ℕ) → IsInArray bytes x → IsInLine 42 bytes → ⊥
in_array_head bytes x (c, few, words, fewer, fits, e) inside = line_has_lf 42 c inside.0 (bulks words ++ x) inside.1 (sym inside.2 ∙ e)

-- in an array, what comes after its whole elements
abbrev IsRest : StreamFault → List ℕ → Type 0
IsRest InvalidArrayLength rest = ⊥
IsRest InlineTooLong rest = ⊥
IsRest ExpectedBulk rest = rest ≡ []
IsRest InvalidBulkLength rest = IsInLine 36 rest
IsRest BulkNotEnded rest = (n : ℕ) × (tail : List ℕ) × (rest ≡ bulk_line n ++ tail)

-- the three kinds of places
data Kind (bytes : List ℕ) (fault : StreamFault) : Type 0 where
  InHead : IsInLine 42 bytes → fault ≡ InvalidArrayLength → Kind bytes fault
  InInline : IsLine bytes → length bytes ≡ line_limit → fault ≡ InlineTooLong → Kind bytes fault
  InElement : (rest : List ℕ) → IsInArray bytes rest → NoWhole rest → IsRest fault rest → Kind bytes fault

kind : (bytes : List ℕ) (fault : StreamFault) → IsPlace bytes fault → Kind bytes fault
unfolding IsPlace
kind bytes InvalidArrayLength p = InHead p refl
kind bytes InlineTooLong p = InInline p.0 p.1 refl
kind bytes ExpectedBulk p = InElement [] p no_whole-none refl
kind bytes InvalidBulkLength p = InElement p.0 p.2 (no_whole-line p.0 p.1) p.1
kind bytes BulkNotEnded p = elim p.2 [
  | inl word ↦ InElement (bulk_line (length p.0) ++ p.0) word (no_whole-word p.0 p.1) (length p.0, p.0, refl)
  | inr cr ↦ InElement (bulk_line (length p.0) ++ (p.0 ++ 13 ∷ [])) cr (no_whole-cr p.0 p.1) (length p.0, p.0 ++ 13 ∷ [], refl)
]

rest_kind : (f g : StreamFault) (rest : List ℕ) → IsRest f rest → IsRest g rest → f ≡ g
rest_kind InvalidArrayLength g rest p q = absurd p
rest_kind f InvalidArrayLength rest p q = absurd q
rest_kind InlineTooLong g rest p q = absurd p
rest_kind f InlineTooLong rest p q = absurd q
rest_kind ExpectedBulk ExpectedBulk rest p q = refl
rest_kind InvalidBulkLength InvalidBulkLength rest p q = refl
rest_kind BulkNotEnded BulkNotEnded rest p q = refl
rest_kind ExpectedBulk InvalidBulkLength rest p q = let bad : [] ≡ 36 ∷ q.0 = sym p ∙ q.2 in cc
rest_kind InvalidBulkLength ExpectedBulk rest p q = let bad : [] ≡ 36 ∷ p.0 = sym q ∙ p.2 in cc
rest_kind ExpectedBulk BulkNotEnded rest p q = let bad : [] ≡ bulk_line q.0 ++ q.1 = sym p ∙ q.2 in cc
rest_kind BulkNotEnded ExpectedBulk rest p q = let bad : [] ≡ bulk_line p.0 ++ p.1 = sym q ∙ p.2 in cc
rest_kind InvalidBulkLength BulkNotEnded rest p q = absurd (line_has_lf 36 q.0 p.0 q.1 p.1 (sym p.2 ∙ q.2))
rest_kind BulkNotEnded InvalidBulkLength rest p q = absurd (line_has_lf 36 p.0 q.0 p.1 q.1 (sym q.2 ∙ p.2))

-- an inline line is in no array
line_head : (bytes part : List ℕ) → IsLine bytes → bytes ≡ 42 ∷ part → ⊥
line_head bytes part h e = let bad : begins_array (42 ∷ part) ≡ false = subst (λ t. begins_array t ≡ false) e h.2 in cc

kind_once : (bytes : List ℕ) (f g : StreamFault) → Kind bytes f → Kind bytes g → f ≡ g
kind_once bytes f g (InHead h is) (InHead h' is') = is ∙ sym is'
kind_once bytes f g (InInline h long is) (InInline h' long' is') = is ∙ sym is'
kind_once bytes f g (InElement x at none rest) (InElement x' at' none' rest') = rest_kind f g x' (subst (IsRest f) (in_array_once bytes x x' none none' at at') rest) rest'
kind_once bytes f g (InHead h is) (InInline h' long' is') = absurd (line_head bytes h.0 h' h.2)
kind_once bytes f g (InInline h long is) (InHead h' is') = absurd (line_head bytes h'.0 h h'.2)
kind_once bytes f g (InHead h is) (InElement x at none rest) = absurd (in_array_head bytes x at h)
kind_once bytes f g (InElement x at none rest) (InHead h is) = absurd (in_array_head bytes x at h)
kind_once bytes f g (InInline h long is) (InElement x (n, few, words, fewer, fits, e) none rest) = absurd (line_head bytes _ h e)
kind_once bytes f g (InElement x (n, few, words, fewer, fits, e) none rest) (InInline h long is) = absurd (line_head bytes _ h e)

place_once : (bytes : List ℕ) (f g : StreamFault) → IsPlace bytes f → IsPlace bytes g → f ≡ g
place_once bytes f g p q = kind_once bytes f g (kind bytes f p) (kind bytes g q)

pub fault_once_lem : FaultOnce
fault_once_lem bytes f g p q = place_once q.front f g (subst (λ t. IsPlace t f) (front_once bytes f g p q) p.place) q.place

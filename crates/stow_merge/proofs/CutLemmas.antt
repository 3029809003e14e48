-- Pages, one at a time.
use Rattle.std.proofs.Common.{◌≡◌, ℕ, zero, suc, ◌+◌, ◌<◌, ◌≤◌, List, [], ◌∷◌, ◌++◌, length, take, drop, get_or, refl, ap, ◌∙◌, sym, subst, arith, inl, inr, ◌⊎◌}
use Rattle.std.specs.Prelude.{sum, fold}
use Rattle.std.proofs.lemmas.List.{take_more, length-take-le, drop-append-le}
use Rattle.stow_merge.specs.Cuts.{size_between, IsPage, ArePages}

pub page_more : (sizes : List ℕ) (room from to next : ℕ) (ends : List ℕ) → ArePages sizes room from ends to → IsPage sizes room to next → ArePages sizes room from (ends ++ next ∷ []) next
page_more sizes room from to next [] h p = (subst (λ x. IsPage sizes room x next) (sym h) p, refl)
page_more sizes room from to next (e ∷ ends) h p = (h.0, page_more sizes room e to next ends h.1 p)

fold-push : (a : ℕ) (xs : List ℕ) (x : ℕ) → fold (λ m n. m + n) a (xs ++ x ∷ []) ≡ fold (λ m n. m + n) a xs + x
fold-push a [] x = refl
fold-push a (y ∷ xs) x = fold-push (a + y) xs x

sum-push : (xs : List ℕ) (x : ℕ) → sum (xs ++ x ∷ []) ≡ sum xs + x
sum-push xs x = fold-push 0 xs x

pub size-more : (sizes : List ℕ) (from i : ℕ) → from ≤ i → i < length sizes → size_between sizes from (i + 1) ≡ size_between sizes from i + get_or sizes i 0
size-more sizes from i f l =
    ap (λ xs. sum (drop from xs)) (take_more sizes i 0 l)
    ∙ ap sum (drop-append-le from (take i sizes) (get_or sizes i 0 ∷ []) (subst (λ n. from ≤ n) (sym (length-take-le i sizes (omega arith))) f))
    ∙ sum-push (drop from (take i sizes)) (get_or sizes i 0)

pub size-none : (sizes : List ℕ) (i : ℕ) → i ≤ length sizes → size_between sizes i i ≡ 0
size-none sizes zero l = refl
size-none [] (suc i) l = absurd (omega arith)
size-none (s ∷ sizes) (suc i) l = size-none sizes i (omega arith)

-- pages up to a key, and one that has begun there
abbrev pub SoFar : List ℕ → ℕ → List ℕ → ℕ → ℕ → ℕ → Type 0
SoFar sizes room ends from i page = ArePages sizes room 0 ends from × (from ≤ i) × (page ≡ size_between sizes from i) × (from < i → (page ≤ room) ⊎ (i ≡ from + 1)) × (page < 8589934592)

page_of : (sizes : List ℕ) (room from i page : ℕ) → page ≡ size_between sizes from i → from < i → (page ≤ room) ⊎ (i ≡ from + 1) → IsPage sizes room from i
page_of sizes room from i page e l h = record { is_filled = l; fits = subst (λ p. (p ≤ room) ⊎ (i ≡ from + 1)) e h }

pub last_page : (sizes : List ℕ) (room from i page : ℕ) (ends : List ℕ) → SoFar sizes room ends from i page → from < i → ArePages sizes room 0 (ends ++ i ∷ []) i
last_page sizes room from i page ends h l = page_more sizes room 0 from i ends h.0 (page_of sizes room from i page h.2 l (h.3 l))

first_key : (sizes : List ℕ) (i s : ℕ) → i < length sizes → s ≡ get_or sizes i 0 → 0 + s ≡ size_between sizes i (i + 1)
first_key sizes i s l e = let more = size-more sizes i i (omega arith) l in let none = size-none sizes i (omega arith) in omega arith

pub step_end : (sizes : List ℕ) (room from i page s : ℕ) (ends : List ℕ) → SoFar sizes room ends from i page → from < i → i < length sizes → s ≡ get_or sizes i 0 → s < 4294967296 → SoFar sizes room (ends ++ i ∷ []) i (i + 1) (0 + s)
step_end sizes room from i page s ends h f l e b = (last_page sizes room from i page ends h f, omega arith, first_key sizes i s l e, (λ _. inr refl), omega arith)

pub step_stay : (sizes : List ℕ) (room from i page s : ℕ) (ends : List ℕ) → room < 4294967296 → SoFar sizes room ends from i page → i < length sizes → s ≡ get_or sizes i 0 → page + s ≤ room → SoFar sizes room ends from (i + 1) (page + s)
step_stay sizes room from i page s ends r h l e b =
    let a = h.1 in
    let size = h.2 in
    (h.0, omega arith, (let more = size-more sizes from i a l in omega arith), (λ _. inl b), omega arith)

pub step_first : (sizes : List ℕ) (room from i page s : ℕ) (ends : List ℕ) → SoFar sizes room ends from i page → i ≤ from → i < length sizes → s ≡ get_or sizes i 0 → s < 4294967296 → SoFar sizes room ends from (i + 1) (page + s)
step_first sizes room from i page s ends h f l e b =
    let a = h.1 in
    let size = h.2 in
    let same : i ≡ from = omega arith in
    let none : size_between sizes from i ≡ 0 = subst (λ x. size_between sizes x i ≡ 0) same (size-none sizes i (omega arith)) in
    (h.0, omega arith, (let more = size-more sizes from i a l in omega arith), (λ _. inr (omega arith)), omega arith)

-- The bytes of a key's value, one more operation at a time.
use Rattle.std.proofs.Common.{◌≡◌, ℕ, zero, suc, ◌+◌, ◌<◌, ◌≤◌, Bool, true, false, List, [], ◌∷◌, ◌++◌, length, take, drop, get_or, Option, Some, None, refl, ap, ◌∙◌, sym, subst, arith, append_assoc}
use Rattle.std.specs.Prelude.{if◌then◌else◌, is_some, map}
use Rattle.std.specs.List.{flat_map}
use Rattle.std.proofs.lemmas.List.{map-append, take_more, length-take-le, drop-append-le, append-nil}
use Rattle.stow_page.specs.StowTreeModel.Op.{Op, Put, Gone, Append, bytes_in}
use Rattle.stow_page.specs.StowTreeModel.Operations.{outcome}
use Rattle.stow_page.specs.StowTreeModel.TreeMessage.{TreeMessage}
use Rattle.stow_merge.specs.KeptVersion.{bytes_between, value_between, start_after, kept_version}
use Rattle.stow_merge.specs.declared.kept_version.KeptVersion as coded

-- the bytes begin at or before this place
pub record IsBehind (start : Option ℕ) (i : ℕ) : Type 0 where
  pub at_most : (from : ℕ) → start ≡ Some from → from ≤ i

abbrev carried : List TreeMessage → List ℕ
carried ms = flat_map (λ m. bytes_in m.op) ms

carried-append : (xs ys : List TreeMessage) → carried (xs ++ ys) ≡ carried xs ++ carried ys
carried-append [] ys = refl
carried-append (x ∷ xs) ys = ap (λ z. bytes_in x.op ++ z) (carried-append xs ys) ∙ sym (append_assoc (bytes_in x.op) (carried xs) (carried ys))

more_bytes : (ms : List TreeMessage) (from i : ℕ) (m : TreeMessage) → from ≤ i → i < length ms → m ≡ get_or ms i m → bytes_between ms from (i + 1) ≡ bytes_between ms from i ++ bytes_in m.op
more_bytes ms from i m f l e =
    ap (λ xs. carried (drop from xs)) (take_more ms i m l ∙ ap (λ x. take i ms ++ x ∷ []) (sym e))
    ∙ ap carried (drop-append-le from (take i ms) (m ∷ []) (subst (λ n. from ≤ n) (sym (length-take-le i ms (omega arith))) f))
    ∙ carried-append (drop from (take i ms)) (m ∷ [])
    ∙ ap (λ x. bytes_between ms from i ++ x) (append-nil (bytes_in m.op))

no_bytes : (ms : List TreeMessage) (i : ℕ) → i ≤ length ms → bytes_between ms i i ≡ []
no_bytes ms zero l = refl
no_bytes [] (suc i) l = absurd (omega arith)
no_bytes (m ∷ ms) (suc i) l = no_bytes ms i (omega arith)

pub value_more : (ms : List TreeMessage) (i : ℕ) (m : TreeMessage) (before : Option ℕ) → IsBehind before i → i < length ms → m ≡ get_or ms i m → (op : Op) → op ≡ m.op
    → value_between ms (start_after i op before) (i + 1) ≡ outcome op (value_between ms before i)
value_more ms i m before b l e (Put value) o = ap (λ x. Some x) (more_bytes ms i i m (omega arith) l e ∙ ap (λ x. x ++ bytes_in m.op) (no_bytes ms i (omega arith)) ∙ ap bytes_in (sym o))
value_more ms i m before b l e Gone o = refl
value_more ms i m None b l e (Append suffix) o = ap (λ x. Some x) (more_bytes ms i i m (omega arith) l e ∙ ap (λ x. x ++ bytes_in m.op) (no_bytes ms i (omega arith)) ∙ ap bytes_in (sym o))
value_more ms i m (Some from) b l e (Append suffix) o = ap (λ x. Some x) (more_bytes ms from i m (b.at_most from refl) l e ∙ ap (λ x. bytes_between ms from i ++ bytes_in x) (sym o))

pub behind_none : (i : ℕ) → IsBehind None i
behind_none i = record { at_most = λ from e. cc }

some_most : (from n i : ℕ) → from ≤ i → ◌≡◌ {A = Option ℕ} (Some from) (Some n) → n ≤ i
some_most from n i l e = let z : from ≡ n = cc in omega arith

pub behind_after : (i : ℕ) (op : Op) (before : Option ℕ) → IsBehind before i → IsBehind (start_after i op before) (i + 1)
behind_after i (Put value) before b = record { at_most = λ n e. some_most i n (i + 1) (omega arith) e }
behind_after i Gone before b = behind_none (i + 1)
behind_after i (Append suffix) None b = record { at_most = λ n e. some_most i n (i + 1) (omega arith) e }
behind_after i (Append suffix) (Some from) b = record { at_most = λ n e. let l = b.at_most from refl in some_most from n (i + 1) (omega arith) e }

pub drop_past : {X : Type 0} (xs : List X) (i : ℕ) → length xs ≤ i → drop i xs ≡ []
drop_past [] zero l = refl
drop_past [] (suc i) l = refl
drop_past (x ∷ xs) zero l = absurd (omega arith)
drop_past (x ∷ xs) (suc i) l = drop_past xs i (omega arith)

pub behind_if : (b : Bool) (start : Option ℕ) (i : ℕ) → IsBehind start i → IsBehind (if b then start else None) i
behind_if true start i h = h
behind_if false start i h = behind_none i

pub value_if : (ms : List TreeMessage) (b : Bool) (start : Option ℕ) (i : ℕ) → value_between ms (if b then start else None) i ≡ (if b then value_between ms start i else None)
value_if ms true start i = refl
value_if ms false start i = refl

pub is_some-value : (ms : List TreeMessage) (start : Option ℕ) (i : ℕ) → is_some start ≡ is_some (value_between ms start i)
is_some-value ms None i = refl
is_some-value ms (Some from) i = refl

pub map_if : (ms : List TreeMessage) (b : Bool) (ks : List coded.KeptVersion) (k : coded.KeptVersion) → map (kept_version ms) (if b then ks ++ k ∷ [] else ks) ≡ (if b then map (kept_version ms) ks ++ kept_version ms k ∷ [] else map (kept_version ms) ks)
map_if ms true ks k = map-append (kept_version ms) ks (k ∷ [])
map_if ms false ks k = refl

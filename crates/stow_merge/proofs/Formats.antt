-- What pages have in the two formats.
use Rattle.std.proofs.Common.{◌≡◌, ℕ, ◌+◌, ◌≤◌, true, false, List, [], ◌∷◌, ◌++◌, length, Option, Some, None, refl, ap, sym, subst, arith, ⊎_elim, length-append}
use Rattle.std.specs.List.{AllByRecursion}
use Rattle.std.proofs.lemmas.Bool.{cases_Bool, or_from, or_parts}
use Rattle.stow_page.proofs.Formats.{format_of-long, format_of-short}
use Rattle.stow_page.proofs.Pushed.{length-entries, length-entry, length-packed_page}
use Rattle.stow_page.specs.Format.{entry, entries, tail, is_long, has_long, format_of, packed_page}
use Rattle.stow_page.specs.declared.format.Format.{Format}
use Rattle.stow_page.specs.declared.format.Format.TheVariants.{One, Two}
use Rattle.stow_page.specs.StowTreeModel.Version.{Version}
use Rattle.stow_merge.proofs.Lists.{all_split}

-- ---- what a format tells

-- the format tells the length of the version's value
abbrev pub IsToldIn : Format → Version → Type 0
IsToldIn format v = format ≡ One → is_long v.value ≡ false

abbrev pub AreToldIn : Format → List Version → Type 0
AreToldIn format = AllByRecursion (IsToldIn format)

short_are_told : (format : Format) (versions : List Version) → has_long versions ≡ false → AreToldIn format versions
short_are_told format [] e = tt
short_are_told format (v ∷ versions) e =
    let parts = or_parts (is_long v.value) (has_long versions) e in ((λ _. parts.0), short_are_told format versions parts.1)

two_tells : (versions : List Version) → AreToldIn Two versions
two_tells [] = tt
two_tells (v ∷ versions) = ((λ e. absurd (cc)), two_tells versions)

told_are_short : (versions : List Version) → AreToldIn One versions → has_long versions ≡ false
told_are_short [] h = refl
told_are_short (v ∷ versions) h = or_from (is_long v.value) (has_long versions) (h.0 refl) (told_are_short versions h.1)

-- versions' own format tells their lengths
pub own_tells : (versions : List Version) → AreToldIn (format_of versions) versions
own_tells versions = ⊎_elim
    (λ (long : has_long versions ≡ true). subst (λ f. AreToldIn f versions) (sym (format_of-long versions long)) (two_tells versions))
    (λ (short : has_long versions ≡ false). short_are_told (format_of versions) versions short)
    (cases_Bool (has_long versions))

-- ---- sizes

-- format 2 takes no fewer bytes
tail_within : (format : Format) (value : Option (List ℕ)) → length (tail format value) ≤ length (tail Two value)
tail_within format None = omega arith
tail_within Two (Some value) = omega arith
tail_within One (Some value) = omega arith

entry_within : (format : Format) (v : Version) → length (entry format v) ≤ length (entry Two v)
entry_within format v = omega (arith, length-entry format v, length-entry Two v, tail_within format v.value)

entries_within : (format : Format) (versions : List Version) → length (entries format versions) ≤ length (entries Two versions)
entries_within format [] = omega arith
entries_within format (v ∷ versions) =
    omega (arith, length-append (entry format v) (entries format versions), length-append (entry Two v) (entries Two versions), entry_within format v, entries_within format versions)

-- a page is no larger than its versions in any format that tells their lengths
pub page_within : (format : Format) (versions : List Version) → AreToldIn format versions → length (packed_page versions) ≤ 5 + length (entries format versions)
page_within Two versions told = omega (arith, length-packed_page versions, entries_within (format_of versions) versions)
page_within One versions told =
    let same : length (entries (format_of versions) versions) ≡ length (entries One versions) = ap (λ f. length (entries f versions)) (format_of-short versions (told_are_short versions told)) in
    omega (arith, length-packed_page versions, same)

-- versions have no smaller page with more behind them
pub front_within : (front later : List Version) → length (packed_page front) ≤ length (packed_page (front ++ later))
front_within front later =
    let format : Format = format_of (front ++ later) in
    let part = page_within format front (all_split _ front later (own_tells (front ++ later))).0 in
    omega (arith, part, length-entries format front later, length-packed_page (front ++ later))

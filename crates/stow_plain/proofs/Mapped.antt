-- The plain store's rows under the calls of a sorted map.
use Rattle.std.proofs.Common.{◌≡◌, ℕ, suc, ◌+◌, Bool, true, false, cond, List, [], ◌∷◌, length, Option, Some, None, is_some, refl, ap, ◌∙◌, sym, arith}
use Rattle.std.specs.declared.cmp.Ordering.{Ordering}
use Rattle.std.specs.declared.cmp.Ordering.TheVariants.{Less, Equal, Greater}
use Rattle.std.specs.Ordering.{is_eq, nat_cmp, match_ordering, eq_by_cmp}
use Rattle.std.specs.Cmp.Lexicographic.{slice_cmp, nat_list_cmp_total}
use Rattle.std.specs.List.{AllByRecursion, AllZip}
use Rattle.std.specs.List.Sorted.{IsStrictlySortedBy}
use Rattle.std.specs.Map.{lookup, keys_of, KeepsOthers}
use Rattle.std.specs.BTreeMap.{is_at, insert_entry}
use Rattle.std.specs.FinMap as map
use Rattle.std.specs.FinMap.{find, put}
use Rattle.std.specs.FinMap.Entries.{find-put, by_order}
use Rattle.std.proofs.lemmas.Map.Keys.{sorted_head, sorted_tail}
use Rattle.stow_bytes.specs.Bytes.{bytes_cmp}
use Rattle.stow_model.specs.Store.{Version, Rows, value_in}
use Rattle.stow_plain.specs.declared.plain_version.PlainVersion.{PlainVersion}
use Rattle.stow_plain.specs.PlainMap.{version_of, entries_of, rows_of}

-- ---- orders

one_order : map.IsAntisymmetric bytes_cmp
one_order = map.slice_cmp-IsAntisymmetric map.nat_cmp-IsAntisymmetric

equal : (o : Ordering) → is_eq o ≡ true → o ≡ Equal
equal Less e = cc
equal Equal e = refl
equal Greater e = cc

same_bytes : (a b : List ℕ) → is_eq (bytes_cmp a b) ≡ true → a ≡ b
same_bytes a b e = one_order a b (equal (bytes_cmp a b) e)

abbrev pub version_in : {A : Type 0} → Option (PlainVersion A) → Option Version
version_in None = None
version_in (Some v) = Some (version_of v)

-- the test that finds a key
abbrev key_at : {K : Type 0} → (K → List ℕ) → List ℕ → K → Bool
key_at bytes q = is_at (λ k. slice_cmp nat_cmp q (bytes k))

abbrev key_order : {K : Type 0} → (K → List ℕ) → K → K → Ordering
key_order bytes a b = slice_cmp nat_cmp (bytes a) (bytes b)

module _ {K A : Type 0} (bytes : K → List ℕ) where
  version_if : (b : Bool) (v : PlainVersion A) (o : Option (PlainVersion A)) → cond b (Some (version_of v)) (version_in o) ≡ version_in (cond b (Some v) o)
  version_if true v o = refl
  version_if false v o = refl

  found : (q : List ℕ) (es : List (K × PlainVersion A)) → find bytes_cmp q (entries_of bytes es) ≡ version_in (lookup (key_at bytes q) es)
  found q [] = refl
  found q (e ∷ es) = ap (cond (is_eq (bytes_cmp q (bytes e.0))) (Some (version_of e.1))) (found q es) ∙ version_if (is_eq (bytes_cmp q (bytes e.0))) e.1 (lookup (key_at bytes q) es)

  get-rows : (q : List ℕ) (es : List (K × PlainVersion A)) → map.get (rows_of bytes es) q ≡ version_in (lookup (key_at bytes q) es)
  get-rows q es = map.get-from_entries nat_list_cmp_total (entries_of bytes es) q ∙ found q es

  -- ---- a version is looked up

  pub version-rows : (q : List ℕ) (es : List (K × PlainVersion A)) (rows : Rows) (o : Option (PlainVersion A)) → rows_of bytes es ≡ rows → o ≡ lookup (key_at bytes q) es → map.get rows q ≡ version_in o
  version-rows q es rows o view e = sym (ap (λ r. map.get r q) view) ∙ get-rows q es ∙ sym (ap version_in e)

  pub value-rows : (q : List ℕ) (es : List (K × PlainVersion A)) (rows : Rows) (o : Option (PlainVersion A)) → rows_of bytes es ≡ rows → o ≡ lookup (key_at bytes q) es → value_in (version_in o) ≡ value_in (map.get rows q)
  value-rows q es rows o view e = ap (λ x. value_in (version_in x)) e ∙ sym (ap value_in (get-rows q es)) ∙ ap (λ r. value_in (map.get r q)) view

  -- ---- a version is put

  entries-insert : (k : K) (v : PlainVersion A) (es : List (K × PlainVersion A)) → entries_of bytes (insert_entry (key_order bytes) es k v) ≡ put bytes_cmp (bytes k) (version_of v) (entries_of bytes es)
  entries-insert k v [] = refl
  entries-insert k v (e ∷ es) =
      elim (slice_cmp nat_cmp (bytes k) (bytes e.0))
      as (λ o. entries_of bytes (match_ordering o ((k, v) ∷ e ∷ es) ((e.0, v) ∷ es) (e ∷ insert_entry (key_order bytes) es k v))
      ≡ by_order o ((bytes k, version_of v) ∷ entries_of bytes (e ∷ es)) ((bytes e.0, version_of v) ∷ entries_of bytes es) ((bytes e.0, version_of e.1) ∷ put bytes_cmp (bytes k) (version_of v) (entries_of bytes es)))
      [ Less ↦ refl | Equal ↦ refl | Greater ↦ ap (λ t. (bytes e.0, version_of e.1) ∷ t) (entries-insert k v es) ]

  pub insert-rows : (k : K) (v : PlainVersion A) (es : List (K × PlainVersion A)) → rows_of bytes (insert_entry (key_order bytes) es k v) ≡ map.insert (rows_of bytes es) (bytes k) (version_of v)
  insert-rows k v es = map.same_map nat_list_cmp_total one_order _ _ (λ q.
      map.get-from_entries nat_list_cmp_total (entries_of bytes (insert_entry (key_order bytes) es k v)) q
      ∙ ap (find bytes_cmp q) (entries-insert k v es)
      ∙ find-put bytes_cmp nat_list_cmp_total q (bytes k) (version_of v) (entries_of bytes es)
      ∙ sym (map.get-insert nat_list_cmp_total (rows_of bytes es) (bytes k) (version_of v) q ∙ ap (cond (eq_by_cmp bytes_cmp q (bytes k)) (Some (version_of v))) (map.get-from_entries nat_list_cmp_total (entries_of bytes es) q)))

  -- ---- a key is taken out

  after_removal : (key : List ℕ) (old new : List (K × PlainVersion A)) → lookup (key_at bytes key) new ≡ None → KeepsOthers (eq_by_cmp (key_order bytes)) (key_at bytes key) old new → (q : List ℕ) (b : Bool) → is_eq (bytes_cmp q key) ≡ b → version_in (lookup (key_at bytes q) new) ≡ cond b None (version_in (lookup (key_at bytes q) old))
  unfolding KeepsOthers
  after_removal key old new none others q true tie = ap (λ x. version_in (lookup (key_at bytes x) new)) (same_bytes q key tie) ∙ ap version_in none
  after_removal key old new none others q false apart = ap version_in (others (key_at bytes q)
      (λ x y t. ap (λ z. is_eq (bytes_cmp z (bytes y))) (same_bytes q (bytes x) t))
      (λ k t. ap (λ z. is_eq (bytes_cmp q z)) (sym (same_bytes key (bytes k) t)) ∙ apart))

  pub remove-rows : (key : List ℕ) (old new : List (K × PlainVersion A)) → lookup (key_at bytes key) new ≡ None → KeepsOthers (eq_by_cmp (key_order bytes)) (key_at bytes key) old new → rows_of bytes new ≡ map.remove (rows_of bytes old) key
  remove-rows key old new none others = map.same_map nat_list_cmp_total one_order _ _ (λ q.
      get-rows q new
      ∙ after_removal key old new none others q (is_eq (bytes_cmp q key)) refl
      ∙ sym (map.get-remove nat_list_cmp_total (rows_of bytes old) key q ∙ ap (cond (eq_by_cmp bytes_cmp q key) None) (get-rows q old)))

  -- ---- how many there are

  absent : (k : List ℕ) (es : List (K × PlainVersion A)) → AllByRecursion (λ y. slice_cmp nat_cmp k (bytes y) ≡ Less) (keys_of es) → find bytes_cmp k (entries_of bytes es) ≡ None
  absent k [] all = refl
  absent k (e ∷ es) all = ap (λ o. cond (is_eq o) (Some (version_of e.1)) (find bytes_cmp k (entries_of bytes es))) all.0 ∙ absent k es all.1

  pub len-rows : (es : List (K × PlainVersion A)) → IsStrictlySortedBy (key_order bytes) (keys_of es) → map.len (rows_of bytes es) ≡ length es
  len-rows [] sorted = map.len-empty bytes_cmp Version
  len-rows (e ∷ es) sorted =
      let none : map.get (rows_of bytes es) (bytes e.0) ≡ None = map.get-from_entries nat_list_cmp_total (entries_of bytes es) (bytes e.0) ∙ absent (bytes e.0) es (sorted_head (key_order bytes) e.0 (keys_of es) sorted) in
      let later : map.len (rows_of bytes es) ≡ length es = len-rows es (sorted_tail (key_order bytes) e.0 (keys_of es) sorted) in
      map.len-insert nat_list_cmp_total (rows_of bytes es) (bytes e.0) (version_of e.1)
      ∙ ap (λ o. cond (is_some o) (map.len (rows_of bytes es)) (map.len (rows_of bytes es) + 1)) none
      ∙ (let one : map.len (rows_of bytes es) + 1 ≡ suc (length es) = omega arith in one)

  -- ---- what they cost

  put_first : (k : List ℕ) (v : Version) (es : List (K × PlainVersion A)) → AllByRecursion (λ y. slice_cmp nat_cmp k (bytes y) ≡ Less) (keys_of es) → put bytes_cmp k v (entries_of bytes es) ≡ (k, v) ∷ entries_of bytes es
  put_first k v [] all = refl
  put_first k v (e ∷ es) all = ap (λ o. by_order o ((k, v) ∷ entries_of bytes (e ∷ es)) ((bytes e.0, v) ∷ entries_of bytes es) ((bytes e.0, version_of e.1) ∷ put bytes_cmp k v (entries_of bytes es))) all.0

  pub entries-rows : (es : List (K × PlainVersion A)) → IsStrictlySortedBy (key_order bytes) (keys_of es) → map.entries (rows_of bytes es) ≡ entries_of bytes es
  entries-rows [] sorted = no_entries (map.entries map.empty) (sym (map.len-entries map.empty) ∙ map.len-empty bytes_cmp Version)
    where
      no_entries : (es : List (List ℕ × Version)) → length es ≡ 0 → es ≡ []
      no_entries [] e = refl
      no_entries (x ∷ es) e = absurd (omega arith)
  entries-rows (e ∷ es) sorted =
      map.entries-insert nat_list_cmp_total (rows_of bytes es) (bytes e.0) (version_of e.1)
      ∙ ap (put bytes_cmp (bytes e.0) (version_of e.1)) (entries-rows es (sorted_tail (key_order bytes) e.0 (keys_of es) sorted))
      ∙ put_first (bytes e.0) (version_of e.1) es (sorted_head (key_order bytes) e.0 (keys_of es) sorted)

  -- ---- a copy

  pub entries-clone : (C : K → K → Type 0) → ((a b : K) → C a b → bytes b ≡ bytes a) → (es fs : List (K × PlainVersion A)) → AllZip (λ p q. C p.0 q.0 × (q.1 ≡ p.1)) es fs → entries_of bytes fs ≡ entries_of bytes es
  entries-clone C same [] [] zip = refl
  entries-clone C same [] (f ∷ fs) zip = absurd zip
  entries-clone C same (e ∷ es) [] zip = absurd zip
  entries-clone C same (e ∷ es) (f ∷ fs) zip = λ i. (same e.0 f.0 zip.0.0 i, version_of (zip.0.1 i)) ∷ entries-clone C same es fs zip.1 i

-- What a merge leaves of one key with no pins: what its messages make of its row's value.
use Rattle.std.proofs.Common.{◌≡◌, ◌≢◌, ℕ, ◌<◌, ◌≤◌, true, false, List, [], ◌∷◌, ◌++◌, length, map, reverse, Option, Some, None, refl, ap, ◌∙◌, sym, subst, arith, ⊎_elim}
use Rattle.std.specs.Prelude.{Contains, IsSome, if◌then◌else◌, ◌||◌, not}
use Rattle.std.specs.List.{AllByRecursion}
use Rattle.std.specs.List.Sorted.{IsStrictlySortedBy}
use Rattle.std.specs.declared.cmp.Ordering.TheVariants.{Less}
use Rattle.std.proofs.lemmas.List.{append-nil, append_assoc, reverse-append}
use Rattle.stow_page.specs.StowTreeModel.Agreement.{TenantPins}
use Rattle.stow_page.specs.StowTreeModel.Keys.{tenant_of}
use Rattle.stow_page.specs.StowTreeModel.Merged.{row_message, rows_set, merged, version_at, value_of, kept, trimmed, same_key, is_kept, is_pin_within, op_of_value}
use Rattle.stow_page.specs.StowTreeModel.Messages.{ops_of, ops_in, with_all}
use Rattle.stow_page.specs.StowTreeModel.Op.{Op}
use Rattle.stow_page.specs.StowTreeModel.Operations.{or_else, outcome}
use Rattle.stow_page.specs.StowTreeModel.Order.{place_cmp, place_of, MessagesRise}
use Rattle.stow_page.specs.StowTreeModel.TreeMessage.{TreeMessage}
use Rattle.stow_page.specs.StowTreeModel.Version.{Version}
use Rattle.stow_page.proofs.StowTreeModel.Ordered.{in_order_once_law}
use Rattle.stow_page.proofs.StowTreeModel.Orders.{key_cases, less_within}
use Rattle.stow_page.proofs.StowTreeModel.Pruning.{contains_here, contains_there}
use Rattle.stow_merge.specs.OneKey.{AreOfOneKey, folded, left_by}
use Rattle.stow_merge.proofs.KeyOps.{ops-merged, ops_in-append, message_found, row_found}
use Rattle.stow_merge.proofs.Lists.{all_from_members, all_join, all_split}

-- one more message
pub folded_more : (value : Option (List ℕ)) (ms : List TreeMessage) (m : TreeMessage) → folded value (ms ++ m ∷ []) ≡ outcome m.op (folded value ms)
folded_more value [] m = refl
folded_more value (x ∷ ms) m = folded_more (outcome x.op value) ms m

-- ---- histories of one key

abbrev AreOf : List ℕ → List TreeMessage → Type 0
AreOf key ms = AllByRecursion (λ (m : TreeMessage). m.key ≡ key) ms

same : (a b key : List ℕ) → a ≡ key → b ≡ key → same_key a b ≡ true
same a b key e f = ⊎_elim
    (λ (h : (a ≡ b) × (same_key a b ≡ true)). h.1)
    (λ (h : (a ≢ b) × (same_key a b ≡ false)). absurd (h.0 (e ∙ sym f)))
    (key_cases a b)

value_of-next : (key : List ℕ) (m : TreeMessage) (older : List TreeMessage) → m.key ≡ key → AreOf key older → value_of (m ∷ older) ≡ outcome m.op (value_of older)
unfolding value_of
value_of-next key m [] e of = refl
value_of-next key m (x ∷ older) e of = ap (λ b. outcome m.op (if b then value_of (x ∷ older) else None)) (same m.key x.key key e of.0)

value_of-reverse : (key : List ℕ) (ms older : List TreeMessage) → AreOf key ms → AreOf key older → value_of (reverse ms ++ older) ≡ folded (value_of older) ms
value_of-reverse key [] older of more = refl
value_of-reverse key (m ∷ ms) older of more =
    ap value_of (ap (λ xs. xs ++ older) (reverse-append (m ∷ []) ms) ∙ append_assoc (reverse ms) (m ∷ []) older)
    ∙ value_of-reverse key ms (m ∷ older) of.1 (of.0, more)
    ∙ ap (λ value. folded value ms) (value_of-next key m older of.0 more)

of_reverse : (key : List ℕ) (ms : List TreeMessage) → AreOf key ms → AreOf key (reverse ms)
of_reverse key [] of = tt
of_reverse key (m ∷ ms) of = subst (AreOf key) (sym (reverse-append (m ∷ []) ms)) (all_join (λ (o : TreeMessage). o.key ≡ key) (reverse ms) (m ∷ []) (of_reverse key ms of.1) (of.0, tt))

-- below the newest nothing is kept
none_kept : (pins : TenantPins) (key : List ℕ) (newer : TreeMessage) (older : List TreeMessage) → pins (tenant_of key) ≡ [] → newer.key ≡ key → AreOf key older → kept pins (Some newer) older ≡ []
unfolding kept
none_kept pins key newer [] none e of = refl
none_kept pins key newer (m ∷ older) none e of =
    let no : is_kept pins (Some newer) m ≡ false = λ i. not (same newer.key m.key key e of.0 i) || is_pin_within ((ap (λ k. pins (tenant_of k)) of.0 ∙ none) i) m.number newer.number in
    ap (λ b. if b then version_at m (value_of (m ∷ older)) ∷ kept pins (Some m) older else kept pins (Some m) older) no
    ∙ none_kept pins key m older none of.0 of.1

-- the newest of a history is all that is kept
one_kept : (pins : TenantPins) (key : List ℕ) (m : TreeMessage) (older : List TreeMessage) → pins (tenant_of key) ≡ [] → m.key ≡ key → AreOf key older → kept pins None (m ∷ older) ≡ version_at m (value_of (m ∷ older)) ∷ []
unfolding kept
one_kept pins key m older none e of = ap (λ vs. version_at m (value_of (m ∷ older)) ∷ vs) (none_kept pins key m older none e of)

some_left : (m : TreeMessage) (value : List ℕ) → reverse (trimmed (version_at m (Some value) ∷ [])) ≡ version_at m (Some value) ∷ []
unfolding trimmed
some_left m value = refl

none_left : (m : TreeMessage) → reverse (trimmed (version_at m None ∷ [])) ≡ []
unfolding trimmed
none_left m = refl

-- ---- rows and messages as a list

either_first : (a b : Option Op) → (IsSome a → IsSome b → ⊥) → or_else a b ≡ or_else b a
either_first None None h = refl
either_first None (Some q) h = refl
either_first (Some p) None h = refl
either_first (Some p) (Some q) h = absurd (h refl refl)

abbrev AreBelow : List Version → List TreeMessage → Type 0
AreBelow rows batch = (v : Version) → Contains rows v → (o : TreeMessage) → Contains batch o → v.number < o.number

abbrev listed : List Version → List TreeMessage → List TreeMessage
listed rows batch = map row_message rows ++ batch

listed_ops : (rows : List Version) (batch : List TreeMessage) → AreBelow rows batch → (k : List ℕ) (n : ℕ) → ops_in (listed rows batch) k n ≡ ops_of (with_all (rows_set rows) batch) k n
listed_ops rows batch below k n =
    ops_in-append (map row_message rows) batch k n
    ∙ either_first (ops_in (map row_message rows) k n) (ops_in batch k n) (λ s t.
    let v = row_found rows k n s in
    let o = message_found batch k n t in
    let l : v.0.number < o.0.number = below v.0 v.1 o.0 o.1 in
    let e : v.0.number ≡ n = v.3 in
    let f : o.0.number ≡ n = o.3 in
    omega arith)
    ∙ sym (ap (λ f. f n) (ops-merged rows batch k))

all_places : (v : Version) (key : List ℕ) (ms : List TreeMessage) → v.key ≡ key → ((o : TreeMessage) → Contains ms o → (o.key ≡ key) × (v.number < o.number)) → AllByRecursion (λ q. place_cmp (v.key, v.number) q ≡ Less) (map place_of ms)
all_places v key [] e h = tt
all_places v key (m ∷ ms) e h =
    let here = h m (contains_here m ms) in (
      subst (λ k. place_cmp (v.key, v.number) (k, m.number) ≡ Less) (e ∙ sym here.0) (less_within v.key v.number m.number here.1),
      all_places v key ms e (λ o c. h o (contains_there m o ms c)),
    )

listed_rise : (key : List ℕ) (rows : List Version) (batch : List TreeMessage) → length rows ≤ 1 → AreOfOneKey key rows batch → AreBelow rows batch → MessagesRise (listed rows batch)
unfolding IsStrictlySortedBy
listed_rise key [] batch one of below = of.rise
listed_rise key (v ∷ []) batch one of below = (all_places v key batch of.rows_are.0 (λ o c. (of.messages_are o c, below v (contains_here v []) o c)), of.rise)
listed_rise key (v ∷ w ∷ rows) batch one of below = absurd (omega arith)

listed_of : (key : List ℕ) (rows : List Version) (batch : List TreeMessage) → AllByRecursion (λ (v : Version). v.key ≡ key) rows → AreOf key batch → AreOf key (listed rows batch)
listed_of key [] batch h k = k
listed_of key (v ∷ rows) batch h k = (h.0, listed_of key rows batch h.1 k)

row_value : (value : Option (List ℕ)) → outcome (op_of_value value) None ≡ value
row_value None = refl
row_value (Some value) = refl

folded-listed : (rows : List Version) (batch : List TreeMessage) → length rows ≤ 1 → folded None (listed rows batch) ≡ folded (left_by rows) batch
folded-listed [] batch one = refl
folded-listed (v ∷ []) batch one = ap (λ value. folded value batch) (row_value v.value)
folded-listed (v ∷ w ∷ rows) batch one = absurd (omega arith)

-- ---- the merge

module _ (key : List ℕ) (rows : List Version) (older : List TreeMessage) (m : TreeMessage) (pins : TenantPins) (one : length rows ≤ 1) (of : AreOfOneKey key rows (older ++ m ∷ []))
    (below : (v : Version) → Contains rows v → (o : TreeMessage) → Contains (older ++ m ∷ []) o → v.number < o.number) (none : pins (tenant_of m.key) ≡ []) where
  abbrev batch : List TreeMessage
  batch = older ++ m ∷ []

  -- what is older than the last message, newest first
  abbrev past : List TreeMessage
  past = reverse (listed rows older)

  own : AreOf key (listed rows batch)
  own = listed_of key rows batch of.rows_are (all_from_members (λ (o : TreeMessage). o.key ≡ key) batch of.messages_are)

  parts : listed rows batch ≡ listed rows older ++ m ∷ []
  parts = sym (append_assoc (map row_message rows) older (m ∷ []))

  newest_first : reverse (listed rows batch) ≡ m ∷ past
  newest_first = ap reverse parts ∙ reverse-append (listed rows older) (m ∷ [])

  own_parts : AreOf key (listed rows older) × AreOf key (m ∷ [])
  own_parts = all_split (λ (o : TreeMessage). o.key ≡ key) (listed rows older) (m ∷ []) (subst (AreOf key) parts own)

  value_is : value_of (m ∷ past) ≡ folded (left_by rows) batch
  unfolding value_of
  value_is =
      ap value_of (sym newest_first ∙ sym (append-nil (reverse (listed rows batch))))
      ∙ value_of-reverse key (listed rows batch) [] own tt
      ∙ folded-listed rows batch one

  in_full : merged rows batch pins ≡ reverse (trimmed (version_at m (folded (left_by rows) batch) ∷ []))
  in_full =
      ap (λ ms. reverse (trimmed (kept pins None (reverse ms)))) (sym (in_order_once_law (listed rows batch) (with_all (rows_set rows) batch) (listed_rise key rows batch one of below) (listed_ops rows batch below)))
      ∙ ap (λ ms. reverse (trimmed (kept pins None ms))) newest_first
      ∙ ap (λ vs. reverse (trimmed vs)) (one_kept pins m.key m past none refl (subst (λ k. AreOf k past) (sym own_parts.1.0) (of_reverse key (listed rows older) own_parts.0)))
      ∙ ap (λ value. reverse (trimmed (version_at m value ∷ []))) value_is

  -- where the messages leave a value, the merge leaves it alone, and else nothing
  pub merged_folded : ((value : List ℕ) → folded (left_by rows) (older ++ m ∷ []) ≡ Some value → merged rows (older ++ m ∷ []) pins ≡ version_at m (Some value) ∷ [])
      × (folded (left_by rows) (older ++ m ∷ []) ≡ None → merged rows (older ++ m ∷ []) pins ≡ [])
  merged_folded = (
    λ value e. in_full ∙ ap (λ v. reverse (trimmed (version_at m v ∷ []))) e ∙ some_left m value,
    λ e. in_full ∙ ap (λ v. reverse (trimmed (version_at m v ∷ []))) e ∙ none_left m,
  )

-- What is read is by the rules.
use Rattle.std.proofs.Common.{◌≡◌, ℕ, ◌+◌, ◌≤◌, Bool, true, false, List, [], ◌∷◌, ◌++◌, length, length-append, Option, Some, None, Result, Ok, Err, refl, ap, ◌∙◌, sym, subst, arith, nat_le, codes}
use Rattle.std.specs.Prelude.{ok_or, option_and_then, if◌then◌else◌, ◌||◌, ◌&&◌}
use Rattle.std.specs.List.{AllByRecursion}
use Rattle.std.specs.Option.{unwrap_or}
use Rattle.std.specs.Result.{result_ok, result_unwrap_or}
use Rattle.std.specs.Str.{bytes_eq}
use Rattle.std.specs.Cmp.Lexicographic.{nat_list_eq_equiv}
use Rattle.std.proofs.lemmas.Bool.{leb-true}
use Rattle.std.proofs.lemmas.Bool.{and_parts}
use Rattle.hex.specs.declared.error.FromHexError.{FromHexError}
use Rattle.hex.specs.Hex.{decode_of, decode_sized}
use Rattle.hex.proofs.HexLemmas.{decode_sized-ok, decode_sized-twice, decode_of-ok}
use Rattle.toml.specs.Data.{Data, Items, no_items, item}
use Rattle.toml.specs.Parse.{parse_document}
use Rattle.stow_model.specs.Login.{Entry}
use Rattle.stow_login.specs.declared.tenants_fault.TenantsFault.{TenantsFault}
use Rattle.stow_login.specs.declared.tenants_fault.TenantsFault.TheVariants as fault
use Rattle.stow_model.specs.StowBytes.Limits.{tenant_limit}
use Rattle.stow_login.specs.TenantFile.{◌>>=◌, count, items_in, limited, four_fields, text_at, number_at, is_name, valid_name, is_used, unused_name, short_salt, salt_limit, salt_in, digest_length, digest_in, quota_in, entry_in, entries_after, entries_of, IsByRule, HaveOwnNames, EntriesAreByRule}

-- ---- steps that gave a value

same_ok : {A : Type 0} (x z : A) → ◌≡◌ {A = Result A TenantsFault} (Ok x) (Ok z) → x ≡ z
same_ok x z e = ap (λ (r : Result _ TenantsFault). result_unwrap_or r x) e

bind_ok : {A B : Type 0} (r : Result A TenantsFault) (f : A → Result B TenantsFault) (z : B) → (r >>= f) ≡ Ok z → (x : A) × (r ≡ Ok x) × (f x ≡ Ok z)
bind_ok (Ok x) f z e = (x, refl, e)
bind_ok (Err fault) f z e = absurd (cc)

passed : {A : Type 0} (b : Bool) (x z : A) (fault : TenantsFault) → ◌≡◌ {A = Result A TenantsFault} (if b then Ok x else Err fault) (Ok z) → (b ≡ true) × (x ≡ z)
passed true x z fault e = (refl, same_ok x z e)
passed false x z fault e = absurd (cc)

not_failed : {A : Type 0} (b : Bool) (x z : A) (fault : TenantsFault) → ◌≡◌ {A = Result A TenantsFault} (if b then Err fault else Ok x) (Ok z) → (b ≡ false) × (x ≡ z)
not_failed true x z fault e = absurd (cc)
not_failed false x z fault e = (refl, same_ok x z e)

some_of : {A : Type 0} (o : Option A) (fault : TenantsFault) (z : A) → ok_or o fault ≡ Ok z → o ≡ Some z
some_of None fault z e = absurd (cc)
some_of (Some x) fault z e = ap Some (same_ok x z e)

-- ---- a tenant's fields

short : (o : Option (List ℕ)) (salt : List ℕ) → option_and_then short_salt o ≡ Some salt → length salt ≤ salt_limit
short None salt e = absurd (cc)
short (Some s) salt e = kept (nat_le (length s) salt_limit) refl e where
  kept : (b : Bool) → nat_le (length s) salt_limit ≡ b → ◌≡◌ {A = Option (List ℕ)} (if b then Some s else None) (Some salt) → length salt ≤ salt_limit
  kept true fits e = subst (λ t. length t ≤ salt_limit) (ap (λ o. unwrap_or o s) e) (leb-true (length s) salt_limit fits)
  kept false fits e = absurd (cc)

ok_of : (r : Result (List ℕ) FromHexError) (z : List ℕ) → result_ok r ≡ Some z → r ≡ Ok z
ok_of (Ok x) z e = ap Ok (ap (λ o. unwrap_or o x) e)
ok_of (Err fault) z e = absurd (cc)

whole_digest : (text digest : List ℕ) → digest_in text ≡ Ok digest → length digest ≡ digest_length
whole_digest text digest e =
    let sized = ok_of (decode_sized text digest_length) digest (some_of (result_ok (decode_sized text digest_length)) fault.BadHexadecimal digest e) in
    let digits = decode_sized-ok text digest_length digest sized in
    let whole = decode_of-ok text digest (sym (decode_sized-twice text digest_length digits) ∙ sized) in
    omega (arith, digits, whole.2)

pub entry_ok : (earlier : List Entry) (value : Data) (entry : Entry) → entry_in earlier value ≡ Ok entry → IsByRule entry × (is_used earlier entry.name ≡ false)
entry_ok earlier value entry e =
    let fields = bind_ok (ok_or (four_fields value) fault.WrongShape) _ entry e in
    let name = bind_ok (ok_or (text_at (codes "name") fields.0) fault.WrongShape) _ entry fields.2 in
    let salt_text = bind_ok (ok_or (text_at (codes "salt") fields.0) fault.WrongShape) _ entry name.2 in
    let digest_text = bind_ok (ok_or (text_at (codes "digest") fields.0) fault.WrongShape) _ entry salt_text.2 in
    let number = bind_ok (ok_or (number_at (codes "quota") fields.0) fault.WrongShape) _ entry digest_text.2 in
    let valid = bind_ok (valid_name name.0) _ entry number.2 in
    let unused = bind_ok (unused_name earlier valid.0) _ entry valid.2 in
    let salt = bind_ok (salt_in salt_text.0) _ entry unused.2 in
    let digest = bind_ok (digest_in digest_text.0) _ entry salt.2 in
    let quota = bind_ok (quota_in number.0) _ entry digest.2 in
    let is_valid = passed (is_name name.0) name.0 valid.0 fault.BadName valid.1 in
    let is_unused = not_failed (is_used earlier valid.0) valid.0 unused.0 fault.NameUsed unused.1 in
    let own : is_name unused.0 ≡ true = ap is_name (sym is_unused.1) ∙ ap is_name (sym is_valid.1) ∙ is_valid.0 in
    let free : is_used earlier unused.0 ≡ false = ap (is_used earlier) (sym is_unused.1) ∙ is_unused.0 in
    let fits : length salt.0 ≤ salt_limit = short (result_ok (decode_of salt_text.0)) salt.0 (some_of (option_and_then short_salt (result_ok (decode_of salt_text.0))) fault.BadHexadecimal salt.0 salt.1) in
    let whole : length digest.0 ≡ digest_length = whole_digest digest_text.0 digest.0 digest.1 in
    subst (λ x. IsByRule x × (is_used earlier x.name ≡ false)) (same_ok _ entry quota.2) (record { name = own; salt = fits; digest = whole }, free)

-- ---- one entry more

or_false : (a b : Bool) → (a || b) ≡ false → (a ≡ false) × (b ≡ false)
or_false true b e = absurd (cc)
or_false false b e = (refl, e)

neither : (a b : Bool) → a ≡ false → b ≡ false → (a || b) ≡ false
neither true b e f = e
neither false b e f = f

all_snoc : (entries : List Entry) (x : Entry) → AllByRecursion IsByRule entries → IsByRule x → AllByRecursion IsByRule (entries ++ x ∷ [])
all_snoc [] x all is = (is, tt)
all_snoc (entry ∷ entries) x all is = (all.0, all_snoc entries x all.1 is)

unused_snoc : (entries : List Entry) (x : Entry) (name : List ℕ) → is_used entries name ≡ false → bytes_eq x.name name ≡ false → is_used (entries ++ x ∷ []) name ≡ false
unused_snoc [] x name none other = neither (bytes_eq x.name name) false other refl
unused_snoc (entry ∷ entries) x name none other =
    let parts = or_false (bytes_eq entry.name name) (is_used entries name) none in
    neither (bytes_eq entry.name name) (is_used (entries ++ x ∷ []) name) parts.0 (unused_snoc entries x name parts.1 other)

names_snoc : (entries : List Entry) (x : Entry) → HaveOwnNames entries → is_used entries x.name ≡ false → HaveOwnNames (entries ++ x ∷ [])
names_snoc [] x own none = (refl, tt)
names_snoc (entry ∷ entries) x own none =
    let parts = or_false (bytes_eq entry.name x.name) (is_used entries x.name) none in
    (unused_snoc entries x entry.name own.0 (nat_list_eq_equiv.symm x.name entry.name ∙ parts.0), names_snoc entries x own.1 parts.1)

-- ---- the whole file

entries_ok : (items : Items) (earlier entries : List Entry) → entries_after earlier items ≡ Ok entries → AllByRecursion IsByRule earlier → HaveOwnNames earlier
    → (length entries ≡ length earlier + count items) × AllByRecursion IsByRule entries × HaveOwnNames entries
entries_ok no_items earlier entries e all own =
    subst (λ es. (length es ≡ length earlier + 0) × AllByRecursion IsByRule es × HaveOwnNames es) (same_ok earlier entries e) (omega arith, all, own)
entries_ok (item value items) earlier entries e all own =
    let one = bind_ok (entry_in earlier value) (λ entry. entries_after (earlier ++ entry ∷ []) items) entries e in
    let is = entry_ok earlier value one.0 one.1 in
    let later = entries_ok items (earlier ++ one.0 ∷ []) entries one.2 (all_snoc earlier one.0 all is.0) (names_snoc earlier one.0 own is.1) in
    (omega (arith, later.0, length-append earlier (one.0 ∷ [])), later.1, later.2)

pub entries_are_by_rule_lem : EntriesAreByRule
entries_are_by_rule_lem text entries e =
    let table = bind_ok (ok_or (parse_document text) fault.NotToml) entries_of entries e in
    let items = bind_ok (items_in table.0) (λ items. limited items >>= entries_after []) entries table.2 in
    let tenants = bind_ok (limited items.0) (entries_after []) entries items.2 in
    let some = passed (nat_le 1 (count items.0) && nat_le (count items.0) tenant_limit) items.0 tenants.0 fault.WrongCount tenants.1 in
    let (low, high) = and_parts (nat_le 1 (count items.0)) (nat_le (count items.0) tenant_limit) some.0 in
    let read = entries_ok tenants.0 [] entries tenants.2 tt tt in
    let same : count items.0 ≡ count tenants.0 = ap count some.1 in
    let many : length entries ≡ count items.0 = omega (arith, read.0, same) in
    (subst (λ n. 1 ≤ n) (sym many) (leb-true 1 (count items.0) low), subst (λ n. n ≤ tenant_limit) (sym many) (leb-true (count items.0) tenant_limit high), read.1, read.2)

-- A script's lines.
use Rattle.std.proofs.Common.{◌≡◌, ◌≢◌, ℕ, ◌<◌, ◌≤◌, ◌^◌, true, false, List, [], ◌∷◌, ◌++◌, length, get_or, Option, Some, None, Result, Ok, Err, refl, ap, ◌∙◌, sym, subst, arith}
use Rattle.std.specs.Prelude.{Bool, codes, nat_lt, MatchBool}
use Rattle.std.specs.Borrow.{Bor}
use Rattle.std.specs.List.{All, list_all}
use Rattle.std.specs.Fmt.{decimal}
use Rattle.std.specs.Result.{IsErrAnd}
use Rattle.std.specs.Str.{bytes_eq}
use borrow.Author.Tests.{ltb-true}
use Rattle.std.proofs.lemmas.Bool.{false≢true, and_parts}
use Rattle.std.proofs.lemmas.Fmt.{digits_decimal}
use Rattle.std.proofs.lemmas.List.Elements.{All-head, All-tail, All-nil, All-cons, All-from_get_or}
use Rattle.std.proofs.lemmas.Slice.Eq.{bytes_eq-Decides}
use Rattle.stow_commands.specs.StowBytes.Limits.{number_limit}
use Rattle.stow_login.specs.Entries.{index_named}
use Rattle.stow_commands.specs.StowModel.Login.{Entry}
use Rattle.stow_commands.specs.StowModel.Event.{Event, On, By, SetQuota, Open, Piece, Serve, Close, Plan, Merge, Install, Resize}
use Rattle.stow_script.specs.Text.{StandsFor}
use Rattle.stow_script.specs.declared.script_line.ScriptLine as script_line
use Rattle.stow_script.specs.Script.{Line, AsksFor, AsksForEvent, Asks, Shape, Usage, IsArgument, IsBad, IsConnection, IsField, IsName, IsNumberText, IsSkipped, word_of}
use Rattle.stow_commands.specs.StowModel.declared.event.Event as coded
use Rattle.stow_script.specs.declared.text.TextFault.{TextFault}
use Rattle.stow_script.specs.declared.text.TextFault.TheVariants.{Malformed, Memory}
use Rattle.stow_script.specs.Read.{IsCut, IsEventOf, IsEventRead, IsFault, IsIndexRead, IsLineRead, IsNameRead, IsNoEvent, IsNoName, IsNoNumberText, IsNumberRead, StandsForNone}
use Rattle.stow_script.proofs.Numbers.{own}

-- ---- words without a space

abbrev HasNoSpace : List ℕ → Type 0
HasNoSpace word = All (λ b. b ≢ 32) word

different : (a b : List ℕ) → bytes_eq a b ≡ false → a ≡ b → ⊥
different a b no_match same = false≢true (sym no_match ∙ (bytes_eq-Decides a b).1 same)

letters : (word : List ℕ) → list_all (λ c. nat_lt 32 c) word ≡ true → HasNoSpace word
letters [] h = All-nil (λ b. b ≢ 32)
letters (b ∷ word) h =
    let parts = and_parts (nat_lt 32 b) (list_all (λ c. nat_lt 32 c) word) h in
    let above = ltb-true 32 b parts.0 in
    All-cons (λ c. c ≢ 32) b word (λ same. omega arith) (letters word parts.1)

word_has_no_space : (e : Event) → HasNoSpace (word_of e)
word_has_no_space (On c Open) = letters (codes "open") refl
word_has_no_space (On c (Piece bytes)) = letters (codes "piece") refl
word_has_no_space (On c Serve) = letters (codes "serve") refl
word_has_no_space (On c Close) = letters (codes "close") refl
word_has_no_space (By (Plan f)) = letters (codes "plan") refl
word_has_no_space (By (Merge f)) = letters (codes "merge") refl
word_has_no_space (By (Install f)) = letters (codes "install") refl
word_has_no_space (By (Resize n)) = letters (codes "resize") refl
word_has_no_space (SetQuota tenant quota) = letters (codes "quota") refl

number_has_no_space : (n : ℕ) → n < 2 ^ 64 → HasNoSpace (decimal n)
number_has_no_space n small = All-from_get_or (λ b. b ≢ 32) (decimal n) 0 (λ i lt same. let digit = digits_decimal own n small i lt in omega (arith, digit.0))

-- ---- cuts at the first space

-- two words with no space, each before one, are the same
same_cut : (a b x y : List ℕ) → HasNoSpace a → HasNoSpace b → a ++ 32 ∷ x ≡ b ++ 32 ∷ y → (a ≡ b) × (x ≡ y)
same_cut [] [] x y p q e = let tails : x ≡ y = cc in (refl, tails)
same_cut [] (c ∷ b) x y p q e = let head : c ≡ 32 = cc in absurd (All-head (λ k. k ≢ 32) c b q head)
same_cut (c ∷ a) [] x y p q e = let head : c ≡ 32 = cc in absurd (All-head (λ k. k ≢ 32) c a p head)
same_cut (c ∷ a) (d ∷ b) x y p q e =
    let head : c ≡ d = cc in
    let tails : a ++ 32 ∷ x ≡ b ++ 32 ∷ y = cc in
    let more = same_cut a b x y (All-tail (λ k. k ≢ 32) c a p) (All-tail (λ k. k ≢ 32) d b q) tails in
    ((λ i. head i ∷ more.0 i), more.1)

has_space : (a b y : List ℕ) → HasNoSpace a → a ≡ b ++ 32 ∷ y → ⊥
has_space [] [] y p e = cc e
has_space [] (d ∷ b) y p e = cc e
has_space (c ∷ a) [] y p e = let head : c ≡ 32 = cc in All-head (λ k. k ≢ 32) c a p head
has_space (c ∷ a) (d ∷ b) y p e = let tails : a ≡ b ++ 32 ∷ y = cc in has_space a b y (All-tail (λ k. k ≢ 32) c a p) tails

-- ---- lines

pub not_skipped : (line : List ℕ) → 0 < length line → get_or line 0 0 ≢ 35 → IsSkipped line → ⊥
not_skipped [] some first skipped = absurd (omega arith)
not_skipped (b ∷ line) some first skipped = first skipped

pub asks : (entries : List Entry) (line word : List ℕ) (rest : Bor (List ℕ)) (e : Event) → IsCut 32 line word (Some rest) → IsEventOf entries word rest.now e → AsksForEvent entries line e
asks entries line word rest e cut of = (rest.now, cut.0 ∙ ap (λ w. w ++ 32 ∷ rest.now) of.0, of.1)

pub asks_usage : (entries : List Entry) (line word : List ℕ) (rest : Bor (List ℕ)) (tenant : ℕ) → IsCut 32 line word (Some rest) → word ≡ codes "usage" → IsName entries rest.now tenant → AsksFor entries line (Usage tenant)
asks_usage entries line word rest tenant cut is name = (rest.now, cut.0 ∙ ap (λ w. w ++ 32 ∷ rest.now) is, name)

usage_has_no_space : HasNoSpace (codes "usage")
usage_has_no_space = letters (codes "usage") refl

pub bad_event : (entries : List Entry) (line word : List ℕ) (rest : Bor (List ℕ)) → (IsSkipped line → ⊥) → line ≢ codes "shape" → word ≢ codes "usage" → IsCut 32 line word (Some rest) → IsNoEvent entries word rest.now → IsBad entries line
bad_event entries line word rest asked other unlike cut none = (asked, none_asked) where
  none_asked : (l : Line) → AsksFor entries line l → ⊥
  none_asked (Asks e) h =
      let same = same_cut word (word_of e) rest.now h.0 cut.1 (word_has_no_space e) (sym cut.0 ∙ h.1) in
      none e (same.0, subst (λ t. IsArgument entries t e) (sym same.1) h.2)
  none_asked Shape h = other h
  none_asked (Usage tenant) h = unlike (same_cut word (codes "usage") rest.now h.0 cut.1 usage_has_no_space (sym cut.0 ∙ h.1)).0

pub bad_word : (entries : List Entry) (line word : List ℕ) → (IsSkipped line → ⊥) → line ≢ codes "shape" → IsCut 32 line word None → IsBad entries line
bad_word entries line word asked other cut = (asked, none_asked) where
  none_asked : (l : Line) → AsksFor entries line l → ⊥
  none_asked (Asks e) h = has_space word (word_of e) h.0 cut.1 (sym cut.0 ∙ h.1)
  none_asked Shape h = other h
  none_asked (Usage tenant) h = has_space word (codes "usage") h.0 cut.1 (sym cut.0 ∙ h.1)

-- the word of a usage line begins no event's
not_usage : (e : Event) → word_of e ≡ codes "usage" → ⊥
not_usage (On c Open) same = different (codes "open") (codes "usage") refl same
not_usage (On c (Piece bytes)) same = different (codes "piece") (codes "usage") refl same
not_usage (On c Serve) same = different (codes "serve") (codes "usage") refl same
not_usage (On c Close) same = different (codes "close") (codes "usage") refl same
not_usage (By (Plan f)) same = different (codes "plan") (codes "usage") refl same
not_usage (By (Merge f)) same = different (codes "merge") (codes "usage") refl same
not_usage (By (Install f)) same = different (codes "install") (codes "usage") refl same
not_usage (By (Resize n)) same = different (codes "resize") (codes "usage") refl same
not_usage (SetQuota tenant quota) same = different (codes "quota") (codes "usage") refl same

pub bad_usage : (entries : List Entry) (line word : List ℕ) (rest : Bor (List ℕ)) → (IsSkipped line → ⊥) → line ≢ codes "shape" → word ≡ codes "usage" → IsCut 32 line word (Some rest) → IsNoName entries rest.now → IsBad entries line
bad_usage entries line word rest asked other is cut none = (asked, none_asked) where
  none_asked : (l : Line) → AsksFor entries line l → ⊥
  none_asked (Asks e) h = not_usage e (sym (same_cut word (word_of e) rest.now h.0 cut.1 (word_has_no_space e) (sym cut.0 ∙ h.1)).0 ∙ is)
  none_asked Shape h = other h
  none_asked (Usage tenant) h =
      let same = same_cut word (codes "usage") rest.now h.0 cut.1 usage_has_no_space (sym cut.0 ∙ h.1) in
      none tenant (subst (λ t. IsName entries t tenant) (sym same.1) h.2)

-- ---- names

pub a_name : (entries : List Entry) (text name : List ℕ) (tenant : ℕ) → IsCut 32 text name None → index_named entries name ≡ Some tenant → IsName entries text tenant
a_name entries text name tenant cut is = (subst HasNoSpace (sym cut.0) cut.1, ap (index_named entries) cut.0 ∙ is)

none_some : (t : ℕ) → ◌≡◌ {A = Option ℕ} None (Some t) → ⊥
none_some t e = cc e

pub unnamed : (entries : List Entry) (text name : List ℕ) → IsCut 32 text name None → index_named entries name ≡ None → IsNoName entries text
unnamed entries text name cut none tenant h = none_some tenant (sym none ∙ sym (ap (index_named entries) cut.0) ∙ h.1)

pub two_fields : (entries : List Entry) (text first : List ℕ) (rest : Bor (List ℕ)) → IsCut 32 text first (Some rest) → IsNoName entries text
two_fields entries text first rest cut tenant h = has_space text first rest.now h.0 cut.0

-- what a test that held says
pub of_same : (P Q : Type 0) (b : Bool) → b ≡ true → MatchBool b P Q → P
of_same P Q true is h = h
of_same P Q false is h = absurd (false≢true is)

-- what a test that failed says
pub of_other : (P Q : Type 0) (b : Bool) → b ≡ false → MatchBool b P Q → Q
of_other P Q true is h = absurd (false≢true (sym is))
of_other P Q false is h = h

-- ---- pieces

-- what an event is whose word is that of a piece
piece_only : (entries : List Entry) (rest : List ℕ) (e : Event) → IsEventOf entries (codes "piece") rest e → (number : List ℕ) × (text : List ℕ) × (c : ℕ) × (bytes : List ℕ) × (rest ≡ number ++ 32 ∷ text) × IsConnection number c × StandsFor text bytes
piece_only entries rest (On c (Piece bytes)) h = (h.1.0, h.1.1, c, bytes, h.1.2, h.1.3, h.1.4)
piece_only entries rest (On c Open) h = absurd (different (codes "piece") (codes "open") refl h.0)
piece_only entries rest (On c Serve) h = absurd (different (codes "piece") (codes "serve") refl h.0)
piece_only entries rest (On c Close) h = absurd (different (codes "piece") (codes "close") refl h.0)
piece_only entries rest (By (Plan f)) h = absurd (different (codes "piece") (codes "plan") refl h.0)
piece_only entries rest (By (Merge f)) h = absurd (different (codes "piece") (codes "merge") refl h.0)
piece_only entries rest (By (Install f)) h = absurd (different (codes "piece") (codes "install") refl h.0)
piece_only entries rest (By (Resize n)) h = absurd (different (codes "piece") (codes "resize") refl h.0)
piece_only entries rest (SetQuota tenant quota) h = absurd (different (codes "piece") (codes "quota") refl h.0)

pub no_text : (entries : List Entry) (rest number : List ℕ) → IsCut 32 rest number None → IsNoEvent entries (codes "piece") rest
no_text entries rest number cut e h = let p = piece_only entries rest e h in has_space number p.0 p.1 cut.1 (sym cut.0 ∙ p.4)

connection_has_no_space : (number : List ℕ) (c : ℕ) → IsConnection number c → HasNoSpace number
connection_has_no_space number c is = let few : c ≤ 65535 = is.1 in subst HasNoSpace (sym is.2) (number_has_no_space c (omega arith))

pub bad_connection : (entries : List Entry) (rest number : List ℕ) (text : Bor (List ℕ)) → IsCut 32 rest number (Some text) → IsNoNumberText 1 65535 number → IsNoEvent entries (codes "piece") rest
bad_connection entries rest number text cut none e h =
    let p = piece_only entries rest e h in
    let same = same_cut number p.0 text.now p.1 cut.1 (connection_has_no_space p.0 p.2 p.5) (sym cut.0 ∙ p.4) in
    none p.2 (subst (λ t. IsConnection t p.2) (sym same.0) p.5)

pub bad_text : (entries : List Entry) (rest number : List ℕ) (text : Bor (List ℕ)) → IsCut 32 rest number (Some text) → StandsForNone text.now → IsNoEvent entries (codes "piece") rest
bad_text entries rest number text cut none e h =
    let p = piece_only entries rest e h in
    let same = same_cut number p.0 text.now p.1 cut.1 (connection_has_no_space p.0 p.2 p.5) (sym cut.0 ∙ p.4) in
    none p.3 (subst (λ t. StandsFor t p.3) (sym same.1) p.6)

-- ---- quotas

-- what an event is whose word is that of a quota
quota_only : (entries : List Entry) (rest : List ℕ) (e : Event) → IsEventOf entries (codes "quota") rest e → (name : List ℕ) × (number : List ℕ) × (tenant : ℕ) × (quota : ℕ) × (rest ≡ name ++ 32 ∷ number) × IsName entries name tenant × IsNumberText 0 number_limit number quota
quota_only entries rest (SetQuota tenant quota) h = (h.1.0, h.1.1, tenant, quota, h.1.2, h.1.3, h.1.4)
quota_only entries rest (On c Open) h = absurd (different (codes "quota") (codes "open") refl h.0)
quota_only entries rest (On c (Piece bytes)) h = absurd (different (codes "quota") (codes "piece") refl h.0)
quota_only entries rest (On c Serve) h = absurd (different (codes "quota") (codes "serve") refl h.0)
quota_only entries rest (On c Close) h = absurd (different (codes "quota") (codes "close") refl h.0)
quota_only entries rest (By (Plan f)) h = absurd (different (codes "quota") (codes "plan") refl h.0)
quota_only entries rest (By (Merge f)) h = absurd (different (codes "quota") (codes "merge") refl h.0)
quota_only entries rest (By (Install f)) h = absurd (different (codes "quota") (codes "install") refl h.0)
quota_only entries rest (By (Resize n)) h = absurd (different (codes "quota") (codes "resize") refl h.0)

pub no_number_text : (entries : List Entry) (rest name : List ℕ) → IsCut 32 rest name None → IsNoEvent entries (codes "quota") rest
no_number_text entries rest name cut e h = let q = quota_only entries rest e h in has_space name q.0 q.1 cut.1 (sym cut.0 ∙ q.4)

pub bad_name : (entries : List Entry) (rest name : List ℕ) (text : Bor (List ℕ)) → IsCut 32 rest name (Some text) → index_named entries name ≡ None → IsNoEvent entries (codes "quota") rest
bad_name entries rest name text cut none e h =
    let q = quota_only entries rest e h in
    let same = same_cut name q.0 text.now q.1 cut.1 q.5.0 (sym cut.0 ∙ q.4) in
    none_some q.2 (sym none ∙ ap (index_named entries) same.0 ∙ q.5.1)

pub bad_quota : (entries : List Entry) (rest name : List ℕ) (text : Bor (List ℕ)) → IsCut 32 rest name (Some text) → IsNoNumberText 0 number_limit text.now → IsNoEvent entries (codes "quota") rest
bad_quota entries rest name text cut none e h =
    let q = quota_only entries rest e h in
    let same = same_cut name q.0 text.now q.1 cut.1 q.5.0 (sym cut.0 ∙ q.4) in
    none q.3 (subst (λ t. IsNumberText 0 number_limit t q.3) (sym same.1) q.6)

pub a_quota : (entries : List Entry) (rest name : List ℕ) (text : Bor (List ℕ)) (tenant quota : ℕ) → IsCut 32 rest name (Some text) → index_named entries name ≡ Some tenant → IsNumberText 0 number_limit text.now quota → IsEventOf entries (codes "quota") rest (SetQuota tenant quota)
a_quota entries rest name text tenant quota cut is number = (refl, (name, text.now, cut.0, (cut.1, is), number))

-- ---- faults

-- a fault that says this says also what follows from it
pub fault_so : (P Q : Type 0) (fault : TextFault) → (P → Q) → IsFault P fault → IsFault Q fault
fault_so P Q (Malformed at) so h = so h
fault_so P Q Memory so h = tt

pub number_fault : (low high : ℕ) (text : List ℕ) (fault : TextFault) → IsNumberRead low high text (Err fault) → IsFault (IsNoNumberText low high text) fault
number_fault low high text (Malformed at) h = h
number_fault low high text Memory h = absurd h

pub index_fault : (entries : List Entry) (text : List ℕ) (fault : TextFault) → IsIndexRead entries text (Err fault) → IsFault (index_named entries text ≡ None) fault
index_fault entries text (Malformed at) h = h
index_fault entries text Memory h = absurd h

pub name_fault : (entries : List Entry) (text : List ℕ) (fault : TextFault) → IsNameRead entries text (Err fault) → IsFault (IsNoName entries text) fault
name_fault entries text (Malformed at) h = h
name_fault entries text Memory h = absurd h

-- the tenant of a name that is the whole text
pub name_read : (entries : List Entry) (text name : List ℕ) (r : Result ℕ TextFault) → IsCut 32 text name None → IsIndexRead entries name r → IsNameRead entries text r
name_read entries text name (Ok tenant) cut h = a_name entries text name tenant cut h
name_read entries text name (Err (Malformed at)) cut h = unnamed entries text name cut h
name_read entries text name (Err Memory) cut h = h

pub event_fault : {A : Type 0} (entries : List Entry) (word rest : List ℕ) (r : Result (coded.Event A) TextFault) (fault : TextFault) → IsErrAnd r (λ f. f ≡ fault) → IsFault (IsNoEvent entries word rest) fault → IsEventRead entries word rest r
event_fault entries word rest (Ok e) fault is h = absurd is
event_fault entries word rest (Err f) fault is h = subst (IsFault (IsNoEvent entries word rest)) (sym is) h

pub line_fault : {A : Type 0} (entries : List Entry) (line : List ℕ) (r : Result (Option (script_line.ScriptLine A)) TextFault) (fault : TextFault) → IsErrAnd r (λ f. f ≡ fault) → IsFault (IsBad entries line) fault → IsLineRead entries line r
line_fault entries line (Ok e) fault is h = absurd is
line_fault entries line (Err f) fault is h = subst (IsFault (IsBad entries line)) (sym is) h

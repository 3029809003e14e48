-- The way down to a leaf, and what a range finds on it.
use Rattle.std.proofs.Common.{◌≡◌, ℕ, zero, suc, ◌+◌, ◌<◌, ◌≤◌, Bool, true, false, cond, List, [], ◌∷◌, ◌++◌, length, drop, get_or, set, map, Option, Some, None, refl, ap, ◌∙◌, ◌≢◌, sym, subst, arith, ⊎_elim, inl, inr}
use Rattle.std.specs.Prelude.{IsSome, IfSome, not}
use Rattle.std.specs.List.{AllByRecursion}
use Rattle.std.proofs.lemmas.List.{at_drop_more, map-append}
use Rattle.stow_tree_model.specs.Merged.{row_message, same_key}
use Rattle.stow_tree_model.specs.Messages.{ops_in}
use Rattle.stow_tree_model.specs.Op.{Op}
use Rattle.stow_tree_model.specs.Operations.{Operations, latest, or_else, over}
use Rattle.stow_tree_model.specs.Version.{Version}
use Rattle.stow_tree_model.specs.declared.tenant_key.TenantKey.{TenantKey}
use Rattle.stow_tree_model.proofs.Histories.{latest_none}
use Rattle.stow_tree_model.proofs.Latest.{latest_same}
use Rattle.stow_tree_model.proofs.Orders.{key_cases}
use Rattle.stow_node.specs.StowLeaf.Intervals.{top_key, spans}
use Rattle.stow_node.specs.StowLeaf.LeafRows.{row_messages}
use Rattle.stow_node.specs.StowLeaf.declared.leaf.Leaf.{Leaf}
use Rattle.stow_node.proofs.StowLeaf.Found.{none_or, none_some, or_none}
use Rattle.stow_node.proofs.StowLeaf.Intervals.{lt, by_test, lt_self, lt_not, lt_trans, lt_le, at_most, spanned, span_low, span_high}
use Rattle.stow_node.proofs.StowLeaf.Ops.{ops-append}
use Rattle.stow_node.specs.StowMessage.MessageBuf.{MessageList}
use Rattle.stow_node.specs.declared.child.Child.{Child}
use Rattle.stow_node.specs.declared.child.Child.TheVariants as in_child
use Rattle.stow_node.specs.Nodes.{AreChildren}
use Rattle.stow_node.specs.Subtree.{Subtree, messages_of}
use Rattle.stow_read.specs.Descent.{LeadsDown, LeadsAllTo}
use Rattle.stow_read.specs.NextKey.{HaveNone, IsNextKey}
use Rattle.stow_read.specs.Suffixes.{SuffixList, IsAbove, Carries, continued, looked}
use Rattle.stow_read.specs.Way.{key_in, is_next, lower_key, lower_next, least_of, AreNext, buffers_of, ops_down, NewerDown, HaveAll, row_ops, way_ops, IsSameWay, WayStandsAt, IsAt, IsNextTold, IsReadyFor}
use Rattle.stow_read.specs.declared.level.Level.{Level}
use Rattle.stow_read.specs.declared.suffixes.Look.{Look}
use Rattle.stow_read.specs.declared.suffixes.Look.TheVariants as in_look
use Rattle.stow_read.specs.declared.way.Way.{Way}
use Rattle.stow_read.proofs.NextBelow.{own_next, below_next, none_right}
use Rattle.stow_read.proofs.NextKeys.{apart, not_is}
use Rattle.stow_read.proofs.Walked.{ops_over}

-- ---- the lowest of the next keys

-- the lower one of two next keys is the next one of both
next_over : (own rest all : List ℕ → Operations) (start : List ℕ) (after : Bool) (to : List ℕ) (a b : Option (List ℕ)) → ((key : List ℕ) (n : ℕ) → all key n ≡ or_else (own key n) (rest key n)) → IsNextKey own start after to a → IsNextKey rest start after to b → IsNextKey all start after to (lower_next a b)
next_over own rest all start after to None None same none low = own_next own rest all start after to to None same none refl low
next_over own rest all start after to None (Some k) same none low = below_next own rest all start after to to None k same none refl low
next_over own rest all start after to (Some j) None same next none = own_next own rest all start after to j (Some j) same next refl (λ key f l n. none key f (lt_trans key j to l next.below) n)
next_over own rest all start after to (Some j) (Some k) same next low = step (lt k j) refl where
  step : (b : Bool) → lt k j ≡ b → IsNextKey all start after to (Some (cond b k j))
  step true e = below_next own rest all start after to j (Some j) k same next refl (record { from = low.from; below = e; number = low.number; there = low.there; none = low.none })
  step false e = own_next own rest all start after to j (Some j) same next refl (λ key f l n. low.none key f (lt_le key j k l e) n)

-- the lowest of the levels' next keys and the rows' is the next one of all
pub least_next : {A : Type 0} (levels : List (Level A)) (rows : List ℕ → Operations) (start : List ℕ) (after : Bool) (to : List ℕ) (row : Option (List ℕ)) → AreNext start after to levels → IsNextKey rows start after to row
    → IsNextKey (λ key. ops_down key (buffers_of levels) (rows key)) start after to (least_of levels row)
least_next [] rows start after to row are is = is
least_next (l ∷ ls) rows start after to row are is =
    next_over (ops_in l.buffer.now.messages) (λ key. ops_down key (buffers_of ls) (rows key)) (λ key. over (ops_in l.buffer.now.messages key) (ops_down key (buffers_of ls) (rows key))) start after to (key_in l.next) (least_of ls row) (λ key n. refl) are.0
    (least_next ls rows start after to row are.1 is)

-- ---- from key to key

none_left : (a b : Option Op) → or_else a b ≡ None → a ≡ None
none_left None b e = refl
none_left (Some op) b e = absurd cc

-- the next key behind one that is gone over, where there is nothing before this one
settled : (ops : List ℕ → Operations) (start to : List ℕ) (next : Option (List ℕ)) (k : List ℕ) → IsNextKey ops start true to next → lt start k ≡ true → HaveNone ops start true k → IsNextKey ops k false to next
settled ops start to None k none l clear = λ key f below n. none key (lt_le start k key l (not_is (lt key k) f)) below n
settled ops start to (Some j) k low l clear = record {
  from = ap not (by_test (lt j k) (λ e. absurd (none_some (ops j low.number) (clear j low.from e low.number) low.there)) (λ e. e));
  below = low.below;
  number = low.number;
  there = low.there;
  none = λ key f below n. low.none key (lt_le start k key l (not_is (lt key k) f)) below n;
}

all_settled : {A : Type 0} (levels : List (Level A)) (rows : List ℕ → Operations) (start to k : List ℕ) (row : Option (List ℕ)) → AreNext start true to levels → IsNextKey rows start true to row → lt start k ≡ true → HaveNone (λ key. ops_down key (buffers_of levels) (rows key)) start true k
    → AreNext k false to levels × IsNextKey rows k false to row
all_settled [] rows start to k row are is l clear = (tt, settled rows start to row k is l clear)
all_settled (x ∷ xs) rows start to k row are is l clear =
    let lower = all_settled xs rows start to k row are.1 is l (λ key f b n. none_right (ops_in x.buffer.now.messages key n) (ops_down key (buffers_of xs) (rows key) n) (clear key f b n)) in (
      (
        settled (ops_in x.buffer.now.messages) start to (key_in x.next) k are.0 l (λ key f b n. none_left (ops_in x.buffer.now.messages key n) (ops_down key (buffers_of xs) (rows key) n) (clear key f b n)),
        lower.0,
      ),
      lower.1,
    )

-- the way stands at the key that is found
stands_at : {A : Type 0} (way : Way A) (start to k : List ℕ) → AreNext start true to way.levels.items → IsNextKey (row_ops way) start true to (key_in way.next_row) → IsNextKey (way_ops way) start true to (Some k) → WayStandsAt way k to
stands_at way start to k are is low =
    let both = all_settled way.levels.items (row_ops way) start to k (key_in way.next_row) are is low.from low.none in
    record { levels = both.0; row = both.1 }

pub stands_where : {A : Type 0} (way : Way A) (start to : List ℕ) (next : Option TenantKey) → AreNext start true to way.levels.items → IsNextKey (row_ops way) start true to (key_in way.next_row) → IsNextKey (way_ops way) start true to (key_in next) → IfSome next (λ k. WayStandsAt way k.bytes.now to)
stands_where way start to None are is none = tt
stands_where way start to (Some k) are is low = stands_at way start to k.bytes.now are is low

own_key : (k : List ℕ) → same_key k k ≡ true
own_key k = ⊎_elim
    (λ (h : (k ≡ k) × (same_key k k ≡ true)). h.1)
    (λ (h : (k ≢ k) × (same_key k k ≡ false)). absurd (h.0 refl))
    (key_cases k k)

-- a next key that isn't this one is the next one behind it
pub passed : (ops : List ℕ → Operations) (key to : List ℕ) (next : Option (List ℕ)) → IsNextKey ops key false to next → is_next next key ≡ false → IsNextKey ops key true to next
passed ops key to None none e = λ other f b n. none other (ap not (lt_not key other f)) b n
passed ops key to (Some j) low e = record {
  from = ⊎_elim
      (λ (h : key ≡ j). apart (ap (same_key j) h ∙ own_key j) e)
      (λ (h : lt key j ≡ true). h)
      (at_most key j (not_is (lt j key) low.from));
  below = low.below;
  number = low.number;
  there = low.there;
  none = λ other f b n. low.none other (ap not (lt_not key other f)) b n;
}

-- the levels before the place have passed the key
abbrev pub HavePassed : {A : Type 0} → List ℕ → List ℕ → ℕ → List (Level A) → Type 0
HavePassed key to zero levels = AreNext key false to levels
HavePassed key to (suc i) [] = Unit {0}
HavePassed key to (suc i) (l ∷ ls) = IsNextKey (ops_in l.buffer.now.messages) key true to (key_in l.next) × HavePassed key to i ls

pub record ArePassing {A : Type 0} (key to : List ℕ) (i : ℕ) (old now : List (Level A)) : Type 0 where
  pub buffers : buffers_of now ≡ buffers_of old
  pub count : length now ≡ length old
  pub so_far : HavePassed key to i now

pub standing : {A : Type 0} (key to : List ℕ) (i : ℕ) (levels : List (Level A)) (l : Level A) → i < length levels → l ≡ get_or levels i l → HavePassed key to i levels → IsNextKey (ops_in l.buffer.now.messages) key false to (key_in l.next)
standing key to i [] l h e p = absurd (omega arith)
standing key to zero (x ∷ xs) l h e p = subst (λ y. IsNextKey (ops_in y.buffer.now.messages) key false to (key_in y.next)) (sym e) p.0
standing key to (suc i) (x ∷ xs) l h e p = standing key to i xs l (omega arith) e p.1

kept : {A : Type 0} (key to : List ℕ) (i : ℕ) (levels : List (Level A)) (l : Level A) → i < length levels → l ≡ get_or levels i l → HavePassed key to i levels → IsNextKey (ops_in l.buffer.now.messages) key true to (key_in l.next) → HavePassed key to (suc i) levels
kept key to i [] l h e p is = absurd (omega arith)
kept key to zero (x ∷ xs) l h e p is = (subst (λ y. IsNextKey (ops_in y.buffer.now.messages) key true to (key_in y.next)) e is, p.1)
kept key to (suc i) (x ∷ xs) l h e p is = (p.0, kept key to i xs l (omega arith) e p.1 is)

placed : {A : Type 0} (key to : List ℕ) (i : ℕ) (levels : List (Level A)) (l : Level A) → i < length levels → HavePassed key to i levels → IsNextKey (ops_in l.buffer.now.messages) key true to (key_in l.next) → HavePassed key to (suc i) (set levels i l)
placed key to i [] l h p is = absurd (omega arith)
placed key to zero (x ∷ xs) l h p is = (is, p.1)
placed key to (suc i) (x ∷ xs) l h p is = (p.0, placed key to i xs l (omega arith) p.1 is)

all_passed : {A : Type 0} (key to : List ℕ) (i : ℕ) (levels : List (Level A)) → length levels ≤ i → HavePassed key to i levels → AreNext key true to levels
all_passed key to zero [] h p = tt
all_passed key to (suc i) [] h p = tt
all_passed key to zero (x ∷ xs) h p = absurd (omega arith)
all_passed key to (suc i) (x ∷ xs) h p = (p.0, all_passed key to i xs (omega arith) p.1)

same_buffers : {A : Type 0} (i : ℕ) (levels : List (Level A)) (l x : Level A) → i < length levels → x ≡ get_or levels i x → l.buffer.now ≡ x.buffer.now → buffers_of (set levels i l) ≡ buffers_of levels
same_buffers i [] l x h e b = absurd (omega arith)
same_buffers zero (y ∷ ys) l x h e b = ap (λ m. m ∷ buffers_of ys) (b ∙ ap (λ z. z.buffer.now) e)
same_buffers (suc i) (y ∷ ys) l x h e b = ap (λ ms. y.buffer.now ∷ ms) (same_buffers i ys l x (omega arith) e b)

same_count : {X : Type 0} (i : ℕ) (xs : List X) (x : X) → length (set xs i x) ≡ length xs
same_count i [] x = refl
same_count zero (y ∷ ys) x = refl
same_count (suc i) (y ∷ ys) x = ap suc (same_count i ys x)

pub passing_first : {A : Type 0} (key to : List ℕ) (levels : List (Level A)) → AreNext key false to levels → ArePassing key to 0 levels levels
passing_first key to levels are = record { buffers = refl; count = refl; so_far = are }

-- a level that has none of the key stays
pub passing_kept : {A : Type 0} (key to : List ℕ) (i : ℕ) (old now : List (Level A)) (l : Level A) → i < length now → l ≡ get_or now i l → ArePassing key to i old now → is_next (key_in l.next) key ≡ false → ArePassing key to (i + 1) old now
passing_kept key to i old now l h e p t = record {
  buffers = p.buffers;
  count = p.count;
  so_far = subst (λ k. HavePassed key to k now) (let more : suc i ≡ i + 1 = omega arith in more)
      (kept key to i now l h e p.so_far (passed (ops_in l.buffer.now.messages) key to (key_in l.next) (standing key to i now l h e p.so_far) t));
}

-- a level whose next key it is goes on
pub passing_on : {A : Type 0} (key to : List ℕ) (i : ℕ) (old now : List (Level A)) (x l : Level A) → i < length now → x ≡ get_or now i x → ArePassing key to i old now → l.buffer.now ≡ x.buffer.now → IsNextKey (ops_in l.buffer.now.messages) key true to (key_in l.next) → ArePassing key to (i + 1) old (set now i l)
passing_on key to i old now x l h e p b is = record {
  buffers = same_buffers i now l x h e b ∙ p.buffers;
  count = same_count i now l ∙ p.count;
  so_far = subst (λ k. HavePassed key to k (set now i l)) (let more : suc i ≡ i + 1 = omega arith in more) (placed key to i now l h p.so_far is);
}

pub passing_done : {A : Type 0} (key to : List ℕ) (i : ℕ) (old now : List (Level A)) → length now ≤ i → ArePassing key to i old now → AreNext key true to now
passing_done key to i old now h p = all_passed key to i now h p.so_far

-- ---- what stands at the key

told_of : (ops : List ℕ → Operations) (key to : List ℕ) (next : Option (List ℕ)) → IsNextKey ops key false to next → lt key to ≡ true → IsNextTold (ops key) next key
told_of ops key to None none l = inr (λ n. none key (ap not (lt_self key)) l n)
told_of ops key to (Some j) low l = ⊎_elim
    (λ (h : key ≡ j). inl (ap (same_key j) h ∙ own_key j))
    (λ (h : lt key j ≡ true). inr (λ n. low.none key (ap not (lt_self key)) h n))
    (at_most key j (not_is (lt j key) low.from))

all_told : {A : Type 0} (levels : List (Level A)) (key to : List ℕ) → AreNext key false to levels → lt key to ≡ true → AllByRecursion (λ (l : Level A). IsNextTold (ops_in l.buffer.now.messages key) (key_in l.next) key) levels
all_told [] key to are l = tt
all_told (x ∷ xs) key to are l = (told_of (ops_in x.buffer.now.messages) key to (key_in x.next) are.0 l, all_told xs key to are.1 l)

has_own : {A : Type 0} (t : Subtree) (way : Way A) (key to : List ℕ) → IsAt t way key to → HaveAll t key (buffers_of way.levels.items) (row_ops way key)
has_own t way key to at = at.all key (spanned key way.end.bytes.now key (lt_self key) at.inside)

pub ready_for : {A : Type 0} (t : Subtree) (way : Way A) (key to : List ℕ) → IsAt t way key to → lt key to ≡ true → IsReadyFor way key
ready_for t way key to at l = record {
  levels = all_told way.levels.items key to at.stands.levels l;
  row = told_of (row_ops way) key to (key_in way.next_row) at.stands.row l;
  newer = (has_own t way key to at).newer;
}

-- the way tells what the node has of the key
pub told_by_way : {A : Type 0} (t : Subtree) (way : Way A) (key to : List ℕ) (at : ℕ) → IsAt t way key to → latest (way_ops way key) at ≡ latest (ops_in (messages_of t) key) at
told_by_way t way key to at is = latest_same (way_ops way key) (ops_in (messages_of t) key) at (λ n l. sym ((has_own t way key to is).messages n))

-- all of it
pub all_by_way : {A : Type 0} (t : Subtree) (way : Way A) (key to : List ℕ) → IsAt t way key to → way_ops way key ≡ ops_in (messages_of t) key
all_by_way t way key to is = λ i n. sym ((has_own t way key to is).messages n) i

-- the levels before the place have been looked at
pub record IsLookedDown {A : Type 0} (levels : List (Level A)) (rows : Operations) (key : List ℕ) (at i : ℕ) (old now : SuffixList) : Type 0 where
  pub so_far : continued old (latest (ops_down key (buffers_of levels) rows) at) ≡ continued now (latest (ops_down key (buffers_of (drop i levels)) rows) at)
  pub told : AllByRecursion (λ (l : Level A). IsNextTold (ops_in l.buffer.now.messages key) (key_in l.next) key) (drop i levels)
  pub newer : NewerDown key (buffers_of (drop i levels)) rows

pub down_first : {A : Type 0} (way : Way A) (key : List ℕ) (at : ℕ) (old : SuffixList) → IsReadyFor way key → IsLookedDown way.levels.items (row_ops way key) key at 0 old old
down_first way key at old ready = record { so_far = refl; told = ready.levels; newer = ready.newer }

-- what is left begins with the level at the place
left : {A : Type 0} (levels : List (Level A)) (i : ℕ) (l : Level A) → i < length levels → l ≡ get_or levels i l → drop i levels ≡ l ∷ drop (i + 1) levels
left levels i l h e = at_drop_more (λ xs. xs) levels i l h ∙ ap (λ x. x ∷ drop (i + 1) levels) (sym e)

-- a look at the level at the place
pub down_look : {A : Type 0} (levels : List (Level A)) (rows : Operations) (key : List ℕ) (at i : ℕ) (old before now : SuffixList) (l : Level A) (look : Look) → i < length levels → l ≡ get_or levels i l → IsLookedDown levels rows key at i old before → Carries (ops_in l.buffer.now.messages key) at before now look
    → continued old (latest (ops_down key (buffers_of levels) rows) at) ≡ looked look now (latest (ops_down key (buffers_of (drop (i + 1) levels)) rows) at)
down_look levels rows key at i old before now l look h e d carries =
    d.so_far
    ∙ ap (λ ls. continued before (latest (ops_down key (buffers_of ls) rows) at)) (left levels i l h e)
    ∙ carries (ops_down key (buffers_of (drop (i + 1) levels)) rows) (subst (λ ls. NewerDown key (buffers_of ls) rows) (left levels i l h e) d.newer).0

pub down_on : {A : Type 0} (levels : List (Level A)) (rows : Operations) (key : List ℕ) (at i : ℕ) (old before now : SuffixList) (l : Level A) (look : Look) → i < length levels → l ≡ get_or levels i l → IsLookedDown levels rows key at i old before → Carries (ops_in l.buffer.now.messages key) at before now look → look ≡ in_look.Deeper
    → IsLookedDown levels rows key at (i + 1) old now
down_on {A} levels rows key at i old before now l look h e d carries deeper = record {
  so_far = down_look levels rows key at i old before now l look h e d carries
      ∙ ap (λ x. looked x now (latest (ops_down key (buffers_of (drop (i + 1) levels)) rows) at)) deeper;
  told = (subst (AllByRecursion (λ (x : Level A). IsNextTold (ops_in x.buffer.now.messages key) (key_in x.next) key)) (left levels i l h e) d.told).1;
  newer = (subst (λ ls. NewerDown key (buffers_of ls) rows) (left levels i l h e) d.newer).1;
}

-- a level that has none of the key
pub down_past : {A : Type 0} (levels : List (Level A)) (rows : Operations) (key : List ℕ) (at i : ℕ) (old now : SuffixList) (l : Level A) → i < length levels → l ≡ get_or levels i l → IsLookedDown levels rows key at i old now → is_next (key_in l.next) key ≡ false → IsLookedDown levels rows key at (i + 1) old now
down_past {A} levels rows key at i old now l h e d t = record {
  so_far = d.so_far
      ∙ ap (λ ls. continued now (latest (ops_down key (buffers_of ls) rows) at)) (left levels i l h e)
      ∙ ap (continued now) (latest_same (over (ops_in l.buffer.now.messages key) (ops_down key (buffers_of (drop (i + 1) levels)) rows)) (ops_down key (buffers_of (drop (i + 1) levels)) rows) at
      (λ n b. none_or (ops_in l.buffer.now.messages key n) (ops_down key (buffers_of (drop (i + 1) levels)) rows n) (none n)));
  told = tells.1;
  newer = (subst (λ ls. NewerDown key (buffers_of ls) rows) (left levels i l h e) d.newer).1;
}
  where
    tells : AllByRecursion (λ (x : Level A). IsNextTold (ops_in x.buffer.now.messages key) (key_in x.next) key) (l ∷ drop (i + 1) levels)
    tells = subst (AllByRecursion (λ (x : Level A). IsNextTold (ops_in x.buffer.now.messages key) (key_in x.next) key)) (left levels i l h e) d.told

    none : (n : ℕ) → ops_in l.buffer.now.messages key n ≡ None
    none n = ⊎_elim
        (λ (h : is_next (key_in l.next) key ≡ true). apart h t)
        (λ (h : (k : ℕ) → ops_in l.buffer.now.messages key k ≡ None). h n)
        tells.0

-- the rows have the rest
pub down_rows : {A : Type 0} (levels : List (Level A)) (rows : Operations) (key : List ℕ) (at i : ℕ) (old now : SuffixList) → length levels ≤ i → IsLookedDown levels rows key at i old now → continued old (latest (ops_down key (buffers_of levels) rows) at) ≡ continued now (latest rows at)
down_rows {A} levels rows key at i old now h d = d.so_far ∙ ap (λ (ls : List (Level A)). continued now (latest (ops_down key (buffers_of ls) rows) at)) (nothing levels i h) where
  nothing : (xs : List (Level A)) (k : ℕ) → length xs ≤ k → drop k xs ≡ []
  nothing [] zero h = refl
  nothing [] (suc k) h = refl
  nothing (x ∷ xs) zero h = absurd (omega arith)
  nothing (x ∷ xs) (suc k) h = nothing xs k (omega arith)

-- rows that have none of the key
pub no_rows : (rows : Operations) (next : Option (List ℕ)) (key : List ℕ) (at : ℕ) → IsNextTold rows next key → is_next next key ≡ false → latest rows at ≡ None
no_rows rows next key at told t = ⊎_elim
    (λ (h : is_next next key ≡ true). apart h t)
    (λ (h : (n : ℕ) → rows n ≡ None). latest_none rows at (λ n l. h n))
    told

-- ---- on to the next key of the leaf

all_same : {A : Type 0} (t : Subtree) (old new : Way A) (key to : List ℕ) (x : List ℕ) → IsAt t old key to → IsSameWay old new → spans key new.end.bytes.now x ≡ true → HaveAll t x (buffers_of new.levels.items) (row_ops new x)
all_same t old new key to x at same s =
    subst (λ bs. HaveAll t x bs (row_ops new x)) (sym same.buffers)
    (subst (λ (rows : List Version). HaveAll t x (buffers_of old.levels.items) (ops_in (map row_message rows) x)) (sym same.rows)
    (at.all x (ap (λ end. spans key end x) (sym same.end) ∙ s)))

-- the way's next key is the node's
pub next_on_way : {A : Type 0} (t : Subtree) (old new : Way A) (key to k : List ℕ) → IsAt t old key to → IsSameWay old new → IsNextKey (way_ops new) key true to (Some k) → lt k new.end.bytes.now ≡ true → IsNextKey (ops_in (messages_of t)) key true to (Some k)
next_on_way t old new key to k at same low h = record {
  from = low.from;
  below = low.below;
  number = low.number;
  there = subst IsSome (sym ((has k low.from h).messages low.number)) low.there;
  none = λ x f b n. (has x f (lt_trans x k new.end.bytes.now b h)).messages n ∙ low.none x f b n;
}
  where
    has : (x : List ℕ) → lt key x ≡ true → lt x new.end.bytes.now ≡ true → HaveAll t x (buffers_of new.levels.items) (row_ops new x)
    has x f l = all_same t old new key to x at same (spanned key new.end.bytes.now x (lt_not key x f) l)

pub at_next : {A : Type 0} (t : Subtree) (old new : Way A) (key to k : List ℕ) → IsAt t old key to → IsSameWay old new → lt key k ≡ true → lt k new.end.bytes.now ≡ true → WayStandsAt new k to → IsAt t new k to
at_next t old new key to k at same f h stands = record {
  inside = h;
  all = λ x s. all_same t old new key to x at same
      (spanned key new.end.bytes.now x (lt_not key x (lt_le key k x f (span_low k new.end.bytes.now x s))) (span_high k new.end.bytes.now x s));
  stands = stands;
}

-- ---- the way down

down_same : (key : List ℕ) (buffers : List MessageList) (f g : Operations) (n : ℕ) → f n ≡ g n → ops_down key buffers f n ≡ ops_down key buffers g n
down_same key [] f g n e = e
down_same key (b ∷ bs) f g n e = ap (or_else (ops_in b.messages key n)) (down_same key bs f g n e)

down_more : (key : List ℕ) (buffers : List MessageList) (b : MessageList) (below : Operations) (n : ℕ) → ops_down key (buffers ++ b ∷ []) below n ≡ ops_down key buffers (over (ops_in b.messages key) below) n
down_more key [] b below n = refl
down_more key (c ∷ cs) b below n = ap (or_else (ops_in c.messages key n)) (down_more key cs b below n)

newer_more : (key : List ℕ) (buffers : List MessageList) (b : MessageList) (here below : Operations) → NewerDown key buffers here → ((n : ℕ) → here n ≡ or_else (ops_in b.messages key n) (below n)) → IsAbove (ops_in b.messages key) below → NewerDown key (buffers ++ b ∷ []) below
newer_more key [] b here below newer same above = (above, tt)
newer_more key (c ∷ cs) b here below newer same above = (
  λ n k a s. newer.0 n k a (subst IsSome (down_more key cs b below k ∙ sym (down_same key cs here (over (ops_in b.messages key) below) k (same k))) s),
  newer_more key cs b here below newer.1 same above,
)

have_more : (root here : Subtree) (key : List ℕ) (buffers : List MessageList) (b : MessageList) (below : Operations) → HaveAll root key buffers (ops_in (messages_of here) key) → ((n : ℕ) → ops_in (messages_of here) key n ≡ or_else (ops_in b.messages key n) (below n)) → IsAbove (ops_in b.messages key) below
    → HaveAll root key (buffers ++ b ∷ []) below
have_more root here key buffers b below all same above = record {
  messages = λ n. all.messages n
      ∙ down_same key buffers (ops_in (messages_of here) key) (over (ops_in b.messages key) below) n (same n)
      ∙ sym (down_more key buffers b below n);
  newer = newer_more key buffers b (ops_in (messages_of here) key) below all.newer same above;
}

-- the buffers above this node, and the node, have all that the root has of the keys up to the end
pub record AreOnWay (root here : Subtree) (key end : List ℕ) (buffers : List MessageList) : Type 0 where
  pub inside : lt key end ≡ true
  pub within : spans here.low top_key key ≡ true
  pub all : (other : List ℕ) → spans key end other ≡ true → HaveAll root other buffers (ops_in (messages_of here) other)

pub on_way_first : (root : Subtree) (key : List ℕ) → spans root.low top_key key ≡ true → AreOnWay root root key top_key []
on_way_first root key s = record { inside = span_high root.low top_key key s; within = s; all = λ other s. record { messages = λ n. refl; newer = tt } }

-- a key below the lower one of two is below both
lower_both : {X : Type 0} (a b key : List ℕ) → lt key (lower_key a b) ≡ true → (lt key a ≡ true → lt key b ≡ true → X) → X
lower_both {X} a b key l f = step (lt b a) refl l where
  step : (t : Bool) → lt b a ≡ t → lt key (cond t b a) ≡ true → X
  step true e l = f (lt_trans key b a l e) l
  step false e l = f l (lt_le key a b l e)

below_lower : (a b key : List ℕ) → lt key a ≡ true → lt key b ≡ true → lt key (lower_key a b) ≡ true
below_lower a b key l h = step (lt b a) where
  step : (t : Bool) → lt key (cond t b a) ≡ true
  step true = h
  step false = l

all_down : {A : Type 0} (root here : Subtree) (cs : List (Child A)) (c : Child A) (key end high : List ℕ) (buffers : List MessageList) (below : List ℕ → Operations) → AreOnWay root here key end buffers → AreChildren here cs → LeadsAllTo here key high c
    → ((other : List ℕ) (n : ℕ) → LeadsDown here other c → ops_in (here.deeper ++ row_messages here.leaves) other n ≡ below other n)
    → (other : List ℕ) → spans key (lower_key high end) other ≡ true → HaveAll root other (buffers ++ here.buffer ∷ []) (below other)
all_down root here cs c key end high buffers below on are leads same other s =
    lower_both high end other (span_high key (lower_key high end) other s) (λ h e.
    let to = leads.each other (spanned key high other (span_low key (lower_key high end) other s) h) in
    have_more root here other buffers here.buffer (below other) (on.all other (spanned key end other (span_low key (lower_key high end) other s) e))
    (λ n. ops_over here other n ∙ ap (or_else (ops_in here.buffer.messages other n)) (same other n to))
    (λ n k a b. are.newer.above other n k a (subst IsSome (sym (same other k to)) b)))

pub buffers_more : {A : Type 0} (levels more : List (Level A)) (l : Level A) (b : MessageList) → more ≡ levels ++ l ∷ [] → l.buffer.now ≡ b → buffers_of more ≡ buffers_of levels ++ b ∷ []
buffers_more {A} levels more l b e f = ap buffers_of e ∙ map-append (λ (x : Level A). x.buffer.now) levels (l ∷ []) ∙ ap (λ x. buffers_of levels ++ x ∷ []) f

-- the way goes on in a lower node
pub on_way_on : {A : Type 0} (root here lower : Subtree) (cs : List (Child A)) (c : Child A) (key end high : List ℕ) (buffers : List MessageList) → AreOnWay root here key end buffers → AreChildren here cs → LeadsAllTo here key high c → c ≡ in_child.Node lower
    → (lower.height < here.height) × AreOnWay root lower key (lower_key high end) (buffers ++ here.buffer ∷ [])
on_way_on {A} root here lower cs c key end high buffers on are leads is = (
  own.lower,
  record {
    inside = below_lower high end key leads.inside on.inside;
    within = own.spanned;
    all = all_down root here cs c key end high buffers (ops_in (messages_of lower)) on are leads (λ other n to. (subst (LeadsDown here other) is to).messages n);
  },
) where
  own : LeadsDown {A = A} here key (in_child.Node lower)
  own = subst (LeadsDown here key) is (leads.each key (spanned key high key (lt_self key) leads.inside))

-- the way ends in a leaf
pub on_way_end : {A : Type 0} (root here : Subtree) (leaf : Leaf A) (cs : List (Child A)) (c : Child A) (key end high : List ℕ) (buffers : List MessageList) → AreOnWay root here key end buffers → AreChildren here cs → LeadsAllTo here key high c → c ≡ in_child.Leaf leaf
    → (lt key (lower_key high end) ≡ true) × ((other : List ℕ) → spans key (lower_key high end) other ≡ true → HaveAll root other (buffers ++ here.buffer ∷ []) (ops_in (map row_message leaf.rows) other))
on_way_end root here leaf cs c key end high buffers on are leads is = (
  below_lower high end key leads.inside on.inside,
  all_down root here cs c key end high buffers (ops_in (map row_message leaf.rows)) on are leads (λ other n to.
      (subst (LeadsDown here other) is to).messages n ∙ ops-append (map row_message leaf.rows) [] other n ∙ or_none (ops_in (map row_message leaf.rows) other n) None refl),
)

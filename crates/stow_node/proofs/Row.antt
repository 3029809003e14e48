-- Messages by key in a row of parts that share out the keys.
use Rattle.std.proofs.Common.{zero, suc, ◌≡◌, ℕ, ◌<◌, true, false, List, [], ◌∷◌, length, get_or, set, None, refl, sym, ap, ◌∙◌, subst, arith}
use Rattle.std.specs.List.{flat_map}
use Rattle.std.specs.Ordering.{is_lt}
use Rattle.stow_tree_model.specs.Operations.{or_else}
use Rattle.stow_tree_model.specs.Messages.{ops_in}
use Rattle.stow_tree_model.specs.TreeMessage.{TreeMessage}
use Rattle.stow_leaves.specs.StowLeaf.LeafRows.{row_messages}
use Rattle.stow_node.specs.Parts.{Part, IsTile, TiledTo, low_or, end_of}
use Rattle.stow_leaves.specs.StowLeaf.Intervals.{spans, NoneOutside}
use Rattle.stow_leaves.proofs.StowLeaf.Intervals.{lt, lt_trans, lt_le, le_le, lt_not, lt_self, under, beyond, not_spanned, span_low, span_high}
use Rattle.stow_leaves.proofs.StowLeaf.Found.{both_none, or_none, none_or}
use Rattle.stow_leaves.proofs.StowLeaf.Ops.{ops-append}

-- what is taken of each part
abbrev pub Taken : Type 0
Taken = Part → List TreeMessage

abbrev pub row_taken : Taken
row_taken p = row_messages p.leaves

abbrev pub message_taken : Taken
message_taken p = p.messages

-- what is taken of each part is of its own keys
abbrev pub Apart : Taken → List ℕ → List Part → Type 0
Apart f high [] = Unit {0}
Apart f high (p ∷ ps) = ((lt p.low (low_or high ps) ≡ true) × NoneOutside p.low (low_or high ps) (f p)) × Apart f high ps

pub messages_apart : (high : List ℕ) (ps : List Part) → TiledTo high ps → Apart message_taken high ps
messages_apart high [] t = tt
messages_apart high (p ∷ ps) t = ((ap is_lt t.0.ordered, t.0.messages), messages_apart high ps t.1)

pub rows_apart : (high : List ℕ) (ps : List Part) → TiledTo high ps → Apart row_taken high ps
rows_apart high [] t = tt
rows_apart high (p ∷ ps) t = ((ap is_lt t.0.ordered, t.0.rows), rows_apart high ps t.1)

-- nothing is taken for a key below the first part
pub none_before : (f : Taken) (high : List ℕ) (ps : List Part) (key : List ℕ) (n : ℕ) → Apart f high ps → lt key (low_or high ps) ≡ true → ops_in (flat_map f ps) key n ≡ None
none_before f high [] key n a l = refl
none_before f high (p ∷ ps) key n a l =
    ops-append (f p) (flat_map f ps) key n
    ∙ both_none (ops_in (f p) key n) (ops_in (flat_map f ps) key n)
    (a.0.1.outside key n (under p.low (low_or high ps) key l))
    (none_before f high ps key n a.1 (lt_trans key p.low (low_or high ps) l a.0.0))

-- the row begins below where it ends
pub low_at_most : (f : Taken) (high : List ℕ) (ps : List Part) → Apart f high ps → lt high (low_or high ps) ≡ false
low_at_most f high [] a = lt_self high
low_at_most f high (p ∷ ps) a = lt_not p.low high (lt_le p.low (low_or high ps) high a.0.0 (low_at_most f high ps a.1))

-- nothing is taken for a key from the end on
pub none_from : (f : Taken) (high : List ℕ) (ps : List Part) (key : List ℕ) (n : ℕ) → Apart f high ps → lt key high ≡ false → ops_in (flat_map f ps) key n ≡ None
none_from f high [] key n a l = refl
none_from f high (p ∷ ps) key n a l =
    ops-append (f p) (flat_map f ps) key n
    ∙ both_none (ops_in (f p) key n) (ops_in (flat_map f ps) key n)
    (a.0.1.outside key n (beyond p.low (low_or high ps) key (le_le (low_or high ps) high key (low_at_most f high ps a.1) l)))
    (none_from f high ps key n a.1 l)

-- nothing is taken of a row for a key outside its interval
pub row_out : (f : Taken) (low high : List ℕ) (ps : List Part) (key : List ℕ) (n : ℕ) → Apart f high ps → low_or high ps ≡ low → spans low high key ≡ false → ops_in (flat_map f ps) key n ≡ None
row_out f low high ps key n a first o = not_spanned low high key o
    (λ l. none_before f high ps key n a (ap (lt key) first ∙ l))
    (λ _ h. none_from f high ps key n a h)

-- each part of a row stands at its first or above
pub low_below : (f : Taken) (high : List ℕ) (p : Part) (ps : List Part) (i : ℕ) (d : Part) → Apart f high (p ∷ ps) → i < length (p ∷ ps) → lt (get_or (p ∷ ps) i d).low p.low ≡ false
low_below f high p ps zero d a h = lt_self p.low
low_below f high p [] (suc i) d a h = absurd (omega arith)
low_below f high p (q ∷ qs) (suc i) d a h =
    le_le p.low q.low (get_or (q ∷ qs) i d).low (lt_not p.low q.low a.0.0) (low_below f high q qs i d a.1 (omega arith))

-- what is taken for a key is what the part for it has
pub at_part : (f : Taken) (high : List ℕ) (ps : List Part) (i : ℕ) (d : Part) (key : List ℕ) (n : ℕ) → Apart f high ps → i < length ps → spans (get_or ps i d).low (end_of high ps i) key ≡ true → ops_in (flat_map f ps) key n ≡ ops_in (f (get_or ps i d)) key n
at_part f high [] i d key n a h s = absurd (omega arith)
at_part f high (p ∷ ps) zero d key n a h s =
    ops-append (f p) (flat_map f ps) key n
    ∙ or_none (ops_in (f p) key n) (ops_in (flat_map f ps) key n) (none_before f high ps key n a.1 (span_high p.low (low_or high ps) key s))
at_part f high (p ∷ []) (suc i) d key n a h s = absurd (omega arith)
at_part f high (p ∷ q ∷ qs) (suc i) d key n a h s =
    ops-append (f p) (flat_map f (q ∷ qs)) key n
    ∙ none_or (ops_in (f p) key n) (ops_in (flat_map f (q ∷ qs)) key n)
    (a.0.1.outside key n (beyond p.low q.low key (le_le q.low (get_or (q ∷ qs) i d).low key (low_below f high q qs i d a.1 (omega arith)) (span_low (get_or (q ∷ qs) i d).low (end_of high (q ∷ qs) i) key s))))
    ∙ at_part f high (q ∷ qs) i d key n a.1 (omega arith) s

-- a part that changes what is taken of it, for no key and number, changes nothing of the row
pub same_at : (f : Taken) (ps : List Part) (i : ℕ) (d p : Part) (key : List ℕ) (n : ℕ) → i < length ps → ops_in (f p) key n ≡ ops_in (f (get_or ps i d)) key n → ops_in (flat_map f (set ps i p)) key n ≡ ops_in (flat_map f ps) key n
same_at f [] i d p key n h e = absurd (omega arith)
same_at f (q ∷ ps) zero d p key n h e =
    ops-append (f p) (flat_map f ps) key n ∙ ap (λ o. or_else o (ops_in (flat_map f ps) key n)) e ∙ sym (ops-append (f q) (flat_map f ps) key n)
same_at f (q ∷ ps) (suc i) d p key n h e =
    ops-append (f q) (flat_map f (set ps i p)) key n
    ∙ ap (or_else (ops_in (f q) key n)) (same_at f ps i d p key n (omega arith) e)
    ∙ sym (ops-append (f q) (flat_map f ps) key n)

pub low_or-set : (high : List ℕ) (ps : List Part) (i : ℕ) (d p : Part) → i < length ps → p.low ≡ (get_or ps i d).low → low_or high (set ps i p) ≡ low_or high ps
low_or-set high [] i d p h e = refl
low_or-set high (q ∷ ps) zero d p h e = e
low_or-set high (q ∷ ps) (suc i) d p h e = refl

pub tiled-set : (high : List ℕ) (ps : List Part) (i : ℕ) (d p : Part) → TiledTo high ps → i < length ps → p.low ≡ (get_or ps i d).low → IsTile p (end_of high ps i) → TiledTo high (set ps i p)
tiled-set high [] i d p t h e w = tt
tiled-set high (q ∷ ps) zero d p t h e w = (w, t.1)
tiled-set high (q ∷ ps) (suc i) d p t h e w =
    (subst (IsTile q) (sym (low_or-set high ps i d p (omega arith) e)) t.0, tiled-set high ps i d p t.1 (omega arith) e w)

pub tile_at : (high : List ℕ) (ps : List Part) (i : ℕ) (d : Part) → TiledTo high ps → i < length ps → IsTile (get_or ps i d) (end_of high ps i)
tile_at high [] i d t h = absurd (omega arith)
tile_at high (p ∷ ps) zero d t h = t.0
tile_at high (p ∷ ps) (suc i) d t h = tile_at high ps i d t.1 (omega arith)

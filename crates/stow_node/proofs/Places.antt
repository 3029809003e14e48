-- The child that a key belongs to.
use Rattle.std.proofs.Common.{zero, suc, ◌≡◌, ℕ, ◌+◌, ◌<◌, ◌≤◌, true, false, List, [], ◌∷◌, length, get_or, refl, sym, ap, ◌∙◌, arith}
use Rattle.std.proofs.lemmas.Bool.Decides.{nat_tests}
use Rattle.std.specs.Prelude.{nat_lt}
use Rattle.std.proofs.lemmas.List.{length-map, get_or-map}
use Rattle.stow_node.specs.Parts.{Part, low_or, end_of, high_of, IsFor, LiesBetween}
use Rattle.stow_leaves.specs.StowLeaf.Intervals.{top_key, spans}
use Rattle.stow_node.specs.declared.child.Child.{Child}
use Rattle.stow_node.specs.Nodes.{part_of, parts_of}
use Rattle.stow_leaves.proofs.StowLeaf.Intervals.{lt, by_test, spanned, span_low, span_high}

pub end_of-next : (high : List ℕ) (ps : List Part) (i : ℕ) (d : Part) → i + 1 < length ps → end_of high ps i ≡ (get_or ps (i + 1) d).low
end_of-next high [] i d h = absurd (omega arith)
end_of-next high (p ∷ []) zero d h = absurd (omega arith)
end_of-next high (p ∷ q ∷ qs) zero d h = refl
end_of-next high (p ∷ ps) (suc i) d h =
    let e : suc i + 1 ≡ suc (i + 1) = omega arith in
    rw e (end_of-next high ps i d (omega arith))

pub end_of-last : (high : List ℕ) (ps : List Part) (i : ℕ) → length ps ≤ i + 1 → end_of high ps i ≡ high
end_of-last high [] i h = refl
end_of-last high (p ∷ []) zero h = refl
end_of-last high (p ∷ q ∷ qs) zero h = absurd (omega arith)
end_of-last high (p ∷ ps) (suc i) h = end_of-last high ps i (omega arith)

pub at_first : (ps : List Part) (key : List ℕ) → 0 < length ps → spans (low_or top_key ps) top_key key ≡ true → LiesBetween ps key 0 (length ps)
at_first [] key h s = absurd (omega arith)
at_first (p ∷ ps) key h s = record {
  order = h;
  inside = omega arith;
  from = λ d. span_low p.low top_key key s;
  below = λ l. absurd (omega arith);
}

pub low_spans : (ps : List Part) (key : List ℕ) → spans (low_or top_key ps) top_key key ≡ true → lt key top_key ≡ true
low_spans ps key s = span_high (low_or top_key ps) top_key key s

pub is_for : (ps : List Part) (key : List ℕ) (at end : ℕ) → LiesBetween ps key at end → end ≤ at + 1 → lt key top_key ≡ true → IsFor ps key at
is_for ps key at end b short top = record {
  inside = inside;
  spanned = λ d. spanned (get_or ps at d).low (end_of top_key ps at) key (b.from d) (by_end d);
}
  where
    inside : at < length ps
    inside = let o = b.order in let i = b.inside in omega arith

    is_next : end ≡ at + 1
    is_next = let o = b.order in omega arith

    inside_row : (d : Part) → end < length ps → lt key (end_of top_key ps at) ≡ true
    inside_row d l = ap (lt key) (end_of-next top_key ps at d (omega (arith, is_next)) ∙ ap (λ i. (get_or ps i d).low) (sym is_next)) ∙ b.below l d

    at_last : length ps ≤ end → lt key (end_of top_key ps at) ≡ true
    at_last l = ap (lt key) (end_of-last top_key ps at (omega (arith, is_next))) ∙ top

    by_end : (d : Part) → lt key (end_of top_key ps at) ≡ true
    by_end d = by_test (nat_lt end (length ps)) (λ e. inside_row d (grind (arith, nat_tests, e))) (λ e. at_last (grind (arith, nat_tests, e)))

pub high_before : {A : Type 0} (cs : List (Child A)) (i : ℕ) (c : Child A) → i + 1 < length cs → c ≡ get_or cs (i + 1) c → high_of (parts_of cs) i ≡ (part_of c).low
high_before cs i c h e =
    end_of-next top_key (parts_of cs) i (part_of c) (omega (arith, length-map cs part_of))
    ∙ ap (λ (p : Part). p.low) (get_or-map part_of cs (i + 1) c (part_of c) h ∙ ap part_of (sym e))

pub high_at_last : {A : Type 0} (cs : List (Child A)) (i : ℕ) → length cs ≤ i + 1 → high_of (parts_of cs) i ≡ top_key
high_at_last cs i h = end_of-last top_key (parts_of cs) i (omega (arith, length-map cs part_of))

pub low_at : {A : Type 0} (cs : List (Child A)) (i : ℕ) (c : Child A) → i < length cs → c ≡ get_or cs i c → (d : Part) → (get_or (parts_of cs) i d).low ≡ (part_of c).low
low_at cs i c h e d = ap (λ (p : Part). p.low) (get_or-map part_of cs i c d h ∙ ap part_of (sym e))

pub low_of_first : {A : Type 0} (cs : List (Child A)) (c : Child A) → 0 < length cs → c ≡ get_or cs 0 c → (part_of c).low ≡ low_or top_key (parts_of cs)
low_of_first [] c some e = absurd (omega arith)
low_of_first (x ∷ cs) c some e = ap (λ d. (part_of d).low) e

pub low_of_none : {A : Type 0} (cs : List (Child A)) → length cs ≤ 0 → top_key ≡ low_or top_key (parts_of cs)
low_of_none [] none = refl
low_of_none (x ∷ cs) none = absurd (omega arith)

-- the part is from the middle on
pub upper_half : {A : Type 0} (cs : List (Child A)) (key : List ℕ) (at end middle : ℕ) (c : Child A) → LiesBetween (parts_of cs) key at end → middle < end → c ≡ get_or cs middle c → lt key (part_of c).low ≡ false → LiesBetween (parts_of cs) key middle end
upper_half cs key at end middle c b less e l = record {
  order = less;
  inside = b.inside;
  from = λ d. ap (lt key) (low_at cs middle c (let i = b.inside in omega (arith, length-map cs part_of)) e d) ∙ l;
  below = b.below;
}

-- the part is before the middle
pub lower_half : {A : Type 0} (cs : List (Child A)) (key : List ℕ) (at end middle : ℕ) (c : Child A) → LiesBetween (parts_of cs) key at end → at < middle → middle < end → c ≡ get_or cs middle c → lt key (part_of c).low ≡ true → LiesBetween (parts_of cs) key at middle
lower_half cs key at end middle c b more less e l = record {
  order = more;
  inside = let i = b.inside in omega arith;
  from = b.from;
  below = λ h d. ap (lt key) (low_at cs middle c (let i = b.inside in omega (arith, length-map cs part_of)) e d) ∙ l;
}

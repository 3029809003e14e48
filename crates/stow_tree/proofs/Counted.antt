-- Leaves and messages that are counted child by child.
use Rattle.std.proofs.Common.{◌≡◌, ℕ, zero, suc, ◌+◌, ◌<◌, ◌≤◌, ◌⊎◌, List, [], ◌∷◌, length, take, get_or, ap, ◌∙◌, sym, subst, arith, ⊎_elim}
use Rattle.std.proofs.Math.Nat.{min-eq_left, min_comm}
use Rattle.std.proofs.lemmas.Bool.{cases_order}
use Rattle.std.proofs.lemmas.List.{length-append, length-map, get_or-map, take_all}
use Rattle.stow_flush.specs.StowLeaf.declared.leaf.Leaf.{Leaf}
use Rattle.stow_flush.specs.StowNode.declared.child.Child.{Child}
use Rattle.stow_flush.specs.StowNode.declared.child.Child.TheVariants as in_child
use Rattle.stow_flush.specs.StowNode.declared.shape.Shape.{Shape}
use Rattle.std.specs.List.{AllByRecursion}
use Rattle.stow_flush.specs.StowNode.Nodes.{part_of, parts_of, AreChildren, IsBelow}
use Rattle.stow_flush.specs.StowNode.Parts.{Part, leaves_in, messages_in}
use Rattle.stow_flush.specs.StowNode.Subtree.{Subtree}
use Rattle.stow_tree.specs.declared.counting.Counts.{Counts}
use Rattle.stow_tree.specs.Reports.{told, counts_both, CountsAre}

told_few : (n : ℕ) → n ≤ 18446744073709551615 → told n ≡ n
told_few n l = min-eq_left l

told_many : (n : ℕ) → 18446744073709551615 ≤ n → told n ≡ 18446744073709551615
told_many n l = min_comm n 18446744073709551615 ∙ min-eq_left l

by_size : {X : Type 0} (n : ℕ) → (n ≤ 18446744073709551615 → X) → (18446744073709551615 ≤ n → X) → X
by_size n f g = ⊎_elim
    (λ (e : n ≡ 18446744073709551615). f (omega (arith, e)))
    (λ (h : (n < 18446744073709551615) ⊎ (18446744073709551615 < n)). ⊎_elim (λ (l : n < 18446744073709551615). f (omega (arith, l))) (λ (l : 18446744073709551615 < n). g (omega (arith, l))) h)
    (cases_order n 18446744073709551615)

-- counts that are told add up to what is told of both
pub told_both : (a b : ℕ) → told (told a + told b) ≡ told (a + b)
told_both a b = by_size a
    (λ (l : a ≤ 18446744073709551615). by_size b
    (λ (k : b ≤ 18446744073709551615). ap told (ap (λ x. x + told b) (told_few a l) ∙ ap (λ x. a + x) (told_few b k)))
    (λ (k : 18446744073709551615 ≤ b). ap told (ap (λ x. told a + x) (told_many b k)) ∙ told_many (told a + 18446744073709551615) (omega arith) ∙ sym (told_many (a + b) (omega (arith, k)))))
    (λ (l : 18446744073709551615 ≤ a). ap told (ap (λ x. x + told b) (told_many a l)) ∙ told_many (18446744073709551615 + told b) (omega arith) ∙ sym (told_many (a + b) (omega (arith, l))))

pub leaves_more : (ps : List Part) (i : ℕ) (d : Part) → i < length ps → length (leaves_in (take (suc i) ps)) ≡ length (leaves_in (take i ps)) + length (get_or ps i d).leaves
leaves_more [] i d l = absurd (omega arith)
leaves_more (p ∷ ps) zero d l = length-append p.leaves [] ∙ grind arith
leaves_more (p ∷ ps) (suc i) d l =
    let a = length-append p.leaves (leaves_in (take (suc i) ps)) in
    let b = length-append p.leaves (leaves_in (take i ps)) in
    let c = leaves_more ps i d (omega (arith, l)) in
    omega (arith, a, b, c)

pub messages_more : (ps : List Part) (i : ℕ) (d : Part) → i < length ps → length (messages_in (take (suc i) ps)) ≡ length (messages_in (take i ps)) + length (get_or ps i d).messages
messages_more [] i d l = absurd (omega arith)
messages_more (p ∷ ps) zero d l = length-append p.messages [] ∙ grind arith
messages_more (p ∷ ps) (suc i) d l =
    let a = length-append p.messages (messages_in (take (suc i) ps)) in
    let b = length-append p.messages (messages_in (take i ps)) in
    let c = messages_more ps i d (omega (arith, l)) in
    omega (arith, a, b, c)

-- the first children were counted, and the node's own messages
pub record IsCounting {A : Type 0} (t : Subtree) (children : List (Child A)) (i : ℕ) (counts : Counts) : Type 0 where
  pub leaves : counts.leaves ≡ told (length (leaves_in (take i (parts_of children))))
  pub buffered : counts.buffered ≡ told (length t.buffer.messages + length (messages_in (take i (parts_of children))))

pub counting_first : {A : Type 0} (t : Subtree) (children : List (Child A)) (own : ℕ) → own ≡ length t.buffer.messages → own < 18446744073709551616 → IsCounting t children 0 (record { leaves = 0; buffered = own })
counting_first t children own e l = record {
  leaves = sym (told_few 0 (omega arith));
  buffered = sym (ap told (omega (arith, e)) ∙ told_few own (omega (arith, l)));
}

-- the counts of what stands below a child
pub record ChildCounts {A : Type 0} (child : Child A) (counts : Counts) : Type 0 where
  pub leaves : counts.leaves ≡ told (length (part_of child).leaves)
  pub buffered : counts.buffered ≡ told (length (part_of child).messages)

pub leaf_counts : {A : Type 0} (child : Child A) (leaf : Leaf A) → child ≡ in_child.Leaf leaf → ChildCounts child (record { leaves = 1; buffered = 0 })
leaf_counts {A} child leaf is = subst (λ c. ChildCounts {A = A} c (record { leaves = 1; buffered = 0 })) (sym is) (record { leaves = sym (told_few 1 (omega arith)); buffered = sym (told_few 0 (omega arith)) })

pub node_counts : {A : Type 0} (child : Child A) (node : Subtree) (counts : Counts) → child ≡ in_child.Node node → CountsAre node counts → ChildCounts child counts
node_counts {A} child node counts is are = subst (λ c. ChildCounts {A = A} c counts) (sym is) (record { leaves = are.leaves; buffered = are.buffered })

pub counting_on : {A : Type 0} (t : Subtree) (children : List (Child A)) (i : ℕ) (child : Child A) (counts below : Counts) → i < length children → child ≡ get_or children i child → IsCounting t children i counts → ChildCounts child below → IsCounting t children (i + 1) (counts_both counts below)
counting_on t children i child counts below l is so c = subst (λ n. IsCounting t children n (counts_both counts below)) next (record {
  leaves = ap (λ x. told (x + below.leaves)) so.leaves ∙ ap (λ x. told (told (length (leaves_in (take i (parts_of children)))) + x)) c.leaves
      ∙ told_both (length (leaves_in (take i (parts_of children)))) (length (part_of child).leaves)
      ∙ sym (ap told (leaves_more (parts_of children) i (part_of child) inside ∙ ap (λ (p : Part). length (leaves_in (take i (parts_of children))) + length p.leaves) part));
  buffered = ap (λ x. told (x + below.buffered)) so.buffered ∙ ap (λ x. told (told (length t.buffer.messages + length (messages_in (take i (parts_of children)))) + x)) c.buffered
      ∙ told_both (length t.buffer.messages + length (messages_in (take i (parts_of children)))) (length (part_of child).messages)
      ∙ sym (ap told (ap (λ n. length t.buffer.messages + n) (messages_more (parts_of children) i (part_of child) inside ∙ ap (λ (p : Part). length (messages_in (take i (parts_of children))) + length p.messages) part) ∙ grind arith));
})
  where
    next : suc i ≡ i + 1
    next = omega arith

    inside : i < length (parts_of children)
    inside = subst (λ n. i < n) (sym (length-map children part_of)) l

    part : get_or (parts_of children) i (part_of child) ≡ part_of child
    part = get_or-map part_of children i child (part_of child) l ∙ ap part_of (sym is)

pub counted_all : {A : Type 0} (t : Subtree) (children : List (Child A)) (i : ℕ) (counts : Counts) → AreChildren t children → length children ≤ i → IsCounting t children i counts → CountsAre t counts
counted_all t children i counts are l so = record {
  leaves = so.leaves ∙ ap (λ ps. told (length (leaves_in ps))) all ∙ ap (λ ls. told (length ls)) (sym are.leaves);
  buffered = so.buffered ∙ ap (λ ps. told (length t.buffer.messages + length (messages_in ps))) all
      ∙ ap (λ ms. told (length t.buffer.messages + length ms)) (sym are.deeper) ∙ ap told (sym (length-append t.buffer.messages t.deeper));
}
  where
    all : take i (parts_of children) ≡ parts_of children
    all = take_all i (parts_of children) (subst (λ n. n ≤ i) (sym (length-map children part_of)) l)

-- a child is lower than its parent
pub child_lower : {A : Type 0} (height : ℕ) (shape : Shape) (cs : List (Child A)) (i : ℕ) (c : Child A) (z : Subtree) → AllByRecursion (IsBelow height shape) cs → i < length cs → c ≡ get_or cs i c → c ≡ in_child.Node z → z.height < height
child_lower height shape [] i c z all lt at is = absurd (omega (arith, lt))
child_lower {A} height shape (d ∷ cs) zero c z all lt at is = let level : (part_of d).height + 1 ≡ height = all.0.level in
    omega (arith, level, ap (λ (k : Child A). (part_of k).height) (sym at ∙ is))
child_lower height shape (d ∷ cs) (suc i) c z all lt at is = child_lower height shape cs i c z all.1 (omega (arith, lt)) at is

-- The deepest buffer that holds a message, child by child.
use Rattle.std.proofs.Common.{◌≡◌, ◌≢◌, ◌↔◌, ℕ, suc, ◌+◌, ◌<◌, ◌≤◌, List, [], ◌∷◌, ◌++◌, length, drop, get_or, Option, Some, None, refl, sym, ap, ◌∙◌, subst, arith}
use Rattle.std.specs.Prelude.{slice_get, nat_lt, min}
use Rattle.std.specs.List.{AllByRecursion}
use Rattle.std.proofs.lemmas.Bool.Decides.{nat_tests}
use Rattle.std.proofs.lemmas.List.{drop_more, drop_all}
use Rattle.std.proofs.lemmas.Option.{slice_get-get_or, get_or_from_slice_get}
use Rattle.stow_leaves.specs.StowLeaf.declared.leaf.Leaf.{Leaf}
use Rattle.stow_leaves.proofs.StowLeaf.Intervals.{by_test}
use Rattle.stow_tree_model.specs.TreeMessage.{TreeMessage}
use Rattle.stow_node.specs.declared.child.Child.{Child}
use Rattle.stow_node.specs.declared.child.Child.TheVariants as in_child
use Rattle.stow_node.specs.Nodes.{part_of, parts_of, deepest_of, deepest_in, AreChildren}
use Rattle.stow_node.specs.Parts.{messages_in}
use Rattle.stow_node.specs.Plans.{HasDeepest}
use Rattle.stow_node.specs.Subtree.{Subtree, lower_height, height_of_some, buffered, deepest_buffer}

-- ---- heights

lower_none : (a : Option ℕ) → lower_height a None ≡ a
lower_none None = refl
lower_none (Some a) = refl

lower_both : (a b c : Option ℕ) → lower_height (lower_height a b) c ≡ lower_height a (lower_height b c)
lower_both None b c = refl
lower_both (Some a) None c = refl
lower_both (Some a) (Some b) None = refl
lower_both (Some a) (Some b) (Some c) = ap (λ (n : ℕ). Some n) (let e : min (min a b) c ≡ min a (min b c) = omega arith in e)

lower_is_none : (a b : Option ℕ) → lower_height a b ≡ None → (a ≡ None) × (b ≡ None)
lower_is_none None b e = (refl, e)
lower_is_none (Some a) None e = absurd cc
lower_is_none (Some a) (Some b) e = absurd cc

-- ---- lists

pub append_nothing : (xs ys : List TreeMessage) → xs ++ ys ≡ [] → (xs ≡ []) × (ys ≡ [])
append_nothing [] ys e = (refl, e)
append_nothing (x ∷ xs) ys e = absurd cc

-- ---- children

-- a child is told by a height exactly where its buffers hold a message
pub record IsTold {A : Type 0} (child : Child A) : Type 0 where
  pub nothing : deepest_of child ≡ None → (part_of child).messages ≡ []
  pub none : (part_of child).messages ≡ [] → deepest_of child ≡ None

pub leaf_told : {A : Type 0} (child : Child A) (leaf : Leaf A) → child ≡ in_child.Leaf leaf → IsTold child × (◌≡◌ {A = Option ℕ} None (deepest_of child))
leaf_told {A} child leaf is = subst (λ (c : Child A). IsTold c × (◌≡◌ {A = Option ℕ} None (deepest_of c))) (sym is) (record { nothing = λ e. refl; none = λ e. refl }, refl)

pub node_told : {A : Type 0} (child : Child A) (node : Subtree) (below : Option ℕ) → child ≡ in_child.Node node → below ≡ deepest_buffer node → (below ≡ None ↔ buffered node ≡ []) → IsTold child × (below ≡ deepest_of child)
node_told {A} child node below is height none = subst (λ (c : Child A). IsTold c × (below ≡ deepest_of c)) (sym is) (record { nothing = λ e. none.0 (height ∙ e); none = λ e. sym height ∙ none.1 e }, height)

-- the first children were looked at
pub record IsDeepestOf {A : Type 0} (cs : List (Child A)) (i : ℕ) (deepest : Option ℕ) : Type 0 where
  pub is : lower_height deepest (deepest_in (drop i cs)) ≡ deepest_in cs
  pub told : (j : ℕ) (c : Child A) → j < i → slice_get cs j ≡ Some c → IsTold c

pub none_yet : {A : Type 0} (cs : List (Child A)) → IsDeepestOf cs 0 None
none_yet cs = record { is = refl; told = λ j c l e. absurd (omega (arith, l)) }

pub one_more : {A : Type 0} (cs : List (Child A)) (i : ℕ) (c : Child A) (deepest below : Option ℕ) → i < length cs → c ≡ get_or cs i c → IsDeepestOf cs i deepest → IsTold c → below ≡ deepest_of c → IsDeepestOf cs (i + 1) (lower_height deepest below)
one_more {A} cs i c deepest below l at d t b = record {
  is = lower_both deepest below (deepest_in (drop (i + 1) cs))
      ∙ ap (λ h. lower_height deepest (lower_height h (deepest_in (drop (i + 1) cs)))) (b ∙ ap deepest_of at)
      ∙ sym (ap (λ l. lower_height deepest (deepest_in l)) (drop_more cs i c l))
      ∙ d.is;
  told = λ j x m e. by_test (nat_lt j i)
      (λ less. d.told j x (grind (arith, nat_tests, less)) e)
      (λ more. here j x (grind (arith, nat_tests, more, m)) e);
}
  where
    here : (j : ℕ) (x : Child A) → j ≡ i → slice_get cs j ≡ Some x → IsTold x
    here j x e f = subst IsTold (at ∙ get_or_from_slice_get cs i x c (ap (slice_get cs) (sym e) ∙ f)) t

all_told : {A : Type 0} (cs : List (Child A)) → ((j : ℕ) (c : Child A) → j < length cs → slice_get cs j ≡ Some c → IsTold c) → AllByRecursion IsTold cs
all_told [] h = tt
all_told (c ∷ cs) h = (h 0 c (omega arith) refl, all_told cs (λ j x l e. h (suc j) x (omega (arith, l)) e))

pub record AreTold {A : Type 0} (cs : List (Child A)) : Type 0 where
  pub nothing : deepest_in cs ≡ None → messages_in (parts_of cs) ≡ []
  pub none : messages_in (parts_of cs) ≡ [] → deepest_in cs ≡ None

told_together : {A : Type 0} (cs : List (Child A)) → AllByRecursion IsTold cs → AreTold cs
told_together [] all = record { nothing = λ e. refl; none = λ e. refl }
told_together (c ∷ cs) all =
    let r = told_together cs all.1 in
    record {
      nothing = λ e. let n = lower_is_none (deepest_of c) (deepest_in cs) e in ap (λ l. l ++ messages_in (parts_of cs)) (all.0.nothing n.0) ∙ r.nothing n.1;
      none = λ e. let n = append_nothing (part_of c).messages (messages_in (parts_of cs)) e in ap (λ h. lower_height h (deepest_in cs)) (all.0.none n.0) ∙ r.none n.1;
    }

-- all children were looked at
pub record AllLooked {A : Type 0} (cs : List (Child A)) (deepest : Option ℕ) : Type 0 where
  pub is : deepest ≡ deepest_in cs
  pub told : AreTold cs

pub all_looked : {A : Type 0} (cs : List (Child A)) (i : ℕ) (deepest : Option ℕ) → length cs ≤ i → IsDeepestOf cs i deepest → AllLooked cs deepest
all_looked cs i deepest l d = record {
  is = sym (lower_none deepest) ∙ sym (ap (λ l. lower_height deepest (deepest_in l)) (drop_all i cs l)) ∙ d.is;
  told = told_together cs (all_told cs (λ j c m e. d.told j c (omega (arith, l, m)) e));
}

own_told : (height : ℕ) (ms : List TreeMessage) → height_of_some height ms ≡ None ↔ ms ≡ []
own_told height [] = (λ e. refl, λ e. refl)
own_told height (m ∷ ms) = (λ e. absurd cc, λ e. absurd cc)

-- a node with its own buffer
pub record NodeTold (t : Subtree) (height : Option ℕ) : Type 0 where
  pub is : height ≡ deepest_buffer t
  pub none : height ≡ None ↔ buffered t ≡ []

pub whole_node : {A : Type 0} (t : Subtree) (cs : List (Child A)) (below own height : Option ℕ) → AreChildren t cs → AllLooked cs below → own ≡ height_of_some t.height t.buffer.messages → height ≡ lower_height below own → NodeTold t height
whole_node t cs below own height stand all mine is = record {
  is = is ∙ (λ i. lower_height (below_is i) (mine i));
  none = (
    λ e. let n = lower_is_none below own (sym is ∙ e) in
        (λ i. (own_told t.height t.buffer.messages).0 (sym mine ∙ n.1) i ++ t.deeper) ∙ stand.deeper ∙ all.told.nothing (sym all.is ∙ n.0),
    λ e. let n = append_nothing t.buffer.messages t.deeper e in
        is ∙ (λ i. lower_height ((all.is ∙ all.told.none (sym stand.deeper ∙ n.1)) i) own) ∙ mine ∙ (own_told t.height t.buffer.messages).1 n.0,
  );
}
  where
    below_is : below ≡ t.deepest
    below_is = all.is ∙ sym stand.deepest

-- ---- the child below which the deepest buffer stands

pub record IsLowestOf {A : Type 0} (cs : List (Child A)) (i index : ℕ) (lowest : Option ℕ) : Type 0 where
  pub of : IsDeepestOf cs i lowest
  pub best : lowest ≢ None → (c : Child A) × (slice_get cs index ≡ Some c) × (deepest_of c ≡ lowest)
  pub inside : lowest ≢ None → index < i

pub no_lowest : {A : Type 0} (cs : List (Child A)) → IsLowestOf cs 0 0 None
no_lowest cs = record { of = none_yet cs; best = λ f. absurd (f refl); inside = λ f. absurd (f refl) }

pub is_next_lower : {A : Type 0} (cs : List (Child A)) (i best : ℕ) (c : Child A) (lowest height : Option ℕ) → i < length cs → c ≡ get_or cs i c → IsLowestOf cs i best lowest → IsTold c → height ≡ deepest_of c → lower_height lowest height ≡ height → IsLowestOf cs (i + 1) i height
is_next_lower cs i best c lowest height l at d t h e = record {
  of = subst (IsDeepestOf cs (i + 1)) e (one_more cs i c lowest height l at d.of t h);
  best = λ f. (c, slice_get-get_or cs i c l ∙ ap (λ x. Some x) (sym at), sym h);
  inside = λ f. omega arith;
}

pub is_next_not_lower : {A : Type 0} (cs : List (Child A)) (i best : ℕ) (c : Child A) (lowest height : Option ℕ) → i < length cs → c ≡ get_or cs i c → IsLowestOf cs i best lowest → IsTold c → height ≡ deepest_of c → lower_height lowest height ≡ lowest → IsLowestOf cs (i + 1) best lowest
is_next_not_lower cs i best c lowest height l at d t h e = record {
  of = subst (IsDeepestOf cs (i + 1)) e (one_more cs i c lowest height l at d.of t h);
  best = d.best;
  inside = λ f. let b = d.inside f in omega (arith, b);
}

pub lowest_none : {A : Type 0} (cs : List (Child A)) (i best : ℕ) (lowest : Option ℕ) → length cs ≤ i → IsLowestOf cs i best lowest → lowest ≡ None → messages_in (parts_of cs) ≡ []
lowest_none cs i best lowest l d e = let a = all_looked cs i lowest l d.of in a.told.nothing (sym a.is ∙ e)

some_not : (h : ℕ) → ◌≡◌ {A = Option ℕ} (Some h) None → ⊥
some_not h e = cc

pub lowest_some : {A : Type 0} (cs : List (Child A)) (i best h : ℕ) (lowest : Option ℕ) → length cs ≤ i → IsLowestOf cs i best lowest → lowest ≡ Some h → HasDeepest cs best
lowest_some {A} cs i best h lowest l d e = record {
  child = b.0;
  at = b.1;
  deepest = b.2 ∙ (all_looked cs i lowest l d.of).is;
  some = λ n. there (sym b.2 ∙ (d.of.told best b.0 (d.inside there) b.1).none n);
}
  where
    there : lowest ≢ None
    there f = some_not h (sym e ∙ f)

    b : (c : Child A) × (slice_get cs best ≡ Some c) × (deepest_of c ≡ lowest)
    b = d.best there

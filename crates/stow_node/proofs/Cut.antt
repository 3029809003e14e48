-- A node cut in two between its children.
use Rattle.std.proofs.Common.{zero, suc, ◌≡◌, ℕ, ◌+◌, ◌*◌, ◌<◌, Bool, true, false, cond, List, [], ◌∷◌, ◌++◌, length, take, drop, get_or, Option, Some, None, refl, sym, ap, ◌∙◌, subst, arith, length-append, length-drop, inl}
use Rattle.std.specs.Prelude.{IsSome, not}
use Rattle.std.specs.List.{AllByRecursion}
use Rattle.std.specs.Ordering.{is_lt}
use Rattle.std.specs.declared.vec.Vec.{Vec}
use Rattle.std.proofs.lemmas.Grind.{flat_map-append}
use Rattle.std.proofs.lemmas.List.{map-append, length-map, take-append-drop, length-take-le}
use Rattle.std.proofs.lemmas.List.Sums.{sum_by-append}
use Rattle.stow_tree_model.specs.StowBytes.Bytes.{bytes_cmp}
use Rattle.stow_leaves.proofs.StowMessage.Placed.{AllOther}
use Rattle.stow_leaves.proofs.StowMessage.Ranges.{filter_rises}
use Rattle.stow_leaves.proofs.StowMessage.RisingLists.{no_path, lt_is}
use Rattle.stow_leaves.specs.StowMessage.MessageBuf.{message_list, with_messages, without_range}
use Rattle.stow_leaves.specs.StowMessage.Rising.{is_between, all_placed, in_range, out_of_range}
use Rattle.stow_tree_model.specs.Op.{Op}
use Rattle.stow_tree_model.specs.Messages.{ops_in}
use Rattle.stow_tree_model.specs.Operations.{or_else}
use Rattle.stow_tree_model.specs.Order.{MessagesRise}
use Rattle.stow_tree_model.specs.TreeMessage.{TreeMessage}
use Rattle.stow_leaves.specs.StowLeaf.Intervals.{top_key, spans}
use Rattle.stow_leaves.specs.StowLeaf.LeafRows.{LeafRows, row_messages, first_fence}
use Rattle.stow_leaves.proofs.StowLeaf.Intervals.{lt, lt_le, lt_self, by_test, under, beyond, spanned, span_low, span_high, not_spanned}
use Rattle.stow_leaves.proofs.StowLeaf.Ops.{ops-append, ops-in_range, ops-out_of_range, ops-all_placed}
use Rattle.stow_leaves.proofs.StowMerge.Lists.{all_split}
use Rattle.stow_node.specs.declared.child.Child.{Child}
use Rattle.stow_node.specs.declared.node.Node.TheInside.{Inside}
use Rattle.stow_node.specs.Parts.{Part, low_or, IsTile, TiledTo, messages_in, leaves_in, weight_in}
use Rattle.stow_leaves.specs.StowLeaf.Replacements.{IsLeafSize}
use Rattle.stow_node.specs.Nodes.{part_of, parts_of, nearest_in, AreLeafSizes, IsBelow, subtree_of, IsNode}
use Rattle.stow_node.specs.Halves.{AreHalves}
use Rattle.stow_node.proofs.Accepted.{length-all_placed}
use Rattle.std.proofs.lemmas.List.Filters.{length-filter_both}
use Rattle.stow_node.proofs.Lowered.{rows_by_part, row_messages-append}
use Rattle.stow_node.proofs.Nearest.{nearest_front, nearest_behind, nearest_same}
use Rattle.stow_node.proofs.Raised.{wider, row_fences, first_of_row, whole_tile}
use Rattle.stow_leaves.proofs.StowLeaf.Found.{both_none, or_none, some_left, some_right}
use Rattle.stow_node.proofs.Row.{message_taken, row_taken, messages_apart, rows_apart, none_before, none_from, row_out, low_at_most}

-- ---- a row in two parts

pub low_or-append : (high : List ℕ) (xs ys : List Part) → low_or high (xs ++ ys) ≡ low_or (low_or high ys) xs
low_or-append high [] ys = refl
low_or-append high (x ∷ xs) ys = refl

pub tiled-left : (high : List ℕ) (xs ys : List Part) → TiledTo high (xs ++ ys) → TiledTo (low_or high ys) xs
tiled-left high [] ys t = tt
tiled-left high (x ∷ xs) ys t = (subst (IsTile x) (low_or-append high xs ys) t.0, tiled-left high xs ys t.1)

pub tiled-right : (high : List ℕ) (xs ys : List Part) → TiledTo high (xs ++ ys) → TiledTo high ys
tiled-right high [] ys t = t
tiled-right high (x ∷ xs) ys t = tiled-right high xs ys t.1

-- a tile of a wider interval
pub wider_tile : (p : Part) (high end : List ℕ) → lt end high ≡ false → IsTile p high → IsTile p end
wider_tile p high end l t = record {
  fences = wider p.low high p.low end p.leaves (lt_self p.low) l t.fences;
  first = by_leaves p.leaves refl;
  ordered = lt_is (bytes_cmp p.low end) (lt_le p.low high end (ap is_lt t.ordered) l);
  messages = record { outside = λ key n o. t.messages.outside key n (out key o) };
  rows = record { outside = λ key n o. t.rows.outside key n (out key o) };
}
  where
    out : (key : List ℕ) → spans p.low end key ≡ false → spans p.low high key ≡ false
    out key o = by_test (spans p.low high key)
        (λ s. absurd (no_path (sym o ∙ spanned p.low end key (span_low p.low high key s) (lt_le key high end (span_high p.low high key s) l))))
        (λ s. s)

    self_less : (a b : List ℕ) → lt a b ≡ true → b ≡ a → ⊥
    self_less a b e f = no_path (sym (lt_self a) ∙ ap (lt a) (sym f) ∙ e)

    by_leaves : (ls : List LeafRows) → ls ≡ p.leaves → first_fence end p.leaves ≡ p.low
    by_leaves [] is = absurd (self_less p.low high (ap is_lt t.ordered) (ap (first_fence high) is ∙ t.first))
    by_leaves (leaf ∷ ls) is = ap (first_fence end) (sym is) ∙ ap (first_fence high) is ∙ t.first

pub tiled-wider : (high end : List ℕ) (ps : List Part) → lt end high ≡ false → TiledTo high ps → TiledTo end ps
tiled-wider high end [] l t = tt
tiled-wider high end (p ∷ []) l t = (wider_tile p high end l t.0, tt)
tiled-wider high end (p ∷ q ∷ ps) l t = (t.0, tiled-wider high end (q ∷ ps) l t.1)

-- a row that isn't empty begins below its end
pub below_end : (high : List ℕ) (ps : List Part) → TiledTo high ps → 0 < length ps → lt (low_or high ps) high ≡ true
below_end high [] t h = absurd (omega arith)
below_end high (p ∷ ps) t h =
    let apart = messages_apart high (p ∷ ps) t in
    lt_le p.low (low_or high ps) high apart.0.0 (low_at_most message_taken high ps apart.1)

-- ---- operations of two parts

left_some : (p q r s : Option Op) → IsSome (or_else p r) → IsSome (or_else (or_else p q) (or_else r s))
left_some None None r s h = some_left r s h
left_some None (Some q) r s h = refl
left_some (Some p) q r s h = refl

right_some : (p q r s : Option Op) → IsSome (or_else q s) → IsSome (or_else (or_else p q) (or_else r s))
right_some None None r s h = some_right r s h
right_some None (Some q) r s h = refl
right_some (Some p) q r s h = refl

pub some_cond : (t : Bool) (o : Option Op) → IsSome (cond t o None) → IsSome o
some_cond true o h = h
some_cond false o h = absurd cc

pub none_cond : (t : Bool) (o : Option Op) → o ≡ None → cond t o None ≡ None
none_cond true o e = e
none_cond false o e = refl

-- messages in two parts, for a key of the lower one
halves_under : (s : Bool) (o p q : Option Op) → s ≡ false → q ≡ None → or_else o (or_else p q) ≡ or_else (or_else (cond (not s) o None) p) (or_else (cond s o None) q)
halves_under true o p q e f = absurd (no_path (sym e))
halves_under false o p (Some q) e f = absurd cc
halves_under false (Some o) p None e f = refl
halves_under false None p None e f = refl

-- and for one of the upper one
halves_over : (s : Bool) (o p q : Option Op) → p ≡ None → (s ≡ false → o ≡ None) → or_else o (or_else p q) ≡ or_else (or_else (cond (not s) o None) p) (or_else (cond s o None) q)
halves_over s o (Some p) q e f = absurd cc
halves_over true o None q e f = refl
halves_over false None None q e f = refl
halves_over false (Some o) None q e f = absurd (some_none o (f refl)) where
  some_none : (o : Op) → ◌≡◌ {A = Option Op} (Some o) None → ⊥
  some_none o z = cc

other_nothing : (ms : List TreeMessage) → AllOther ms []
other_nothing [] = tt
other_nothing (m ∷ ms) = (tt, other_nothing ms)

-- messages in an empty buffer
pub ops-all_alone : (ms : List TreeMessage) (key : List ℕ) (n : ℕ) → MessagesRise ms → ops_in (all_placed ms []) key n ≡ ops_in ms key n
ops-all_alone ms key n rise = ops-all_placed ms [] key n rise (other_nothing ms) ∙ or_none (ops_in ms key n) None refl

-- ---- the two nodes

abbrev pub lower_of : {A : Type 0} → Inside A → Vec (Child A) A → List ℕ → Inside A
lower_of a v low = record a { buffer = without_range low top_key a.buffer; children = v }

abbrev pub upper_of : {A : Type 0} → Inside A → Vec (Child A) A → List ℕ → Inside A
upper_of a w low =
    record {
      low = low;
      height = a.height;
      shape = a.shape;
      buffer = with_messages (in_range low top_key a.buffer.messages) (message_list [] 0 a.shape.buffer);
      children = w;
    }

pub record Cut {A : Type 0} (a : Inside A) (v w : Vec (Child A) A) (low : List ℕ) : Type 0 where
  pub lower : IsNode (lower_of a v low)
  pub upper : IsNode (upper_of a w low)
  pub halves : AreHalves (subtree_of a) (subtree_of (lower_of a v low)) (subtree_of (upper_of a w low))

pub cut : {A : Type 0} (a : Inside A) (v w : Vec (Child A) A) (low : List ℕ) → IsNode a → a.children.items ≡ v.items ++ w.items → 0 < length v.items → 0 < length w.items
    → low ≡ low_or top_key (parts_of w.items) → MessagesRise a.buffer.messages → Cut a v w low
cut {A} a v w low node e some more is rise = record {
  lower = record {
    tiled = tiled-wider low top_key ps to_low left;
    first = first;
    level = (all_split (IsBelow a.height a.shape) v.items w.items level).0;
    some = omega arith;
    block = node.block;
    from = record { outside = λ key n o. ops-out_of_range low top_key ms key n ∙ none_cond (not (spans low top_key key)) (ops_in ms key n) (node.from.outside key n o) };
    sizes = leaf_sizes.0;
    newer = record {
      above = λ key n k u l. node.newer.above key n k
          (some_cond (not (spans low top_key key)) (ops_in ms key n) (subst IsSome (ops-out_of_range low top_key ms key n) u))
          (subst IsSome (sym (below key k)) (left_some (ops_in (messages_in ps) key k) (ops_in (messages_in qs) key k) (ops_in (row_messages (leaves_in ps)) key k) (ops_in (row_messages (leaves_in qs)) key k)
          (subst IsSome (ops-append (messages_in ps) (row_messages (leaves_in ps)) key k) l)));
    };
  };
  upper = upper_node;
  halves = record {
    low = refl;
    capacity = refl;
    lower_like = record { height = refl; shape = refl; block = node.block };
    upper_like = record { height = refl; shape = refl; block = inl refl };
    widths = sym widths;
    leaves = ap leaves_in parts ∙ flat_map-append (λ (p : Part). p.leaves) ps qs;
    messages = λ key n.
        ops-append ms (messages_in (parts_of a.children.items)) key n
        ∙ ap (or_else (ops_in ms key n)) (ap (λ l. ops_in (messages_in l) key n) parts ∙ ap (λ l. ops_in l key n) (flat_map-append message_taken ps qs) ∙ ops-append (messages_in ps) (messages_in qs) key n)
        ∙ both key n
        ∙ sym (λ i. or_else
        ((ops-append (out_of_range low top_key ms) (messages_in ps) key n ∙ ap (λ o. or_else o (ops_in (messages_in ps) key n)) (ops-out_of_range low top_key ms key n)) i)
        ((ops-append (all_placed (in_range low top_key ms) []) (messages_in qs) key n ∙ ap (λ o. or_else o (ops_in (messages_in qs) key n)) (upper_ops key n)) i));
    count =
        let l = length-append (out_of_range low top_key ms) (messages_in ps) in
        let u = length-append (all_placed (in_range low top_key ms) []) (messages_in qs) in
        let p = length-all_placed (in_range low top_key ms) [] in
        let w = length-append ms (messages_in (parts_of a.children.items)) in
        let m = ap (λ l. length (messages_in l)) parts ∙ ap length (flat_map-append message_taken ps qs) ∙ length-append (messages_in ps) (messages_in qs) in
        omega (arith, l, u, p, w, m, split);
    weight =
        let p = length-all_placed (in_range low top_key ms) [] in
        let q : length (all_placed (in_range low top_key ms) []) ≡ length (in_range low top_key ms) = omega (arith, p) in
        let m = ap weight_in parts ∙ sum_by-append (λ (x : Part). x.weight) ps qs in
        let h : a.height * length ms ≡ a.height * length (out_of_range low top_key ms) + a.height * length (all_placed (in_range low top_key ms) []) =
        ap (λ c. a.height * c) (sym split) ∙ ap (λ c. a.height * (c + length (out_of_range low top_key ms))) (sym q) ∙ grind arith in
        omega (arith, m, h);
    lower_nearest = λ key n l. nearest_same a.height (out_of_range low top_key ms) ms (nearest_in v.items) (nearest_in a.children.items) key n
        (ops-out_of_range low top_key ms key n ∙ ap (λ s. cond (not s) (ops_in ms key n) None) (under low top_key key l))
        (sym (ap (λ cs. ops_in (nearest_in cs) key n) e ∙ nearest_front v.items w.items key n tiled (ap (lt key) (sym is) ∙ l)));
    upper_nearest = λ key n l. nearest_same a.height (all_placed (in_range low top_key ms) []) ms (nearest_in w.items) (nearest_in a.children.items) key n
        (upper_ops key n ∙ by_test (lt key top_key)
        (λ t. ap (λ s. cond s (ops_in ms key n) None) (spanned low top_key key l t))
        (λ t. let gone = node.from.outside key n (beyond a.low top_key key t) in none_cond (spans low top_key key) (ops_in ms key n) gone ∙ sym gone))
        (sym (ap (λ cs. ops_in (nearest_in cs) key n) e ∙ nearest_behind v.items w.items key n tiled (ap (lt key) (sym is) ∙ l)));
    above = whole_tile (upper_of a w low) upper_node;
    below = record {
      fences = subst (λ from. AllByRecursion (λ leaf. spans from low leaf.0 ≡ true) (leaves_in ps)) begins (row_fences low ps left);
      first = first_of_row low ps left ∙ begins;
      ordered = lt_is (bytes_cmp a.low low) (ap (λ x. lt x low) (sym begins) ∙ below_end low ps left (omega (arith, length-map v.items part_of, some)));
      messages = record {
        outside = λ key n o.
            ops-append (out_of_range low top_key ms) (messages_in ps) key n
            ∙ both_none (ops_in (out_of_range low top_key ms) key n) (ops_in (messages_in ps) key n)
            (ops-out_of_range low top_key ms key n ∙ not_spanned a.low low key o
            (λ l. none_cond (not (spans low top_key key)) (ops_in ms key n) (node.from.outside key n (under a.low top_key key l)))
            (λ _ h. by_test (lt key top_key)
            (λ t. ap (λ s. cond (not s) (ops_in ms key n) None) (spanned low top_key key h t))
            (λ t. none_cond (not (spans low top_key key)) (ops_in ms key n) (node.from.outside key n (beyond a.low top_key key t)))))
            (row_out message_taken a.low low ps key n (messages_apart low ps left) begins o);
      };
      rows = record { outside = λ key n o. ap (λ l. ops_in l key n) (rows_by_part ps) ∙ row_out row_taken a.low low ps key n (rows_apart low ps left) begins o };
    };
  };
}
  where
    ms : List TreeMessage
    ms = a.buffer.messages

    ps : List Part
    ps = parts_of v.items

    qs : List Part
    qs = parts_of w.items

    parts : parts_of a.children.items ≡ ps ++ qs
    parts = ap parts_of e ∙ map-append part_of v.items w.items

    tiled : TiledTo top_key (parts_of (v.items ++ w.items))
    tiled = subst (λ cs. TiledTo top_key (parts_of cs)) e node.tiled

    right : TiledTo top_key qs
    right = tiled-right top_key ps qs (subst (TiledTo top_key) parts node.tiled)

    left : TiledTo low ps
    left = subst (λ high. TiledTo high ps) (sym is) (tiled-left top_key ps qs (subst (TiledTo top_key) parts node.tiled))

    begins : low_or low ps ≡ a.low
    begins = ap (λ high. low_or high ps) is ∙ sym (low_or-append top_key ps qs) ∙ ap (low_or top_key) (sym parts) ∙ node.first

    leaf_sizes : AreLeafSizes a.shape.leaf (leaves_in ps) × AreLeafSizes a.shape.leaf (leaves_in qs)
    leaf_sizes = all_split (λ (l : LeafRows). IsLeafSize a.shape.leaf l.1) (leaves_in ps) (leaves_in qs) (subst (AreLeafSizes a.shape.leaf) (ap leaves_in parts ∙ flat_map-append (λ (p : Part). p.leaves) ps qs) node.sizes)

    to_low : lt top_key low ≡ false
    to_low = ap (lt top_key) is ∙ low_at_most message_taken top_key qs (messages_apart top_key qs right)

    first : low_or top_key ps ≡ a.low
    first = same_low ps refl ∙ begins where
      same_low : (l : List Part) → l ≡ ps → low_or top_key ps ≡ low_or low ps
      same_low [] is_none = absurd (let n = ap length is_none in omega (arith, n, length-map v.items part_of, some))
      same_low (p ∷ l) is_some = ap (low_or top_key) (sym is_some) ∙ ap (low_or low) is_some

    level : AllByRecursion (IsBelow {A = A} a.height a.shape) (v.items ++ w.items)
    level = subst (AllByRecursion (IsBelow {A = A} a.height a.shape)) e node.level

    widths : length a.children.items ≡ length v.items + length w.items
    widths = ap length e ∙ length-append v.items w.items

    split : length (in_range low top_key ms) + length (out_of_range low top_key ms) ≡ length ms
    split = length-filter_both (is_between low top_key) (λ m. not (is_between low top_key m)) (λ m. refl) ms

    upper_ops : (key : List ℕ) (n : ℕ) → ops_in (all_placed (in_range low top_key ms) []) key n ≡ cond (spans low top_key key) (ops_in ms key n) None
    upper_ops key n = ops-all_alone (in_range low top_key ms) key n (filter_rises (is_between low top_key) ms rise) ∙ ops-in_range low top_key ms key n

    below : (key : List ℕ) (k : ℕ) → ops_in (messages_in (parts_of a.children.items) ++ row_messages (leaves_in (parts_of a.children.items))) key k ≡ or_else (or_else (ops_in (messages_in ps) key k) (ops_in (messages_in qs) key k)) (or_else (ops_in (row_messages (leaves_in ps)) key k) (ops_in (row_messages (leaves_in qs)) key k))
    below key k =
        ap (λ l. ops_in (messages_in l ++ row_messages (leaves_in l)) key k) parts
        ∙ ops-append (messages_in (ps ++ qs)) (row_messages (leaves_in (ps ++ qs))) key k
        ∙ (λ i. or_else
        ((ap (λ l. ops_in l key k) (flat_map-append message_taken ps qs) ∙ ops-append (messages_in ps) (messages_in qs) key k) i)
        ((ap (λ l. ops_in (row_messages l) key k) (flat_map-append (λ (p : Part). p.leaves) ps qs) ∙ ap (λ l. ops_in l key k) (row_messages-append (leaves_in ps) (leaves_in qs)) ∙ ops-append (row_messages (leaves_in ps)) (row_messages (leaves_in qs)) key k) i))

    both : (key : List ℕ) (n : ℕ) → or_else (ops_in ms key n) (or_else (ops_in (messages_in ps) key n) (ops_in (messages_in qs) key n)) ≡ or_else (or_else (cond (not (spans low top_key key)) (ops_in ms key n) None) (ops_in (messages_in ps) key n)) (or_else (cond (spans low top_key key) (ops_in ms key n) None) (ops_in (messages_in qs) key n))
    both key n = by_test (lt key low)
        (λ l. halves_under (spans low top_key key) (ops_in ms key n) (ops_in (messages_in ps) key n) (ops_in (messages_in qs) key n) (under low top_key key l)
        (none_before message_taken top_key qs key n (messages_apart top_key qs right) (ap (lt key) (sym is) ∙ l)))
        (λ l. halves_over (spans low top_key key) (ops_in ms key n) (ops_in (messages_in ps) key n) (ops_in (messages_in qs) key n)
        (none_from message_taken low ps key n (messages_apart low ps left) l)
        (λ s. node.from.outside key n (beyond a.low top_key key (by_test (lt key top_key) (λ t. absurd (no_path (sym s ∙ spanned low top_key key l t))) (λ t. t)))))

    upper_node : IsNode (upper_of a w low)
    upper_node = record {
      tiled = right;
      first = sym is;
      level = (all_split (IsBelow a.height a.shape) v.items w.items level).1;
      some = omega arith;
      block = inl refl;
      from = record { outside = λ key n o. upper_ops key n ∙ ap (λ t. cond t (ops_in ms key n) None) o };
      sizes = leaf_sizes.1;
      newer = record {
        above = λ key n k u l. node.newer.above key n k
            (some_cond (spans low top_key key) (ops_in ms key n) (subst IsSome (upper_ops key n) u))
            (subst IsSome (sym (below key k)) (right_some (ops_in (messages_in ps) key k) (ops_in (messages_in qs) key k) (ops_in (row_messages (leaves_in ps)) key k) (ops_in (row_messages (leaves_in qs)) key k)
            (subst IsSome (ops-append (messages_in qs) (row_messages (leaves_in qs)) key k) l)));
      };
    }

-- ---- the code's cut

-- where the children from a place on begin
pub low_from : {A : Type 0} (cs : List (Child A)) (i : ℕ) (d : Child A) → i < length cs → (part_of (get_or cs i d)).low ≡ low_or top_key (parts_of (drop i cs))
low_from [] i d h = absurd (omega arith)
low_from (c ∷ cs) zero d h = refl
low_from (c ∷ cs) (suc i) d h = low_from cs i d (omega arith)

-- the vector's parts
pub cut_at : {A : Type 0} (a : Inside A) (v w : Vec (Child A) A) (low : List ℕ) (at : ℕ) (d : Child A) → IsNode a → 0 < at → at < length a.children.items → v.items ≡ take at a.children.items → w.items ≡ drop at a.children.items
    → low ≡ (part_of (get_or a.children.items at d)).low → MessagesRise a.buffer.messages → Cut a v w low
cut_at a v w low at d node some more left right from rise =
    cut a v w low node
    (sym (ap (λ l. l ++ w.items) left ∙ ap (λ l. take at a.children.items ++ l) right ∙ take-append-drop at a.children.items))
    (let l = ap length left ∙ length-take-le at a.children.items (omega (arith, more)) in omega (arith, l, some))
    (let l = ap length right ∙ length-drop at a.children.items in omega (arith, l, more))
    (from ∙ low_from a.children.items at d more ∙ ap (λ cs. low_or top_key (parts_of cs)) (sym right))
    rise

-- What stands below a node for one key.
use Rattle.std.proofs.Common.{◌≡◌, ℕ, zero, suc, ◌<◌, List, [], ◌∷◌, ◌++◌, length, get_or, Some, ap, ◌∙◌, sym, subst, arith}
use Rattle.std.specs.Prelude.{Contains, IsSome, slice_get}
use Rattle.std.proofs.lemmas.List.{length-map, get_or-map}
use Rattle.std.proofs.lemmas.Option.{slice_get-get_or}
use Rattle.stow_tree_model.specs.Messages.{ops_in}
use Rattle.stow_tree_model.specs.Operations.{or_else}
use Rattle.std.proofs.lemmas.List.Elements.{Contains-append_left, Contains-append_right}
use Rattle.stow_node.specs.StowLeaf.Intervals.{top_key, spans}
use Rattle.stow_node.specs.StowLeaf.LeafRows.{LeafRows, row_messages}
use Rattle.stow_node.proofs.StowLeaf.Intervals.{lt, span_low, span_high, spanned, lt_le, le_le}
use Rattle.stow_node.proofs.StowLeaf.Ops.{ops-append}
use Rattle.stow_node.specs.declared.child.Child.{Child}
use Rattle.stow_node.specs.Nodes.{part_of, parts_of, AreChildren}
use Rattle.stow_node.specs.Parts.{Part, high_of, TiledTo, messages_in, leaves_in, IsFor}
use Rattle.stow_node.specs.Subtree.{Subtree}
use Rattle.stow_node.proofs.Lowered.{rows_by_part, end_at_most}
use Rattle.stow_node.proofs.Row.{message_taken, row_taken, messages_apart, rows_apart, at_part}
use Rattle.stow_node.proofs.Stayed.{level_at}
use Rattle.stow_read.specs.Descent.{part_messages, LeadsDown, LeadsAllTo}

leaves_of : (ps : List Part) (i : ℕ) (d : Part) (leaf : LeafRows) → i < length ps → Contains (get_or ps i d).leaves leaf → Contains (leaves_in ps) leaf
leaves_of [] i d leaf h c = absurd (omega arith)
leaves_of (p ∷ ps) zero d leaf h c = Contains-append_left p.leaves (leaves_in ps) leaf c
leaves_of (p ∷ ps) (suc i) d leaf h c = Contains-append_right p.leaves (leaves_in ps) leaf (leaves_of ps i d leaf (omega arith) c)

-- what a row of parts has for a key is what the part for it has
pub row_has : (ps : List Part) (i : ℕ) (d : Part) (key : List ℕ) (n : ℕ) → TiledTo top_key ps → IsFor ps key i → ops_in (messages_in ps ++ row_messages (leaves_in ps)) key n ≡ ops_in (part_messages (get_or ps i d)) key n
row_has ps i d key n tiled for =
    ops-append (messages_in ps) (row_messages (leaves_in ps)) key n
    ∙ (λ j. or_else
    (at_part message_taken top_key ps i d key n (messages_apart top_key ps tiled) for.inside (for.spanned d) j)
    ((ap (λ ms. ops_in ms key n) (rows_by_part ps) ∙ at_part row_taken top_key ps i d key n (rows_apart top_key ps tiled) for.inside (for.spanned d)) j))
    ∙ sym (ops-append (get_or ps i d).messages (row_messages (get_or ps i d).leaves) key n)

pub leads_to : {A : Type 0} (t : Subtree) (cs : List (Child A)) (key : List ℕ) (i : ℕ) (c : Child A) → AreChildren t cs → IsFor (parts_of cs) key i → c ≡ get_or cs i c → LeadsDown t key c
leads_to t cs key i c are for e = record {
  spanned = ap (λ (p : Part). spans p.low top_key key) (sym is) ∙ spanned (get_or (parts_of cs) i (part_of c)).low top_key key (span_low _ (high_of (parts_of cs) i) key (for.spanned (part_of c)))
      (lt_le key (high_of (parts_of cs) i) top_key (span_high (get_or (parts_of cs) i (part_of c)).low (high_of (parts_of cs) i) key (for.spanned (part_of c)))
      (end_at_most message_taken top_key (parts_of cs) i (messages_apart top_key (parts_of cs) are.tiled) for.inside));
  lower = let level = (level_at t.height t.shape cs i c are.level there).level in omega arith;
  messages = has;
  newer = λ n k a b. are.newer.above key n k a (subst IsSome (sym (has k)) b);
  leaves = λ leaf k. subst (λ ls. Contains ls leaf) (sym are.leaves) (leaves_of (parts_of cs) i (part_of c) leaf for.inside (subst (λ (p : Part). Contains p.leaves leaf) (sym is) k));
}
  where
    inside : i < length cs
    inside = let l = for.inside in omega (arith, length-map cs part_of)

    there : slice_get cs i ≡ Some c
    there = slice_get-get_or cs i c inside ∙ ap (λ x. Some x) (sym e)

    is : get_or (parts_of cs) i (part_of c) ≡ part_of c
    is = get_or-map part_of cs i c (part_of c) inside ∙ ap part_of (sym e)

    has : (n : ℕ) → ops_in (t.deeper ++ row_messages t.leaves) key n ≡ ops_in (part_messages (part_of c)) key n
    has n =
        (λ j. ops_in (are.deeper j ++ row_messages (are.leaves j)) key n)
        ∙ row_has (parts_of cs) i (part_of c) key n are.tiled for
        ∙ ap (λ (p : Part). ops_in (part_messages p) key n) is

-- a row's part for a key is that for the keys behind it up to the part's end
pub leads_all_to : {A : Type 0} (t : Subtree) (cs : List (Child A)) (key : List ℕ) (i : ℕ) (c : Child A) (high : List ℕ) → AreChildren t cs → IsFor (parts_of cs) key i → c ≡ get_or cs i c → high ≡ high_of (parts_of cs) i → LeadsAllTo t key high c
leads_all_to t cs key i c high are for e end = record {
  inside = ap (lt key) end ∙ span_high (get_or (parts_of cs) i (part_of c)).low (high_of (parts_of cs) i) key (for.spanned (part_of c));
  each = λ other s. leads_to t cs other i c are (record {
    inside = for.inside;
    spanned = λ d. spanned (get_or (parts_of cs) i d).low (high_of (parts_of cs) i) other
        (le_le (get_or (parts_of cs) i d).low key other (span_low (get_or (parts_of cs) i d).low (high_of (parts_of cs) i) key (for.spanned d)) (span_low key high other s))
        (ap (lt other) (sym end) ∙ span_high key high other s);
  }) e;
}

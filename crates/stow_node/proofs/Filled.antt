-- A child that messages are buffered for.
use Rattle.std.proofs.Common.{suc, ◌≡◌, ℕ, ◌<◌, ◌≤◌, Bool, true, false, List, [], ◌∷◌, length, get_or, Option, Some, None, refl, sym, ap, subst, arith}
use Rattle.std.specs.Prelude.{if◌then◌else◌}
use Rattle.std.specs.List.{sum_by, filter}
use Rattle.std.proofs.lemmas.List.Sums.{sum_by-cons}
use Rattle.stow_tree_model.specs.Op.{Op}
use Rattle.stow_tree_model.specs.TreeMessage.{TreeMessage}
use Rattle.stow_tree_model.proofs.Histories.{ops_in-at}
use Rattle.stow_leaves.specs.StowMessage.MessageBuf.{MessageList}
use Rattle.stow_leaves.specs.StowMessage.Packed.{message_size}
use Rattle.stow_leaves.specs.StowMessage.Rising.{is_between, in_range}
use Rattle.stow_node.specs.Parts.{Part, low_or, end_of}
use Rattle.stow_leaves.specs.StowLeaf.Intervals.{top_key, spans, NoneOutside}
use Rattle.stow_node.specs.Moves.{bytes_for, IsHeaviest}
use Rattle.stow_leaves.proofs.StowLeaf.Intervals.{lt, by_test, span_low, span_high, spanned}

-- the bytes of some of the messages are no more than those of all
pub some_bytes : (f : TreeMessage → Bool) (ms : List TreeMessage) → sum_by message_size (filter f ms) ≤ sum_by message_size ms
some_bytes f [] = omega arith
some_bytes f (m ∷ ms) = step (f m) (some_bytes f ms) where
  step : (b : Bool) → sum_by message_size (filter f ms) ≤ sum_by message_size ms → sum_by message_size (if b then m ∷ filter f ms else filter f ms) ≤ sum_by message_size (m ∷ ms)
  step true on = omega (arith, on, sum_by-cons message_size m (filter f ms), sum_by-cons message_size m ms)
  step false on = omega (arith, on, sum_by-cons message_size m ms)

-- the part of a row that a key belongs to
record Found (high : List ℕ) (ps : List Part) (key : List ℕ) : Type 0 where
  at : ℕ
  inside : at < length ps
  own : (d : Part) → spans (get_or ps at d).low (end_of high ps at) key ≡ true

find : (high : List ℕ) (ps : List Part) (key : List ℕ) → spans (low_or high ps) high key ≡ true → Found high ps key
find high [] key s = absurd (apart (span_high high high key s) (span_low high high key s)) where
  apart : lt key high ≡ true → lt key high ≡ false → ⊥
  apart e f = cc
find high (p ∷ ps) key s = step (find high ps key) where
  step : (spans (low_or high ps) high key ≡ true → Found high ps key) → Found high (p ∷ ps) key
  step on = by_test (lt key (low_or high ps))
      (λ l. record { at = 0; inside = omega arith; own = λ d. spanned p.low (low_or high ps) key (span_low p.low high key s) l })
      (λ l. let f = on (spanned (low_or high ps) high key l (span_high p.low high key s)) in
      record { at = suc f.at; inside = let i = f.inside in omega arith; own = f.own })

has_bytes : (low high : List ℕ) (m : TreeMessage) (ms : List TreeMessage) → spans low high m.key ≡ true → 0 < sum_by message_size (in_range low high (m ∷ ms))
has_bytes low high m ms s = step (is_between low high m) s where
  step : (b : Bool) → b ≡ true → 0 < sum_by message_size (if b then m ∷ filter (is_between low high) ms else filter (is_between low high) ms)
  step true e = omega (arith, sum_by-cons message_size m (filter (is_between low high) ms))
  step false e = absurd cc

first_spanned : (low : List ℕ) (m : TreeMessage) (ms : List TreeMessage) → NoneOutside low top_key (m ∷ ms) → spans low top_key m.key ≡ true
first_spanned low m ms w = by_test (spans low top_key m.key) (λ e. e) (λ e. absurd (nothing (ops_in-at m ms) (w.outside m.key m.number e))) where
  nothing : {o : Option Op} {op : Op} → o ≡ Some op → o ≡ None → ⊥
  nothing e f = cc

-- the child for which most bytes are buffered has some, where there are messages
pub heaviest_has_bytes : (ps : List Part) (b : MessageList) (i : ℕ) (d : Part) → IsHeaviest ps b i → NoneOutside (low_or top_key ps) top_key b.messages → 0 < length b.messages → 0 < bytes_for ps b i d
heaviest_has_bytes ps b i d h w some = by_list b.messages refl where
  by_list : (ms : List TreeMessage) → ms ≡ b.messages → 0 < bytes_for ps b i d
  by_list [] e = absurd (let l = ap length e in omega arith)
  by_list (m ∷ ms) e =
      let f = find top_key ps m.key (first_spanned (low_or top_key ps) m ms (subst (NoneOutside (low_or top_key ps) top_key) (sym e) w)) in
      let here : 0 < bytes_for ps b f.at d = subst (λ l. 0 < sum_by message_size (in_range (get_or ps f.at d).low (end_of top_key ps f.at) l)) e (has_bytes (get_or ps f.at d).low (end_of top_key ps f.at) m ms (f.own d)) in
      omega (arith, h.most f.at d f.inside, here)

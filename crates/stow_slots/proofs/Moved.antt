-- Slots at new places.
use Rattle.std.proofs.Common.{◌≡◌, ℕ, ◌+◌, ◌-◌, ◌<◌, ◌≤◌, List, [], ◌∷◌, ◌++◌, append_assoc, length, take, drop, set, get_or, sym, ap, ◌∙◌, arith, length-append, length-take, length-drop}
use Rattle.std.proofs.lemmas.List.{get_or-append_right, get_or-drop, drop_more, take_more, set_at}
use Rattle.std.specs.List.{remove_range}

-- one more slot is at its new place
pub slot_moved : (ps ss : List ℕ) (k p : ℕ) → k < length ps → k < length ss → p ≡ get_or ps k p → set (take k ps ++ drop k ss) k p ≡ take (k + 1) ps ++ drop (k + 1) ss
slot_moved ps ss k p within lt e = let rest = drop (k + 1) ss in
    ap (λ l. set (take k ps ++ l) k p) (drop_more ss k 0 lt) ∙ set_at (take k ps) (get_or ss k 0) rest p k (omega (arith, length-take k ps))
    ∙ sym (append_assoc (take k ps) (p ∷ []) rest) ∙ ap (λ l. l ++ rest) (ap (λ q. take k ps ++ q ∷ []) e ∙ sym (take_more ps k p within))

-- a slot that comes later is still at its old place
pub slot_after : (ps ss : List ℕ) (k i d : ℕ) → k ≤ length ps → k ≤ i → i < length ss → get_or (take k ps ++ drop k ss) i d ≡ get_or ss i d
slot_after ps ss k i d within le lt = let at : k + (i - k) ≡ i = omega (arith, le) in
    get_or-append_right (take k ps) (drop k ss) k i d (omega (arith, length-take k ps)) le ∙ get_or-drop k ss (i - k) d ∙ ap (λ n. get_or ss n d) at

-- slots that come to lower places are as many
pub length-moved : (xs : List ℕ) (to from count : ℕ) → to ≤ from → from + count ≤ length xs → length (take (to + count) (remove_range xs to from) ++ drop (to + count) xs) ≡ length xs
length-moved xs to from count order within = let low = length-take to xs in let high = length-drop from xs in
    let long : length (remove_range xs to from) ≡ to + (length xs - from) = omega (arith, length-append (take to xs) (drop from xs), low, high, order, within) in
    omega (arith, length-append (take (to + count) (remove_range xs to from)) (drop (to + count) xs), length-take (to + count) (remove_range xs to from), length-drop (to + count) xs, long, order, within)

-- The lists of a block after a step on its bytes.
use Rattle.std.proofs.Common.{◌≡◌, ℕ, suc, ◌+◌, ◌-◌, ◌*◌, ◌^◌, ◌<◌, ◌≤◌, List, [], ◌∷◌, ◌++◌, length, take, drop, set, map, Option, Some, None, MatchOption, replicate, refl, sym, subst, ap, ◌∙◌, arith, length-take, length-drop, length-append, append_assoc, take-take, drop-drop}
use Rattle.std.proofs.Math.Seq.{take-append_seam, drop-append_seam, drop-length}
use Rattle.std.proofs.lemmas.List.{drop-take, take_all, take-append-le, length-take-le, length-map, length-replicate, map-append, set_split, append-nil}
use Rattle.std.specs.Int.{w32, to_be_bytes}
use Rattle.stow_raw.specs.Cells.{run, written, IsWritten}
use Rattle.stow_raw.specs.Frees.{Frees}
use Rattle.stow_raw.specs.Laid.{slots_start, front_cells, slot_cells, front_of, slots_of, IsLaid, Becomes}
use Rattle.stow_raw.proofs.Written.{written_as, length-written, written_take, written_drop}
use Rattle.stow_raw.specs.Words.{words}
use Rattle.stow_raw.specs.RawBuf.{RawLists, raw_lists}
use Rattle.stow_raw.specs.declared.block.Block.{Block}
use Rattle.stow_raw.specs.declared.lease.Lease.{Lease}
use denote.RawPtr.{Ptr}
use Rattle.stow_raw.proofs.WordLists.{length-words, words-append, words-spelled, take-words, drop-words}

-- ---- a list written over another

module _ {X : Type 0} (bytes src : List X) (at : ℕ) (within : at + length src ≤ length bytes) where
  abbrev pub pasted : List X
  pasted = take at bytes ++ (src ++ drop (at + length src) bytes)

  front_is : length (take at bytes) ≡ at
  front_is = length-take-le at bytes (omega arith)

  pub length-pasted : length pasted ≡ length bytes
  length-pasted =
      let front = front_is in
      let both = length-append (take at bytes) (src ++ drop (at + length src) bytes) in
      let later = length-append src (drop (at + length src) bytes) in
      let rest = length-drop (at + length src) bytes in
      omega arith

  pub drop-pasted : drop at pasted ≡ src ++ drop (at + length src) bytes
  drop-pasted = ap (λ n. drop n pasted) (sym front_is) ∙ drop-append_seam (take at bytes) (src ++ drop (at + length src) bytes)

  pub take-pasted : take (at + length src) pasted ≡ take at bytes ++ src
  take-pasted =
      let seam : length (take at bytes ++ src) ≡ at + length src = length-append (take at bytes) src ∙ ap (λ n. n + length src) front_is in
      let rest : List X = drop (at + length src) bytes in
      (λ i. take (sym seam i) (sym (append_assoc (take at bytes) src rest) i)) ∙ take-append_seam (take at bytes ++ src) rest

  pub drop-past-pasted : (m : ℕ) → at + length src ≤ m → drop m pasted ≡ drop m bytes
  drop-past-pasted m le =
      let rest : List X = drop (at + length src) bytes in
      let k = m - (at + length src) in
      let here : at + length src + k ≡ m = omega arith in
      let seam : length (take at bytes ++ src) ≡ at + length src = length-append (take at bytes) src ∙ ap (λ n. n + length src) front_is in
      let past : drop (at + length src) pasted ≡ rest = (λ i. drop (sym seam i) (sym (append_assoc (take at bytes) src rest) i)) ∙ drop-append_seam (take at bytes ++ src) rest in
      ap (λ j. drop j pasted) (sym here) ∙ sym (drop-drop k (at + length src) pasted) ∙ ap (drop k) past ∙ drop-drop k (at + length src) bytes ∙ ap (λ j. drop j bytes) here

  pub take-before-pasted : (m : ℕ) → m ≤ at → take m pasted ≡ take m bytes
  take-before-pasted m le =
      let front = front_is in
      take-append-le m (take at bytes) (src ++ drop (at + length src) bytes) (omega arith) ∙ take-take m at bytes le

module _ (n : ℕ) (bs : List ℕ) (long : length bs ≡ 4 * n) where
  -- a number is pasted over, after the numbers before it were moved down
  pub word_shifted : (i x : ℕ) → i < n → x < 2 ^ 32 → words n (take (4 * i) (drop 4 bs) ++ (to_be_bytes w32 x ++ drop (4 * i + 4) bs)) ≡ take i (drop 1 (words n bs)) ++ x ∷ drop (i + 1) (words n bs)
  word_shifted i x lt fits = let tail = drop (4 * i + 4) bs in let front = take (4 * i) (drop 4 bs) in let m = n - i - 1 in
      let here : length front ≡ 4 * i = omega (arith, length-take (4 * i) (drop 4 bs), length-drop 4 bs) in let on : 4 * (i + 1) ≡ 4 * i + 4 = omega arith in let less : n - (i + 1) ≡ m = omega arith in
      words-append n i (n - i) front (to_be_bytes w32 x ++ tail) (omega arith) here
      ∙ ap (λ l. words i front ++ l) (words-append (n - i) 1 m (to_be_bytes w32 x) tail (omega arith) refl ∙ ap (λ l. l ++ words m tail) (words-spelled x fits)
      ∙ ap (λ l. x ∷ l) (ap (λ k. words k tail) (sym less) ∙ ap (λ k. words (n - (i + 1)) (drop k bs)) (sym on) ∙ sym (drop-words n (i + 1) bs (omega arith) long)))
      ∙ ap (λ l. l ++ x ∷ drop (i + 1) (words n bs)) (sym (ap (take i) (drop-words n 1 bs (omega arith) long) ∙ take-words (n - 1) i (drop 4 bs) (omega arith) (omega (arith, length-drop 4 bs))))

  pub word_set : (i x : ℕ) → i < n → x < 2 ^ 32 → words n (take (4 * i) bs ++ (to_be_bytes w32 x ++ drop (4 * i + 4) bs)) ≡ set (words n bs) i x
  word_set i x lt fits = let tail = drop (4 * i + 4) bs in let front = take (4 * i) bs in let m = n - i - 1 in
      let here : length front ≡ 4 * i = omega (arith, length-take (4 * i) bs) in let on : 4 * suc i ≡ 4 * i + 4 = omega arith in let less : n - suc i ≡ m = omega arith in
      words-append n i (n - i) front (to_be_bytes w32 x ++ tail) (omega arith) here
      ∙ ap (λ l. words i front ++ l) (words-append (n - i) 1 m (to_be_bytes w32 x) tail (omega arith) refl ∙ ap (λ l. l ++ words m tail) (words-spelled x fits)
      ∙ ap (λ l. x ∷ l) (ap (λ k. words k tail) (sym less) ∙ ap (λ k. words (n - suc i) (drop k bs)) (sym on) ∙ sym (drop-words n (suc i) bs (omega arith) long)))
      ∙ ap (λ l. l ++ x ∷ drop (suc i) (words n bs)) (sym (take-words n i bs (omega arith) long))
      ∙ sym (set_split (words n bs) i x (omega (arith, length-words n bs)))

  -- c numbers from f on are moved to the places from t on
  pub words_moved : (t f c : ℕ) → f + c ≤ n → t + c ≤ n → words n (take (4 * t) bs ++ (take (4 * c) (drop (4 * f) bs) ++ drop (4 * (t + c)) bs)) ≡ take t (words n bs) ++ (take c (drop f (words n bs)) ++ drop (t + c) (words n bs))
  words_moved t f c from to = let tail = drop (4 * (t + c)) bs in let low = take (4 * t) bs in let later = drop (4 * f) bs in let some = take (4 * c) later in
      let few : n - t - c ≡ n - (t + c) = omega arith in
      let long_later : length later ≡ 4 * (n - f) = omega (arith, length-drop (4 * f) bs) in
      words-append n t (n - t) low (some ++ tail) (omega arith) (omega (arith, length-take (4 * t) bs))
      ∙ ap (λ l. words t low ++ l) (words-append (n - t) c (n - t - c) some tail (omega arith) (omega (arith, length-take (4 * c) later)))
      ∙ ap (λ l. l ++ (words c some ++ words (n - t - c) tail)) (sym (take-words n t bs (omega arith) long))
      ∙ ap (λ l. take t (words n bs) ++ (l ++ words (n - t - c) tail)) (sym (ap (take c) (drop-words n f bs (omega arith) long) ∙ take-words (n - f) c later (omega arith) long_later))
      ∙ ap (λ l. take t (words n bs) ++ (take c (drop f (words n bs)) ++ l)) (ap (λ k. words k tail) few ∙ sym (drop-words n (t + c) bs to long))

-- ---- the sizes of such rows

module _ (n : ℕ) (bs : List ℕ) (long : length bs ≡ 4 * n) where
  pub length-set_row : (i x : ℕ) → i < n → length (take (4 * i) bs ++ (to_be_bytes w32 x ++ drop (4 * i + 4) bs)) ≡ 4 * n
  length-set_row i x lt =
      let whole = length-append (take (4 * i) bs) (to_be_bytes w32 x ++ drop (4 * i + 4) bs) in
      let later = length-append (to_be_bytes w32 x) (drop (4 * i + 4) bs) in
      let front = length-take-le (4 * i) bs (omega arith) in
      let rest = length-drop (4 * i + 4) bs in
      omega arith

  pub length-shifted_row : (i x : ℕ) → i < n → length (take (4 * i) (drop 4 bs) ++ (to_be_bytes w32 x ++ drop (4 * i + 4) bs)) ≡ 4 * n
  length-shifted_row i x lt =
      let whole = length-append (take (4 * i) (drop 4 bs)) (to_be_bytes w32 x ++ drop (4 * i + 4) bs) in
      let later = length-append (to_be_bytes w32 x) (drop (4 * i + 4) bs) in
      let four = length-drop 4 bs in
      let front = length-take-le (4 * i) (drop 4 bs) (omega arith) in
      let rest = length-drop (4 * i + 4) bs in
      omega arith

  pub length-moved_row : (t f c : ℕ) → f + c ≤ n → t + c ≤ n → length (take (4 * t) bs ++ (take (4 * c) (drop (4 * f) bs) ++ drop (4 * (t + c)) bs)) ≡ 4 * n
  length-moved_row t f c from to =
      let whole = length-append (take (4 * t) bs) (take (4 * c) (drop (4 * f) bs) ++ drop (4 * (t + c)) bs) in
      let later = length-append (take (4 * c) (drop (4 * f) bs)) (drop (4 * (t + c)) bs) in
      let low = length-take-le (4 * t) bs (omega arith) in
      let left = length-drop (4 * f) bs in
      let some = length-take-le (4 * c) (drop (4 * f) bs) (omega arith) in
      let rest = length-drop (4 * (t + c)) bs in
      omega arith

-- ---- a block

module _ {A : Type 0} where
  pub length-front_of : (b : Block A) → IsLaid b → length (front_of b) ≡ b.front
  length-front_of b h = let places = h.places in let within = h.within in
      length-written (front_cells b) h.front ∙ length-take-le b.front b.cells.bytes (omega arith)

  pub length-slots_of : (b : Block A) → length (slots_of b) ≡ b.slots
  length-slots_of b = length-words b.slots (written (slot_cells b))

  pub length-slot_cells : (b : Block A) → IsLaid b → length (slot_cells b) ≡ 4 * b.slots
  length-slot_cells b h = let places = h.places in let within = h.within in let left = length-drop (slots_start b) b.cells.bytes in omega arith

  -- the slots' bytes
  pub row_length : (b : Block A) → IsLaid b → length (written (slot_cells b)) ≡ 4 * b.slots
  row_length b h = length-written (slot_cells b) h.slots ∙ length-slot_cells b h

  -- a run of the front is written
  pub front_run : (b : Block A) → IsLaid b → (at len : ℕ) → at + len ≤ b.front → IsWritten (run b.cells.bytes at len) × (written (run b.cells.bytes at len) ≡ take len (drop at (front_of b)))
  front_run b h at len le =
      let bytes = b.cells.bytes in let left = b.front - at in let whole : at + left ≡ b.front = omega arith in
      let same : run bytes at len ≡ take len (drop at (front_cells b)) =
      sym (take-take len left (drop at bytes) (omega arith)) ∙ ap (take len) (sym (drop-take at left bytes) ∙ ap (λ n. drop at (take n bytes)) whole) in
      let tail = written_drop at (front_cells b) h.front in
      let part = written_take len (drop at (front_cells b)) tail.0 in
      (subst IsWritten (sym same) part.0, ap written same ∙ part.1 ∙ ap (take len) tail.1)

  -- the slots' bytes are a run to the end
  pub row_run : (b : Block A) → IsLaid b → (start : ℕ) → start ≡ slots_start b → run b.cells.bytes start (b.capacity - start) ≡ slot_cells b
  row_run b h start here = ap (λ n. run b.cells.bytes n (b.capacity - n)) here ∙ take_all (b.capacity - slots_start b) (slot_cells b) (let places = h.places in omega (arith, length-drop (slots_start b) b.cells.bytes))

  -- the sizes of what a contract sees
  module _ (b : Block A) (v : RawLists) (h : IsLaid b) (e : raw_lists (front_of b) (slots_of b) b.capacity ≡ v) where
    pub front_size : b.front ≡ length v.front
    front_size = sym (length-front_of b h) ∙ ap (λ (w : RawLists). length w.front) e

    pub slots_size : b.slots ≡ length v.slots
    slots_size = sym (length-slots_of b) ∙ ap (λ (w : RawLists). length w.slots) e

    pub capacity_is : b.capacity ≡ v.capacity
    capacity_is = ap (λ (w : RawLists). w.capacity) e

  -- c has b's block, its allocator and its lease
  pub record IsSameBlock (b c : Block A) : Type 0 where
    pub capacity : c.capacity ≡ b.capacity
    pub lease : c.lease ≡ b.lease
    pub alloc : c.alloc ≡ b.alloc
    pub place : c.cells.ptr ≡ b.cells.ptr

  -- a step on b whose bytes, and the numbers beside them, are those of c
  module _ (b c : Block A) (h : IsLaid b) (s : IsSameBlock b c) where
    leased : MatchOption c.lease (c.capacity ≡ 0) (λ l. Frees l c.cells.ptr c.capacity c.alloc)
    leased = subst (λ (t : Option (Lease A) × (ℕ × (Ptr × A))). MatchOption t.0 (t.1.0 ≡ 0) (λ l. Frees l t.1.1.0 t.1.0 t.1.1.1))
        (λ i. (sym s.lease i, (sym s.capacity i, (sym s.place i, sym s.alloc i)))) h.lease

    becomes : (front row slots : List ℕ) → length c.cells.bytes ≡ c.capacity → c.front + 4 * c.slots ≤ c.capacity → front_cells c ≡ map Some front → slot_cells c ≡ map Some row → words c.slots row ≡ slots
        → Becomes b c front slots
    becomes front row slots places within front_is row_is slots_are =
        let f = written_as (front_cells c) front front_is in let r = written_as (slot_cells c) row row_is in (
          record { places = places; within = within; front = f.0; slots = r.0; lease = leased },
          s.capacity,
          f.1,
          ap (words c.slots) r.1 ∙ slots_are,
        )

    same_start : c.slots ≡ b.slots → slots_start c ≡ slots_start b
    same_start slots = let capacity = s.capacity in omega arith

    pub front_pushed : (src : List ℕ) → b.front + 4 * b.slots + length src ≤ b.capacity → c.front ≡ b.front + length src → c.slots ≡ b.slots
        → c.cells.bytes ≡ take b.front b.cells.bytes ++ (map Some src ++ drop (b.front + length src) b.cells.bytes) → Becomes b c (front_of b ++ src) (slots_of b)
    front_pushed src room front slots e =
        let bytes = b.cells.bytes in let more = map Some src in let places = h.places in let capacity = s.capacity in
        let same : length more ≡ length src = length-map src Some in
        let within : b.front + length more ≤ length bytes = omega arith in
        let all : c.cells.bytes ≡ pasted bytes more b.front within = e ∙ ap (λ n. take b.front bytes ++ (more ++ drop (b.front + n) bytes)) (sym same) in
        let end : c.front ≡ b.front + length more = omega arith in
        becomes (front_of b ++ src) (written (slot_cells b)) (slots_of b)
        (ap length all ∙ length-pasted bytes more b.front within ∙ places ∙ sym capacity) (omega arith)
        ((λ i. take (end i) (all i)) ∙ take-pasted bytes more b.front within ∙ ap (λ l. l ++ more) h.front ∙ sym (map-append Some (front_of b) src))
        ((λ i. drop (same_start slots i) (all i)) ∙ drop-past-pasted bytes more b.front within (slots_start b) (omega arith) ∙ h.slots)
        (ap (λ n. words n (written (slot_cells b))) slots)

    pub slot_added : (start : ℕ) → b.front + 4 * b.slots + 4 ≤ b.capacity → start ≡ b.capacity - 4 * (b.slots + 1) → c.front ≡ b.front → c.slots ≡ b.slots + 1
        → c.cells.bytes ≡ take start b.cells.bytes ++ (Some 0 ∷ Some 0 ∷ Some 0 ∷ Some 0 ∷ drop (start + 4) b.cells.bytes) → Becomes b c (front_of b) (0 ∷ slots_of b)
    unfolding words
    slot_added start room here front slots e =
        let bytes = b.cells.bytes in let places = h.places in let capacity = s.capacity in
        let zeros : List (Option ℕ) = Some 0 ∷ Some 0 ∷ Some 0 ∷ Some 0 ∷ [] in
        let within : start + length zeros ≤ length bytes = omega arith in
        let begins : slots_start c ≡ start = omega arith in
        let next : start + 4 ≡ slots_start b = omega arith in
        let one : c.slots ≡ suc b.slots = omega arith in
        becomes (front_of b) (0 ∷ 0 ∷ 0 ∷ 0 ∷ written (slot_cells b)) (0 ∷ slots_of b)
        (ap length e ∙ length-pasted bytes zeros start within ∙ places ∙ sym capacity) (omega arith)
        ((λ i. take (front i) (e i)) ∙ take-before-pasted bytes zeros start within b.front (omega arith) ∙ h.front)
        ((λ i. drop (begins i) (e i)) ∙ drop-pasted bytes zeros start within ∙ ap (λ n. zeros ++ drop n bytes) next ∙ ap (λ l. zeros ++ l) h.slots)
        (ap (λ n. words n (0 ∷ 0 ∷ 0 ∷ 0 ∷ written (slot_cells b))) one)

    pub slots_dropped : (count : ℕ) → count ≤ b.slots → c.front ≡ b.front → c.slots ≡ b.slots - count → c.cells.bytes ≡ b.cells.bytes → Becomes b c (front_of b) (drop count (slots_of b))
    slots_dropped count few front slots e =
        let within = h.within in let capacity = s.capacity in let row = written (slot_cells b) in
        let begins : slots_start c ≡ slots_start b + 4 * count = omega arith in
        let left = written_drop (4 * count) (slot_cells b) h.slots in
        becomes (front_of b) (drop (4 * count) row) (drop count (slots_of b))
        (ap length e ∙ h.places ∙ sym capacity) (omega arith)
        ((λ i. take (front i) (e i)) ∙ h.front)
        ((λ i. drop (begins i) (e i)) ∙ sym (drop-drop (4 * count) (slots_start b) b.cells.bytes) ∙ left.0 ∙ ap (map Some) left.1)
        (ap (λ n. words n (drop (4 * count) row)) slots ∙ sym (drop-words b.slots count row few (row_length b h)))

    pub front_cleared : c.front ≡ 0 → c.slots ≡ b.slots → c.cells.bytes ≡ b.cells.bytes → Becomes b c [] (slots_of b)
    front_cleared front slots e =
        let within = h.within in let capacity = s.capacity in
        becomes [] (written (slot_cells b)) (slots_of b) (ap length e ∙ h.places ∙ sym capacity) (omega arith)
        (ap (λ n. take n c.cells.bytes) front) ((λ i. drop (same_start slots i) (e i)) ∙ h.slots) (ap (λ n. words n (written (slot_cells b))) slots)

    pub emptied : c.front ≡ 0 → c.slots ≡ 0 → c.cells.bytes ≡ b.cells.bytes → Becomes b c [] []
    unfolding words
    emptied front slots e =
        let capacity = s.capacity in
        let all : length c.cells.bytes ≡ c.capacity = ap length e ∙ h.places ∙ sym capacity in
        let begins : slots_start c ≡ length c.cells.bytes = omega arith in
        becomes [] [] [] all (omega arith) (ap (λ n. take n c.cells.bytes) front) (ap (λ n. drop n c.cells.bytes) begins ∙ drop-length c.cells.bytes) (ap (λ n. words n []) slots)

    -- the bytes from the slots' start on are a row
    row_laid : (start : ℕ) (row slots : List ℕ) → b.front + 4 * c.slots ≤ b.capacity → start ≡ b.capacity - 4 * c.slots → c.front ≡ b.front → length row ≡ 4 * c.slots
        → c.cells.bytes ≡ take start b.cells.bytes ++ map Some row → words c.slots row ≡ slots → Becomes b c (front_of b) slots
    row_laid start row slots room here front long e are =
        let bytes = b.cells.bytes in let places = h.places in let capacity = s.capacity in
        let before : length (take start bytes) ≡ start = length-take-le start bytes (omega arith) in
        let begins : slots_start c ≡ length (take start bytes) = omega (arith, before, here, capacity) in
        becomes (front_of b) row slots
        (ap length e ∙ length-append (take start bytes) (map Some row) ∙ omega (arith, before, long, length-map row Some)) (omega arith)
        ((λ i. take (front i) (e i)) ∙ take-append-le b.front (take start bytes) (map Some row) (omega arith) ∙ take-take b.front start bytes (omega arith) ∙ h.front)
        ((λ i. drop (begins i) (e i)) ∙ drop-append_seam (take start bytes) (map Some row))
        are

    -- the slots' bytes are written over
    pub row_becomes : (start : ℕ) (row : List ℕ) → start ≡ slots_start b → c.front ≡ b.front → c.slots ≡ b.slots → length row ≡ 4 * b.slots
        → c.cells.bytes ≡ take start b.cells.bytes ++ map Some row → Becomes b c (front_of b) (words b.slots row)
    row_becomes start row here front slots long e =
        let within = h.within in
        row_laid start row (words b.slots row) (omega arith) (omega arith) front (omega arith) e (ap (λ n. words n row) slots)

    -- other slots' bytes are written
    pub row_put : (row : List ℕ) → b.front + 4 * c.slots ≤ b.capacity → c.front ≡ b.front → length row ≡ 4 * c.slots
        → c.cells.bytes ≡ take (b.capacity - length row) b.cells.bytes ++ (map Some row ++ drop (b.capacity - length row + length row) b.cells.bytes) → Becomes b c (front_of b) (words c.slots row)
    row_put row room front long e =
        let bytes = b.cells.bytes in let places = h.places in let start = b.capacity - length row in
        let end : start + length row ≡ length bytes = omega arith in
        let none : drop (start + length row) bytes ≡ [] = ap (λ n. drop n bytes) end ∙ drop-length bytes in
        row_laid start row (words c.slots row) room (omega arith) front long
        (e ∙ ap (λ l. take start bytes ++ (map Some row ++ l)) none ∙ ap (λ l. take start bytes ++ l) (append-nil (map Some row))) refl

  pub made_empty : (b : Block A) → b.cells.bytes ≡ replicate b.capacity None → b.front ≡ 0 → b.slots ≡ 0 → MatchOption b.lease (b.capacity ≡ 0) (λ l. Frees l b.cells.ptr b.capacity b.alloc) → IsLaid b × (front_of b ≡ []) × (slots_of b ≡ [])
  unfolding words
  made_empty b bytes front slots lease =
      let all : length b.cells.bytes ≡ b.capacity = ap length bytes ∙ length-replicate b.capacity None in
      let begins : slots_start b ≡ length b.cells.bytes = omega arith in
      let f = written_as (front_cells b) [] (ap (λ n. take n b.cells.bytes) front) in
      let r = written_as (slot_cells b) [] (ap (λ n. drop n b.cells.bytes) begins ∙ drop-length b.cells.bytes) in
      (record { places = all; within = omega arith; front = f.0; slots = r.0; lease = lease }, f.1, ap (λ n. words n (written (slot_cells b))) slots)

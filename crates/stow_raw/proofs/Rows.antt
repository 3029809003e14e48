-- A row of bytes, written or not: a run of it is taken out while the rest waits, and what is written of it is a slice's. Assumes `Logic`.
use Rattle.std.proofs.Common.{◌≡◌, ℕ, zero, suc, ◌+◌, ◌≤◌, List, [], ◌∷◌, ◌++◌, map, length, take, drop, replicate, Option, Some, None, refl, ap, subst, arith, drop-drop, w8}
use seplogic.Ra.Ura.{Ura}
use base.Fraction.{full_share}
use base.Fml.{Lft, fsep}
use base.Logic.{SProp, all, all_e, all_i, apply∗, emp, emp∗, ent, fst∗, id⊢, mono_r, mono∗, sep, snd∗, via, wand, wand_i}
use mir.Syntax.{ty_int, ty_array}
use mir.Val.{vint}
use types.Kit.{‵, raw, ◌⊛◌, ◌$◌, ◌∵◌, !, assume, by, done, each, fjoin, frame, move, qed, split, use1, use2}
use types.Logic.{Logic, sem}
use types.SemTy.{cells}
use denote.Builtin.{u8}
use denote.Memory.{each_shared, mem, part_at}
use denote.Plain.{uint_out}
use denote.Slice.{elements_shared}
use Rattle.stow_raw.specs.Cells.{Byte, byte_at, byte_lent, run}

-- the numbers that stand in memory side by side are written bytes
pub numbers : (xs : List ℕ) (b o : ℕ) → cells Byte (map Some xs) b o ≡ cells (mem u8) xs b o
numbers [] b o = refl
numbers (x ∷ xs) b o = ap (fsep (part_at u8 full_share x b o)) (numbers xs b (o + 1))

-- what a `&` shows of written bytes, it shows of the numbers
pub numbers_seen : (xs : List ℕ) (b o : ℕ) (κ : Lft) → each_shared (map Some xs) byte_lent 1 b o κ ≡ elements_shared u8 xs b o κ
numbers_seen [] b o κ = refl
numbers_seen (x ∷ xs) b o κ = ap (fsep (byte_lent (Some x) b o κ)) (numbers_seen xs b (o + 1) κ)

-- ws in the place of the n bytes from the index i on
abbrev pub over : List (Option ℕ) → ℕ → ℕ → List (Option ℕ) → List (Option ℕ)
over bytes i n ws = take i bytes ++ (ws ++ drop n (drop i bytes))

pub over_is : (bytes : List (Option ℕ)) (i n : ℕ) (ws : List (Option ℕ)) → over bytes i n ws ≡ take i bytes ++ (ws ++ drop (i + n) bytes)
over_is bytes i n ws = ap (λ l. take i bytes ++ (ws ++ l)) (drop-drop n i bytes)

-- n bytes, written or not
abbrev pub Stretch : ℕ → Type 0
Stretch n = (ws : List (Option ℕ)) × (length ws ≡ n)

module _ {M : Type 1} {𝓤 : Ura M} (𝓛 : Logic 𝓤) (b : ℕ) where
  open 𝓛 use {H}

  forgets : (P : SProp 𝓤) → ent 𝓤 P (emp 𝓤)
  forgets P = via 𝓤 (sep 𝓤 (emp 𝓤) P) (emp∗ 𝓤 P) (fst∗ 𝓤 (emp 𝓤) P)

  abbrev row : List (Option ℕ) → ℕ → SProp 𝓤
  row bytes o = sem 𝓛 (cells Byte bytes b o)

  -- with any n bytes at `at` it is a row from o on
  abbrev pub Waits : (n at o : ℕ) → (List (Option ℕ) → List (Option ℕ)) → SProp 𝓤
  Waits n at o whole = all 𝓤 (λ (w : Stretch n). wand 𝓤 (row w.0 at) (row (whole w.0) o))

  -- ---- a run taken out

  -- n bytes end the wait
  pub filled : (n at o : ℕ) (whole : List (Option ℕ) → List (Option ℕ)) (ws : List (Option ℕ)) → length ws ≡ n → ent 𝓤 (sep 𝓤 (row ws at) (Waits n at o whole)) (row (whole ws) o)
  filled n at o whole ws same =
      let one = λ (w : Stretch n). wand 𝓤 (row w.0 at) (row (whole w.0) o) in
      via 𝓤 (sep 𝓤 (row ws at) (one (ws, same))) (mono_r 𝓤 (row ws at) (all_e 𝓤 one (ws, same))) (apply∗ 𝓤 (row ws at) (row (whole ws) o))

  empty_back : (ws bytes : List (Option ℕ)) (o : ℕ) → length ws ≡ 0 → ent 𝓤 (sep 𝓤 (row bytes o) (row ws o)) (row (ws ++ bytes) o)
  empty_back [] bytes o e = fst∗ 𝓤 (row bytes o) (emp 𝓤)
  empty_back (w ∷ ws) bytes o e = absurd (omega arith)

  one_more : (n o : ℕ) (rest ws : List (Option ℕ)) → length ws ≡ suc n
      → ent 𝓤 (sep 𝓤 (Waits n (o + 1) (o + 1) (λ us. us ++ rest)) (row ws o)) (row (ws ++ rest) o)
  one_more n o rest [] e = absurd (omega arith)
  one_more n o rest (w ∷ ws) e =
      let whole = λ (us : List (Option ℕ)). us ++ rest in
      qed 𝓛 (raw (Waits n (o + 1) (o + 1) whole) ∷ ‵ (byte_at w b o) ∷ ‵ (cells Byte ws b (o + 1)) ∷ []) ∵ move ! (2 ∷ 0 ∷ []) $
      use2 𝓛 (‵ (cells Byte (ws ++ rest) b (o + 1))) (filled n (o + 1) (o + 1) whole ws (omega arith)) $ move ! (1 ∷ 0 ∷ []) $ fjoin ! $ done !

  first_out : (bytes : List (Option ℕ)) (n o : ℕ) → n ≤ length bytes
      → ent 𝓤 (row bytes o) (sep 𝓤 (row (take n bytes) o) (Waits n o o (λ ws. ws ++ drop n bytes)))
  first_out bytes zero o le =
      via 𝓤 (sep 𝓤 (emp 𝓤) (row bytes o)) (emp∗ 𝓤 (row bytes o)) (mono_r 𝓤 (emp 𝓤)
      (all_i 𝓤 (λ (w : Stretch 0). wand 𝓤 (row w.0 o) (row (w.0 ++ bytes) o)) (λ w. wand_i 𝓤 (row bytes o) (row w.0 o) (row (w.0 ++ bytes) o) (empty_back w.0 bytes o w.1))))
  first_out [] (suc n) o le = absurd (omega (arith, le))
  first_out (c ∷ bytes) (suc n) o le =
      let rest = drop n bytes in let Rest = Waits n (o + 1) (o + 1) (λ ws. ws ++ rest) in
      qed 𝓛 (‵ (byte_at c b o) ∷ ‵ (cells Byte bytes b (o + 1)) ∷ []) ∵ move ! (1 ∷ []) $
      use1 𝓛 (‵ (cells Byte (take n bytes) b (o + 1)) ⊛ raw Rest) (first_out bytes n (o + 1) (omega (arith, le))) $ split ! $ move ! (2 ∷ 0 ∷ []) $ fjoin ! $ frame ! $
      by ! (all_i 𝓤 (λ (w : Stretch (suc n)). wand 𝓤 (row w.0 o) (row (w.0 ++ rest) o)) (λ w. wand_i 𝓤 Rest (row w.0 o) (row (w.0 ++ rest) o) (one_more n o rest w.0 w.1)))

  -- n bytes from the index i on, which lie at `at`
  pub run_out : (bytes : List (Option ℕ)) (i n o at : ℕ) → at ≡ i + o → i + n ≤ length bytes
      → ent 𝓤 (row bytes o) (sep 𝓤 (row (run bytes i n) at) (Waits n at o (over bytes i n)))
  run_out bytes zero n o at here le =
      let back : o ≡ at = omega arith in
      subst (λ (k : ℕ). ent 𝓤 (row bytes o) (sep 𝓤 (row (take n bytes) k) (Waits n k o (λ ws. ws ++ drop n bytes)))) back (first_out bytes n o (omega (arith, le)))
  run_out [] (suc i) n o at here le = absurd (omega (arith, le))
  run_out (c ∷ bytes) (suc i) n o at here le =
      let whole = over bytes i n in
      qed 𝓛 (‵ (byte_at c b o) ∷ ‵ (cells Byte bytes b (o + 1)) ∷ []) ∵ move ! (1 ∷ []) $
      use1 𝓛 (‵ (cells Byte (run bytes i n) b at) ⊛ raw (Waits n at (o + 1) whole)) (run_out bytes i n (o + 1) at (omega (arith, here)) (omega (arith, le))) $ split ! $ frame ! $
      each ! (λ (w : Stretch n). wand 𝓤 (row w.0 at) (row (c ∷ whole w.0) o)) (λ w. assume ! (‵ (cells Byte w.0 b at)) $
      use2 𝓛 (‵ (cells Byte (whole w.0) b (o + 1))) (filled n at (o + 1) whole w.0 w.1) $ move ! (1 ∷ 0 ∷ []) $ fjoin ! $ done !)

  -- ---- bytes and room

  pub byte_room : (c : Option ℕ) (o : ℕ) → ent 𝓤 (sem 𝓛 (byte_at c b o)) (H.room (ty_int w8) b o)
  byte_room None o = id⊢ 𝓤 (H.room (ty_int w8) b o)
  byte_room (Some x) o = via 𝓤 (H.at full_share (ty_int w8) b o (vint w8 x)) (uint_out 𝓛 full_share w8 x b o) (𝓛.laws.at_room (ty_int w8) b o (vint w8 x))

  pub row_room : (bytes : List (Option ℕ)) (o : ℕ) → ent 𝓤 (row bytes o) (H.room (ty_array (ty_int w8) (length bytes)) b o)
  row_room [] o = 𝓛.laws.room_nil (ty_int w8) b o
  row_room (c ∷ bytes) o =
      via 𝓤 (sep 𝓤 (H.room (ty_int w8) b o) (H.room (ty_array (ty_int w8) (length bytes)) b (o + 1)))
      (mono∗ 𝓤 (byte_room c o) (row_room bytes (o + 1))) (𝓛.laws.room_cons (ty_int w8) (length bytes) b o)

  pub unwritten : (n o : ℕ) → ent 𝓤 (H.room (ty_array (ty_int w8) n) b o) (row (replicate n None) o)
  unwritten zero o = forgets (H.room (ty_array (ty_int w8) 0) b o)
  unwritten (suc n) o =
      via 𝓤 (sep 𝓤 (H.room (ty_int w8) b o) (H.room (ty_array (ty_int w8) n) b (o + 1)))
      (𝓛.laws.room_uncons (ty_int w8) n b o) (mono_r 𝓤 (H.room (ty_int w8) b o) (unwritten n (o + 1)))

  -- ---- what a `&` shows

  module _ (κ : Lft) where
    abbrev seen : List (Option ℕ) → ℕ → SProp 𝓤
    seen bytes o = sem 𝓛 (each_shared bytes byte_lent 1 b o κ)

    first_seen : (bytes : List (Option ℕ)) (n o : ℕ) → ent 𝓤 (seen bytes o) (seen (take n bytes) o)
    first_seen bytes zero o = forgets (seen bytes o)
    first_seen [] (suc n) o = id⊢ 𝓤 (emp 𝓤)
    first_seen (c ∷ bytes) (suc n) o = mono_r 𝓤 (sem 𝓛 (byte_lent c b o κ)) (first_seen bytes n (o + 1))

    pub run_seen : (bytes : List (Option ℕ)) (i n o at : ℕ) → at ≡ i + o → ent 𝓤 (seen bytes o) (seen (run bytes i n) at)
    run_seen bytes zero n o at here = let back : o ≡ at = omega arith in subst (λ (k : ℕ). ent 𝓤 (seen bytes o) (seen (take n bytes) k)) back (first_seen bytes n o)
    run_seen [] (suc i) n o at here = via 𝓤 (emp 𝓤) (id⊢ 𝓤 (emp 𝓤)) (first_seen [] n at)
    run_seen (c ∷ bytes) (suc i) n o at here = via 𝓤 (seen bytes (o + 1)) (snd∗ 𝓤 (sem 𝓛 (byte_lent c b o κ)) (seen bytes (o + 1))) (run_seen bytes i n (o + 1) at (omega (arith, here)))

-- What room nodes that come take, and what is left of it.
use Rattle.std.proofs.Common.{zero, suc, ◌≡◌, ℕ, ◌+◌, ◌*◌, ◌-◌, ◌<◌, ◌≤◌, List, [], ◌∷◌, length, drop, get_or, refl, sym, ap, ◌∙◌, subst, arith}
use Rattle.std.proofs.lemmas.List.{drop_more}
use Rattle.std.specs.List.{AllByRecursion}
use Rattle.std.specs.Vec.{vec_capacity}
use Rattle.std.specs.declared.vec.Vec.{Vec}
use Rattle.stow_node.specs.declared.child.Child.{Child}
use Rattle.stow_node.specs.declared.room.Room.{Room}
use Rattle.stow_node.specs.declared.shape.Shape.{Shape}
use Rattle.stow_groups.proofs.Counts.{one_group, groups_fall}
use Rattle.stow_groups.specs.Groups.{groups}
use Rattle.stow_node.specs.Rooms.{IsList, AreLists, AreShells, IsRoom, HasRoom, nodes_needed, levels_needed, places_needed}

-- ---- how much fewer take

-- levels that so many more need, fewer need too
pub levels_fall : (ws : List ℕ) (c d : ℕ) → d ≤ c → levels_needed ws d ≤ length ws + c
levels_fall ws c zero l = omega arith
levels_fall ws c (suc d) l = omega (arith, l)

pub places_fall : (f c d : ℕ) → 1 ≤ c → d ≤ c → places_needed f d ≤ places_needed f c
places_fall f zero d one l = absurd (omega arith)
places_fall f (suc c) zero one l = omega arith
places_fall f (suc c) (suc d) one l = omega (arith, l)

-- what is left once a root took its part is enough for the next
pub roots_fall : (f c d : ℕ) → 4 * d ≤ c → 1 ≤ c → nodes_needed f [] d ≤ c - d
roots_fall f c zero l one = omega arith
roots_fall f c (suc d) l one = omega (arith, l)

pub levels_are : (ws : List ℕ) (n : ℕ) → 0 < n → levels_needed ws n ≡ length ws + n
levels_are ws zero l = absurd (omega arith)
levels_are ws (suc n) l = refl

pub places_are : (f n : ℕ) → 0 < n → places_needed f n ≡ f + n
places_are f zero l = absurd (omega arith)
places_are f (suc n) l = refl

pub room_is : {A : Type 0} (shape : Shape) (nodes levels places n : ℕ) (ws : List ℕ) (room : Room A) → 0 < n → nodes ≡ n + nodes_needed shape.fan_out ws n → levels ≡ length ws + n → places ≡ shape.fan_out + n → IsRoom shape nodes levels places room
    → IsRoom shape (n + nodes_needed shape.fan_out ws n) (levels_needed ws n) (places_needed shape.fan_out n) room
room_is shape nodes levels places n ws room some a b d r =
    subst (λ k. IsRoom shape k (levels_needed ws n) (places_needed shape.fan_out n) room) a
    (subst (λ k. IsRoom shape nodes k (places_needed shape.fan_out n) room) (b ∙ sym (levels_are ws n some))
    (subst (λ k. IsRoom shape nodes levels k room) (d ∙ sym (places_are shape.fan_out n some)) r))

-- the next level's nodes
pub needed_next : (f i d : ℕ) (ws : List ℕ) (c : ℕ) → i < length ws → 0 < c → nodes_needed f (drop i ws) c ≡ (groups f (get_or ws i d + c) - 1) + nodes_needed f (drop (i + 1) ws) (groups f (get_or ws i d + c) - 1)
needed_next f i d ws zero l some = absurd (omega arith)
needed_next f i d ws (suc c) l some = ap (λ l. nodes_needed f l (suc c)) (drop_more ws i d l)

-- the same where there are none
pub groups_stay : (f w c : ℕ) → 1 ≤ f → w ≤ f → groups f (w + c) - 1 ≤ c
groups_stay f w zero some few = let g = one_group f (w + 0) (omega (arith, few)) some in omega (arith, g)
groups_stay f w (suc c) some few = groups_fall f w (suc c) some few (omega arith)

-- ---- what is left

pub enough_places : (f n : ℕ) → n ≤ places_needed f n
enough_places f zero = omega arith
enough_places f (suc n) = omega arith

pub fewer_shells : (n m : ℕ) (shape : Shape) (shells : List Shape) → n ≤ m → AreShells m shape shells → AreShells n shape shells
fewer_shells n m shape shells l h = record { enough = let e = h.enough in omega (arith, l, e); each = h.each }

pub fewer_each : {A : Type 0} (p q : ℕ) (lists : List (Vec (Child A) A)) → p ≤ q → AllByRecursion (IsList q) lists → AllByRecursion (IsList p) lists
fewer_each p q [] l h = tt
fewer_each p q (x ∷ lists) l h = ((h.0.0, let c = h.0.1 in omega (arith, c, l)), fewer_each p q lists l h.1)

pub fewer_lists : {A : Type 0} (n m p q : ℕ) (lists : List (Vec (Child A) A)) → n ≤ m → p ≤ q → AreLists m q lists → AreLists n p lists
fewer_lists n m p q lists l k h = record { enough = let e = h.enough in omega (arith, l, e); each = fewer_each p q lists k h.each }

-- what is left once the nodes that came took theirs
pub room_left : {A : Type 0} (shape : Shape) (n levels places : ℕ) (ws : List ℕ) (room room' : Room A) → IsRoom shape (n + nodes_needed shape.fan_out ws n) levels places room → levels_needed ws n ≤ levels → places_needed shape.fan_out n ≤ places
    → ((rest : ℕ) → AreShells (n + rest) shape room.shells.items → AreShells rest shape room'.shells.items) → vec_capacity room.came ≤ vec_capacity room'.came → room'.wides ≡ room.wides → length room'.came.items ≡ n → HasRoom shape ws room'
room_left {A} shape n levels places ws room room' r fl fp shells cap wides count =
    subst (λ k. IsRoom shape (nodes_needed shape.fan_out ws k) (levels_needed ws k) (places_needed shape.fan_out k) room') (sym count) (record {
      came = let c = r.came in omega (arith, c, cap, fp);
      wides = subst (λ (w : Vec (Vec (Child A) A) A). AreLists (levels_needed ws n) (places_needed shape.fan_out n) w.items) (sym wides) (fewer_lists (levels_needed ws n) levels (places_needed shape.fan_out n) places room.wides.items fl fp r.wides);
      shells = shells (nodes_needed shape.fan_out ws n) r.shells;
    })

-- ---- a root's room

-- what there is for a root with others behind it
pub record RootRoom {A : Type 0} (shape : Shape) (c : ℕ) (room : Room A) : Type 0 where
  pub came : shape.fan_out + c ≤ vec_capacity room.came
  pub wides : AreLists c (shape.fan_out + c) room.wides.items
  pub shells : AreShells (suc c) shape room.shells.items

pub root_room : {A : Type 0} (shape : Shape) (c : ℕ) (room : Room A) → 0 < c → IsRoom shape (nodes_needed shape.fan_out [] c) (levels_needed [] c) (places_needed shape.fan_out c) room → RootRoom shape c room
root_room shape zero room l r = absurd (omega arith)
root_room shape (suc c) room l r = record {
  came = r.came;
  wides = let e : length {A = ℕ} [] + suc c ≡ suc c = omega arith in subst (λ k. AreLists k (shape.fan_out + suc c) room.wides.items) e r.wides;
  shells = r.shells;
}

-- what is left once it is one level higher
pub root_left : {A : Type 0} (shape : Shape) (c d : ℕ) (room room' : Room A) → 0 < c → 4 * d ≤ c → shape.fan_out + c ≤ vec_capacity room.came → AreLists (c - 1) (shape.fan_out + c) room.wides.items → AreShells c shape room.shells.items
    → ((rest : ℕ) → AreShells (d + rest) shape room.shells.items → AreShells rest shape room'.shells.items) → vec_capacity room.came ≤ vec_capacity room'.came → room'.wides ≡ room.wides → length room'.came.items ≡ d → HasRoom shape [] room'
root_left shape c d room room' some four came wides shells left cap same count =
    room_left shape d (c - 1) (shape.fan_out + c) [] room room'
    (record {
      came = came;
      wides = wides;
      shells = fewer_shells (d + nodes_needed shape.fan_out [] d) c shape room.shells.items (let f = roots_fall shape.fan_out c d four (omega (arith, some)) in omega (arith, f, four)) shells;
    })
    (let f = levels_fall [] (c - 1) d (omega (arith, four, some)) in let e : length {A = ℕ} [] + (c - 1) ≡ c - 1 = omega arith in subst (λ k. levels_needed [] d ≤ k) e f)
    (places_up shape.fan_out c d (omega (arith, four)))
    left cap same count
  where
    places_up : (f c d : ℕ) → d ≤ c → places_needed f d ≤ f + c
    places_up f c zero l = omega arith
    places_up f c (suc d) l = omega (arith, l)

-- ---- a level's room

pub record LevelReady {A : Type 0} (shape : Shape) (w c : ℕ) (room : Room A) : Type 0 where
  pub came : groups shape.fan_out (w + c) ≤ vec_capacity room.came + 1
  pub shells : AreShells (groups shape.fan_out (w + c) - 1) shape room.shells.items
  pub places : 0 < c → AreLists 1 (w + c) room.wides.items

pub level_ready : {A : Type 0} (shape : Shape) (w c : ℕ) (ws : List ℕ) (room : Room A) → 1 ≤ shape.fan_out → w ≤ shape.fan_out → IsRoom shape (nodes_needed shape.fan_out (w ∷ ws) c) (levels_needed (w ∷ ws) c) (places_needed shape.fan_out c) room → LevelReady shape w c room
level_ready shape w c ws room some few r = record {
  came = by_count c r.came;
  shells = fewer_shells (groups shape.fan_out (w + c) - 1) (nodes_needed shape.fan_out (w ∷ ws) c) shape room.shells.items (by_nodes c) r.shells;
  places = λ one. by_places c one r.wides;
}
  where
    by_count : (c : ℕ) → places_needed shape.fan_out c ≤ vec_capacity room.came → groups shape.fan_out (w + c) ≤ vec_capacity room.came + 1
    by_count zero l = let g = one_group shape.fan_out (w + 0) (omega (arith, few)) some in omega (arith, g)
    by_count (suc c) l = let g = groups_fall shape.fan_out w (suc c) some few (omega arith) in omega (arith, g, l)

    by_nodes : (c : ℕ) → groups shape.fan_out (w + c) - 1 ≤ nodes_needed shape.fan_out (w ∷ ws) c
    by_nodes zero = let g = one_group shape.fan_out (w + 0) (omega (arith, few)) some in omega (arith, g)
    by_nodes (suc c) = omega arith

    by_places : (c : ℕ) → 0 < c → AreLists (levels_needed (w ∷ ws) c) (places_needed shape.fan_out c) room.wides.items → AreLists 1 (w + c) room.wides.items
    by_places zero l h = absurd (omega arith)
    by_places (suc c) l h = fewer_lists 1 (length (w ∷ ws) + suc c) (w + suc c) (shape.fan_out + suc c) room.wides.items (omega arith) (omega (arith, few)) h

pub level_left : {A : Type 0} (shape : Shape) (w c : ℕ) (ws : List ℕ) (room one two : Room A) → 1 ≤ shape.fan_out → w ≤ shape.fan_out → IsRoom shape (nodes_needed shape.fan_out (w ∷ ws) c) (levels_needed (w ∷ ws) c) (places_needed shape.fan_out c) room
    → one.shells ≡ room.shells → vec_capacity one.came ≡ vec_capacity room.came → (c ≡ 0 → one.wides ≡ room.wides) → (0 < c → (levels places : ℕ) → AreLists (suc levels) places room.wides.items → AreLists levels places one.wides.items)
    → ((rest : ℕ) → AreShells ((groups shape.fan_out (w + c) - 1) + rest) shape one.shells.items → AreShells rest shape two.shells.items) → vec_capacity one.came ≤ vec_capacity two.came → two.wides ≡ one.wides → length two.came.items ≡ groups shape.fan_out (w + c) - 1 → HasRoom shape ws two
level_left {A} shape w c ws room one two some few r shells cap none wides left more same count =
    room_left shape (groups shape.fan_out (w + c) - 1) (levels_then c) (places_needed shape.fan_out c) ws one two
    (record {
      came = let e = r.came in omega (arith, e, cap);
      wides = by_wides c r.wides none wides;
      shells = subst (λ (s : Vec Shape A). AreShells ((groups shape.fan_out (w + c) - 1) + nodes_needed shape.fan_out ws (groups shape.fan_out (w + c) - 1)) shape s.items) (sym shells) (by_shells c r.shells);
    })
    (by_levels c) (by_places c) left more same count
  where
    levels_then : ℕ → ℕ
    levels_then zero = 0
    levels_then (suc c) = length ws + suc c

    by_shells : (c : ℕ) → AreShells (nodes_needed shape.fan_out (w ∷ ws) c) shape room.shells.items → AreShells ((groups shape.fan_out (w + c) - 1) + nodes_needed shape.fan_out ws (groups shape.fan_out (w + c) - 1)) shape room.shells.items
    by_shells zero h = let g : groups shape.fan_out (w + 0) - 1 ≡ 0 = (let o = one_group shape.fan_out (w + 0) (omega (arith, few)) some in omega (arith, o)) in subst (λ k. AreShells (k + nodes_needed shape.fan_out ws k) shape room.shells.items) (sym g) h
    by_shells (suc c) h = h

    by_wides : (c : ℕ) → AreLists (levels_needed (w ∷ ws) c) (places_needed shape.fan_out c) room.wides.items → (c ≡ 0 → one.wides ≡ room.wides) → (0 < c → (levels places : ℕ) → AreLists (suc levels) places room.wides.items → AreLists levels places one.wides.items) → AreLists (levels_then c) (places_needed shape.fan_out c) one.wides.items
    by_wides zero h n f = subst (λ (v : Vec (Vec (Child A) A) A). AreLists 0 0 v.items) (sym (n refl)) h
    by_wides (suc c) h n f = f (omega arith) (length ws + suc c) (shape.fan_out + suc c) (let e : length (w ∷ ws) + suc c ≡ suc (length ws + suc c) = omega arith in subst (λ k. AreLists k (shape.fan_out + suc c) room.wides.items) e h)

    by_levels : (c : ℕ) → levels_needed ws (groups shape.fan_out (w + c) - 1) ≤ levels_then c
    by_levels zero = let g : groups shape.fan_out (w + 0) - 1 ≡ 0 = (let o = one_group shape.fan_out (w + 0) (omega (arith, few)) some in omega (arith, o)) in subst (λ k. levels_needed ws k ≤ 0) (sym g) (omega arith)
    by_levels (suc c) = levels_fall ws (suc c) (groups shape.fan_out (w + suc c) - 1) (groups_fall shape.fan_out w (suc c) some few (omega arith))

    by_places : (c : ℕ) → places_needed shape.fan_out (groups shape.fan_out (w + c) - 1) ≤ places_needed shape.fan_out c
    by_places zero = let g : groups shape.fan_out (w + 0) - 1 ≡ 0 = (let o = one_group shape.fan_out (w + 0) (omega (arith, few)) some in omega (arith, o)) in subst (λ k. places_needed shape.fan_out k ≤ 0) (sym g) (omega arith)
    by_places (suc c) = places_fall shape.fan_out (suc c) (groups shape.fan_out (w + suc c) - 1) (omega arith) (groups_fall shape.fan_out w (suc c) some few (omega arith))

-- where none came there is room
pub none_needed : {A : Type 0} (shape : Shape) (ws : List ℕ) (room : Room A) → room.came.items ≡ [] → IsRoom shape 0 0 0 room → HasRoom shape ws room
none_needed {A} shape ws room none r = subst (λ (l : List (Child A)). IsRoom shape (nodes_needed shape.fan_out ws (length l)) (levels_needed ws (length l)) (places_needed shape.fan_out (length l)) room) (sym none) r

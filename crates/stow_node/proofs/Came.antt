-- Children that come to a list.
use Rattle.std.proofs.Common.{suc, ◌≡◌, ℕ, ◌≤◌, List, [], ◌∷◌, ◌++◌, length, take, drop, sym, ap, ◌∙◌, subst, arith, append-nil, append_assoc, length-append}
use Rattle.std.specs.List.{insert, AllByRecursion}
use Rattle.std.specs.declared.vec.Vec.{Vec}
use Rattle.std.proofs.lemmas.List.{take-append-drop}
use Rattle.stow_leaves.proofs.StowMerge.Lists.{all_split}
use Rattle.stow_node.specs.declared.child.Child.{Child}
use Rattle.stow_node.specs.declared.shape.Shape.{Shape}
use Rattle.stow_node.specs.Rooms.{IsList, AreLists, AreShells}
use Rattle.stow_leaves.proofs.Replaced.{insert_at}

-- the last ones stand at the place, and the others are still to come
pub record IsComing {X : Type 0} (cs : List X) (k : ℕ) (all now items : List X) : Type 0 where
  pub done : List X
  pub are : all ≡ now ++ done
  pub is : items ≡ take k cs ++ (done ++ drop k cs)

pub coming_first : {X : Type 0} (cs : List X) (k : ℕ) (all items : List X) → items ≡ cs → IsComing cs k all all items
coming_first cs k all items e = record { done = []; are = sym (append-nil all); is = e ∙ sym (take-append-drop k cs) }

pub coming_next : {X : Type 0} (cs : List X) (k : ℕ) (all now rest items new : List X) (x : X) → k ≤ length cs → IsComing cs k all now items → now ≡ rest ++ x ∷ [] → new ≡ insert items k x → IsComing cs k all rest new
coming_next cs k all now rest items new x l p e n = record {
  done = x ∷ p.done;
  are = p.are ∙ ap (λ ls. ls ++ p.done) e ∙ append_assoc rest (x ∷ []) p.done;
  is = n ∙ ap (λ l. insert l k x) p.is ∙ insert_at k cs (p.done ++ drop k cs) x l;
}

-- ---- what is taken out of a room

pub shell_left : (nodes : ℕ) (shape : Shape) (old new : List Shape) (x : Shape) → old ≡ new ++ x ∷ [] → AreShells (suc nodes) shape old → (x ≡ shape) × AreShells nodes shape new
shell_left nodes shape old new x e h =
    let all = all_split (λ (s : Shape). s ≡ shape) new (x ∷ []) (subst (AllByRecursion (λ (s : Shape). s ≡ shape)) e h.each) in
    (all.1.0, record { enough = let n = ap length e ∙ length-append new (x ∷ []) in let l = h.enough in omega (arith, n, l); each = all.0 })

pub list_left : {A : Type 0} (levels places : ℕ) (old new : List (Vec (Child A) A)) (x : Vec (Child A) A) → old ≡ new ++ x ∷ [] → AreLists (suc levels) places old → IsList places x × AreLists levels places new
list_left {A} levels places old new x e h =
    let all = all_split (IsList {A = A} places) new (x ∷ []) (subst (AllByRecursion (IsList {A = A} places)) e h.each) in
    (all.1.0, record { enough = let n = ap length e ∙ length-append new (x ∷ []) in let l = h.enough in omega (arith, n, l); each = all.0 })

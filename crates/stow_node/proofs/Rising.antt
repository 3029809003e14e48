-- A root that becomes higher, as nodes came behind it.
use Rattle.std.proofs.Common.{◌≡◌, ◌+◌, ◌<◌, ◌≤◌, List, [], ◌∷◌, ◌++◌, length, refl, sym, ap, ◌∙◌, subst, arith, append-nil}
use Rattle.std.proofs.lemmas.List.Sums.{sum_by-cons}
use Rattle.stow_leaves.specs.StowLeaf.Intervals.{top_key}
use Rattle.stow_leaves.specs.StowLeaf.LeafRows.{row_messages}
use Rattle.stow_leaves.specs.StowLeafCache.Cache.{Cache}
use Rattle.stow_tree_model.specs.Agreement.{TenantPins}
use Rattle.stow_tree_model.specs.Keys.{tenant_of}
use Rattle.stow_tree_model.specs.Messages.{ops_in}
use Rattle.stow_node.specs.declared.child.Child.{Child}
use Rattle.stow_node.specs.declared.room.Room.{Room}
use Rattle.stow_node.specs.declared.shape.Shape.{Shape}
use Rattle.stow_leaves.specs.StowLeaf.Replacements.{MeanTheSame}
use Rattle.stow_node.specs.Flushes.{Flushes, KeepsRoot}
use Rattle.stow_leaves.specs.Forgets.{Forgets}
use Rattle.stow_node.specs.Nodes.{leaves_of}
use Rattle.stow_node.specs.Nodes.{node_part}
use Rattle.stow_node.specs.Parts.{Part, IsTile}
use Rattle.stow_node.specs.Regroups.{nodes, run_parts, run_messages, StandAsOne, StepsAsOne, ForgetsCame}
use Rattle.stow_node.specs.Rooms.{HasRoom}
use Rattle.stow_node.specs.Subtree.{Subtree, buffered, messages_of}
use Rattle.stow_node.specs.Ways.{Goes, StepsDown}

-- the way that messages went, and how many roots came above
pub record WentUp {A : Type 0} (pins : TenantPins) (old now : Subtree) (came : List (Child A)) (cache cache' : Cache) : Type 0 where
  pub stepped : Subtree
  pub behind : List (Child A)
  pub goes : Goes old.height pins old stepped behind cache cache'
  pub alone : behind ≡ [] → (now ≡ stepped) × (came ≡ [])
  pub height : now.height + length came ≤ stepped.height + length behind
  pub leaves : now.leaves ++ leaves_of came ≡ stepped.leaves ++ leaves_of behind

-- how far the code is: some nodes stand behind the root
pub record IsRising {A : Type 0} (pins : TenantPins) (old now : Subtree) (room : Room A) (cache cache' : Cache) : Type 0 where
  pub stands : StandAsOne pins old now room.came.items
  pub tile : IsTile (node_part old) top_key
  pub has_room : HasRoom old.shape [] room
  pub counted : now.height + length room.came.items ≤ 9223372041149743104
  pub forgets : ForgetsCame old now room.came.items cache cache'
  pub up : WentUp pins old now room.came.items cache cache'

pub rising_begins : {A : Type 0} (pins : TenantPins) (old now : Subtree) (room : Room A) (cache cache' : Cache) → IsTile (node_part old) top_key → old.height ≤ 9223372036854775808 → StepsAsOne pins old now room.came.items → Goes old.height pins old now room.came.items cache cache' → HasRoom old.shape [] room → ForgetsCame old now room.came.items cache cache' → IsRising pins old now room cache cache'
rising_begins pins old now room cache cache' tile low s goes r f = record {
  stands = s.stands;
  tile = tile;
  has_room = r;
  counted = let h = s.height in let c = s.counted in omega (arith, h, c, low);
  forgets = f;
  up = record { stepped = now; behind = room.came.items; goes = goes; alone = λ e. (refl, e); height = omega arith; leaves = refl };
}

pub rising_next : {A : Type 0} (pins : TenantPins) (old now new : Subtree) (room room' : Room A) (cache cache' : Cache) → IsRising pins old now room cache cache' → StandAsOne pins old new room'.came.items → HasRoom now.shape [] room' → length room'.came.items < length room.came.items → new.height ≡ now.height + 1
    → new.leaves ++ leaves_of room'.came.items ≡ now.leaves ++ leaves_of room.came.items → IsRising pins old new room' cache cache'
rising_next pins old now new room room' cache cache' i s r fewer higher leaves = record {
  stands = s;
  tile = i.tile;
  has_room = subst (λ (h : Shape). HasRoom h [] room') i.stands.shape r;
  counted = let c = i.counted in omega (arith, c, fewer, higher);
  forgets = subst (λ ls. Forgets old.leaves ls cache cache') (sym leaves) i.forgets;
  up = record {
    stepped = i.up.stepped;
    behind = i.up.behind;
    goes = i.up.goes;
    alone = λ e. absurd (let n = ap length (i.up.alone e).1 in omega (arith, n, fewer));
    height = let h = i.up.height in omega (arith, h, fewer, higher);
    leaves = leaves ∙ i.up.leaves;
  };
}

none_of : {A : Type 0} (came : List (Child A)) (run : List Subtree) → length came ≡ 0 → came ≡ nodes A run → run ≡ []
none_of came [] l e = refl
none_of came (t ∷ run) l e = absurd (let n = ap length e in omega (arith, n, l))

-- a root with none behind it keeps what it means
pub stands_alone : {A : Type 0} (pins : TenantPins) (old now : Subtree) (came : List (Child A)) → IsTile (node_part old) top_key → StandAsOne pins old now came → length came ≡ 0 → KeepsRoot pins old now
stands_alone {A} pins old now came tile s none = record {
  low = (s.place.tiled top_key tile).1;
  shape = s.shape;
  capacity = s.capacity;
  few = s.few.0;
  means = λ key. subst (MeanTheSame (pins (tenant_of key)) (ops_in (messages_of old) key)) (λ j n. ap (λ ms. ops_in ms key n) whole j) (s.place.means key);
}
  where
    whole : run_messages (now ∷ s.run) ≡ messages_of now
    whole = ap (λ run. run_messages (now ∷ run)) (none_of came s.run none s.are) ∙ (λ j. append-nil (buffered now) j ++ row_messages (append-nil now.leaves j))

pub rising_ends : {A : Type 0} (pins : TenantPins) (old now : Subtree) (room : Room A) (cache cache' : Cache) → IsRising pins old now room cache cache' → length room.came.items ≡ 0 → Flushes pins old now
rising_ends {A} pins old now room cache cache' i none = record {
  low = alone.low;
  shape = alone.shape;
  capacity = alone.capacity;
  few = alone.few;
  means = alone.means;
  lighter =
      let l = i.stands.lighter in
      let one = sum_by-cons (λ (p : Part). p.weight) (node_part now) (run_parts i.stands.run) in
      omega (arith, l, one);
}
  where
    alone : KeepsRoot pins old now
    alone = stands_alone pins old now room.came.items i.tile i.stands none

no_leaves : {A : Type 0} (came : List (Child A)) → length came ≡ 0 → leaves_of came ≡ []
no_leaves [] l = refl
no_leaves (c ∷ came) l = absurd (omega arith)

pub alone_forgets : {A : Type 0} (old now : Subtree) (came : List (Child A)) (cache cache' : Cache) → ForgetsCame old now came cache cache' → length came ≡ 0 → Forgets old.leaves now.leaves cache cache'
alone_forgets old now came cache cache' f none = subst (λ ls. Forgets old.leaves ls cache cache') (ap (λ ls. now.leaves ++ ls) (no_leaves came none) ∙ append-nil now.leaves) f

pub rising_forgets : {A : Type 0} (pins : TenantPins) (old now : Subtree) (room : Room A) (cache cache' : Cache) → IsRising pins old now room cache cache' → length room.came.items ≡ 0 → Forgets old.leaves now.leaves cache cache'
rising_forgets pins old now room cache cache' i none = alone_forgets old now room.came.items cache cache' i.forgets none

pub rising_down : {A : Type 0} (pins : TenantPins) (old now : Subtree) (room : Room A) (cache cache' : Cache) → IsRising pins old now room cache cache' → length room.came.items ≡ 0 → StepsDown A pins old now cache cache'
rising_down {A} pins old now room cache cache' i none = record {
  stepped = i.up.stepped;
  came = i.up.behind;
  goes = i.up.goes;
  alone = λ e. (i.up.alone e).0;
  height = let h = i.up.height in omega (arith, h, none);
  leaves = sym (append-nil now.leaves) ∙ ap (λ ls. now.leaves ++ ls) (sym (no_leaves room.came.items none)) ∙ i.up.leaves;
}

-- A root as room is made in it.
use Rattle.std.proofs.Common.{zero, suc, ◌≡◌, ℕ, ◌+◌, ◌*◌, ◌/◌, ◌<◌, ◌≤◌, length, max, arith, refl, sym, ap, ◌∙◌, subst, ⊎_elim, inl, inr, List}
use Rattle.std.specs.List.{sum_by}
use Rattle.stow_node.specs.StowLeaf.LeafRows.{LeafRows, row_messages}
use Rattle.stow_node.specs.StowLeafCache.Cache.{Cache}
use Rattle.stow_node.specs.StowMessage.MessageBuf.{message_list}
use Rattle.stow_node.specs.StowMessage.Packed.{message_size}
use Rattle.stow_node.specs.StowTreeModel.Agreement.{TenantPins}
use Rattle.stow_node.specs.StowTreeModel.Keys.{tenant_of}
use Rattle.stow_node.specs.StowTreeModel.Messages.{ops_in}
use Rattle.stow_node.specs.StowTreeModel.Operations.{or_else}
use Rattle.stow_node.specs.Flushes.{Flushes}
use Rattle.stow_node.specs.StowLeaves.Forgets.{Forgets}
use Rattle.stow_node.specs.Moves.{IsSqueezed, LacksRoom, StaysInMeaning}
use Rattle.stow_node.specs.Subtree.{Subtree, messages_of}
use Rattle.stow_node.specs.Ways.{StepsDown}
use Rattle.stow_node.specs.declared.shape.Shape.{Shape}
use Rattle.stow_node.proofs.StowLeaf.Over.{same_itself, same_pointwise, same_then}
use Rattle.stow_node.proofs.Standing.{parts_ops}
use Rattle.stow_node.specs.StowSuperseded.Superseded.{buffer_without_superseded}
use Rattle.stow_node.specs.Superseded.{DropsSuperseded, EachMeansTheSame, MayDropSuperseded}
use Rattle.stow_flush.specs.Rooms.{RootStands, FitsSqueezed, FlushesTimes, FlushesForRoom, MakesRoom}

pub stands_itself : (pins : TenantPins) (t : Subtree) → RootStands pins t t
stands_itself pins t = record { low = refl; shape = refl; capacity = refl; means = λ key. same_itself (pins (tenant_of key)) (ops_in (messages_of t) key) }

pub stands_then : (pins : TenantPins) (s t u : Subtree) → RootStands pins s t → RootStands pins t u → RootStands pins s u
stands_then pins s t u a b = record {
  low = b.low ∙ a.low;
  shape = b.shape ∙ a.shape;
  capacity = b.capacity ∙ a.capacity;
  means = λ key. same_then (pins (tenant_of key)) (ops_in (messages_of s) key) (ops_in (messages_of t) key) (ops_in (messages_of u) key) (a.means key) (b.means key);
}

pub flushes_stands : (pins : TenantPins) (s t : Subtree) → Flushes pins s t → RootStands pins s t
flushes_stands pins s t k = record { low = k.low; shape = k.shape; capacity = k.capacity; means = k.means }

pub stays_stands : (pins : TenantPins) (s t : Subtree) → StaysInMeaning s t → RootStands pins s t
stays_stands pins s t k = record {
  low = k.low;
  shape = k.shape;
  capacity = k.capacity;
  means = λ key. same_pointwise (pins (tenant_of key)) (ops_in (messages_of s) key) (ops_in (messages_of t) key) (λ n.
      parts_ops t key n
      ∙ (λ i. or_else (k.messages key n i) (ops_in (row_messages (k.leaves i)) key n))
      ∙ sym (parts_ops s key n));
}

pub squeezed_stands : (pins : TenantPins) (s t : Subtree) → IsSqueezed s t → RootStands pins s t
squeezed_stands pins s t q = rw q.is (stands_squeezed q.used) where
  stands_squeezed : (used : ℕ) → RootStands pins s (record s { buffer = message_list s.buffer.messages used s.buffer.capacity })
  stands_squeezed used = record { low = refl; shape = refl; capacity = refl; means = λ key. same_itself (pins (tenant_of key)) (ops_in (messages_of s) key) }

forgets_then : (l m n : List LeafRows) (c d e : Cache) → Forgets l m c d → Forgets m n d e → Forgets l n c e
forgets_then l m n c d e f g = record {
  limit = g.limit ∙ f.limit;
  held = λ leaf h. f.held leaf (g.held leaf h);
  stands = λ leaf h o. g.stands leaf h (f.stands leaf (g.held leaf h) o);
}

pub forgets_itself : (ls : List LeafRows) (c : Cache) → Forgets ls ls c c
forgets_itself ls c = record { limit = refl; held = λ leaf h. h; stands = λ leaf h o. o }

-- what is known from turn to turn
pub record IsMaking (pins : TenantPins) (old now : Subtree) (cache cache' : Cache) (room room' : ℕ) : Type 0 where
  pub stands : RootStands pins old now
  pub forgets : Forgets old.leaves now.leaves cache cache'
  pub block : room' ≡ room
  pub few : now.width ≤ now.shape.fan_out

pub making_first : (pins : TenantPins) (old : Subtree) (cache : Cache) (spare : ℕ) → old.width ≤ old.shape.fan_out → IsMaking pins old old cache cache spare spare
making_first pins old cache spare few = record { stands = stands_itself pins old; forgets = forgets_itself old.leaves cache; block = refl; few = few }

-- dead bytes were dropped
pub squeezed_then : (pins : TenantPins) (old now new : Subtree) (cache cache' : Cache) (spare spare' last : ℕ) → IsMaking pins old now cache cache' spare spare' → IsSqueezed now new → last ≡ spare' → IsMaking pins old new cache cache' spare last
squeezed_then pins old now new cache cache' spare spare' last m q l = record {
  stands = stands_then pins old now new m.stands (squeezed_stands pins now new q);
  forgets = subst (λ ls. Forgets old.leaves ls cache cache') (sym (ap (λ (t : Subtree). t.leaves) q.is)) m.forgets;
  block = l ∙ m.block;
  few = subst (λ (t : Subtree). t.width ≤ t.shape.fan_out) (sym q.is) m.few;
}

-- messages moved
pub moved_then : (pins : TenantPins) (old mid new : Subtree) (cache cache' cache'' : Cache) (spare spare' last : ℕ) → IsMaking pins old mid cache cache' spare spare' → RootStands pins mid new → Forgets mid.leaves new.leaves cache' cache'' → last ≡ spare' → new.width ≤ new.shape.fan_out → IsMaking pins old new cache cache'' spare last
moved_then pins old mid new cache cache' cache'' spare spare' last m k f l few = record {
  stands = stands_then pins old mid new m.stands k;
  forgets = forgets_then old.leaves mid.leaves new.leaves cache cache' cache'' m.forgets f;
  block = l ∙ m.block;
  few = few;
}

pub stays_few : (s t : Subtree) → StaysInMeaning s t → s.width ≤ s.shape.fan_out → t.width ≤ t.shape.fan_out
stays_few s t k few = subst (λ h. t.width ≤ h) (sym (ap (λ (h : Shape). h.fan_out) k.shape)) (subst (λ w. w ≤ s.shape.fan_out) (sym k.width) few)

-- ---- steps one after another

squeezed_itself : (t : Subtree) → IsSqueezed t t
squeezed_itself t = record { used = t.buffer.used; is = refl; fewer = omega arith }

squeezed_twice : (s t u : Subtree) → IsSqueezed s t → IsSqueezed t u → IsSqueezed s u
squeezed_twice s t u p q = record {
  used = q.used;
  is = q.is ∙ ap (λ (x : Subtree). record x { buffer = message_list x.buffer.messages q.used x.buffer.capacity }) p.is;
  fewer = let a = p.fewer in let b = q.fewer in let e = ap (λ (x : Subtree). x.buffer.used) p.is in omega (arith, a, b, e);
}

pub makes_none : (A : Type 0) (bytes : ℕ) (pins : TenantPins) (t : Subtree) (cache : Cache) → FlushesForRoom A bytes pins t t cache cache
makes_none A bytes pins t cache = (0, (squeezed_itself t, refl))

pub makes_squeezed : (A : Type 0) (bytes : ℕ) (pins : TenantPins) (s t u : Subtree) (cache cache' : Cache) → FlushesForRoom A bytes pins s t cache cache' → IsSqueezed t u → FlushesForRoom A bytes pins s u cache cache'
makes_squeezed A bytes pins s t u cache cache' m q = (m.0, by_count m.0 m.1) where
  by_count : (n : ℕ) → FlushesTimes A n bytes pins s t cache cache' → FlushesTimes A n bytes pins s u cache cache'
  by_count zero h = (squeezed_twice s t u h.0 q, h.1)
  by_count (suc n) h = (h.0, h.1, h.2, record { lacks = h.3.lacks; stepped = h.3.stepped; down = h.3.down; squeezed = squeezed_twice h.3.stepped t u h.3.squeezed q })

pub squeezed_makes : (A : Type 0) (bytes : ℕ) (pins : TenantPins) (s t u : Subtree) (cache cache' : Cache) → IsSqueezed s t → FlushesForRoom A bytes pins t u cache cache' → FlushesForRoom A bytes pins s u cache cache'
squeezed_makes A bytes pins s t u cache cache' q m = (m.0, by_count m.0 u cache' m.1) where
  by_count : (n : ℕ) (u : Subtree) (cache' : Cache) → FlushesTimes A n bytes pins t u cache cache' → FlushesTimes A n bytes pins s u cache cache'
  by_count zero u cache' h = (squeezed_twice s t u q h.0, h.1)
  by_count (suc n) u cache' h = (h.0, h.1, by_count n h.0 h.1 h.2, h.3)

pub makes_more : (A : Type 0) (bytes ample : ℕ) (pins : TenantPins) (s t u v : Subtree) (a b c : Cache) → FlushesForRoom A bytes pins s t a b → IsSqueezed t u → ample ≡ max bytes (t.shape.buffer / 4) → u.buffer.capacity < sum_by message_size u.buffer.messages + ample → StepsDown A pins u v b c → FlushesForRoom A bytes pins s v a c
makes_more A bytes ample pins s t u v a b c m q e full down =
    let ready = makes_squeezed A bytes pins s t u a b m q in
    (suc ready.0, (u, b, ready.1, record { lacks = lacks; stepped = v; down = down; squeezed = squeezed_itself v }))
  where
    shape : u.shape ≡ t.shape
    shape = ap (λ (x : Subtree). x.shape) q.is

    lacks : LacksRoom bytes u
    lacks = subst (λ n. u.buffer.capacity < sum_by message_size u.buffer.messages + n) (e ∙ ap (λ (h : Shape). max bytes (h.buffer / 4)) (sym shape)) full

-- ---- superseded messages are dropped before

-- what is the same but for messages and weight
record SamePlace (s t : Subtree) : Type 0 where
  low : t.low ≡ s.low
  shape : t.shape ≡ s.shape
  capacity : t.buffer.capacity ≡ s.buffer.capacity
  leaves : t.leaves ≡ s.leaves
  width : t.width ≡ s.width

same_place : (pins : TenantPins) (s t : Subtree) → MayDropSuperseded pins s t → SamePlace s t
same_place pins s t d = ⊎_elim
    (λ (e : t ≡ s). record {
      low = ap (λ (x : Subtree). x.low) e;
      shape = ap (λ (x : Subtree). x.shape) e;
      capacity = ap (λ (x : Subtree). x.buffer.capacity) e;
      leaves = ap (λ (x : Subtree). x.leaves) e;
      width = ap (λ (x : Subtree). x.width) e;
    })
    (λ (h : DropsSuperseded pins s t). record {
      low = ap (λ (x : Subtree). x.low) h.is;
      shape = ap (λ (x : Subtree). x.shape) h.is;
      capacity = ap (λ (x : Subtree). x.buffer.capacity) h.is;
      leaves = ap (λ (x : Subtree). x.leaves) h.is;
      width = ap (λ (x : Subtree). x.width) h.is;
    })
    d

pub dropped_stands : (pins : TenantPins) (s t : Subtree) → MayDropSuperseded pins s t → EachMeansTheSame pins s t → RootStands pins s t
dropped_stands pins s t d m = let p = same_place pins s t d in record { low = p.low; shape = p.shape; capacity = p.capacity; means = m }

pub dropped_leaves : (pins : TenantPins) (s t : Subtree) → MayDropSuperseded pins s t → t.leaves ≡ s.leaves
dropped_leaves pins s t d = (same_place pins s t d).leaves

pub dropped_few : (pins : TenantPins) (s t : Subtree) → MayDropSuperseded pins s t → s.width ≤ s.shape.fan_out → t.width ≤ t.shape.fan_out
dropped_few pins s t d few = let p = same_place pins s t d in let w = p.width in let f = ap (λ (h : Shape). h.fan_out) p.shape in omega (arith, few, w, f)

pub dropped_block : (pins : TenantPins) (s t : Subtree) → MayDropSuperseded pins s t → s.buffer.capacity ≡ s.shape.buffer → t.buffer.capacity ≡ t.shape.buffer
dropped_block pins s t d e = let p = same_place pins s t d in p.capacity ∙ e ∙ sym (ap (λ (h : Shape). h.buffer) p.shape)

-- dead bytes are dropped, superseded messages may be, and then messages move
pub room_made : (A : Type 0) (bytes : ℕ) (pins : TenantPins) (s t u v : Subtree) (cache cache' : Cache) → IsSqueezed s t → t.buffer.capacity < sum_by message_size t.buffer.messages + bytes
    → MayDropSuperseded pins t u → FlushesForRoom A bytes pins u v cache cache' → MakesRoom A bytes pins s v cache cache'
room_made A bytes pins s t u v cache cache' q full d m = ⊎_elim
    (λ (e : u ≡ t). inl (squeezed_makes A bytes pins s t v cache cache' q (subst (λ (x : Subtree). FlushesForRoom A bytes pins x v cache cache') e m)))
    (λ (h : DropsSuperseded pins t u). inr (u, record { full = λ fits. lacks fits; drops = from_squeezed h }, m))
    d
  where
    lacks : FitsSqueezed bytes s → ⊥
    lacks fits =
        let capacity = ap (λ (x : Subtree). x.buffer.capacity) q.is in
        let live = ap (λ (x : Subtree). sum_by message_size x.buffer.messages) q.is in
        omega (arith, fits, full, capacity, live)

    from_squeezed : DropsSuperseded pins t u → DropsSuperseded pins s u
    from_squeezed h = record {
      weight = h.weight;
      is = h.is ∙ ap (λ (x : Subtree). record x { buffer = buffer_without_superseded pins x.buffer; weight = h.weight }) q.is;
      lighter = subst (λ (x : Subtree). h.weight + x.height * length x.buffer.messages ≡ x.weight + x.height * length u.buffer.messages) q.is h.lighter;
      ample = subst (λ (x : Subtree). u.buffer.used + x.buffer.capacity / 4 ≤ x.buffer.capacity) q.is h.ample;
    }

-- What each event led to is told by the events and the marks.
use Rattle.std.proofs.Common.{◌≡◌, ℕ, Option, List, [], ◌∷◌, ◌++◌, refl, ap, ◌∙◌, sym, subst, append_assoc, append-nil, length, length-append, arith}
use Rattle.stow_model.specs.declared.stream_fault.StreamFault.{StreamFault}
use Rattle.stow_model.specs.Message.{Message}
use Rattle.stow_model.specs.Event.{ConnectionEvent}
use Rattle.stow_model.specs.Event as event
use Rattle.stow_model.specs.Wire.{SpellsAll, HasNoMessage, IsBegun, IsFaulty, FaultyNotBegun}
use Rattle.stow_model.specs.Login.{Entry}
use Rattle.stow_model.specs.History.{Step, Void, At, Flushed, Ordered, ConnectionStep, Plain, Took, Broke, event_of_own, event_of_step, is_void, is_refused_own, is_refused, Status, IsOpen, part_of, status_of, served_as, stream_of, taken_by, Takes, Waits, Breaks, MayTakeNothing, MayBePlain, CanLead, Follows, IsStep, IsHistory, OneHistory}
use Rattle.stow_model.proofs.Spelling.{spelled_once}
use Rattle.stow_model.proofs.Places.{begun_front, fault_once_lem}

pub faulty_not_begun_lem : FaultyNotBegun
faulty_not_begun_lem bytes fault f begun =
    f.stuck (begun_front (f.front ++ f.byte ∷ []) f.more (subst IsBegun (f.at ∙ sym (append_assoc f.front (f.byte ∷ []) f.more)) begun))

-- what begins a spelling has no whole one in front
pub begun_none : (bytes : List ℕ) → IsBegun bytes → HasNoMessage bytes
begun_none bytes (m', next, later, s') m spelling more s e =
    let longer : (bytes ++ next ∷ later) ++ [] ≡ spelling ++ (more ++ next ∷ later) = append-nil (bytes ++ next ∷ later) ∙ ap (λ t. t ++ next ∷ later) e ∙ append_assoc spelling more (next ∷ later) in
    let none : [] ≡ more ++ next ∷ later = (spelled_once m' m (bytes ++ next ∷ later) spelling [] (more ++ next ∷ later) s' s longer).1 in
    let long : 0 ≡ length (more ++ next ∷ later) = ap length none in
    omega (arith, length-append more (next ∷ later))

-- the messages that were taken end at one place
front_once : (taken : List Message) (a b x y : List ℕ) → SpellsAll taken a → SpellsAll taken b → a ++ x ≡ b ++ y → x ≡ y
front_once [] a b x y s s' e = ap (λ t. t ++ x) (sym s) ∙ e ∙ ap (λ t. t ++ y) s'
front_once (m ∷ taken) a b x y s s' e =
    let split : s.0 ++ (s.1 ++ x) ≡ s'.0 ++ (s'.1 ++ y) = sym (append_assoc s.0 s.1 x) ∙ ap (λ t. t ++ x) (sym s.4) ∙ e ∙ ap (λ t. t ++ y) s'.4 ∙ append_assoc s'.0 s'.1 y in
    (spelled_once m m s.1 s'.1 x y s.3 s'.3 (front_once taken s.0 s'.0 (s.1 ++ x) (s'.1 ++ y) s.2 s'.2 split)).1

-- ---- two outcomes of one Serve

takes_once : (m m' : Message) (stream : List ℕ) (taken : List Message) → Takes m stream taken → Takes m' stream taken → m ≡ m'
takes_once m m' stream taken (front, spelling, rest, all, s, e) (front', spelling', rest', all', s', e') =
    (spelled_once m m' spelling spelling' rest rest' s s' (front_once taken front front' (spelling ++ rest) (spelling' ++ rest') all all' (sym e ∙ e'))).0

waits_takes : (m : Message) (stream : List ℕ) (taken : List Message) → Waits stream taken → Takes m stream taken → ⊥
waits_takes m stream taken (front, rest, all, begun, e) (front', spelling, rest', all', s, e') =
    begun_none rest begun m spelling rest' s (front_once taken front front' rest (spelling ++ rest') all all' (sym e ∙ e'))

waits_breaks : (fault : StreamFault) (stream : List ℕ) (taken : List Message) → Waits stream taken → Breaks fault stream taken → ⊥
waits_breaks fault stream taken (front, rest, all, begun, e) (front', rest', all', faulty, e') =
    faulty_not_begun_lem rest' fault faulty (subst IsBegun (front_once taken front front' rest rest' all all' (sym e ∙ e')) begun)

takes_breaks : (m : Message) (fault : StreamFault) (stream : List ℕ) (taken : List Message) → Takes m stream taken → Breaks fault stream taken → ⊥
takes_breaks m fault stream taken (front, spelling, rest, all, s, e) (front', rest', all', faulty, e') =
    faulty.none m spelling rest s (sym (front_once taken front front' (spelling ++ rest) rest' all all' (sym e ∙ e')))

breaks_once : (fault fault' : StreamFault) (stream : List ℕ) (taken : List Message) → Breaks fault stream taken → Breaks fault' stream taken → fault ≡ fault'
breaks_once fault fault' stream taken (front, rest, all, faulty, e) (front', rest', all', faulty', e') =
    fault_once_lem rest' fault fault' (subst (λ t. IsFaulty t fault) (front_once taken front front' rest rest' all all' (sym e ∙ e')) faulty) faulty'

-- a Serve on an open connection that took nothing waits
plain_waits : (e : ConnectionEvent) (status : Status) (stream : List ℕ) (taken : List Message) → e ≡ event.Serve → MayBePlain e status stream taken → status ≡ IsOpen → Waits stream taken
plain_waits e status stream taken is may opened =
    subst (λ s. MayTakeNothing s stream taken) opened (subst (λ x. MayBePlain x status stream taken) is may)

-- ---- steps

own_once : (s t : ConnectionStep) (status : Status) (tenant : Option ℕ) (stream : List ℕ) (taken : List Message) → CanLead s status tenant stream taken → CanLead t status tenant stream taken → event_of_own s ≡ event_of_own t → is_refused_own s ≡ is_refused_own t → s ≡ t
own_once (Plain e) (Plain e') status tenant stream taken p q same refused = ap Plain same
own_once (Plain e) (Took m r) status tenant stream taken p q same refused = absurd (waits_takes m stream taken (plain_waits e status stream taken same p q.0) q.1)
own_once (Plain e) (Broke f) status tenant stream taken p q same refused = absurd (waits_breaks f stream taken (plain_waits e status stream taken same p q.0) q.1)
own_once (Took m r) (Plain e') status tenant stream taken p q same refused = absurd (waits_takes m stream taken (plain_waits e' status stream taken (sym same) q p.0) p.1)
own_once (Took m r) (Took m' r') status tenant stream taken p q same refused = λ i. Took (takes_once m m' stream taken p.1 q.1 i) (refused i)
own_once (Took m r) (Broke f) status tenant stream taken p q same refused = absurd (takes_breaks m f stream taken p.1 q.1)
own_once (Broke f) (Plain e') status tenant stream taken p q same refused = absurd (waits_breaks f stream taken (plain_waits e' status stream taken (sym same) q p.0) p.1)
own_once (Broke f) (Took m r) status tenant stream taken p q same refused = absurd (takes_breaks m f stream taken q.1 p.1)
own_once (Broke f) (Broke f') status tenant stream taken p q same refused = ap Broke (breaks_once f f' stream taken p.1 q.1)

same_connection : (c d : ℕ) (e e' : ConnectionEvent) → event.On c e ≡ event.On d e' → c ≡ d
same_connection c d e e' same = cc

same_event : (c d : ℕ) (e e' : ConnectionEvent) → event.On c e ≡ event.On d e' → e ≡ e'
same_event c d e e' same = cc

step_once : (entries : List Entry) (s t : Step) (earlier : List Step) → IsStep entries s earlier → IsStep entries t earlier → event_of_step s ≡ event_of_step t → is_void s ≡ is_void t → is_refused s ≡ is_refused t → s ≡ t
unfolding IsStep Follows
step_once entries (Void e) (Void e') earlier p q same void refused = ap Void same
step_once entries (Void e) (At d t) earlier p q same void refused = cc
step_once entries (Void e) (Flushed e') earlier p q same void refused = cc
step_once entries (At c s) (Void e') earlier p q same void refused = cc
step_once entries (At c s) (At d t) earlier p q same void refused =
    let one : c ≡ d = same_connection c d (event_of_own s) (event_of_own t) same in
    let part = part_of d earlier in
    let both : s ≡ t = own_once s t (status_of part) (served_as entries part) (stream_of part) (taken_by part) (subst (λ x. Follows entries s (part_of x earlier)) one p) q (same_event c d (event_of_own s) (event_of_own t) same) refused in
    λ i. At (one i) (both i)
step_once entries (At c s) (Flushed e') earlier p q same void refused = cc
step_once entries (Flushed e) (Void e') earlier p q same void refused = cc
step_once entries (Flushed e) (At d t) earlier p q same void refused = cc
step_once entries (Flushed e) (Flushed e') earlier p q same void refused = cc
step_once entries (Void e) (Ordered t n) earlier p q same void refused = cc
step_once entries (At c s) (Ordered t n) earlier p q same void refused = cc
step_once entries (Flushed e) (Ordered t n) earlier p q same void refused = cc
step_once entries (Ordered t n) (Void e) earlier p q same void refused = cc
step_once entries (Ordered t n) (At c s) earlier p q same void refused = cc
step_once entries (Ordered t n) (Flushed e) earlier p q same void refused = cc
step_once entries (Ordered t n) (Ordered t' n') earlier p q same void refused = cc

pub one_history_lem : OneHistory
unfolding IsHistory
one_history_lem entries [] [] p q same void refused = refl
one_history_lem entries [] (t ∷ later) p q same void refused = cc
one_history_lem entries (s ∷ earlier) [] p q same void refused = cc
one_history_lem entries (s ∷ earlier) (t ∷ earlier') p q same void refused =
    let before : earlier ≡ earlier' = one_history_lem entries earlier earlier' p.1 q.1 (cc) (cc) (cc) in
    let one : s ≡ t = step_once entries s t earlier' (subst (IsStep entries s) before p.0) q.0 (cc) (cc) (cc) in
    λ i. one i ∷ before i

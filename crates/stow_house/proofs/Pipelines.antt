-- Requests that a door is asked one after another.
use Rattle.std.proofs.Common.{◌≡◌, ℕ, ◌+◌, ◌<◌, List, [], ◌∷◌, ◌++◌, length, take, get_or, refl, ap, ◌∙◌, sym, subst, arith}
use Rattle.std.proofs.lemmas.List.{take_more}
use Rattle.stow_model.specs.Reply.{Reply}
use Rattle.stow_house.specs.Conversations.{DoorCall}
use Rattle.stow_house.specs.Pipelines.{AnswersAll, AnswersFront}
use Rattle.stow_house.specs.declared.request.Request.{Request}

-- one request more
pub answers_on : {D A : Type 0} (answers : DoorCall D) (old mid new : D) (qs : List (Request A)) (rs : List Reply) (q : Request A) (r : Reply) → AnswersAll answers old qs rs mid → answers mid q.tenant q.words r new → AnswersAll answers old (qs ++ q ∷ []) (rs ++ r ∷ []) new
answers_on answers old mid new [] [] q r all one = (new, subst (λ d. answers d q.tenant q.words r new) all one, refl)
answers_on answers old mid new (p ∷ qs) (s ∷ rs) q r all one = (all.0, all.1, answers_on answers all.0 mid new qs rs q r all.2 one)
answers_on answers old mid new [] (s ∷ rs) q r all one = absurd all
answers_on answers old mid new (p ∷ qs) [] q r all one = absurd all

-- some requests, and then others
pub answers_join : {D A : Type 0} (answers : DoorCall D) (old mid new : D) (qs ps : List (Request A)) (rs ss : List Reply) → AnswersAll answers old qs rs mid → AnswersAll answers mid ps ss new → AnswersAll answers old (qs ++ ps) (rs ++ ss) new
answers_join answers old mid new [] ps [] ss all more = subst (λ d. AnswersAll answers d ps ss new) all more
answers_join answers old mid new (q ∷ qs) ps (r ∷ rs) ss all more = (all.0, all.1, answers_join answers all.0 mid new qs ps rs ss all.2 more)
answers_join answers old mid new [] ps (r ∷ rs) ss all more = absurd all
answers_join answers old mid new (q ∷ qs) ps [] ss all more = absurd all

-- a door of which another one is seen, whose answers are its own, as far as it is seen
pub answers_lifted : {D E A : Type 0} (f : DoorCall D) (g : DoorCall E) (door : D → E) → ((d d' : D) (t : ℕ) (w : List (List ℕ)) (r : Reply) → f d t w r d' → g (door d) t w r (door d')) → (old new : D) (qs : List (Request A)) (rs : List Reply) → AnswersAll f old qs rs new → AnswersAll g (door old) qs rs (door new)
answers_lifted f g door each old new [] [] all = ap door all
answers_lifted f g door each old new (q ∷ qs) (r ∷ rs) all = (door all.0, each old all.0 q.tenant q.words r all.1, answers_lifted f g door each all.0 new qs rs all.2)
answers_lifted f g door each old new [] (r ∷ rs) all = absurd all
answers_lifted f g door each old new (q ∷ qs) [] all = absurd all

-- the last answer may lead to another door that it leads to as well
pub answers_to : {D A : Type 0} (answers : DoorCall D) (old mid new : D) (qs : List (Request A)) (q : Request A) (rs : List Reply) → ((d : D) (t : ℕ) (w : List (List ℕ)) (r : Reply) → answers d t w r mid → answers d t w r new) → AnswersAll answers old (q ∷ qs) rs mid → AnswersAll answers old (q ∷ qs) rs new
answers_to answers old mid new qs q [] last all = absurd all
answers_to {D} {A} answers old mid new [] q (r ∷ []) last all = (new, last old q.tenant q.words r (subst (λ d. answers old q.tenant q.words r d) (sym all.2) all.1), refl)
answers_to answers old mid new [] q (r ∷ s ∷ rs) last all = absurd all.2
answers_to answers old mid new (p ∷ qs) q (r ∷ rs) last all = (all.0, all.1, answers_to answers all.0 mid new qs p rs last all.2)

-- ---- as many of them as there are replies

take_next : {X : Type 0} (xs : List X) (i : ℕ) (x : X) → i < length xs → x ≡ get_or xs i x → take (i + 1) xs ≡ take i xs ++ x ∷ []
take_next xs i x l e = take_more xs i x l ∙ ap (λ y. take i xs ++ y ∷ []) (sym e)

-- one request more is answered
pub front_on : {D A : Type 0} (answers : DoorCall D) (old mid new : D) (qs : List (Request A)) (i : ℕ) (rs : List Reply) (q : Request A) (r : Reply) → i < length qs → q ≡ get_or qs i q → AnswersAll answers old (take i qs) rs mid → answers mid q.tenant q.words r new
    → AnswersAll answers old (take (i + 1) qs) (rs ++ r ∷ []) new
front_on answers old mid new qs i rs q r l e all one = subst (λ (ps : List (Request _)). AnswersAll answers old ps (rs ++ r ∷ []) new) (sym (take_next qs i q l e)) (answers_on answers old mid new (take i qs) rs q r all one)

-- the first one alone
pub front_first : {D A : Type 0} (answers : DoorCall D) (old new : D) (qs : List (Request A)) (q : Request A) (r : Reply) (rs : List Reply) → 0 < length qs → q ≡ get_or qs 0 q → answers old q.tenant q.words r new → rs ≡ [] → AnswersFront answers old qs (r ∷ rs) new
front_first answers old new [] q r rs l e one none = absurd (omega (arith, l))
front_first answers old new (p ∷ qs) q r rs l e one none = subst (λ (ss : List Reply). AnswersFront answers old (p ∷ qs) (r ∷ ss) new) (sym none)
    (new, subst (λ (x : Request _). answers old x.tenant x.words r new) e one, refl)

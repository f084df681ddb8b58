-- What a session holds, and what stands under it, over calls: its own, and those of others.
use Rattle.std.proofs.Common.{◌≡◌, ◌≢◌, inl, ℕ, Bool, true, false, not, List, [], ◌∷◌, Option, Some, None, IfSome, Contains, refl, sym, ap, ◌∙◌, subst, arith}
use Rattle.std.specs.Prelude.{◌==◌}
use Rattle.std.proofs.lemmas.Bool.Decides.{nat_tests}
use Rattle.std.proofs.lemmas.List.Elements.{Contains-append_left}
use Rattle.mdl_key.specs.declared.mode.Mode.{Mode}
use Rattle.mdl_key.specs.Keys.{KeyName}
use Rattle.mdl_system.proofs.OrderLemmas.{Contains-here, Contains-later}
use Rattle.mdl_calls.specs.declared.answers.Held.{Held}
use Rattle.mdl_calls.specs.SessionLocks.{Wait}
use Rattle.mdl_calls.specs.Words.{Answer, At_place, Granted, Lost, Done, Call, caller, Resolve, Try_now, Begin_wait, End_wait, Release, Clone_ticket, Upgrade_now, Merge, Downgrade, Change_definition, Unpin, HoldsAt, SessionLocks, own_after, ticket_held, is_number, cloning, winning, redefined_place, Program, Give, Ask, Grow, ◌>>=◌, Each, EachCall, outcome_of}
use Rattle.mdl_core.specs.CoreCalls.{outcome}
use Rattle.mdl_core.specs.CoreJoins.{Joins, Knows, SpeaksFor, locks_at}
use Rattle.mdl_core.specs.Cores.{Core, has_key, key_at, standing_at}
use Rattle.mdl_core.specs.RunLaws.{IsMadeFor}
use Rattle.mdl_core.proofs.CallLaws.{core-changes, core-explains, core-keeps, core-others, core-remembers}
use Rattle.mdl_core.proofs.CoreReads.{ticket-key}
use Rattle.mdl_core.proofs.CoreSound.{calls_keep-sound}
use Rattle.mdl_core.proofs.KnownPlaces.{core-held_pinned}
use Rattle.mdl_core.proofs.ReadLaws.{core-stands}
use Rattle.mdl_context.specs.Tidying.{unpinning_all}
use Rattle.mdl_script_laws.proofs.ListLemmas.{filter-among, only-one}
use Rattle.mdl_script_laws.proofs.OutcomeLemmas.{joins-outcome}

-- ---- what a session holds

-- a call that takes no ticket from its session but those of these numbers, gives up no pin, and changes nothing that stands
abbrev pub IsMild : (ℕ → Type 0) → Call → Type 0
IsMild gone (Release who id) = gone id
IsMild gone (Upgrade_now who id mode) = ⊥
IsMild gone (Merge who old new) = ⊥
IsMild gone (Downgrade who id mode) = ⊥
IsMild gone (Change_definition who id change) = ⊥
IsMild gone (Unpin who place) = ⊥
IsMild gone _ = Unit {0}

won-among : (id : ℕ) (wait : Option Wait) (own : SessionLocks) (t : Held) → Contains own.held t → Contains (winning id wait own).held t
won-among id None own t among = among
won-among id (Some wait) own t among = Contains-append_left own.held _ t among

cloned-among : (id : ℕ) (mode : Mode) (ticket : Option Held) (own : SessionLocks) (t : Held) → Contains own.held t → Contains (cloning id mode ticket own).held t
cloned-among id mode None own t among = among
cloned-among id mode (Some ticket) own t among = Contains-append_left own.held _ t among

other_number : (id : ℕ) (t : Held) → (id ≡ t.id → ⊥) → not (is_number id t) ≡ true
other_number id t other = go (is_number id t) refl
  where
    go : (b : Bool) → (t.id == id) ≡ b → not b ≡ true
    go true e = absurd (other (grind (arith, nat_tests)))
    go false e = refl

held-after : (gone : ℕ → Type 0) (call : Call) (answer : Answer) (own : SessionLocks) (t : Held) → IsMild gone call → (gone t.id → ⊥) → Contains own.held t
    → Contains (own_after call answer own).held t
held-after gone (Resolve who key) (At_place place) own t mild stays among = among
held-after gone (Unpin who place) answer own t mild stays among = absurd mild
held-after gone (Try_now who place mode) (Granted id) own t mild stays among = Contains-append_left own.held _ t among
held-after gone (Begin_wait who place mode) (Granted id) own t mild stays among = Contains-append_left own.held _ t among
held-after gone (End_wait who) (Granted id) own t mild stays among = won-among id own.wait own t among
held-after gone (Release who id) Done own t mild stays among =
    filter-among (λ ticket. not (is_number id ticket)) own.held t (other_number id t (λ e. stays (subst gone e mild))) among
held-after gone (Clone_ticket who id mode) (Granted copy) own t mild stays among = cloned-among copy mode (ticket_held id own) own t among
held-after gone (Upgrade_now who id mode) answer own t mild stays among = absurd mild
held-after gone (Merge who old new) answer own t mild stays among = absurd mild
held-after gone (Downgrade who id mode) answer own t mild stays among = absurd mild
held-after gone call answer own t mild stays among = among

mild-keeps : (gone : ℕ → Type 0) (call : Call) (answer : Answer) (own : SessionLocks) (place : ℕ) → IsMild gone call → redefined_place call answer own ≡ Some place → ⊥
mild-keeps gone (Change_definition who id change) answer own place mild e = mild
mild-keeps gone call answer own place mild e = cc

-- from the one space to the other a session keeps its tickets, but those of these numbers, and what stands under them stands
pub record Spares (who : ℕ) (gone : ℕ → Type 0) (a b : Core) : Type 0 where
  pub speaks : SpeaksFor b who
  pub held : (t : Held) → Contains (locks_at a who).held t → (gone t.id → ⊥) → Contains (locks_at b who).held t
  pub known : (place : ℕ) (key : KeyName) → Knows a who place key → Knows b who place key
  pub stands : (t : Held) → Contains (locks_at a who).held t → (gone t.id → ⊥) → standing_at t.place b ≡ standing_at t.place a

-- no number
abbrev pub none : ℕ → Type 0
none id = ⊥

pub key-held : (a : Core) (who : ℕ) (t : Held) → SpeaksFor a who → Contains (locks_at a who).held t → has_key t.place a ≡ true
key-held a who t speaks among = ticket-key a who t speaks.1.tied speaks.0 (inl (inl among))

-- it knows the key of the place, which it pins
pub knows-held : (a : Core) (who : ℕ) (t : Held) → SpeaksFor a who → Contains (locks_at a who).held t → Knows a who t.place (key_at t.place a)
knows-held a who t speaks among = (key-held a who t speaks among, refl, inl (core-held_pinned a who t speaks among))

pub spares-here : (who : ℕ) (gone : ℕ → Type 0) (a : Core) → SpeaksFor a who → Spares who gone a a
spares-here who gone a speaks = record { speaks = speaks; held = λ t among stays. among; known = λ place key knows. knows; stands = λ t among stays. refl }

pub spares-then : (who : ℕ) (gone : ℕ → Type 0) (a b c : Core) → Spares who gone a b → Spares who gone b c → Spares who gone a c
spares-then who gone a b c early late = record {
  speaks = late.speaks;
  held = λ t among stays. late.held t (early.held t among stays) stays;
  known = λ place key knows. late.known place key (early.known place key knows);
  stands = λ t among stays. late.stands t (early.held t among stays) stays ∙ early.stands t among stays;
}

-- a call of the session
pub spares-call : (who : ℕ) (gone : ℕ → Type 0) (a b : Core) (call : Call) (answer : Answer) → SpeaksFor a who → caller call ≡ Some who → IsMild gone call
    → Joins a call answer b → Spares who gone a b
spares-call who gone a b call answer speaks mine mild joins = record {
  speaks = core-keeps calls_keep-sound a b call answer who speaks joins;
  held = held;
  known = λ place key knows. core-remembers a b call answer who place key speaks (λ e done. subst (IsMild gone) e mild) joins knows;
  stands = λ t among stays. (core-stands a b call answer who t.place (standing_at t.place a) speaks
      (λ called there. mild-keeps gone call answer (locks_at a who) t.place mild there) (t, held t among stays, refl) joins
      ((t, among, refl), key-held a who t speaks among, refl)).2;
}
  where
    held : (t : Held) → Contains (locks_at a who).held t → (gone t.id → ⊥) → Contains (locks_at b who).held t
    held t among stays =
        subst (λ (o : SessionLocks). Contains o.held t) (sym (core-changes a b call answer who mine joins)) (held-after gone call answer (locks_at a who) t mild stays among)

-- a call of anybody else
pub spares-other : (who : ℕ) (gone : ℕ → Type 0) (a b : Core) (call : Call) (answer : Answer) → SpeaksFor a who → (caller call ≡ Some who → ⊥)
    → Joins a call answer b → Spares who gone a b
spares-other who gone a b call answer speaks other joins = record {
  speaks = core-keeps calls_keep-sound a b call answer who speaks joins;
  held = held;
  known = λ place key knows. core-remembers a b call answer who place key speaks (λ e done. other (ap caller e)) joins knows;
  stands = λ t among stays. (core-stands a b call answer who t.place (standing_at t.place a) speaks
      (λ called there. other called) (t, held t among stays, refl) joins ((t, among, refl), key-held a who t speaks among, refl)).2;
}
  where
    held : (t : Held) → Contains (locks_at a who).held t → (gone t.id → ⊥) → Contains (locks_at b who).held t
    held t among stays = subst (λ (o : SessionLocks). Contains o.held t) (sym (core-others a b call answer who speaks other joins)) among

-- from the one space to the other a session keeps its tickets, but those of these numbers, and keys and definitions under them stay. It may have
-- given up pins of other places, whose keys it knows no more then
pub record Leaves (who : ℕ) (gone : ℕ → Type 0) (a b : Core) : Type 0 where
  pub speaks : SpeaksFor b who
  pub held : (t : Held) → Contains (locks_at a who).held t → (gone t.id → ⊥) → Contains (locks_at b who).held t
  pub keys : (t : Held) → Contains (locks_at a who).held t → (gone t.id → ⊥) → key_at t.place b ≡ key_at t.place a
  pub stands : (t : Held) → Contains (locks_at a who).held t → (gone t.id → ⊥) → standing_at t.place b ≡ standing_at t.place a

pub leaves-spared : (who : ℕ) (gone : ℕ → Type 0) (a b : Core) → SpeaksFor a who → Spares who gone a b → Leaves who gone a b
leaves-spared who gone a b speaks spares = record {
  speaks = spares.speaks;
  held = spares.held;
  keys = λ t among stays. (spares.known t.place (key_at t.place a) (knows-held a who t speaks among)).1;
  stands = spares.stands;
}

pub leaves-then : (who : ℕ) (gone : ℕ → Type 0) (a b c : Core) → Leaves who gone a b → Leaves who gone b c → Leaves who gone a c
leaves-then who gone a b c early late = record {
  speaks = late.speaks;
  held = λ t among stays. late.held t (early.held t among stays) stays;
  keys = λ t among stays. late.keys t (early.held t among stays) stays ∙ early.keys t among stays;
  stands = λ t among stays. late.stands t (early.held t among stays) stays ∙ early.stands t among stays;
}

-- ---- the wait of a session

abbrev pub begins_wait : Call → Bool
begins_wait (Begin_wait who place mode) = true
begins_wait _ = false

won-wait : (id : ℕ) (wait : Option Wait) (own : SessionLocks) (w : Wait) → own.wait ≡ wait → (winning id wait own).wait ≡ Some w → own.wait ≡ Some w
won-wait id None own w same e = e
won-wait id (Some wait) own w same e = cc

cloned-wait : (id : ℕ) (mode : Mode) (ticket : Option Held) (own : SessionLocks) (w : Wait) → (cloning id mode ticket own).wait ≡ Some w → own.wait ≡ Some w
cloned-wait id mode None own w e = e
cloned-wait id mode (Some ticket) own w e = e

wait-after : (gone : ℕ → Type 0) (call : Call) (answer : Answer) (own : SessionLocks) (w : Wait) → IsMild gone call → begins_wait call ≡ false
    → (own_after call answer own).wait ≡ Some w → own.wait ≡ Some w
wait-after gone (Begin_wait who place mode) answer own w mild begins e = cc
wait-after gone (Resolve who key) (At_place place) own w mild begins e = e
wait-after gone (Unpin who place) answer own w mild begins e = absurd mild
wait-after gone (Try_now who place mode) (Granted id) own w mild begins e = e
wait-after gone (Release who id) Done own w mild begins e = e
wait-after gone (End_wait who) (Granted id) own w mild begins e = won-wait id own.wait own w refl e
wait-after gone (End_wait who) (Lost how) own w mild begins e = cc
wait-after gone (Clone_ticket who id mode) (Granted copy) own w mild begins e = cloned-wait copy mode (ticket_held id own) own w e
wait-after gone (Upgrade_now who id mode) answer own w mild begins e = absurd mild
wait-after gone (Merge who old new) answer own w mild begins e = absurd mild
wait-after gone (Downgrade who id mode) answer own w mild begins e = absurd mild
wait-after gone call answer own w mild begins e = e

-- a session's wait is one that it had
abbrev pub KeepsWait : ℕ → Core → Core → Type 0
KeepsWait who a b = (w : Wait) → (locks_at b who).wait ≡ Some w → (locks_at a who).wait ≡ Some w

-- the session keeps its tickets but those of these numbers, what stands under them stands, and no wait has come
abbrev pub Stays : ℕ → (ℕ → Type 0) → Core → Core → Type 0
Stays who gone a b = Spares who gone a b × KeepsWait who a b

pub stays-here : (who : ℕ) (gone : ℕ → Type 0) (a : Core) → SpeaksFor a who → Stays who gone a a
stays-here who gone a speaks = (spares-here who gone a speaks, λ w e. e)

pub stays-then : (who : ℕ) (gone : ℕ → Type 0) (a b c : Core) → Stays who gone a b → Stays who gone b c → Stays who gone a c
stays-then who gone a b c early late = (spares-then who gone a b c early.0 late.0, λ w e. early.1 w (late.1 w e))

-- a call of the session that is mild and begins no wait
abbrev pub IsQuiet : ℕ → (ℕ → Type 0) → Call → Type 0
IsQuiet who gone call = (caller call ≡ Some who) × IsMild gone call × (begins_wait call ≡ false)

pub stays-call : (who : ℕ) (gone : ℕ → Type 0) (a b : Core) (call : Call) (answer : Answer) → SpeaksFor a who → IsQuiet who gone call → Joins a call answer b
    → Stays who gone a b
stays-call who gone a b call answer speaks quiet joins = (
  spares-call who gone a b call answer speaks quiet.0 quiet.1 joins,
  λ w e. wait-after gone call answer (locks_at a who) w quiet.1 quiet.2 (subst (λ (o : SessionLocks). o.wait ≡ Some w) (core-changes a b call answer who quiet.0 joins) e),
)

-- a call of anybody else
pub stays-other : (who : ℕ) (a b : Core) (call : Call) (answer : Answer) → SpeaksFor a who → (caller call ≡ Some who → ⊥) → Joins a call answer b
    → Stays who none a b
stays-other who a b call answer speaks other joins = (
  spares-other who none a b call answer speaks other joins,
  λ w e. subst (λ (o : SessionLocks). o.wait ≡ Some w) (core-others a b call answer who speaks other joins) e,
)

-- ---- pins that are given up

-- from the one space to the other a session gives up its pins of some of these places, where it has nothing
pub record Unpins (who : ℕ) (places : List ℕ) (a b : Core) : Type 0 where
  pub speaks : SpeaksFor b who
  pub held : (locks_at b who).held ≡ (locks_at a who).held
  pub wait : (locks_at b who).wait ≡ (locks_at a who).wait
  pub known : (place : ℕ) (key : KeyName) → (Contains places place → ⊥) → Knows a who place key → Knows b who place key
  pub keys : (t : Held) → Contains (locks_at a who).held t → key_at t.place b ≡ key_at t.place a
  pub stands : (t : Held) → Contains (locks_at a who).held t → standing_at t.place b ≡ standing_at t.place a

unpins-none : (who : ℕ) (a : Core) → SpeaksFor a who → Unpins who [] a a
unpins-none who a speaks = record {
  speaks = speaks;
  held = refl;
  wait = refl;
  known = λ place key other knows. knows;
  keys = λ t among. refl;
  stands = λ t among. refl;
}

same-tickets : (who place : ℕ) (answer : Answer) (own : SessionLocks) → (own_after (Unpin who place) answer own).held ≡ own.held
same-tickets who place Done own = refl
same-tickets who place _ own = refl

same-wait : (who place : ℕ) (answer : Answer) (own : SessionLocks) → (own_after (Unpin who place) answer own).wait ≡ own.wait
same-wait who place Done own = refl
same-wait who place _ own = refl

-- no pin of a ticket's place is given up
not_held : (a b : Core) (who place : ℕ) → Joins a (Unpin who place) Done b → HoldsAt place (locks_at a who) → ⊥
not_held a b who place joins holds = (core-explains a b (Unpin who place) Done who refl joins).1 holds

pub unpins-call : (who place : ℕ) (answer : Answer) (a b : Core) → SpeaksFor a who → Joins a (Unpin who place) answer b → Unpins who (place ∷ []) a b
unpins-call who place answer a b speaks joins = record {
  speaks = core-keeps calls_keep-sound a b (Unpin who place) answer who speaks joins;
  held = ap (λ (o : SessionLocks). o.held) own ∙ same-tickets who place answer (locks_at a who);
  wait = ap (λ (o : SessionLocks). o.wait) own ∙ same-wait who place answer (locks_at a who);
  known = λ at key other knows. core-remembers a b (Unpin who place) answer who at key speaks
      (λ same done. other (let e : place ≡ at = cc in subst (Contains (place ∷ [])) e (Contains-here place []))) joins knows;
  keys = λ t among. (core-remembers a b (Unpin who place) answer who t.place (key_at t.place a) speaks
      (λ same done. not_held a b who t.place (subst (λ (call : Call). Joins a call Done b) same (subst (λ said. Joins a (Unpin who place) said b) done joins))
      (t, among, refl)) joins (knows-held a who t speaks among)).1;
  stands = λ t among. (core-stands a b (Unpin who place) answer who t.place (standing_at t.place a) speaks (λ called there. cc)
      (t, subst (λ held. Contains held t) (sym (ap (λ (o : SessionLocks). o.held) own ∙ same-tickets who place answer (locks_at a who))) among, refl) joins
      ((t, among, refl), key-held a who t speaks among, refl)).2;
}
  where
    own : locks_at b who ≡ own_after (Unpin who place) answer (locks_at a who)
    own = core-changes a b (Unpin who place) answer who refl joins

unpins-then : (who place : ℕ) (places : List ℕ) (a b c : Core) → Unpins who (place ∷ []) a b → Unpins who places b c → Unpins who (place ∷ places) a c
unpins-then who place places a b c early late = record {
  speaks = late.speaks;
  held = late.held ∙ early.held;
  wait = late.wait ∙ early.wait;
  known = λ at key other knows. late.known at key (λ among. other (Contains-later place places at among))
      (early.known at key (λ among. other (subst (Contains (place ∷ places)) (sym (only-one place at among)) (Contains-here place places))) knows);
  keys = λ t among. late.keys t (there t among) ∙ early.keys t among;
  stands = λ t among. late.stands t (there t among) ∙ early.stands t among;
}
  where
    there : (t : Held) → Contains (locks_at a who).held t → Contains (locks_at b who).held t
    there t among = subst (λ held. Contains held t) (sym early.held) among

-- tickets that stay are as they were
pub leaves-unpinned : (who : ℕ) (gone : ℕ → Type 0) (places : List ℕ) (a b c : Core) → Leaves who gone a b → Unpins who places b c → Leaves who gone a c
leaves-unpinned who gone places a b c leaves unpins = record {
  speaks = unpins.speaks;
  held = λ t among stays. subst (λ held. Contains held t) (sym unpins.held) (leaves.held t among stays);
  keys = λ t among stays. unpins.keys t (leaves.held t among stays) ∙ leaves.keys t among stays;
  stands = λ t among stays. unpins.stands t (leaves.held t among stays) ∙ leaves.stands t among stays;
}

-- ---- programs

-- a program comes to a reply and a space of which this is so
abbrev pub Leads : {A : Type 0} → (A → Core → Type 0) → Program A → Core → Type 0
Leads Q (Give x) a = Q x a
Leads Q (Ask call next) a = (answer : Answer) (b : Core) → Joins a call answer b → Leads Q (next answer) b
Leads Q (Grow refused found) a = Leads Q found a

pub leads-bind : {A B : Type 0} (P : A → Core → Type 0) (Q : B → Core → Type 0) (first : Program A) (next : A → Program B) (a : Core)
    → Leads P first a → ((x : A) (b : Core) → P x b → Leads Q (next x) b) → Leads Q (first >>= next) a
leads-bind P Q (Give x) next a leads later = later x a leads
leads-bind P Q (Ask call more) next a leads later = λ answer b joins. leads-bind P Q (more answer) next b (leads answer b joins) later
leads-bind P Q (Grow refused found) next a leads later = leads-bind P Q found next a leads later

-- what follows from it is so
pub leads-map : {A : Type 0} (P Q : A → Core → Type 0) (program : Program A) (a : Core) → ((x : A) (b : Core) → P x b → Q x b) → Leads P program a
    → Leads Q program a
leads-map P Q (Give x) a so leads = so x a leads
leads-map P Q (Ask call next) a so leads = λ answer b joins. leads-map P Q (next answer) b so (leads answer b joins)
leads-map P Q (Grow refused found) a so leads = leads-map P Q found a so leads

pub leads-outcome : {A : Type 0} (Q : A → Core → Type 0) (program : Program A) (a : Core) (who : ℕ) → SpeaksFor a who → EachCall (IsMadeFor who) program
    → Leads Q program a → Q (outcome_of outcome program a).0 (outcome_of outcome program a).1
leads-outcome Q (Give x) a who speaks made leads = leads
leads-outcome Q (Ask call next) a who speaks made leads =
    let joins = joins-outcome who a call speaks made.0 in
    leads-outcome Q (next (outcome call a).0) (outcome call a).1 who (core-keeps calls_keep-sound a (outcome call a).1 call (outcome call a).0 who speaks joins)
    (made.1 (outcome call a).0) (leads (outcome call a).0 (outcome call a).1 joins)
leads-outcome Q (Grow refused found) a who speaks made leads = leads-outcome Q found a who speaks made.1 leads

not_mine : (who other : ℕ) (maker : Option ℕ) → other ≢ who → IfSome maker (λ w. w ≡ other) → maker ≡ Some who → ⊥
not_mine who other None apart made e = cc
not_mine who other (Some w) apart made e = apart (let f : w ≡ who = cc in sym made ∙ f)

-- a program of another session takes nothing from a session
pub stays-outcome : {A : Type 0} (program : Program A) (a : Core) (who other : ℕ) → other ≢ who → SpeaksFor a other → SpeaksFor a who
    → EachCall (IsMadeFor other) program → Stays who none a (outcome_of outcome program a).1
stays-outcome (Give x) a who other apart theirs speaks made = stays-here who none a speaks
stays-outcome (Ask call next) a who other apart theirs speaks made =
    let b = (outcome call a).1 in
    let joins = joins-outcome other a call theirs made.0 in
    let first = stays-other who a b call (outcome call a).0 speaks (not_mine who other (caller call) apart made.0) joins in
    stays-then who none a b _ first
    (stays-outcome (next (outcome call a).0) b who other apart (core-keeps calls_keep-sound a b call (outcome call a).0 other theirs joins) first.0.speaks
    (made.1 (outcome call a).0))
stays-outcome (Grow refused found) a who other apart theirs speaks made = stays-outcome found a who other apart theirs speaks made.1

-- so does a quiet program of its own
pub leads-quiet : {A : Type 0} (program : Program A) (a b : Core) (who : ℕ) (gone : ℕ → Type 0) → Stays who gone a b → EachCall (IsQuiet who gone) program
    → Leads (λ x c. Stays who gone a c) program b
leads-quiet (Give x) a b who gone stays made = stays
leads-quiet (Ask call next) a b who gone stays made = λ answer c joins.
    leads-quiet (next answer) a c who gone (stays-then who gone a b c stays (stays-call who gone b c call answer stays.0.speaks made.0 joins)) (made.1 answer)
leads-quiet (Grow refused found) a b who gone stays made = leads-quiet found a b who gone stays made.1

-- what is so of each reply is so of that one
pub leads-each : {A : Type 0} (P : A → Type 0) (Q : A → Core → Type 0) (program : Program A) (a : Core) → Each P program → Leads Q program a
    → Leads (λ x b. P x × Q x b) program a
leads-each P Q (Give x) a each leads = (each, leads)
leads-each P Q (Ask call next) a each leads = λ answer b joins. leads-each P Q (next answer) b (each answer) (leads answer b joins)
leads-each P Q (Grow refused found) a each leads = leads-each P Q found a each.1 leads

-- a session gives up pins
pub leads-unpinning : (who : ℕ) (places : List ℕ) (a : Core) → SpeaksFor a who → Leads (λ x b. Unpins who places a b) (unpinning_all who places) a
leads-unpinning who [] a speaks = unpins-none who a speaks
leads-unpinning who (place ∷ places) a speaks = λ answer b joins.
    let first = unpins-call who place answer a b speaks joins in
    leads-map (λ x c. Unpins who places b c) (λ x c. Unpins who (place ∷ places) a c) (unpinning_all who places) b
    (λ x c later. unpins-then who place places a b c first later) (leads-unpinning who places b first.speaks)

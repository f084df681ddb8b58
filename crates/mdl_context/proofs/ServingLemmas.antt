-- What a context keeps and what its session holds, as a call changes both.
use Rattle.std.proofs.Common.{◌≡◌, ℕ, ◌<◌, Bool, true, List, [], ◌∷◌, ◌++◌, Option, Some, None, refl, sym, ap, ◌∙◌, subst, arith}
use Rattle.std.specs.Prelude.{map, find, is_some}
use Rattle.std.specs.Option.{option_map}
use Rattle.std.proofs.lemmas.Bool.Decides.{nat_tests}
use Rattle.std.proofs.lemmas.List.{map-append}
use Rattle.mdl_key.specs.declared.mode.Mode.{Mode}
use Rattle.mdl_calls.specs.declared.answers.Held.{Held}
use Rattle.mdl_calls.specs.SessionLocks.{SessionLocks, Wait, IsRising, is_waiting, is_number, ticket_held, gaining, waiting, ending, winning}
use Rattle.mdl_context.specs.declared.kept.Kept.{Kept}
use Rattle.mdl_context.specs.declared.kept.Wanted.{Wanted}
use Rattle.mdl_context.specs.Wishes.{Wish}
use Rattle.mdl_context.specs.Contexts.{ContextView, Serves, AreRising, held_of, wish_here, wish_there}
use Rattle.mdl_context.specs.Holdings.{earliest, kept_ticket, wanted_of, with_wanted}
use Rattle.mdl_context.specs.Waits.{is_searched}
use Rattle.mdl_context.proofs.FrontLemmas.{Above}

unwrap : {X : Type 0} {x y : X} → Some x ≡ Some y → x ≡ y
unwrap e = cc

-- how long tickets are kept shows in no lock space
pub held-same : (f : Kept → Kept) → ((t : Kept) → held_of (f t) ≡ held_of t) → (kept : List Kept) → map held_of (map f kept) ≡ map held_of kept
held-same f same [] = refl
held-same f same (t ∷ ts) = grind (arith, same t, held-same f same ts)

-- so the context serves the session as before
pub serves-changed : (f : Kept → Kept) → ((t : Kept) → held_of (f t) ≡ held_of t) → (own : SessionLocks) (before after : ContextView) →
    after.kept ≡ map f before.kept → after.wait ≡ before.wait → Serves own before → Serves own after
serves-changed f same own before after kept wait serves = record {
  held = serves.held ∙ sym (ap (map held_of) kept ∙ held-same f same before.kept);
  wait = serves.wait ∙ sym (ap (option_map wish_here) wait);
}

-- a ticket is gained
pub serves-gaining : (own after : SessionLocks) (before then : ContextView) (id place : ℕ) (request : Wish) → Serves own before → after ≡ gaining id place request.mode own
    → then.kept ≡ before.kept ++ kept_ticket id place request ∷ [] → then.wait ≡ before.wait → Serves after then
serves-gaining own after before then id place request serves gain kept wait = record {
  held = ap (λ (o : SessionLocks). o.held) gain ∙ ap (λ hs. hs ++ held_of (kept_ticket id place request) ∷ []) serves.held
      ∙ sym (map-append held_of before.kept (kept_ticket id place request ∷ [])) ∙ sym (ap (map held_of) kept);
  wait = ap (λ (o : SessionLocks). option_map wish_there o.wait) gain ∙ serves.wait ∙ sym (ap (option_map wish_here) wait);
}

-- a wait begins
pub serves-waiting : (own after : SessionLocks) (before then : ContextView) (number place : ℕ) (request : Wish) (searched : Bool) → Serves own before → after ≡ waiting number place request.mode own
    → then.kept ≡ before.kept → then.wait ≡ Some (wanted_of place request searched) → Serves after then
serves-waiting own after before then number place request searched serves begin kept wait = record {
  held = ap (λ (o : SessionLocks). o.held) begin ∙ serves.held ∙ sym (ap (map held_of) kept);
  wait = ap (λ (o : SessionLocks). option_map wish_there o.wait) begin ∙ sym (ap (option_map wish_here) wait);
}

-- a wait ends without a ticket
pub serves-ending : (own after : SessionLocks) (before then : ContextView) → Serves own before → after ≡ ending own → then.kept ≡ before.kept → then.wait ≡ None → Serves after then
serves-ending own after before then serves end kept wait = record {
  held = ap (λ (o : SessionLocks). o.held) end ∙ serves.held ∙ sym (ap (map held_of) kept);
  wait = ap (λ (o : SessionLocks). option_map wish_there o.wait) end ∙ sym (ap (option_map wish_here) wait);
}

won-held : (id : ℕ) (held : List Held) (pins : List ℕ) (kept : List Kept) (w : Option Wait) (v : Option Wanted) → held ≡ map held_of kept → option_map wish_there w ≡ option_map wish_here v
    → (winning id w (record { held = held; wait = w; pins = pins })).held ≡ map held_of (with_wanted id v kept)
won-held id held pins kept None None same wish = same
won-held id held pins kept None (Some v) same wish = cc
won-held id held pins kept (Some w) None same wish = cc
won-held id held pins kept (Some w) (Some v) same wish =
    let place : w.place ≡ v.place = ap (λ (p : ℕ × Mode). p.0) (unwrap wish) in
    let mode : w.mode ≡ v.mode = ap (λ (p : ℕ × Mode). p.1) (unwrap wish) in
    rw (same, place, mode) (sym (map-append held_of kept (record { id = id; place = v.place; mode = v.mode; duration = v.duration } ∷ [])))

won-wait : (id : ℕ) (held : List Held) (pins : List ℕ) (w : Option Wait) → (winning id w (record { held = held; wait = w; pins = pins })).wait ≡ None
won-wait id held pins None = refl
won-wait id held pins (Some w) = refl

-- a wait ends with its ticket
pub serves-winning : (id : ℕ) (own after : SessionLocks) (before then : ContextView) → Serves own before → after ≡ winning id own.wait own
    → then.kept ≡ with_wanted id before.wait before.kept → then.wait ≡ None → Serves after then
serves-winning id own after before then serves win kept wait = record {
  held = ap (λ (o : SessionLocks). o.held) win ∙ won-held id own.held own.pins before.kept own.wait before.wait serves.held serves.wait ∙ sym (ap (map held_of) kept);
  wait = ap (λ (o : SessionLocks). option_map wish_there o.wait) win ∙ ap (option_map wish_there) (won-wait id own.held own.pins own.wait) ∙ sym (ap (option_map wish_here) wait);
}

-- what is found is held
absent-held : (n : ℕ) (kept : List Kept) (t : Kept) (p : Kept → Bool) → Above n kept → find p kept ≡ Some t → n < t.id
absent-held n [] t p above found = cc
absent-held n (x ∷ xs) t p above found = grind (arith, nat_tests, absent-held n xs t p)

found-held : (p : Kept → Bool) (kept : List Kept) (t : Kept) → AreRising kept → find p kept ≡ Some t → find (is_number t.id) (map held_of kept) ≡ Some (held_of t)
found-held p [] t rising found = cc
found-held p (x ∷ xs) t rising found = grind (arith, nat_tests, absent-held x.id xs t p, found-held p xs t)

earliest-found : (f : Option Kept) (h : Held) → option_map held_of f ≡ Some h → (t : Kept) × (f ≡ Some t) × (held_of t ≡ h)
earliest-found None h e = cc
earliest-found (Some t) h e = (t, refl, unwrap e)

pub earliest-held : (p : Kept → Bool) (own : SessionLocks) (context : ContextView) (h : Held) → IsRising own → Serves own context → earliest p context.kept ≡ Some h → ticket_held h.id own ≡ Some h
earliest-held p own context h rising serves found =
    let it = earliest-found (find p context.kept) h found in
    ap (find (is_number h.id)) serves.held
    ∙ subst (λ (k : Held). find (is_number k.id) (map held_of context.kept) ≡ Some k) it.2 (found-held p context.kept it.0 (rw serves.held at rising) it.1)

-- whoever waits here waits there
same-waiting : (w : Option Wait) (v : Option Wanted) → option_map wish_there w ≡ option_map wish_here v → is_some w ≡ is_some v
same-waiting None None same = refl
same-waiting None (Some v) same = cc
same-waiting (Some w) None same = cc
same-waiting (Some w) (Some v) same = refl

pub waits-there : (own : SessionLocks) (context : ContextView) → Serves own context → is_some context.wait ≡ true → is_waiting own ≡ true
waits-there own context serves waits = same-waiting own.wait context.wait serves.wait ∙ waits

-- fewer tickets are left, and the same wait
pub serves-left : (own after : SessionLocks) (before then : ContextView) → Serves own before → after.held ≡ map held_of then.kept → after.wait ≡ own.wait → then.wait ≡ before.wait → Serves after then
serves-left own after before then serves held there here = record {
  held = held;
  wait = ap (option_map wish_there) there ∙ serves.wait ∙ sym (ap (option_map wish_here) here);
}

-- a wait whose searches are over, or aren't, is one
pub searched-waits : {searched : Bool} (wait : Option Wanted) (found : Option Bool) → found ≡ is_searched wait → found ≡ Some searched → is_some wait ≡ true
searched-waits None found is e = cc
searched-waits (Some wanted) found is e = refl

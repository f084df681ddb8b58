-- A ticket in another mode in the book.
use Rattle.std.proofs.Common.{◌≡◌, ℕ, ◌+◌, ◌<◌, Bool, true, ◌||◌, List, [], ◌∷◌, length, Option, None, Result, Ok, Err, refl, sym, ap, ◌∙◌, arith, is_some, OnOk, lt-ltb}
use Rattle.mdl_visits.proofs.Common.{BookError, BookView, Kind, Mode, RefusesJust, TellsLists, Ticket, any_obtrusive, by_bool, change_fault, changing, is_obtrusive, is_ticket, lock_kind, may_stand, ticket_of, with_mode, with_mode-hit, with_mode-miss}

module _ (session number : ℕ) (mode : Mode) where
  -- the ticket is one of the list still
  some_left : (ts : List Ticket) → is_some (ticket_of session number ts) ≡ true → 0 < length (with_mode session number mode ts)
  some_left [] there = absurd (cc)
  some_left (t ∷ ts) there =
      by_bool (is_ticket session number t)
      (λ hit. let is = ap length (with_mode-hit session number mode t ts hit) in omega arith)
      (λ miss. let is = ap length (with_mode-miss session number mode t ts miss) in omega arith)

  -- and it is obtrusive where the mode is
  obtrusive_there : (kind : Kind) (ts : List Ticket) → is_obtrusive kind mode ≡ true → is_some (ticket_of session number ts) ≡ true
      → any_obtrusive kind (with_mode session number mode ts) ≡ true
  obtrusive_there kind [] asks there = absurd (cc)
  obtrusive_there kind (t ∷ ts) asks there =
      by_bool (is_ticket session number t)
      (λ hit. ap (any_obtrusive kind) (with_mode-hit session number mode t ts hit) ∙ rw asks refl)
      (λ miss.
      let later = obtrusive_there kind ts asks (rw miss at there) in
      ap (any_obtrusive kind) (with_mode-miss session number mode t ts miss) ∙ by_bool (is_obtrusive kind t.mode) (λ yes. rw yes refl) (λ no. rw no later))

  -- so the flags that were raised for it tell the lists exactly
  pub altered_exactly : (book : BookView) (asks obtrusive : Bool) → asks ≡ true → is_obtrusive (lock_kind book) mode ≡ true → is_some (ticket_of session number book.granted) ≡ true
      → TellsLists (changing session number mode book) true (asks || obtrusive)
  altered_exactly book asks obtrusive up is there =
      let some = some_left book.granted there in
      let any = obtrusive_there (lock_kind book) book.granted is there in (
        sym (lt-ltb 0 (length (with_mode session number mode book.granted) + length book.waiting) (omega (arith, some))),
        rw up (sym (rw any refl)),
      )

  -- what may stand and is there can be written
  pub none_clashes : (word : ℕ) (book : BookView) → is_some (ticket_of session number book.granted) ≡ true → may_stand (lock_kind book) book.granted word session mode ≡ true
      → change_fault session number mode word book ≡ None
  none_clashes word book there stands = rw (there, stands) refl

-- where there is no fault it was done
pub just_done : {T : Type 0} {P : Type 0} (fault : Option BookError) (result : Result T BookError) → fault ≡ None → RefusesJust fault result → OnOk result P → P
just_done fault (Ok x) none told done = done
just_done {T} fault (Err e) none told done = let is = rw none at told in absurd (cc)

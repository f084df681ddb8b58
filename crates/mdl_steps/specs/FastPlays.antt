-- The steps of a lock word's fast path: what each changes in the view of its session, and when it may be made. A fast ticket is in no list:
-- the lock's word counts it. After MySQL 5.7, sql/mdl.cc: the fast paths of `MDL_context::try_acquire_lock_impl` and
-- `MDL_context::release_lock`, and `MDL_context::materialize_fast_path_locks`.
use Rattle.std.specs.Prelude.{◌≡◌, ◌≢◌, ℕ, ◌+◌, ◌<◌, ◌==◌, not, true, false, if◌then◌else◌, List, [], ◌∷◌, ◌++◌, map, filter, find, length, is_some, Option, Some, None}
use Rattle.mdl_steps.specs.FirstWords.{BookView, Gain, Kind, KnownKey, KnowsPlace, LatchRecord, Lose, Mode, Once, SessionTicket, Slot, Step, StepKind, Ticket, View, counted, encode, get_elem?, held_at, increment_of, interleaved, is_own, kind_of, lock_kind, lock_word, most_fast, option_and_then, own_at, slow_flag, some, ticket_by}
use Rattle.mdl_steps.specs.Plays.{Mine, changed, logged}
use Rattle.mdl_steps.specs.declared.step_kind.StepKind.TheVariants as step

-- ---- the view

-- the word of a place was met by a step of this kind, and wasn't changed. Only the list of steps changed
abbrev pub met_word_by : StepKind → ℕ → ℕ → Mine → Mine
met_word_by kind place found m = (logged kind [] (lock_word place) found m.0.latches m.0, m.1)

-- the word of a place was read
abbrev pub met_word : ℕ → ℕ → Mine → Mine
met_word = met_word_by step.ReadWord

-- the word of a place was to be exchanged for a fast grant, but wasn't the one that the step expected
abbrev pub missed_fast : ℕ → ℕ → Mine → Mine
missed_fast = met_word_by step.MissFast

-- a fast ticket, with the version that is noted under it, if one is
abbrev pub fast_own : ℕ → ℕ → Mode → Option ℕ → SessionTicket
fast_own number place mode noted = record { number = number; place = place; mode = mode; noted = noted }

-- a fast ticket with the session's next number was granted
abbrev pub granted_fast : ℕ → Mode → Option ℕ → ℕ → Mine → Mine
granted_fast place mode noted found m =
    let v = record m.0 { fast = m.0.fast ++ fast_own m.0.next place mode noted ∷ []; next = m.0.next + 1 } in
    (logged step.GrantFast (Gain m.0.next mode ∷ []) (lock_word place) found m.0.latches v, m.1)

-- the tickets except the one with this number at a place
abbrev pub but_own : ℕ → ℕ → List SessionTicket → List SessionTicket
but_own place number tickets = filter (λ t. not (is_own place number t)) tickets

-- the places that a session owes a reschedule after a fast release there found this word. If the flag SLOW was up, tickets may wait
abbrev pub owing : ℕ → ℕ → List ℕ → List ℕ
owing place found owes = if slow_flag found then place ∷ owes else owes

-- a fast ticket was released
abbrev pub released_fast : ℕ → ℕ → ℕ → Mine → Mine
released_fast place number found m =
    let v = record m.0 { fast = but_own place number m.0.fast; owes = owing place found m.0.owes } in
    (logged step.ReleaseFast (Lose number ∷ []) (lock_word place) found m.0.latches v, m.1)

-- the fast tickets that a session has at a place, as they are listed in a book
abbrev pub moved : ℕ → View → List Ticket
moved place v = map (ticket_by v.number) (own_at place v.fast)

-- the book with these tickets at the end of the granted list
abbrev pub granting_all : List Ticket → BookView → BookView
granting_all tickets book = record book { granted = book.granted ++ tickets }

-- the record of a latch with these tickets at the end of its book's granted list. A noted word still counts them
abbrev pub with_granted : List Ticket → LatchRecord → LatchRecord
with_granted tickets h = record h { book = granting_all tickets h.book; exact = false }

-- the tickets that aren't at this place
abbrev pub but_at : ℕ → List SessionTicket → List SessionTicket
but_at place tickets = filter (λ t. not (t.place == place)) tickets

-- the fast tickets at a place became slow ones, in order of their numbers among the others. The record of the latch has them granted in the book
abbrev pub materialised : ℕ → ℕ → Mine → Mine
materialised place found m =
    let v = record m.0 { fast = but_at place m.0.fast; slow = interleaved m.0.slow (own_at place m.0.fast) } in
    let w = changed place (with_granted (moved place m.0)) v in
    (logged step.Materialise [] (lock_word place) found w.latches w, m.1)

-- ---- when it may be done

-- the first version that is noted under these tickets, if any is
abbrev pub first_note : List SessionTicket → Option ℕ
first_note tickets = option_and_then (λ (t : SessionTicket). t.noted) (find (λ (t : SessionTicket). is_some t.noted) tickets)

-- the version that the session noted at a place, under a fast ticket or a slow one
abbrev pub noted_at : ℕ → View → Option ℕ
noted_at place v = first_note (own_at place v.fast ++ own_at place v.slow)

-- the session knows the key of the place, and the word counts a fast ticket in this mode by adding `one`
abbrev pub IsCounted : View → ℕ → Mode → ℕ → Type 0
IsCounted v place mode one =
    (i : ℕ) × (k : KnownKey) × (get_elem? v.known i ≡ some k) × (k.place ≡ place) × (increment_of (kind_of k.key.namespace) mode ≡ Some one)

-- a fast ticket may be granted, if the flag OBTRUSIVE is down: the session waits for nothing, the word counts the mode by `one`, and the session has
-- fewer than `most_fast` fast tickets there. If it noted a version there, that is noted under the new ticket, too
pub record MayGrantFast (place : ℕ) (mode : Mode) (noted : Option ℕ) (one : ℕ) (m : Mine) : Type 0 where
  pub idle : m.0.asks ≡ None
  pub counted_so : IsCounted m.0 place mode one
  pub few : length (own_at place m.0.fast) < most_fast
  pub noted_there : noted ≡ noted_at place m.0

-- a fast ticket may be released: the session doesn't hold the place's latch, the ticket is its only one with this number there, and the word counts
-- it by `one`
pub record MayReleaseFast (place number one : ℕ) (m : Mine) : Type 0 where
  pub apart : held_at place m.0.latches ≡ None
  pub ticket : SessionTicket
  pub only : filter (is_own place number) m.0.fast ≡ ticket ∷ []
  pub counted_so : IsCounted m.0 place ticket.mode one

-- what these tickets add to a word
abbrev pub weight_of : Kind → List Ticket → ℕ
weight_of kind tickets = encode (counted kind 0 tickets) (counted kind 1 tickets) (counted kind 2 tickets) false false

-- a session may materialise at a place: it holds the latch there, the flag SLOW is up by its record, and it waits for nothing. No two of its
-- fast tickets there have the same number, and `weight` is what they add to the word
pub record MayMaterialise (place weight : ℕ) (h : LatchRecord) (m : Mine) : Type 0 where
  pub recorded : held_at place m.0.latches ≡ Some h
  pub raised : h.slow ≡ true
  pub idle : m.0.asks ≡ None
  pub known : KnowsPlace m.0 place
  pub once : Once (moved place m.0)
  pub weight_is : weight ≡ weight_of (lock_kind h.book) (moved place m.0)

-- ---- the kinds of step: the session keeps its number

-- the word of a place is read without the latch
abbrev pub reads_word_unlatched : Step Slot → Mine → ℕ → Mine → Type 0
reads_word_unlatched st m found m′ =
    (m′.0.number ≡ m.0.number) × ((place : ℕ) → st.word ≡ lock_word place → m′ ≡ met_word place found m)

-- a fast ticket is granted if the exchange finds the word that it expects; otherwise nothing changes but the list of steps
abbrev pub grants_fast : Mode → Option ℕ → Step Slot → Mine → ℕ → Mine → Type 0
grants_fast mode noted st m found m′ =
    (m′.0.number ≡ m.0.number)
    × ((place : ℕ) → st.word ≡ lock_word place →
    (found ≡ st.first → m′ ≡ granted_fast place mode noted found m)
    × (found ≢ st.first → m′ ≡ missed_fast place found m))

-- a fast ticket is released
abbrev pub releases_fast : ℕ → Step Slot → Mine → ℕ → Mine → Type 0
releases_fast number st m found m′ =
    (m′.0.number ≡ m.0.number) × ((place : ℕ) → st.word ≡ lock_word place → m′ ≡ released_fast place number found m)

-- a session's fast tickets at a place become slow ones, under the latch
abbrev pub materialises : Step Slot → Mine → ℕ → Mine → Type 0
materialises st m found m′ =
    (m′.0.number ≡ m.0.number) × ((place : ℕ) → st.word ≡ lock_word place → m′ ≡ materialised place found m)

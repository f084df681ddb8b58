-- A search for a deadlock: what a session meets and does while it has the latches of all places that have a key.
use Rattle.std.specs.Prelude.{◌≡◌, ◌≢◌, ◌⊎◌, ℕ, ◌<◌, ◌==◌, ◌&&◌, not, Bool, true, false, List, [], ◌∷◌, ◌++◌, length, map, find, All, Contains, Option, Some, None, IfSome, MatchOption, Result, Ok, Err, IfOk, OnErr}
use Rattle.mdl_steps.specs.declared.wait_word.Loss.TheVariants as loss
use Rattle.mdl_visits.specs.FirstWords.{AllQuiet, AreRecorded, AtItsTable, Audited, BookView, Gathers, GraphView, IsGraphOf, IsPlace, IsSession, IsStepOf, Keys, LatchRecord, MayPut, MeetsOther, MeetsWait, Member, Mine, NoCycle, PutLatch, ReadWait, Search, SeatState, SeesNoDeadlock, SessionTest, SettleWait, Settlement, Settles, SettlesNothing, StepRecord, TableId, Victim, WaitRead, deadlock_in, deeds_of, dropped, held_at, is_session, latch_word, list_any, logged, lost_state, nobody, rest, unsettled_state, victim_in, wait_state, wait_word, wishes_in}
use Rattle.mdl_visits.specs.Grantings.{StaysTold}

-- ---- the words of waits

-- whether a session has no open wait by one of these words: it has none, or it is settled
abbrev pub settled_by : List WaitRead → SessionTest
settled_by words session = list_any (λ (r : WaitRead). r.session == session && not (wait_state r.word.0 == unsettled_state)) words

-- these are words of waits, among them those of all sessions of the table that have one of these requests
pub record AreOfWishes (id : TableId) (wishes : List Member) (words : List WaitRead) : Type 0 where
  pub each : All (λ (r : WaitRead). IsSession id r.session × (is_session r.session ≡ true)) words
  pub every : (session : ℕ) → IsSession id session → is_session session ≡ true → Contains (map (λ (wish : Member). wish.session) wishes) session
      → Contains (map (λ (r : WaitRead). r.session) words) session

-- one of the steps between the two read this word, while the session had just these latches
abbrev pub WasRead : ℕ → List LatchRecord → Mine → Mine → WaitRead → Type 0
WasRead slots latches m m′ r =
    (e : StepRecord) × IsStepOf m m′ e × (e.kind ≡ ReadWait) × (e.word ≡ wait_word slots r.session) × (e.found ≡ r.word.0) × (e.held ≡ latches)

-- a word of a session's wait that was met so was added to the end of a list
abbrev pub AddsRead : ℕ → List WaitRead → List WaitRead → SeatState → SeatState → Type 0
AddsRead session words words′ s s′ =
    (r : WaitRead) × (r.session ≡ session) × (words′ ≡ words ++ r ∷ []) × WasRead s.table.slots s.me.0.latches s.me s′.me r

-- the word that was read of a session's wait, if any
abbrev pub read_of : ℕ → List WaitRead → Option WaitRead
read_of session words = find (λ (r : WaitRead). r.session == session) words

-- by this word a session's wait wasn't open, or one of the steps between the two met another word
abbrev pub WasOther : ℕ → Mine → Mine → WaitRead → Type 0
WasOther slots m m′ r = (wait_state r.word.0 ≢ unsettled_state) ⊎ ((e : StepRecord) × IsStepOf m m′ e × MeetsOther slots r.session r.word.0 e)

-- ---- what is found

-- the books that were met
abbrev pub books_of : List Audited → List BookView
books_of audited = map (λ (a : Audited). a.book) audited

-- the graph was built of these books, with nobody settled
abbrev pub IsBuiltOf : List Audited → GraphView → Type 0
IsBuiltOf audited graph = IsGraphOf nobody (books_of audited) graph

-- by the books of this graph and these words this is the victim of the cycle in which a session waits, if it waits in one
abbrev pub IsVictimBy : GraphView → List WaitRead → ℕ → Option ℕ → Type 0
IsVictimBy graph words from found = (audited : List Audited) → IsBuiltOf audited graph → found ≡ victim_in (settled_by words) (books_of audited) from

-- these words suffice to judge by: they are those of all sessions that wait by these books, or a session is in no cycle even if nobody is settled
abbrev pub AreEnough : TableId → ℕ → List Audited → List WaitRead → Type 0
AreEnough id who audited words = AreOfWishes id (wishes_in nobody (books_of audited)) words ⊎ (deadlock_in nobody (books_of audited) who ≡ None)

-- one of the steps between the two met the unsettled wait of a session and settled it, as the victim's, while the session that searches had just
-- these latches, and no other wait was settled
pub record SettlesVictim (slots victim : ℕ) (latches : List LatchRecord) (m m′ : Mine) : Type 0 where
  pub wait : ℕ
  pub settles : Settles victim wait (lost_state loss.Victim) m m′
  pub moment : StepRecord
  pub step : IsStepOf m m′ moment
  pub kind : moment.kind ≡ SettleWait
  pub met : MeetsWait slots victim wait unsettled_state moment
  pub held : moment.held ≡ latches

-- the outcome by these words and books: the session waits in no cycle, and nothing was settled, or this is the victim of the cycle that is chosen, and its
-- wait was settled
abbrev pub IsOutcome : ℕ → ℕ → List LatchRecord → List Audited → List WaitRead → Mine → Mine → Search → Type 0
IsOutcome slots who latches audited words m m′ NoCycle =
    (deadlock_in (settled_by words) (books_of audited) who ≡ None) × SettlesNothing m m′
IsOutcome slots who latches audited words m m′ (Victim victim) =
    (victim_in (settled_by words) (books_of audited) who ≡ Some victim) × SettlesVictim slots victim latches m m′

-- a session whose own wait was settled as the victim's knows that
abbrev pub KnowsVictim : ℕ → Search → Mine → Type 0
KnowsVictim who NoCycle m = Unit {0}
KnowsVictim who (Victim victim) m = victim ≡ who → m.0.told ≡ Some (lost_state loss.Victim)

-- this is the outcome by the words of waits, as steps between the two met them while the session had just these latches, and by these books. The words
-- are those of all sessions that wait by the books, or no word could change the outcome
pub record Judges (id : TableId) (who : ℕ) (latches : List LatchRecord) (audited : List Audited) (found : Search) (m m′ : Mine) : Type 0 where
  pub words : List WaitRead
  pub enough : AreEnough id who audited words
  pub read : All (WasRead id.slots latches m m′) words
  pub outcome : IsOutcome id.slots who latches audited words m m′ found

-- by the words of the waits of all sessions that wait by these books, as steps between the two met them, this was the victim, but the word of its wait was
-- another one by then
pub record MissesVictim (id : TableId) (who : ℕ) (latches : List LatchRecord) (audited : List Audited) (m m′ : Mine) : Type 0 where
  pub words : List WaitRead
  pub all : AreOfWishes id (wishes_in nobody (books_of audited)) words
  pub read : All (WasRead id.slots latches m m′) words
  pub victim : ℕ
  pub found : victim_in (settled_by words) (books_of audited) who ≡ Some victim
  pub other : IfSome (read_of victim words) (WasOther id.slots m m′)

-- at one moment the session had the latches of the places from one to another, beside those of lower ones. This is the outcome by their books as they were
-- then, and by those that were met before
pub record Searches (id : TableId) (who place last : ℕ) (before : List Audited) (found : Search) (m m′ : Mine) : Type 0 where
  pub books : List Audited
  pub gathers : Gathers place last [] books m m′
  pub judges : Judges id who gathers.latches (before ++ books) found m m′

-- at one step between the two the session had this record of the directory's latch and the latches of the places of all its keys. This is the outcome by
-- their books as they were then
pub record Searched (id : TableId) (who : ℕ) (k : Keys) (found : Search) (m m′ : Mine) : Type 0 where
  pub audited : List Audited
  pub all : length audited ≡ length k.keys
  pub keys : map (λ (a : Audited). a.book.key) audited ≡ k.keys
  pub moment : StepRecord
  pub step : IsStepOf m m′ moment
  pub directory : moment.directory ≡ Some k
  pub recorded : AreRecorded 1 moment.held audited
  pub judges : Judges id who moment.held audited found m m′

-- ---- what becomes of the session

-- a session that made steps which met the words of waits, or settled them
abbrev pub with_waits_read : List StepRecord → Option ℕ → List Settlement → Mine → Mine
with_waits_read made told settles m = (record m.0 { log = m.0.log ++ made; told = told; settles = settles }, m.1)

-- the session made such steps, without deeds, and nothing else changed. If it knew how its own wait was settled, it still knows that
pub record ReadsWaits (m m′ : Mine) : Type 0 where
  pub made : List StepRecord
  pub told : Option ℕ
  pub settles : List Settlement
  pub now : m′ ≡ with_waits_read made told settles m
  pub did : deeds_of made ≡ []
  pub stays : StaysTold m.0.told told

-- likewise, and at each step the session had the same record of the directory's latch as before, or still none, and raised no flag
pub record ReadsWaitsQuietly (m m′ : Mine) : Type 0 where
  pub reads : ReadsWaits m m′
  pub had : AllQuiet m.0.directory reads.made

-- likewise for a seat, and the session settled no wait
abbrev pub OnlyReadsWaits : SeatState → SeatState → Type 0
OnlyReadsWaits s s′ = AtItsTable s s′ ReadsWaitsQuietly × SettlesNothing s.me s′.me

-- these are the words of the waits of all sessions that have one of these requests, as steps between the two met them, while the session had just the
-- latches that it had at first
abbrev pub AreRead : List Member → List WaitRead → SeatState → SeatState → Type 0
AreRead wishes words s s′ = AreOfWishes s.table wishes words × All (WasRead s.table.slots s.me.0.latches s.me s′.me) words

-- ---- who has yet to search

-- whether a search found no deadlock
abbrev pub found_none : {E : Type 0} → Result Search E → Bool
found_none (Ok NoCycle) = true
found_none (Ok (Victim victim)) = false
found_none (Err why) = false

-- whether a session has yet to search after a search with this result, given whether it had before. `taken` says whether the search took the latch of a place
abbrev pub searches_after : {E : Type 0} → Result Search E → Bool → Bool → Bool
searches_after result taken searches = not (taken && found_none result) && searches

-- a later seat, except that its session has yet to search exactly if it had before
abbrev pub but_searching : SeatState → SeatState → SeatState
but_searching s s′ = record s′ { me = (record s′.me.0 { searches = s.me.0.searches }, s′.me.1) }

-- the latch of a place was given back with nothing changed, except that this says from then on whether the session has yet to search
abbrev pub put_searching : ℕ → Bool → Mine → Mine
put_searching place searches m =
    (logged PutLatch [] (latch_word place) m.0.number m.0.latches (record (dropped place m.0) { searches = searches }), rest m.1)

-- the session may give the latch of a place back with nothing changed. If it holds all latches and found no deadlock, it sees that it is in none
pub record MayPutSearched (place : ℕ) (all_held none : Bool) (s : SeatState) : Type 0 where
  pub is_place : IsPlace s.table place
  pub put : MayPut place [] s.me
  pub sees : all_held ≡ true → none ≡ true → SeesNoDeadlock s.table.slots s.me

-- the session holds the directory's latch, and the latches of the places before one. The graph was built of books, among them those of its records of
-- these latches
pub record HasTaken (place last : ℕ) (graph : GraphView) (m : Mine) : Type 0 where
  pub keys : Keys
  pub directory : m.0.directory ≡ Some keys
  pub count : last ≡ length keys.keys
  pub all : (p : ℕ) → 0 < p → p < place → (h : LatchRecord) × (held_at p m.0.latches ≡ Some h)
  pub books : List BookView
  pub built : IsGraphOf nobody books graph
  pub added : (h : LatchRecord) → Contains m.0.latches h → Contains books h.book

-- ---- what the parts of a search come to

-- a try to settle a session's wait as the victim's, if it was open by the word that was read of it, if any. Either it was settled, and the session that
-- searches knows that if the wait is its own, or no wait was settled, since the word was another one by then
pub record TriesToSettle (victim : ℕ) (read : Option WaitRead) (done : Bool) (s s′ : SeatState) : Type 0 where
  pub reads : AtItsTable s s′ ReadsWaitsQuietly
  pub settled : done ≡ true → SettlesVictim s.table.slots victim s.me.0.latches s.me s′.me × KnowsVictim s.me.0.number (Victim victim) s′.me
  pub missed : done ≡ false → SettlesNothing s.me s′.me × IfSome read (WasOther s.table.slots s.me s′.me)

-- words of waits were read or settled with this result, or memory ran out, and no wait was settled
pub record EndsSearch {T E : Type 0} (result : Result T E) (Comes : T → Type 0) (s s′ : SeatState) : Type 0 where
  pub reads : AtItsTable s s′ ReadsWaitsQuietly
  pub found : IfOk result Comes
  pub nothing : OnErr result (SettlesNothing s.me s′.me)

-- this is the outcome by the books of this graph
abbrev pub SearchFinds : GraphView → SeatState → SeatState → Search → Type 0
SearchFinds graph s s′ found =
    ((audited : List Audited) → IsBuiltOf audited graph → Judges s.table s.me.0.number s.me.0.latches audited found s.me s′.me)
    × KnowsVictim s.me.0.number found s′.me

-- likewise, or there is no outcome, since the word of the victim's wait was another one by then
abbrev pub FindsAtOnce : GraphView → SeatState → SeatState → Option Search → Type 0
FindsAtOnce graph s s′ tried =
    MatchOption tried
    (SettlesNothing s.me s′.me × ((audited : List Audited) → IsBuiltOf audited graph → MissesVictim s.table s.me.0.number s.me.0.latches audited s.me s′.me))
    (SearchFinds graph s s′)

-- this is the outcome by the books of this graph, and by the books of the places from one to another
abbrev pub FindsFrom : ℕ → ℕ → GraphView → SeatState → SeatState → Search → Type 0
FindsFrom place last graph s s′ found =
    ((before : List Audited) → IsBuiltOf before graph → Searches s.table s.me.0.number place last before found s.me s′.me)
    × KnowsVictim s.me.0.number found s′.me

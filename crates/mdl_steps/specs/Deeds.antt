-- What a session does to its own tickets under a latch, and when it may: `MDL_context::try_acquire_lock`, `clone_ticket`,
-- `upgrade_shared_lock` and `release_lock` of MySQL 5.7, sql/mdl.cc, without their ways of finding out.
use Rattle.std.specs.Prelude.{◌≡◌, ◌≢◌, ℕ, ◌+◌, ◌==◌, ◌&&◌, Bool, true, false, not, List, [], ◌∷◌, ◌++◌, map, filter, Contains, Option, Some, None, if◌then◌else◌, ◌⊎◌}
use Rattle.mdl_steps.specs.Prelude.{Alter, Ask, BookView, Deed, Gain, IsAtLeast, KnownKey, Lose, Mode, SessionTicket, Ticket, View, changing, downgrades, get_elem?, goes_first, granting, is_compatible, is_mode_of, is_obtrusive, lock_kind, may_stand, removing, some, ticket_of}
use Rattle.mdl_steps.specs.Cells.{note_at}

-- ---- what is done

-- the book after a deed of a session
abbrev pub booked : ℕ → Deed → BookView → BookView
booked session (Gain number mode) book = granting (record { session = session; number = number; mode = mode }) book
booked session (Alter number mode) book = changing session number mode book
booked session (Lose number) book = removing session number book

-- the book after several deeds, in order
abbrev pub all_booked : ℕ → List Deed → BookView → BookView
all_booked session [] book = book
all_booked session (d ∷ ds) book = all_booked session ds (booked session d book)

-- whether a session's ticket has this number and is at this place
abbrev pub is_own : ℕ → ℕ → SessionTicket → Bool
is_own place number t = t.place == place && t.number == number

-- a session's slow tickets after a deed at a place. A ticket that it gains has the note of the first one that it had there
abbrev pub owned : ℕ → Deed → List SessionTicket → List SessionTicket
owned place (Gain number mode) slow = slow ++ record { number = number; place = place; mode = mode; noted = note_at place slow } ∷ []
owned place (Alter number mode) slow = map (λ t. if is_own place number t then record t { mode = mode } else t) slow
owned place (Lose number) slow = filter (λ t. not (is_own place number t)) slow

-- the number of the session's next ticket after a deed
abbrev pub next_after : Deed → ℕ → ℕ
next_after (Gain number mode) next = next + 1
next_after _ next = next

-- the session's view after a deed
abbrev pub done : ℕ → Deed → View → View
done place d v = record v { slow = owned place d v.slow; next = next_after d v.next }

-- its slow tickets after several deeds
abbrev pub all_owned : ℕ → List Deed → List SessionTicket → List SessionTicket
all_owned place [] slow = slow
all_owned place (d ∷ ds) slow = all_owned place ds (owned place d slow)

-- the number of its next ticket after several deeds
abbrev pub all_next : List Deed → ℕ → ℕ
all_next [] next = next
all_next (d ∷ ds) next = all_next ds (next_after d next)

-- its view after several deeds
abbrev pub all_done : ℕ → List Deed → View → View
all_done place ds v = record v { slow = all_owned place ds v.slow; next = all_next ds v.next }

-- whether deeds may let a waiter in: one loss, or one change of a mode. After a merge, the ticket that is left is as strong as both were
abbrev pub frees : List Deed → Bool
frees (Lose number ∷ []) = true
frees (Alter number mode ∷ []) = true
frees _ = false

-- deeds of a session that let no waiter in: none, a gain, a merge, or a change of a granted ticket to a mode that is at least as strong
abbrev pub FreesNothing : ℕ → BookView → List Deed → Type 0
FreesNothing session book (Lose number ∷ []) = ⊥
FreesNothing session book (Alter number mode ∷ []) =
    (t : Ticket) × (ticket_of session number book.granted ≡ Some t) × IsAtLeast (lock_kind book) mode t.mode
FreesNothing session book _ = Unit {0}

-- ---- when it may be done: a step does what is one event of the system of locks, or nothing

-- a granted ticket of the session is at least as strong as a mode
abbrev pub HasAtLeast : ℕ → BookView → Mode → Type 0
HasAtLeast session book mode =
    (t : Ticket) × Contains book.granted t × (t.session ≡ session) × IsAtLeast (lock_kind book) t.mode mode

-- a session's request for a mode is compatible with all that other sessions hold. Either no ticket of another session in the granted list clashes with
-- the mode, and no fast ticket does, because the mode is unobtrusive or by a noted word. Or the session has a granted ticket there that is at least as
-- strong
abbrev pub MayJoin : ℕ → BookView → Option ℕ → Mode → Type 0
MayJoin session book noted mode =
    ((is_obtrusive (lock_kind book) mode ≡ false) × (is_compatible (lock_kind book) book.granted session mode ≡ true))
    ⊎ (((word : ℕ) × (noted ≡ Some word) × (may_stand (lock_kind book) book.granted word session mode ≡ true))
    ⊎ HasAtLeast session book mode)

-- the session doesn't wait for a ticket with this number
abbrev pub NotWaited : View → ℕ → Type 0
NotWaited v number = (a : Ask) → v.asks ≡ Some a → a.number ≡ number → ⊥

-- the session holds this ticket, which has this number: it is granted, and isn't the ticket of a wait that is still to be ended
abbrev pub HoldsTicket : View → BookView → ℕ → Ticket → Type 0
HoldsTicket v book number t = (ticket_of v.number number book.granted ≡ Some t) × NotWaited v number

-- a request of the session can be granted: the session waits for nothing, the mode is compatible with all that other sessions hold, and it is
-- behind no waiting ticket of another session
pub record MayBeGranted (v : View) (book : BookView) (noted : Option ℕ) (mode : Mode) : Type 0 where
  pub idle : v.asks ≡ None
  pub is_mode : is_mode_of (lock_kind book) mode ≡ true
  pub joins : MayJoin v.number book noted mode
  pub first : goes_first (lock_kind book) book.waiting v.number mode ≡ true

-- a ticket of the session may be cloned in a mode, even if tickets wait that block it: the session waits for nothing, and its ticket is at least as
-- strong
pub record MayClone (v : View) (book : BookView) (mode : Mode) : Type 0 where
  pub idle : v.asks ≡ None
  pub is_mode : is_mode_of (lock_kind book) mode ≡ true
  pub cloned : HasAtLeast v.number book mode

-- a ticket may be upgraded to a mode: the session holds it, and a request for the mode can be granted
abbrev pub MayUpgrade : View → BookView → Option ℕ → ℕ → Mode → Type 0
MayUpgrade v book noted number mode = ((t : Ticket) × HoldsTicket v book number t) × MayBeGranted v book noted mode

-- a ticket may be downgraded to a mode, even while the session waits: the session holds it, and the mode is one of the ticket's downgrades
pub record MayDowngrade (v : View) (book : BookView) (number : ℕ) (mode : Mode) : Type 0 where
  pub ticket : Ticket
  pub held : HoldsTicket v book number ticket
  pub is_mode : is_mode_of (lock_kind book) mode ≡ true
  pub weaker : Contains (downgrades ticket.mode) mode

-- two tickets may be merged: the session waits for nothing, and holds both. The one that is kept takes the mode of the other, which is at least as
-- strong and is removed
pub record MayMerge (v : View) (book : BookView) (kept : ℕ) (mode : Mode) (lost : ℕ) : Type 0 where
  pub idle : v.asks ≡ None
  pub two : kept ≢ lost
  pub old : Ticket
  pub old_held : HoldsTicket v book kept old
  pub new : Ticket
  pub new_held : HoldsTicket v book lost new
  pub mode_is : new.mode ≡ mode
  pub is_mode : is_mode_of (lock_kind book) mode ≡ true
  pub at_least : IsAtLeast (lock_kind book) mode old.mode

-- what a step may do, under the latch whose record has this book and this noted word: nothing, a grant of a new ticket or a clone, an
-- upgrade or a downgrade, a release, or a merge
abbrev pub MayDo : View → BookView → Option ℕ → List Deed → Type 0
MayDo v book noted [] = Unit {0}
MayDo v book noted (Gain number mode ∷ []) = (number ≡ v.next) × (MayBeGranted v book noted mode ⊎ MayClone v book mode)
MayDo v book noted (Alter number mode ∷ []) = MayUpgrade v book noted number mode ⊎ MayDowngrade v book number mode
MayDo v book noted (Lose number ∷ []) = (t : Ticket) × HoldsTicket v book number t
MayDo v book noted (Alter kept mode ∷ Lose lost ∷ []) = MayMerge v book kept mode lost
MayDo v book noted _ = ⊥

-- the session has looked up the key of this place
abbrev pub KnowsPlace : View → ℕ → Type 0
KnowsPlace v place = (i : ℕ) × (k : KnownKey) × (get_elem? v.known i ≡ some k) × (k.place ≡ place)

-- the session has looked up the place's key, or does nothing
abbrev pub MayAct : View → ℕ → List Deed → Type 0
MayAct v place ds = KnowsPlace v place ⊎ (ds ≡ [])

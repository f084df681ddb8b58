-- Calls on what stands under keys: reads and changes.
use Rattle.std.proofs.Common.{◌≡◌, ℕ, ◌+◌, MatchOption, Bool, true, false, is_some, List, [], ◌∷◌, ◌++◌, Option, Some, None, Err, if◌then◌else◌, map, inl, inr, refl, sym, ap, subst, ◌∙◌}
use Rattle.mdl_calls.proofs.StandingLemmas.{drop-memory, redefined-cause}
use Rattle.mdl_defs.specs.declared.change.Change.TheVariants.{Drop}
use Rattle.mdl_defs.specs.declared.change_error.ChangeError.TheVariants as error
use Rattle.mdl_defs.specs.declared.change_error.ChangeError.{ChangeError}
use Rattle.mdl_key.specs.Refusals.{RefusesJust}
use Rattle.mdl_shared.proofs.FirstLemmas.{AreAlike, Change, Change_definition, Changed, ChangesThere, Does, Faulty, Follows, Held, IsCause, IsChangeRefused, IsLast, IsMember, IsNamed, Joins, KeepsRest, KeepsRoom, KeyName, Knows, Learns, Lists, MeetsStanding, Member, Mine, NotExclusive, NotHeld, OutOfMemory, Read_definition, Read_so, Reading, Reads, Redefines, Refused, Room, SeatState, SessionTicket, SessionView, Shows, ShowsStep, SpaceError, Stays, StaysInOrder, StaysQuiet, StepRecord, TellsTruly, VersionedDefinition, Visits, VisitsOnce, WasHeld, X, alike_noting, as_held, cause_of, change_takes_memory, counted-noted, data_of, does_visits, exclusive_fault, false≢true, holding_fault, holds-told, if-clear, joins-held, key_known, known-there, lists_seen, meets-there, noted-both, notes-there, noting-told, noting_version, numbered, of-held, option_map, read-last, refused, same-debts, same-stays, same_mode, sees-same, session_at, speaks, standing_after, standing_fault, test-failed, ticket-told, ticket_held, tickets_seen, view_of}

-- ---- a session that reads what stands at a place

-- it has noted a version under each ticket that it has there, has read this in all, and made steps; nothing else changed
pub record NotesAll (place version : ℕ) (reads : List Reading) (s s′ : SessionView) : Type 0 where
  pub log : List StepRecord
  pub room : Room
  pub now : s′ ≡ record s {
    me = (
      record s.me.0 {
        fast = noting_version place version s.me.0.fast;
        slow = noting_version place version s.me.0.slow;
        reads = reads;
        log = log;
      },
      s.me.1,
    );
    room = room;
  }

-- it has read this, and noted it
abbrev pub HasNoted : ℕ → VersionedDefinition → SessionView → SessionView → Type 0
HasNoted place standing s s′ = NotesAll place standing.version (s.me.0.reads ++ record { place = place; standing = standing } ∷ []) s s′

-- what its seat's visit tells
pub noted-by : {place : ℕ} (standing : VersionedDefinition) (seat seat′ : SeatState) (sessions : ℕ) {room room′ : Room} {pins : List ℕ} → seat′.table ≡ seat.table → Learns place standing seat.me seat′.me
    → HasNoted place standing (session_at seat sessions room pins) (session_at seat′ sessions room′ pins)
noted-by standing seat seat′ sessions {room′ = room′} {pins = pins} table learns = record {
  log = seat.me.0.log ++ learns.0;
  room = room′;
  now = λ i. record { table = table i; sessions = sessions; me = learns.1 i; room = room′; pins = pins };
}

module _ {place version : ℕ} {reads : List Reading} {s s′ : SessionView} (noted : NotesAll place version reads s s′) where
  pub noted-order : IsMember s → StaysInOrder s s′
  noted-order is = subst (λ (x : SessionView). StaysInOrder s x) (sym noted.now) (record {
    table = refl;
    sessions = refl;
    idle = is.idle;
    unfast = λ a asks. ap (noting_version place version) (is.unfast a asks);
    plain = counted-noted place version s.me.0.known s.me.0.fast is.plain;
    within = is.within;
    alike = subst AreAlike (noted-both place version s.me.0.slow s.me.0.fast) (alike_noting place version (tickets_seen s.me.0) is.alike);
    last = is.last;
    told = is.told;
    fewer = is.fewer;
    owed = is.owed;
  })

  noted-rest : KeepsRest s s′
  noted-rest = subst (λ (x : SessionView). KeepsRest s x) (sym noted.now) (record { number = refl; known = refl; pins = refl; wait = sees-same s _ refl refl refl })

  pub noted-tickets : tickets_seen s′.me.0 ≡ noting_version place version (tickets_seen s.me.0)
  noted-tickets = ap (λ (x : SessionView). tickets_seen x.me.0) noted.now ∙ sym (noted-both place version s.me.0.slow s.me.0.fast)

  pub noted-owes : s′.me.0.owes ≡ s.me.0.owes
  noted-owes = ap (λ (x : SessionView). x.me.0.owes) noted.now

  noted-drawn : (data_of s′).numbers ≡ (data_of s).numbers
  noted-drawn = ap (λ (x : SessionView). (data_of x).numbers) noted.now

-- its own lists are those of its view still
pub lists-noted : (m : Member) {place found version : ℕ} {reads : List Reading} {slow fast : List SessionTicket} {s : SessionView} → NotesAll place found reads (view_of m) s → found ≡ version
    → (slow ≡ noting_version place version m.tickets.slow) × (fast ≡ noting_version place version m.tickets.fast)
    → record { slow = slow; fast = fast; known = m.known.known; next = m.next; asks = m.asks; waits = m.waits } ≡ lists_seen s.me.0
lists-noted m {place} {found} {version} {reads} {slow} {fast} {s} noted is same =
    (λ i. record { slow = same.0 i; fast = same.1 i; known = m.known.known; next = m.next; asks = m.asks; waits = m.waits })
    ∙ ap (λ (l : Lists). record l { slow = noting_version place version l.slow; fast = noting_version place version l.fast }) m.lists
    ∙ ap (λ (n : ℕ). record (lists_seen m.seat.me.0) { slow = noting_version place n m.seat.me.0.slow; fast = noting_version place n m.seat.me.0.fast }) (sym is)
    ∙ sym (ap (λ (x : SessionView). lists_seen x.me.0) noted.now)

-- a session without the ticket, or without an exclusive one
pub unfit-joins : {s : SessionView} → IsMember s → (id : ℕ) (change : Change) (why : SpaceError) → exclusive_fault (numbered id (tickets_seen s.me.0)) ≡ Some why
    → Joins (data_of s) (Change_definition s.me.0.number id change) (Refused why) (data_of s)
unfit-joins {s} is id change why fault =
    let told = by (numbered id (tickets_seen s.me.0)) refl fault in
    refused s s (Change_definition s.me.0.number id change) why (same-stays s) (speaks is) refl told.0 (λ state how met. cc) told.1
  where
    by : (o : Option SessionTicket) → numbered id (tickets_seen s.me.0) ≡ o → exclusive_fault o ≡ Some why
        → IsCause (Knows (data_of s) s.me.0.number) (Change_definition s.me.0.number id change) why (data_of s).own
        × TellsTruly (Change_definition s.me.0.number id change) (Refused why) (data_of s) (data_of s)
    by None its e =
        let none : why ≡ NotHeld = cc in (
          subst (λ w. IsCause (Knows (data_of s) s.me.0.number) (Change_definition s.me.0.number id change) w (data_of s).own) (sym none)
              (holds-told id (tickets_seen s.me.0) false (ap is_some its)),
          λ ticket held exclusive. let e = sym held ∙ ticket-told id (tickets_seen s.me.0) ∙ ap (option_map as_held) its in cc,
        )
    by (Some t) its e =
        let b = test-failed (same_mode t.mode X) NotExclusive why e in (
          subst (λ w. IsCause (Knows (data_of s) s.me.0.number) (Change_definition s.me.0.number id change) w (data_of s).own) (sym b.1)
              (of-held id (tickets_seen s.me.0) t (λ (h : Held). same_mode h.mode X ≡ false) its b.0),
          λ ticket held exclusive.
              let same : Some ticket ≡ Some (as_held t) = sym held ∙ ticket-told id (tickets_seen s.me.0) ∙ ap (option_map as_held) its in
              let one : ticket ≡ as_held t = cc in
              absurd (false≢true (sym b.0 ∙ ap (λ (h : Held). same_mode h.mode X) (sym one) ∙ exclusive)),
        )

-- ---- under a ticket that it has

module _ {s : SessionView} (is : IsMember s) (id : ℕ) (t : SessionTicket) (its : numbered id (tickets_seen s.me.0) ≡ Some t) where
  -- reads
  pub last-joins : {s′ : SessionView} (standing : VersionedDefinition) {reads : List Reading} → NotesAll t.place standing.version reads s s′ → Follows t.place standing s.me
      → IsLast t.place standing (data_of s).reads (data_of s′).reads
      → Joins (data_of s) (Read_definition s.me.0.number id) (Reads standing.version standing.definition) (data_of s′)
  last-joins {s′} standing noted follows last =
      joins-held s s′ (Read_definition s.me.0.number id) (Reads standing.version standing.definition) (map as_held (tickets_seen s.me.0)) (noted-rest noted) (speaks is) refl
      (ap (map as_held) (noted-tickets noted) ∙ noting-told t.place standing.version (tickets_seen s.me.0)) refl (noted-drawn noted) (holds-told id (tickets_seen s.me.0) true (ap is_some its)) refl
      (λ state how met. cc) (λ how told. cc) refl
      (of-held id (tickets_seen s.me.0) t (λ (h : Held). Read_so standing (data_of s) (data_of s′) h.place) its
      (meets-there s t.place standing follows, notes-there s s′ id t.place t standing its refl (noted-tickets noted) last))
      tt

  pub read-joins : {s′ : SessionView} (standing : VersionedDefinition) → HasNoted t.place standing s s′ → Follows t.place standing s.me
      → Joins (data_of s) (Read_definition s.me.0.number id) (Reads standing.version standing.definition) (data_of s′)
  read-joins {s′} standing noted follows =
      last-joins standing noted follows (read-last s s′ t.place standing (ap (λ (x : SessionView). x.me.0.reads) noted.now))

  pub read-shows : {s′ : SessionView} (standing : VersionedDefinition) → HasNoted t.place standing s s′ → Follows t.place standing s.me → Does [] s.me s′.me → StaysQuiet s.me s′.me
      → ShowsStep s s′ (λ e. MeetsStanding t.place s.me.0.number standing e × (numbered id s.me.0.slow ≡ Some t → WasHeld t.place s.me.0.number id e))
      → VisitsOnce t.place s.me s′.me → KeepsRoom 0 s.room s′.room → Shows (Read_definition s.me.0.number id) (Reads standing.version standing.definition) s s′
  read-shows {s′} standing noted follows did quiet met once keeps = record {
    table = ap (λ (x : SessionView). x.table) noted.now;
    sessions = ap (λ (x : SessionView). x.sessions) noted.now;
    refused = if-clear _ (holding_fault id (tickets_seen s.me.0)) (ap (λ (o : Option SessionTicket). if is_some o then None else Some NotHeld) its);
    did = did;
    settled = ap (λ (x : SessionView). x.me.0.settles) noted.now;
    told = ap (λ (x : SessionView). x.me.0.told) noted.now;
    met = (t, its, (follows, ap (λ (x : SessionView). x.me.0.reads) noted.now, met, once, quiet));
    room = keeps;
    debts = same-debts s s′ (noted-owes noted);
    owes = (noted-owes noted, ap (λ (x : SessionView). x.me.0.searches) noted.now);
  }

  pub unread-joins : {s′ : SessionView} → Stays s s′ → Joins (data_of s) (Read_definition s.me.0.number id) (Refused OutOfMemory) (data_of s′)
  unread-joins {s′} stays = refused s s′ (Read_definition s.me.0.number id) OutOfMemory stays (speaks is) refl tt (λ state how met. cc) tt

  pub unread-shows : {s′ : SessionView} → s′.table ≡ s.table → s′.sessions ≡ s.sessions → Visits t.place [] s.me s′.me → StaysQuiet s.me s′.me
      → VisitsOnce t.place s.me s′.me → KeepsRoom 0 s.room s′.room → Shows (Read_definition s.me.0.number id) (Refused OutOfMemory) s s′
  unread-shows {s′} table sessions visit quiet once keeps = record {
    table = table;
    sessions = sessions;
    refused = if-clear _ (holding_fault id (tickets_seen s.me.0)) (ap (λ (o : Option SessionTicket). if is_some o then None else Some NotHeld) its);
    did = does_visits s.me _ t.place [] visit;
    settled = ap (λ (m : Mine). m.0.settles) visit.now;
    told = ap (λ (m : Mine). m.0.told) visit.now;
    met = inr (refl, (t, its, (visit, once, quiet)));
    room = keeps;
    debts = same-debts s s′ (ap (λ (m : Mine). m.0.owes) visit.now);
    owes = (ap (λ (m : Mine). m.0.owes) visit.now, ap (λ (m : Mine). m.0.searches) visit.now);
  }

  -- the key that the session knows at a place is that of the book which it met
  named-there : (met key : KeyName) → IsNamed t.place met s.me → key_known t.place (data_of s).known ≡ Some key → met ≡ key
  named-there met key named knows =
      let there = known-there t.place key s.me.0.known (knows) in
      named there.0 there.1 there.2 there.3 ∙ there.4

  -- of the ticket that is held
  told-one : (ticket : Held) → ticket_held id (data_of s).own ≡ Some ticket → ticket ≡ as_held t
  told-one ticket held = let e : Some ticket ≡ Some (as_held t) = sym held ∙ ticket-told id (tickets_seen s.me.0) ∙ ap (option_map as_held) its in cc

  -- changes
  module _ (s′ : SessionView) (change : Change) (exclusive : same_mode t.mode X ≡ true) where
    pub change-joins : (standing : VersionedDefinition) (version : ℕ) → HasNoted t.place standing s s′ → standing.version ≡ version → Redefines t.place change version s.me s′.me
        → Joins (data_of s) (Change_definition s.me.0.number id change) (Changed version) (data_of s′)
    change-joins standing version noted same redefines =
        let stood = redefines.meets.latch.book.standing in
        let newer = redefines.meets.newer in
        joins-held s s′ (Change_definition s.me.0.number id change) (Changed version) (map as_held (tickets_seen s.me.0)) (noted-rest noted) (speaks is) refl
        (ap (map as_held) (noted-tickets noted) ∙ noting-told t.place standing.version (tickets_seen s.me.0)) refl (noted-drawn noted)
        (of-held id (tickets_seen s.me.0) t (λ (h : Held). same_mode h.mode X ≡ true) its exclusive) refl
        (λ state how met. cc) (λ how told. cc) refl
        (of-held id (tickets_seen s.me.0) t (λ (h : Held). ChangesThere change version (data_of s) (data_of s′) h.place) its (record {
          stood = stood;
          meets = meets-there s t.place stood redefines.follows;
          allowed = λ key knows. subst (λ (k : KeyName). standing_fault k.namespace change stood ≡ None)
              (named-there redefines.meets.latch.book.key key redefines.named knows) redefines.meets.allowed;
          newer = newer;
          notes = notes-there s s′ id t.place t (standing_after change stood) its refl
              (noted-tickets noted ∙ ap (λ v. noting_version t.place v (tickets_seen s.me.0)) (same ∙ newer))
              (read-last s s′ t.place (standing_after change stood) redefines.learnt);
        }))
        tt

    abbrev IsToldSo : SpaceError → Type 0
    IsToldSo w = IsCause (Knows (data_of s) s.me.0.number) (Change_definition s.me.0.number id change) w (data_of s).own
        × TellsTruly (Change_definition s.me.0.number id change) (Refused w) (data_of s) (data_of s′)

    -- refused for what was met, or since memory ran out
    refused-so : (w : ChangeError) → IsChangeRefused t.place s.me.0.number change w s.me s′.me → IsToldSo (cause_of w)
    refused-so w (inl met) =
        let fault = met.2.fault in
        let latch = met.2.latch in (
          redefined-cause (Knows (data_of s) s.me.0.number) s.me.0.number id change (data_of s).own latch.book.key latch.book.standing (cause_of w)
              (of-held id (tickets_seen s.me.0) t (λ (h : Held). same_mode h.mode X ≡ true) its exclusive)
              (inr (subst (λ o. MatchOption o (Refused (cause_of w) ≡ Changed (latch.book.standing.version + 1)) (λ why. Refused (cause_of w) ≡ Refused (cause_of why))) (sym fault) refl))
              (memory-cause w latch.book.key latch.book.standing fault),
          λ ticket held so.
              inr (subst (λ (h : Held). Faulty change (cause_of w) (data_of s) h.place) (sym (told-one ticket held)) (record {
                stood = latch.book.standing;
                meets = meets-there s t.place latch.book.standing met.3;
                why = w;
                fault = λ key knows. subst (λ (k : KeyName). standing_fault k.namespace change latch.book.standing ≡ Some w)
                    (named-there latch.book.key key met.4 knows) fault;
                told = refl;
              })),
        )
      where
        out : (w : ChangeError) → cause_of w ≡ OutOfMemory → w ≡ error.OutOfMemory
        out error.VersionFull e = cc
        out error.WrongKind e = cc
        out (error.Def d) e = cc
        out error.OutOfMemory e = refl

        memory-cause : (w : ChangeError) (key : KeyName) (standing : VersionedDefinition) → standing_fault key.namespace change standing ≡ Some w
            → cause_of w ≡ OutOfMemory → change_takes_memory change ≡ true
        memory-cause w key standing fault e =
            drop-memory key.namespace change standing (Err error.OutOfMemory)
            (λ drop. subst (λ o. RefusesJust {T = ℕ} o (Err error.OutOfMemory)) (sym (fault ∙ ap (λ x. Some x) (out w e))) refl) refl
    refused-so w (inr memory) =
        let is_out : cause_of w ≡ OutOfMemory = ap cause_of memory.0 in (
          subst (λ x. IsCause (Knows (data_of s) s.me.0.number) (Change_definition s.me.0.number id change) x (data_of s).own) (sym is_out) (takes change memory.1),
          λ ticket held so. inl is_out,
        )
      where
        takes : (change : Change) → (change ≡ Drop → ⊥) → change_takes_memory change ≡ true
        takes Drop apart = absurd (apart refl)
        takes _ apart = refl

    pub unchanged-joins : Stays s s′ → (w : ChangeError) → IsChangeRefused t.place s.me.0.number change w s.me s′.me
        → Joins (data_of s) (Change_definition s.me.0.number id change) (Refused (cause_of w)) (data_of s′)
    unchanged-joins stays w why =
        let told = refused-so w why in
        refused s s′ (Change_definition s.me.0.number id change) (cause_of w) stays (speaks is) refl told.0 (λ state how met. cc) told.1

    pub unchanged-shows : s′.table ≡ s.table → s′.sessions ≡ s.sessions → Visits t.place [] s.me s′.me → (w : ChangeError) → IsChangeRefused t.place s.me.0.number change w s.me s′.me
        → VisitsOnce t.place s.me s′.me → KeepsRoom 0 s.room s′.room → Shows (Change_definition s.me.0.number id change) (Refused (cause_of w)) s s′
    unchanged-shows table sessions visit w why once keeps = record {
      table = table;
      sessions = sessions;
      refused = if-clear _ (exclusive_fault (numbered id (tickets_seen s.me.0))) (ap exclusive_fault its ∙ ap (λ (b : Bool). if b then None else Some NotExclusive) exclusive);
      did = does_visits s.me s′.me t.place [] visit;
      settled = ap (λ (m : Mine). m.0.settles) visit.now;
      told = ap (λ (m : Mine). m.0.told) visit.now;
      met = inr (t, its, ((w, refl, why), once));
      room = keeps;
      debts = same-debts s s′ (ap (λ (m : Mine). m.0.owes) visit.now);
      owes = (ap (λ (m : Mine). m.0.owes) visit.now, ap (λ (m : Mine). m.0.searches) visit.now);
    }

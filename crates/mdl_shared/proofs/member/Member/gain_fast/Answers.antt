-- The session has one fast ticket more, or made only steps.
use Rattle.std.proofs.Common.{◌≡◌, inl, ℕ, ◌==◌, true, List, [], ◌∷◌, ◌++◌, length, Option, is_some, refl, sym, ap, subst, ◌∙◌, arith, eq-eqb}
use Rattle.mdl_shared.proofs.Lemmas.{AtItsTable, DoesQuietly, Gain, GrantsAtLast, Lists, MakesSteps, Mine, Misses, SeatState, SessionTicket, TicketList, Try_now, below-seen, by_bool, done-order, fast-granted, fast_own, first_note, kept, lists-granted, lists-made, may-ask-fast, member, numbered, owed-both, owed-stepped, own_at, quiet-made, quiet-none, session_at, still-member, try-granted, unasked, view_of}
use Rattle.mdl_shared.proofs.member.Member.gain_fast.Goals as goal

pub returns-then-fast_at-ge-MOST_FAST-clause-unchanged : goal.returns-then-fast_at-ge-MOST_FAST-clause-unchanged
returns-then-fast_at-ge-MOST_FAST-clause-unchanged c = (quiet-none (view_of c.args.self.now), refl)

-- ---- the try

pub try_fast-tried-requires-clause-place : goal.try_fast-tried-requires-clause-place
try_fast-tried-requires-clause-place c =
    (may-ask-fast c.args.self.now c.args.place c.args.mode c.args.one c.requires.may.idle c.requires.may.pinned c.requires.may.counted c.requires.may.number).at.is_place

pub try_fast-tried-requires-clause-gained : goal.try_fast-tried-requires-clause-gained
try_fast-tried-requires-clause-gained c =
    let m = c.args.self.now in
    let may = may-ask-fast m c.args.place c.args.mode c.args.one c.requires.may.idle c.requires.may.pinned c.requires.may.counted c.requires.may.number in
    let count = ap (λ (l : Lists). length (own_at c.args.place l.fast)) m.lists in record {
      idle = may.idle;
      counted_so = may.counted_so;
      few = omega (arith, count, c.fast_at.ensures, c.if-fast_at-ge-MOST_FAST.false);
      noted_there = c.note_of-noted.ensures ∙ ap (λ (l : Lists). first_note (own_at c.args.place l.fast ++ own_at c.args.place l.slow)) m.lists;
    }

-- ---- nothing was granted

-- where each try missed, steps were made and nothing else
missed_at : {place count word : ℕ} (seat seat′ : SeatState) → AtItsTable seat seat′ (Misses place count word) → AtItsTable seat seat′ MakesSteps
missed_at seat seat′ missed = (missed.0, (missed.1.first ∷ missed.1.tries, missed.1.now, missed.1.did))

pub invariant_of-self : goal.invariant_of-self
invariant_of-self c =
    let m = c.args.self.now in
    let found = c.try_fast-tried.ensures.obtruded c.in-Obtruded.word c.in-Obtruded.is in
    let made = missed_at m.seat c.try_fast-tried.new.seat (found.0, found.1.0.2) in rw c.keep_guess.ensures (record {
      lawful = ∣ still-member (quiet-made {place = 0} m.seat c.try_fast-tried.new.seat m.sessions made).done (member m) ∣₁;
      lists = lists-made m c.try_fast-tried.new.seat made;
      room = m.room;
      owed = owed-stepped m made.1;
    })

pub invariant_of-self-in-Contended-1 : goal.invariant_of-self-in-Contended-1
invariant_of-self-in-Contended-1 c =
    let m = c.args.self.now in
    let made = missed_at m.seat c.try_fast-tried.new.seat (c.try_fast-tried.ensures.contended c.in-Contended.word c.in-Contended.is) in rw c.keep_guess.ensures (record {
      lawful = ∣ still-member (quiet-made {place = 0} m.seat c.try_fast-tried.new.seat m.sessions made).done (member m) ∣₁;
      lists = lists-made m c.try_fast-tried.new.seat made;
      room = m.room;
      owed = owed-stepped m made.1;
    })

pub returns-in-Obtruded-clause-unchanged : goal.returns-in-Obtruded-clause-unchanged
returns-in-Obtruded-clause-unchanged c =
    let m = c.args.self.now in
    let found = c.try_fast-tried.ensures.obtruded c.in-Obtruded.word c.in-Obtruded.is in
    (quiet-made m.seat c.try_fast-tried.new.seat m.sessions (missed_at m.seat c.try_fast-tried.new.seat (found.0, found.1.0.2)), c.keep_guess.ensures)

pub returns-in-Obtruded-clause-closed : goal.returns-in-Obtruded-clause-closed
returns-in-Obtruded-clause-closed c = (c.try_fast-tried.ensures.obtruded c.in-Obtruded.word c.in-Obtruded.is).1

pub returns-in-Contended-clause-unchanged : goal.returns-in-Contended-clause-unchanged
returns-in-Contended-clause-unchanged c =
    let m = c.args.self.now in
    (quiet-made m.seat c.try_fast-tried.new.seat m.sessions (missed_at m.seat c.try_fast-tried.new.seat (c.try_fast-tried.ensures.contended c.in-Contended.word c.in-Contended.is)), c.keep_guess.ensures)

-- ---- the ticket was granted

-- the last ticket has its number
last_numbered : (t : SessionTicket) (tickets : List SessionTicket) → is_some (numbered t.number (tickets ++ t ∷ [])) ≡ true
last_numbered t [] = rw (eq-eqb t.number t.number refl) refl
last_numbered t (u ∷ us) = by_bool (u.number == t.number) (λ hit. rw hit refl) (λ miss. rw miss (last_numbered t us))

pub push_fast-requires-clause-below : goal.push_fast-requires-clause-below
push_fast-requires-clause-below c = below-seen c.args.self.now _ _ (ap (λ (l : TicketList). l.slow) c.keep_guess.ensures, ap (λ (l : TicketList). l.fast) c.keep_guess.ensures)

pub invariant_of-self-2 : goal.invariant_of-self-2
invariant_of-self-2 c =
    let m = c.args.self.now in
    let is = member m in
    let may = may-ask-fast m c.args.place c.args.mode c.args.one c.requires.may.idle c.requires.may.pinned c.requires.may.counted c.requires.may.number in
    let granted = c.try_fast-tried.ensures.granted c.in-Granted.is in
    let noted = c.note_of-noted.ensures ∙ ap (λ (l : Lists). first_note (own_at c.args.place l.fast ++ own_at c.args.place l.slow)) m.lists in
    let done = (fast-granted m.seat c.try_fast-tried.new.seat m.sessions is may.idle may.counted noted granted.0).done in record {
      lawful = ∣ kept (Try_now _ _ _) is (done-order done is (inl may.idle)) (try-granted is c.args.place c.args.mode may.clear refl done) ∣₁;
      lists = lists-granted m c.try_fast-tried.new.seat granted.0 (rw c.keep_guess.ensures at c.push_fast.ensures.same)
          ((rw c.keep_guess.ensures at c.push_fast.ensures.gained) ∙ ap (λ (n : Option ℕ). m.tickets.fast ++ fast_own m.next c.args.place c.args.mode n ∷ []) (sym c.note_of-noted.ensures));
      room = unasked m may.idle _;
      owed = owed-both m (rw c.keep_guess.ensures at c.push_fast.ensures.owes) (ap (λ (x : Mine). x.0.owes) granted.0.1.now);
    }

pub returns-clause-granted : goal.returns-clause-granted
returns-clause-granted c =
    let m = c.args.self.now in
    let may = may-ask-fast m c.args.place c.args.mode c.args.one c.requires.may.idle c.requires.may.pinned c.requires.may.counted c.requires.may.number in
    let granted = c.try_fast-tried.ensures.granted c.in-Granted.is in
    let noted = c.note_of-noted.ensures ∙ ap (λ (l : Lists). first_note (own_at c.args.place l.fast ++ own_at c.args.place l.slow)) m.lists in
    let first = ap (λ (l : Lists). l.next) m.lists in
    let after = session_at c.try_fast-tried.new.seat m.sessions c.push_fast.new.self.room m.known.pins in
    let quiet = fast-granted m.seat c.try_fast-tried.new.seat m.sessions (member m) may.idle may.counted noted granted.0 in (
      refl,
      subst (λ (n : ℕ). DoesQuietly c.args.place (Gain n c.args.mode ∷ []) (view_of m) after) (sym first) quiet,
      subst (λ (n : ℕ). GrantsAtLast c.args.place (Gain n c.args.mode) m.seat.me c.try_fast-tried.new.seat.me) (sym first) granted.1,
      ap (λ (fast : List SessionTicket). is_some (numbered m.next fast)) (rw c.keep_guess.ensures at c.push_fast.ensures.gained) ∙ last_numbered _ m.tickets.fast,
    )

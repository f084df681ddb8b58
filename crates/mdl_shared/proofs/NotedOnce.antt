-- The tickets of a place have one note.
use Rattle.std.proofs.Common.{◌≡◌, ℕ, true, not, ◌==◌, List, [], ◌∷◌, Option, Some, None, refl, sym, subst, ◌∙◌, filter_map, eq-eqb, eqb-true}
use Rattle.mdl_shared.proofs.Common.{Alter, AreAlike, Deed, Each, Gain, IsMember, Lose, SessionTicket, SessionView, by_bool, false≢true, is_own, note_of, owned, tickets_seen}
use Rattle.mdl_shared.proofs.SpaceNotes.{AllNoted, and_note, note-here, note-there, noted-gained, noted-in, noted-less, noted-moded, noted_under}

-- where no ticket has a note, nothing is noted
none-noted : (place : ℕ) (tickets : List SessionTicket) → AllNoted place None tickets → noted_under place tickets ≡ None
none-noted place tickets all = by (noted_under place tickets) (λ version is. noted-in place version None tickets all is)
  where
    by : (o : Option ℕ) → ((version : ℕ) → o ≡ Some version → None ≡ Some version) → o ≡ None
    by None none = refl
    by (Some version) none = let e = none version refl in cc

-- each ticket has the note of the first
alike-first : (t : SessionTicket) (place : ℕ) (tickets : List SessionTicket) → t.place ≡ place → Each (λ (x : SessionTicket). x.place ≡ t.place → x.noted ≡ t.noted) tickets → AllNoted place t.noted tickets
alike-first t place [] here each = tt
alike-first t place (x ∷ xs) here each = ((λ e. each.0 (e ∙ sym here)), alike-first t place xs here each.1)

-- which is the one that is noted there
first-under : (t : SessionTicket) (place : ℕ) (tickets : List SessionTicket) → (t.place == place) ≡ true → AllNoted place t.noted tickets → noted_under place (t ∷ tickets) ≡ t.noted
first-under t place tickets here all = by t.noted all
  where
    by : (n : Option ℕ) → AllNoted place n tickets → and_note place t.place n (filter_map note_of tickets) ≡ n
    by None all = none-noted place tickets all
    by (Some version) all = note-here place t.place version (filter_map note_of tickets) here

alike-noted : (place : ℕ) (tickets : List SessionTicket) → AreAlike tickets → AllNoted place (noted_under place tickets) tickets
alike-noted place [] alike = tt
alike-noted place (t ∷ ts) alike =
    by_bool (t.place == place)
    (λ here.
    let later = alike-first t place ts (eqb-true t.place place here) alike.0 in
    let is = first-under t place ts here later in
    subst (λ o. AllNoted place o (t ∷ ts)) (sym is) ((λ e. refl), later))
    (λ there.
    let is = note-there place t.place t.noted (filter_map note_of ts) there in
    subst (λ o. AllNoted place o (t ∷ ts)) (sym is)
    ((λ e. absurd (false≢true (sym there ∙ eq-eqb t.place place e))), alike-noted place ts alike.1))

-- each has the one that is noted there
pub one-note : (m : SessionView) → IsMember m → (place : ℕ) → AllNoted place (noted_under place (tickets_seen m.me.0)) (tickets_seen m.me.0)
one-note m is place = alike-noted place (tickets_seen m.me.0) is.alike

-- and still has after a deed
pub one-note_done : (m : SessionView) → IsMember m → (at place : ℕ) (d : Deed) → AllNoted at (noted_under at (tickets_seen m.me.0)) (owned place d (tickets_seen m.me.0))
one-note_done m is at place (Gain number mode) = noted-gained at number place mode (tickets_seen m.me.0) (one-note m is at)
one-note_done m is at place (Alter number mode) = noted-moded at place number (noted_under at (tickets_seen m.me.0)) mode (tickets_seen m.me.0) (one-note m is at)
one-note_done m is at place (Lose number) = noted-less at (noted_under at (tickets_seen m.me.0)) (λ t. not (is_own place number t)) (tickets_seen m.me.0) (one-note m is at)

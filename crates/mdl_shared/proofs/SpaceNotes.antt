-- The versions that a session noted under its tickets: at each place one, if any.
use Rattle.std.proofs.Common.{◌≡◌, ◌≢◌, ◌⊎◌, inl, inr, ℕ, Bool, true, false, not, ◌==◌, List, [], ◌∷◌, ◌++◌, map, filter, Contains, Option, Some, None, refl, sym, ap, subst, ◌∙◌, filter_map, eqb-true, eq-eqb, ne_eqb}
use Rattle.mdl_shared.proofs.Common.{Held, Mode, Note, ReadNothing, ReadsNothing, SessionTicket, SessionView, all-among, as_held, by_bool, cons_option, data_of, false≢true, in_mode_at, is_own, list_all, not_from_true, note_at, note_of, noted_at, noting_version, option_map, tickets_seen}

-- the version that is noted at a place
abbrev pub noted_under : ℕ → List SessionTicket → Option ℕ
noted_under place tickets = noted_at place (filter_map note_of tickets)

-- each ticket of the place has this note, or has none
abbrev pub AllNoted : ℕ → Option ℕ → List SessionTicket → Type 0
AllNoted place mark [] = Unit {0}
AllNoted place mark (t ∷ later) = (t.place ≡ place → t.noted ≡ mark) × AllNoted place mark later

-- ---- one ticket more in front

-- what its note is at a place
abbrev pub and_note : ℕ → ℕ → Option ℕ → List Note → Option ℕ
and_note place at mark later = noted_at place (cons_option (option_map (λ version. record { place = at; version = version }) mark) later)

-- its note counts there
pub note-here : (place at version : ℕ) (later : List Note) → (at == place) ≡ true → and_note place at (Some version) later ≡ Some version
note-here place at version later here = rw here refl

-- and nowhere else
pub note-there : (place at : ℕ) (mark : Option ℕ) (later : List Note) → (at == place) ≡ false → and_note place at mark later ≡ noted_at place later
note-there place at None later there = refl
note-there place at (Some version) later there = rw there refl

-- ---- what is noted at a place

-- it is that of the first ticket there, or else of a later one
front-noted : (place at version : ℕ) (mark n : Option ℕ) (later : List Note) → n ≡ mark → (at == place) ≡ true → (noted_at place later ≡ Some version → mark ≡ Some version)
    → and_note place at n later ≡ Some version → mark ≡ Some version
front-noted place at version mark None later same here others e = others e
front-noted place at version mark (Some v) later same here others e = sym same ∙ sym (note-here place at v later here) ∙ e

-- is the note of each ticket there
pub noted-in : (place version : ℕ) (mark : Option ℕ) (tickets : List SessionTicket) → AllNoted place mark tickets → noted_under place tickets ≡ Some version → mark ≡ Some version
noted-in place version mark [] all e = cc
noted-in place version mark (t ∷ ts) all e =
    by_bool (t.place == place)
    (λ here. front-noted place t.place version mark t.noted (filter_map note_of ts) (all.0 (eqb-true t.place place here)) here
    (noted-in place version mark ts all.1) e)
    (λ there. noted-in place version mark ts all.1 (sym (note-there place t.place t.noted (filter_map note_of ts) there) ∙ e))

-- and that is noted, where there is one
pub noted-some : (place version : ℕ) (mark : Option ℕ) (tickets : List SessionTicket) → AllNoted place mark tickets
    → list_all (λ (h : Held). not (h.place == place)) (map as_held tickets) ≡ false → mark ≡ Some version → noted_under place tickets ≡ Some version
noted-some place version mark [] all some is = cc
noted-some place version mark (t ∷ ts) all some is =
    by_bool (t.place == place)
    (λ here.
    let its : t.noted ≡ Some version = all.0 (eqb-true t.place place here) ∙ is in
    subst (λ n. and_note place t.place n (filter_map note_of ts) ≡ Some version) (sym its) (note-here place t.place version (filter_map note_of ts) here))
    (λ there. note-there place t.place t.noted (filter_map note_of ts) there ∙ noted-some place version mark ts all.1 (rw there at some) is)

pub noted-here : (place version : ℕ) (mark : Option ℕ) (tickets : List SessionTicket) → AllNoted place mark tickets
    → (ticket : Held) × Contains (map as_held tickets) ticket × (ticket.place ≡ place) → mark ≡ Some version → noted_under place tickets ≡ Some version
noted-here place version mark tickets all holds is =
    by_bool (list_all (λ (h : Held). not (h.place == place)) (map as_held tickets))
    (λ none.
    absurd (false≢true (sym (not_from_true (holds.0.place == place) (eq-eqb holds.0.place place holds.2))
    ∙ all-among (λ (h : Held). not (h.place == place)) (map as_held tickets) holds.0 none holds.1)))
    (λ some. noted-some place version mark tickets all some is)

-- ---- tickets that go, that get another mode, and that come

pub noted-less : (place : ℕ) (mark : Option ℕ) (keep : SessionTicket → Bool) (tickets : List SessionTicket) → AllNoted place mark tickets → AllNoted place mark (filter keep tickets)
noted-less place mark keep [] all = all
noted-less place mark keep (t ∷ ts) all =
    by_bool (keep t)
    (λ stays. rw stays (all.0, noted-less place mark keep ts all.1))
    (λ goes. rw goes (noted-less place mark keep ts all.1))

pub noted-moded : (place at number : ℕ) (mark : Option ℕ) (mode : Mode) (tickets : List SessionTicket) → AllNoted place mark tickets
    → AllNoted place mark (in_mode_at at number mode tickets)
noted-moded place at number mark mode [] all = all
noted-moded place at number mark mode (t ∷ ts) all =
    by_bool (is_own at number t)
    (λ own. rw own (all.0, noted-moded place at number mark mode ts all.1))
    (λ other. rw other (all.0, noted-moded place at number mark mode ts all.1))

pub noted-last : (place : ℕ) (mark : Option ℕ) (tickets : List SessionTicket) (t : SessionTicket) → AllNoted place mark tickets → (t.place ≡ place → t.noted ≡ mark)
    → AllNoted place mark (tickets ++ t ∷ [])
noted-last place mark [] t all its = (its, all)
noted-last place mark (x ∷ xs) t all its = (all.0, noted-last place mark xs t all.1 its)

-- the first ticket of a place has its note
first-note : (place : ℕ) (mark : Option ℕ) (tickets : List SessionTicket) → AllNoted place mark tickets
    → (note_at place tickets ≡ mark) ⊎ ((note_at place tickets ≡ None) × (noted_under place tickets ≡ None))
first-note place mark [] all = inr (refl, refl)
first-note place mark (t ∷ ts) all =
    by_bool (t.place == place)
    (λ here. inl (rw here (all.0 (eqb-true t.place place here))))
    (λ there. first-there (first-note place mark ts all.1) (λ e. rw there e) (λ e. (rw there e.0, note-there place t.place t.noted (filter_map note_of ts) there ∙ e.1)))
  where
    first-there : {A B C D : Type 0} → A ⊎ B → (A → C) → (B → D) → C ⊎ D
    first-there (inl a) left right = inl (left a)
    first-there (inr b) left right = inr (right b)

-- a ticket that takes the note of its place
pub noted-gained : (at id place : ℕ) (mode : Mode) (tickets : List SessionTicket) → AllNoted at (noted_under at tickets) tickets
    → AllNoted at (noted_under at tickets) (tickets ++ record { number = id; place = place; mode = mode; noted = note_at place tickets } ∷ [])
noted-gained at id place mode tickets all =
    noted-last at (noted_under at tickets) tickets (record { number = id; place = place; mode = mode; noted = note_at place tickets }) all
    (λ here. ap (λ p. note_at p tickets) here ∙ by (first-note at (noted_under at tickets) tickets all))
  where
    by : (note_at at tickets ≡ noted_under at tickets) ⊎ ((note_at at tickets ≡ None) × (noted_under at tickets ≡ None)) → note_at at tickets ≡ noted_under at tickets
    by (inl e) = e
    by (inr e) = e.0 ∙ sym e.1

-- ---- a session that reads nothing

pub nothing-read : (m m′ : SessionView) → ReadNothing m.me m′.me
    → ((place : ℕ) → AllNoted place (noted_under place (tickets_seen m.me.0)) (tickets_seen m′.me.0)) → ReadsNothing (data_of m) (data_of m′)
nothing-read m m′ reads all = record {
  reads = reads;
  noted = λ place version is. noted-in place version (noted_under place (tickets_seen m.me.0)) (tickets_seen m′.me.0) (all place) is;
  carried = λ place version holds is. noted-here place version (noted_under place (tickets_seen m.me.0)) (tickets_seen m′.me.0) (all place) holds is;
}

-- ---- a version that is noted

-- under each ticket at the place
pub noting-all : (place version : ℕ) (tickets : List SessionTicket) → AllNoted place (Some version) (noting_version place version tickets)
noting-all place version [] = tt
noting-all place version (t ∷ ts) =
    by_bool (t.place == place)
    (λ here. rw here ((λ e. refl), noting-all place version ts))
    (λ there. rw there ((λ e. absurd (false≢true (sym there ∙ eq-eqb t.place place e))), noting-all place version ts))

-- they are told as they were
pub noting-told : (place version : ℕ) (tickets : List SessionTicket) → map as_held (noting_version place version tickets) ≡ map as_held tickets
noting-told place version [] = refl
noting-told place version (t ∷ ts) =
    by_bool (t.place == place)
    (λ here. rw here (ap (λ (held : List Held). as_held t ∷ held) (noting-told place version ts)))
    (λ there. rw there (ap (λ (held : List Held). as_held t ∷ held) (noting-told place version ts)))

-- it is noted there, where there is a ticket
pub noting-placed : (place version : ℕ) (tickets : List SessionTicket) → list_all (λ (h : Held). not (h.place == place)) (map as_held tickets) ≡ false
    → noted_under place (noting_version place version tickets) ≡ Some version
noting-placed place version tickets some =
    noted-some place version (Some version) (noting_version place version tickets) (noting-all place version tickets)
    (ap (list_all (λ (h : Held). not (h.place == place))) (noting-told place version tickets) ∙ some) refl

-- with the same ticket in front the same is noted
front-same : (place at : ℕ) (mark : Option ℕ) (later other : List Note) → noted_at place later ≡ noted_at place other → and_note place at mark later ≡ and_note place at mark other
front-same place at None later other same = same
front-same place at (Some version) later other same =
    by_bool (at == place)
    (λ here. note-here place at version later here ∙ sym (note-here place at version other here))
    (λ there. note-there place at (Some version) later there ∙ same ∙ sym (note-there place at (Some version) other there))

-- and nothing else
pub noting-elsewhere : (place version other : ℕ) (tickets : List SessionTicket) → other ≢ place → noted_under other (noting_version place version tickets) ≡ noted_under other tickets
noting-elsewhere place version other [] apart = refl
noting-elsewhere place version other (t ∷ ts) apart =
    by_bool (t.place == place)
    (λ here.
    let there : (t.place == other) ≡ false = ne_eqb t.place other (λ e. apart (sym e ∙ eqb-true t.place place here)) in
    rw here (note-there other t.place (Some version) (filter_map note_of (noting_version place version ts)) there
    ∙ noting-elsewhere place version other ts apart ∙ sym (note-there other t.place t.noted (filter_map note_of ts) there)))
    (λ there. rw there (front-same other t.place t.noted (filter_map note_of (noting_version place version ts)) (filter_map note_of ts)
    (noting-elsewhere place version other ts apart)))

-- What a session read and noted at a place, in its own lists and in the space that it is as a lock space.
use Rattle.std.proofs.Common.{◌≡◌, ℕ, zero, suc, ◌≤◌, true, false, not, ◌==◌, List, [], ◌∷◌, map, Option, Some, None, inl, if◌then◌else◌, refl, sym, ap, subst, ◌∙◌, arith, filter_map, nat_le, eqb-true, le-leb}
use Rattle.mdl_shared.proofs.Common.{Each, Follows, Held, IsLast, KeyName, KnownKey, MayStand, Meets, Note, NotesThere, Reading, SeatReadsThere, SessionTicket, SessionView, VersionedDefinition, and_from, as_held, by_bool, data_of, get_elem?, is_newest, key_known, last_read, list_all, nat_tests, not_from_false, note_of, noted_at, noting_version, numbered, option_or, or_left, or_right, own_at, reads_at, some, tickets_seen}
use Rattle.mdl_shared.proofs.SpaceNotes.{and_note, note-here, note-there, noted_under, noting-elsewhere, noting-placed}
use Rattle.mdl_shared.proofs.TicketOrder.{each-at}

-- ---- a ticket that is held

-- it is one of the place's
pub placed-some : (place id : ℕ) (tickets : List SessionTicket) (t : SessionTicket) → numbered id tickets ≡ Some t → t.place ≡ place
    → list_all (λ (h : Held). not (h.place == place)) (map as_held tickets) ≡ false
placed-some place id [] t its here = cc
placed-some place id (x ∷ xs) t its here = grind (arith, nat_tests, placed-some place id xs t)

-- ---- a key that is known

-- it stands in the list, at its place
pub known-there : (place : ℕ) (key : KeyName) (known : List KnownKey) → key_known place known ≡ Some key
    → (i : ℕ) × (k : KnownKey) × (get_elem? known i ≡ some k) × (k.place ≡ place) × (k.key ≡ key)
known-there place key [] e = cc
known-there place key (k ∷ ks) e =
    by_bool (k.place == place)
    (λ hit. let here = rw hit at e in let is : k.key ≡ key = cc in (zero, k, refl, eqb-true k.place place hit, is))
    (λ miss. let later = known-there place key ks (rw miss at e) in (suc later.0, later.1, later.2, later.3, later.4))

-- ---- what was noted

front-each : (P : ℕ → Type 0) (place at version : ℕ) (n : Option ℕ) (notes : List Note) → (at == place) ≡ true → ((v : ℕ) → n ≡ Some v → P v)
    → (noted_at place notes ≡ Some version → P version) → and_note place at n notes ≡ Some version → P version
front-each P place at version None notes here mine others e = others e
front-each P place at version (Some v) notes here mine others e = mine version (sym (note-here place at v notes here) ∙ e)

-- what is so of each version that is noted there is so of the first
pub noted-each : (P : ℕ → Type 0) (place version : ℕ) (tickets : List SessionTicket) → Each (λ (t : SessionTicket). (v : ℕ) → t.noted ≡ Some v → P v) (own_at place tickets)
    → noted_under place tickets ≡ Some version → P version
noted-each P place version [] each e = cc
noted-each P place version (t ∷ ts) each e =
    by_bool (t.place == place)
    (λ here.
    let mine = rw here at each in
    front-each P place t.place version t.noted (filter_map note_of ts) here mine.0 (noted-each P place version ts mine.1) e)
    (λ there. noted-each P place version ts (rw there at each) (sym (note-there place t.place t.noted (filter_map note_of ts) there) ∙ e))

-- ---- what was read

-- nothing newer than this
abbrev IsAfter : VersionedDefinition → Reading → Type 0
IsAfter standing r = (r.standing.version ≤ standing.version) × (r.standing.version ≡ standing.version → r.standing ≡ standing)

newest-each : (place : ℕ) (standing : VersionedDefinition) (reads : List Reading) → Each (IsAfter standing) (reads_at place reads)
    → is_newest place standing.version reads ≡ true
newest-each place standing [] each = refl
newest-each place standing (r ∷ rs) each =
    by_bool (r.place == place)
    (λ here.
    let mine = rw here at each in
    and_from _ _ (or_right (not (r.place == place)) _ (le-leb r.standing.version standing.version mine.0.0)) (newest-each place standing rs mine.1))
    (λ there. and_from _ _ (or_left _ (nat_le r.standing.version standing.version) (not_from_false (r.place == place) there)) (newest-each place standing rs (rw there at each)))

-- what was read last, where it has the same version
last-each : (place : ℕ) (standing last : VersionedDefinition) (reads : List Reading) → Each (IsAfter standing) (reads_at place reads)
    → last_read place reads ≡ Some last → last.version ≡ standing.version → last ≡ standing
last-each place standing last [] each e same = cc
last-each place standing last (r ∷ rs) each e same =
    by_bool (r.place == place)
    (λ here.
    let mine = rw here at each in
    first (last_read place rs) (λ it. last-each place standing last rs mine.1 it same)
    (λ it. let is : r.standing ≡ last = cc in sym is ∙ mine.0.1 (ap (λ (x : VersionedDefinition). x.version) is ∙ same))
    (subst (λ b. option_or (last_read place rs) (if b then Some r.standing else None) ≡ Some last) here e))
    (λ there.
    last-each place standing last rs (rw there at each)
    (sym (or-none (last_read place rs))
    ∙ subst (λ b. option_or (last_read place rs) (if b then Some r.standing else None) ≡ Some last) there e) same)
  where
    or-none : (o : Option VersionedDefinition) → option_or o None ≡ o
    or-none None = refl
    or-none (Some x) = refl

    first : {P : Type 0} (o : Option VersionedDefinition) → (o ≡ Some last → P) → (Some r.standing ≡ Some last → P) → option_or o (Some r.standing) ≡ Some last → P
    first None later now e = now e
    first (Some x) later now e = later e

-- ---- what is met at a place

pub meets-there : (m : SessionView) (place : ℕ) (standing : VersionedDefinition) → Follows place standing m.me → Meets place standing (data_of m)
meets-there m place standing follows = record {
  fits = λ key knows.
      let there = known-there place key m.me.0.known (knows) in
      subst (λ (k : KeyName). MayStand k.namespace standing) there.4
      (follows.fits there.0 there.1 there.2 there.3);
  noted = λ version is.
      noted-each (λ v. v ≡ standing.version) place version (tickets_seen m.me.0)
      (each-at (λ (t : SessionTicket). (v : ℕ) → t.noted ≡ Some v → v ≡ standing.version) place m.me.0.slow m.me.0.fast follows.noted follows.fast_noted) is;
  newest = newest-each place standing m.me.0.reads follows.reads;
  same = λ last is same. last-each place standing last m.me.0.reads follows.reads is same;
}

-- it was read there, after all that was read before
pub read-last : (m m′ : SessionView) (place : ℕ) (standing : VersionedDefinition) → SeatReadsThere place standing m.me m′.me
    → IsLast place standing (data_of m).reads (data_of m′).reads
read-last m m′ place standing reads = inl reads

-- it has been read last, and is noted there
pub notes-there : (m m′ : SessionView) (id place : ℕ) (t : SessionTicket) (standing : VersionedDefinition) → numbered id (tickets_seen m.me.0) ≡ Some t → t.place ≡ place
    → (tickets_seen m′.me.0) ≡ noting_version place standing.version (tickets_seen m.me.0) → IsLast place standing (data_of m).reads (data_of m′).reads
    → NotesThere place standing (data_of m) (data_of m′)
notes-there m m′ id place t standing its here noted last = record {
  last = last;
  here = ap (noted_under place) noted ∙ noting-placed place standing.version (tickets_seen m.me.0) (placed-some place id (tickets_seen m.me.0) t its here);
  elsewhere = λ other apart. ap (noted_under other) noted ∙ noting-elsewhere place standing.version other (tickets_seen m.me.0) apart;
}

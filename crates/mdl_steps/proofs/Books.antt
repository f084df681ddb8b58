-- The book of a place, and the part of the session that holds its latch, after deeds of that session.
use Rattle.std.proofs.Common.{◌≡◌, ◌≢◌, ℕ, ◌+◌, ◌<◌, ◌⊎◌, Bool, List, [], ◌∷◌, ◌++◌, set, Some, refl, sym, ap, ◌∙◌, subst, inl, inr, arith, Option}
use Rattle.mdl_steps.proofs.FirstLemmas.{Alter, Ask, BookOk, BookView, Deed, Each, Gain, KeyName, Lose, May, MayAll, Mode, NotWaited, NoteAgrees, NotedCounts, Numbered, Part, PartOk, SessionTicket, Ticket, View, all_booked, all_done, all_fast, at_inside, at_set, booked, cases_eq, done, due, each-from_at, each-note, each-owned, each-to_at, get_elem?, lock_kind, next_after, own_at, owned, part_at, pending, set_again, set_else, set_here, some, waiting_kept, with_mode, without}
use Rattle.mdl_steps.proofs.Deeds.{Deeded, gains, loses, alters, all_fast-set, set_twice, may_join}
use Rattle.mdl_steps.proofs.Latch.{due_asked}
use Rattle.mdl_steps.proofs.Unmixed.{unmixed_deed}

-- the tickets of its next number are still below the next one
each_below : (next more : ℕ) (ts : List SessionTicket) → next < more + 1 → Each (λ (t : SessionTicket). t.number < next) ts → Each (λ (t : SessionTicket). t.number < more) ts
each_below next more [] less all = tt
each_below next more (t ∷ ts) less all = ((let below = all.0 in omega arith), each_below next more ts less all.1)

below_next : (d : Deed) (next : ℕ) → next < next_after d next + 1
below_next (Gain number mode) next = omega arith
below_next (Alter number mode) next = omega arith
below_next (Lose number) next = omega arith

pub numbered_done : (place : ℕ) (v : View) (book : BookView) (noted : Option ℕ) (d : Deed) → Numbered v → May v book noted d → Numbered (done place d v)
numbered_done place v book noted d numbered may = record {
  fast = each_below v.next (next_after d v.next) v.fast (below_next d v.next) numbered.fast;
  slow = each-owned (λ (t : SessionTicket). t.number < next_after d v.next) place d v.slow (λ t mode below. below) (gained d may) (each_below v.next (next_after d v.next) v.slow (below_next d v.next) numbered.slow);
  unmixed = unmixed_deed place v.next d v.fast v.slow (next_gained d may) numbered.fast numbered.unmixed;
  asks = λ a e. (let below = numbered.asks a e in let less = below_next d v.next in omega arith);
  apart = λ a e. each-owned (λ (t : SessionTicket). t.number ≢ a.number) place d v.slow (λ t mode differs. differs) (apart_gained d may a e) (numbered.apart a e);
  unfast = numbered.unfast;
}
  where
    next_gained : (e : Deed) → May v book noted e → (number : ℕ) (mode : Mode) → e ≡ Gain number mode → number ≡ v.next
    next_gained (Gain m x) may number mode is = let same : m ≡ number = cc in sym same ∙ may.0
    next_gained (Alter m x) may number mode is = absurd (cc)
    next_gained (Lose m) may number mode is = absurd (cc)

    gained : (e : Deed) → May v book noted e → (number : ℕ) (mode : Mode) → e ≡ Gain number mode → number < next_after e v.next
    gained (Gain m x) may number mode is = let next = may.0 in let same : m ≡ number = cc in omega arith
    gained (Alter m x) may number mode is = absurd (cc)
    gained (Lose m) may number mode is = absurd (cc)

    apart_gained : (e : Deed) → May v book noted e → (a : Ask) → v.asks ≡ Some a → (number : ℕ) (mode : Mode) → e ≡ Gain number mode → number ≢ a.number
    apart_gained (Gain m x) may a asked number mode is = let next = may.0 in let below = numbered.asks a asked in let same : m ≡ number = cc in λ d. omega arith
    apart_gained (Alter m x) may a asked number mode is = absurd (cc)
    apart_gained (Lose m) may a asked number mode is = absurd (cc)

module _ (key : Option KeyName) (version : ℕ) (parts : List Part) (book : BookView) (f : ℕ → ℕ) (place id : ℕ) (v : View)
    (at : get_elem? parts id ≡ some (part_at f place v))
    (alone : (j : ℕ) (x : Part) → get_elem? parts j ≡ some x → x.number ≡ v.number → j ≡ id)
    (some_key : (k : KeyName) × (key ≡ Some k))
    (ok : BookOk key version parts book) where
  mine : Part
  mine = part_at f place v

  -- the book with another granted list, and the part with other tickets
  replaced : (granted : List Ticket) (w : View) → part_at f place w ≡ record mine { slow = own_at place w.slow }
      → Each (NoteAgrees book) (own_at place w.slow)
      → Deeded (lock_kind book) (all_fast parts) book.granted granted v.number place (due mine.asks) w.slow
      → BookOk key version (set parts id (part_at f place w)) (record book { granted = granted })
  unfolding mine
  replaced granted w part notes did =
      let old = ok.each id (part_at f place v) at in
      let new : Part = part_at f place w in
      let number_is : new.number ≡ v.number = ap (λ (x : Part). x.number) part in
      let fast_is : new.fast ≡ own_at place v.fast = ap (λ (x : Part). x.fast) part in
      let fast_same : all_fast (set parts id new) ≡ all_fast parts = all_fast-set parts id (part_at f place v) new at number_is fast_is in
      record {
        lawful = rw fast_same did.lawful;
        once = did.once;
        owned = λ session number t found. elim (cases_eq session v.number) [
          | inl e ↦ (id, new, set_here parts id new (at_inside parts id (part_at f place v) at), number_is ∙ sym e)
          | inr e ↦
              let was = ok.owned session number t (sym (did.else session number e) ∙ found) in
              elim (cases_eq was.0 id) [
                | inl same ↦ absurd (e (sym was.3 ∙ (let there : some was.1 ≡ some (part_at f place v) = sym was.2 ∙ (subst (λ (j : ℕ). get_elem? parts j ≡ some (part_at f place v)) (sym same) at) in ap (λ (x : Part). x.number) (mathlib.Core.Option.some-injective was.1 (part_at f place v) there))))
                | inr else ↦ (was.0, was.1, set_else parts id was.0 new else ∙ was.2, was.3)
              ]
        ];
        waiting = waiting_kept parts id (part_at f place v) new at number_is (lock_kind book) book.waiting (ap (λ (x : Part). pending x.asks) part) ok.waiting;
        version_is = ok.version_is;
        stands = ok.stands;
        named = record { key_is = ok.named.key_is; vacant = λ none. let k = some_key.1 in absurd (cc) };
        each = λ j x there. elim (at_set parts id j new x there) [
          | inl same ↦ subst (λ (y : Part). PartOk (record book { granted = granted }) y) (sym part ∙ same.1) (record {
            few = old.few;
            slow_held = record { same = did.same; apart = did.apart };
            versions_agree = record { reads = old.versions_agree.reads; fast = old.versions_agree.fast; slow = notes };
          })
          | inr other ↦
              let theirs = ok.each j x other.1 in
              let differs : x.number ≢ v.number = λ e. other.0 (alone j x other.1 e) in
              record {
                few = theirs.few;
                slow_held = record { same = λ m. did.else x.number m differs ∙ theirs.slow_held.same m; apart = theirs.slow_held.apart };
                versions_agree = record { reads = theirs.versions_agree.reads; fast = theirs.versions_agree.fast; slow = theirs.versions_agree.slow };
              }
        ];
      }

  pub deed_ok : (obtrusive : Bool) (noted : Option ℕ) (d : Deed) → Numbered v → NotedCounts (lock_kind book) (all_fast parts) obtrusive noted → May v book noted d
      → BookOk key version (set parts id (part_at f place (done place d v))) (booked v.number d book)
  unfolding mine
  deed_ok obtrusive noted d numbered counts may = by_deed d may
    where
      old : PartOk book (part_at f place v)
      old = ok.each id (part_at f place v) at

      not_waited : (number : ℕ) → NotWaited v number → (t : Ticket) → due (part_at f place v).asks ≡ Some t → t.number ≢ number
      not_waited number unwaited t e same = let a = due_asked place v.number (f v.number) v.asks t e in unwaited a.0 a.1 (sym a.2 ∙ same)

      waited_below : (t : Ticket) → due (part_at f place v).asks ≡ Some t → t.number < v.next
      waited_below t e = let a = due_asked place v.number (f v.number) v.asks t e in let below = numbered.asks a.0 a.1 in let is = a.2 in omega arith

      noted_there : Each (λ (t : SessionTicket). t.place ≡ place → NoteAgrees book t) v.slow
      noted_there = each-from_at (NoteAgrees book) place v.slow old.versions_agree.slow

      notes : (e : Deed) → Each (NoteAgrees book) (own_at place (owned place e v.slow))
      notes e = each-to_at (NoteAgrees book) place (owned place e v.slow)
          (each-owned (λ (t : SessionTicket). t.place ≡ place → NoteAgrees book t) place e v.slow (λ t mode agrees. agrees)
          (λ number mode is here. each-note (λ (version : ℕ). version ≡ book.standing.version) place v.slow noted_there) noted_there)

      by_deed : (e : Deed) → May v book noted e → BookOk key version (set parts id (part_at f place (done place e v))) (booked v.number e book)
      by_deed (Gain number mode) may = replaced (book.granted ++ record { session = v.number; number = number; mode = mode } ∷ []) (done place (Gain number mode) v) refl (notes (Gain number mode))
          (gains (lock_kind book) (all_fast parts) book.granted v.number place (due (part_at f place v).asks) v.slow ok.lawful ok.once old.slow_held.same old.slow_held.apart
          number v.next mode may.0 numbered.slow waited_below may.1 (may_join v.number book (all_fast parts) obtrusive noted mode ok.lawful counts may.2))
      by_deed (Alter number mode) may = replaced (with_mode v.number number mode book.granted) (done place (Alter number mode) v) refl (notes (Alter number mode))
          (alters (lock_kind book) (all_fast parts) book.granted v.number place (due (part_at f place v).asks) v.slow ok.lawful ok.once old.slow_held.same old.slow_held.apart
          number mode (not_waited number may.0) may.1 (may_join v.number book (all_fast parts) obtrusive noted mode ok.lawful counts may.2))
      by_deed (Lose number) may = replaced (without v.number number book.granted) (done place (Lose number) v) refl (notes (Lose number))
          (loses (lock_kind book) (all_fast parts) book.granted v.number place (due (part_at f place v).asks) v.slow ok.lawful ok.once old.slow_held.same old.slow_held.apart
          number (not_waited number may))

-- ---- several deeds

-- the kind of the book stays
booked_kind : (session : ℕ) (d : Deed) (book : BookView) → lock_kind (booked session d book) ≡ lock_kind book
booked_kind session (Gain number mode) book = refl
booked_kind session (Alter number mode) book = refl
booked_kind session (Lose number) book = refl

-- and the numbers of the parts
numbers_kept : (parts : List Part) (id : ℕ) (x y : Part) (number : ℕ) → get_elem? parts id ≡ some x → y.number ≡ x.number
    → ((j : ℕ) (z : Part) → get_elem? parts j ≡ some z → z.number ≡ number → j ≡ id)
    → (j : ℕ) (z : Part) → get_elem? (set parts id y) j ≡ some z → z.number ≡ number → j ≡ id
numbers_kept parts id x y number at same alone j z there e = elim (at_set parts id j y z there) [
  | inl here ↦ here.0
  | inr else ↦ alone j z else.1 e
]

-- the kind of the book after several
pub all_booked_kind : (session : ℕ) (ds : List Deed) (book : BookView) → lock_kind (all_booked session ds book) ≡ lock_kind book
all_booked_kind session [] book = refl
all_booked_kind session (d ∷ ds) book = all_booked_kind session ds (booked session d book) ∙ booked_kind session d book

-- what they leave of the view
pub all_done_fast : (place : ℕ) (ds : List Deed) (v : View) → (all_done place ds v).fast ≡ v.fast
all_done_fast place [] v = refl
all_done_fast place (d ∷ ds) v = all_done_fast place ds (done place d v)

pub deeds_ok : (key : Option KeyName) (version : ℕ) (parts : List Part) (book : BookView) (f : ℕ → ℕ) (place id : ℕ) (v : View) (obtrusive : Bool) (noted : Option ℕ) (ds : List Deed)
    → get_elem? parts id ≡ some (part_at f place v)
    → ((j : ℕ) (x : Part) → get_elem? parts j ≡ some x → x.number ≡ v.number → j ≡ id)
    → ((k : KeyName) × (key ≡ Some k)) ⊎ (ds ≡ [])
    → Numbered v → NotedCounts (lock_kind book) (all_fast parts) obtrusive noted → MayAll place v book noted ds → BookOk key version parts book
    → BookOk key version (set parts id (part_at f place (all_done place ds v))) (all_booked v.number ds book) × Numbered (all_done place ds v) × (all_fast (set parts id (part_at f place (all_done place ds v))) ≡ all_fast parts)
deeds_ok key version parts book f place id v obtrusive noted [] at alone some_key numbered counts may ok =
    let again = set_again parts id (part_at f place v) at in (subst (λ (ps : List Part). BookOk key version ps book) (sym again) ok, numbered, ap all_fast again)
deeds_ok key version parts book f place id v obtrusive noted (d ∷ ds) at alone some_key numbered counts may ok =
    let has_key : (k : KeyName) × (key ≡ Some k) = elim some_key [ inl k ↦ k | inr none ↦ absurd (cc) ] in
    let first : Part = part_at f place (done place d v) in
    let parts′ : List Part = set parts id first in
    let last : Part = part_at f place (all_done place ds (done place d v)) in
    let fast : all_fast parts′ ≡ all_fast parts = all_fast-set parts id (part_at f place v) first at refl refl in
    let one = deed_ok key version parts book f place id v at alone has_key ok obtrusive noted d numbered counts may.0 in
    let others = deeds_ok key version parts′ (booked v.number d book) f place id (done place d v) obtrusive noted ds (set_here parts id first (at_inside parts id (part_at f place v) at))
    (numbers_kept parts id (part_at f place v) first v.number at refl alone) (inl has_key) (numbered_done place v book noted d numbered may.0)
    (rw (booked_kind v.number d book, fast) counts) may.1 one in
    let twice : set parts′ id last ≡ set parts id last = set_twice parts id first last in (
      subst (λ (ps : List Part). BookOk key version ps (all_booked v.number ds (booked v.number d book))) twice others.0,
      others.1,
      sym (ap all_fast twice) ∙ others.2 ∙ fast,
    )

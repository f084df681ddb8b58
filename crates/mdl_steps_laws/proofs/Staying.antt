-- What a session reads under a ticket stays, until it gives the ticket up or changes the definition.
use Rattle.std.proofs.Common.{◌≡◌, ℕ, ◌<◌, ◌==◌, true, cond, inl, inr, List, [], ◌∷◌, ◌++◌, length, set, Some, refl, sym, ap, ◌∙◌, subst, Contains, slice_index, eq-eqb}
use Rattle.mdl_steps_laws.proofs.Common.{BookView, Contains-append_cases, Contains-append_left, Contains-append_right, Contains-map, Contains-map_from, Contains-push, DefinitionsStay, Follow, HasNoted, HasPlace, HasRead, HitsNote, LearnsOf, Mine, NotesStay, ReadingsNote, Rule, SessionTicket, Slot, Stands, State, TableChange, VersionedDefinition, VersionsNote, View, at_inside, at_longer, at_map, by_bool, get_elem?, holder_at, homes_length, is_own, nat_told, noted_version, noting_version, read_and_put, set_else, set_here, some, some-injective}
use Rattle.mdl_steps_laws.proofs.Keeping.{Kept, own_is, own_parts}
use Rattle.mdl_steps_laws.proofs.NotesKept.{noted_stands, read_stands}
use Rattle.mdl_steps_laws.proofs.StepsKeep.{made_keeps}

-- ---- one change

keeps_noted : (place number version : ℕ) (v w : View) → Kept place number version (v.slow ++ v.fast) (w.slow ++ w.fast) → HasNoted place number version v → HasNoted place number version w
keeps_noted place number version v w kept noted =
    let now = kept.ahead noted.ticket noted.has.0 noted.has.1 in
    record {
      ticket = now.0;
      has = (now.1, now.2);
      noted = λ t has. (let was = kept.back t has.0 has.1 in was.3 (noted.noted was.0 (was.1, was.2)));
    }

pub notes_stay : NotesStay
notes_stay s t r (TableChange.Steps id m m′ st left act there made moves) place has seat number version spares v at noted = elim (nat_told id seat) [
  | inl mine ↦
      let is : m.0 ≡ v = some-injective m.0 v (sym there ∙ ap (get_elem? s.views) mine ∙ at) in
      let seat_there : get_elem? s.views seat ≡ some m.0 = at ∙ ap (λ (x : View). some x) (sym is) in
      let had : HasNoted place number version m.0 = subst (HasNoted place number version) (sym is) noted in
      let kept = made_keeps s r place has seat number version m seat_there had st (slice_index s.words st.word) refl m′ made (spares mine) in
      let now : get_elem? (set s.views id m′.0) seat ≡ some m′.0 =
      subst (λ (j : ℕ). get_elem? (set s.views id m′.0) j ≡ some m′.0) mine (set_here s.views id m′.0 (at_inside s.views id m.0 there)) in (
        m′.0,
        ap (λ (x : State Slot View). get_elem? x.views seat) moves ∙ now,
        keeps_noted place number version m.0 m′.0 kept.tickets had,
        λ standing read. kept.reads (record { place = place; standing = standing }) (subst (HasRead place standing) (sym is) read),
      )
  | inr other ↦ (v, ap (λ (x : State Slot View). get_elem? x.views seat) moves ∙ set_else s.views id seat m′.0 (λ e. other (sym e)) ∙ at, noted, λ standing read. read)
]
notes_stay s t r (TableChange.Splits u first more there fast slow reads moves) place has seat number version spares v at noted = elim (nat_told 0 seat) [
  | inl mine ↦
      let is : u ≡ v = some-injective u v (sym there ∙ ap (get_elem? s.views) mine ∙ at) in
      let now : get_elem? (set s.views 0 first) seat ≡ some first =
      subst (λ (j : ℕ). get_elem? (set s.views 0 first) j ≡ some first) mine (set_here s.views 0 first (at_inside s.views 0 u there)) in
      let tickets : v.slow ++ v.fast ≡ first.slow ++ first.fast = λ i. (ap (λ (x : View). x.slow) (sym is) ∙ sym slow) i ++ (ap (λ (x : View). x.fast) (sym is) ∙ sym fast) i in (
        first,
        ap (λ (x : State Slot View). get_elem? x.views seat) moves ∙ at_longer (set s.views 0 first) (more ∷ []) seat first now,
        record {
          ticket = noted.ticket;
          has = (subst (λ ts. Contains ts noted.ticket) tickets noted.has.0, noted.has.1);
          noted = λ o has_o. noted.noted o (subst (λ ts. Contains ts o) (sym tickets) has_o.0, has_o.1);
        },
        λ standing read. subst (λ rs. Contains rs (record { place = place; standing = standing })) (ap (λ (x : View). x.reads) (sym is) ∙ sym reads) read,
      )
  | inr other ↦ (
    v,
    ap (λ (x : State Slot View). get_elem? x.views seat) moves ∙ at_longer (set s.views 0 first) (more ∷ []) seat v (set_else s.views 0 seat first (λ e. other (sym e)) ∙ at),
    noted,
    λ standing read. read,
  )
]

-- ---- many changes

turn-places : (s t : State Slot View) → TableChange s t → length t.homes ≡ length s.homes
turn-places s t (TableChange.Steps id m m′ st left act there made moves) = ap (λ (x : State Slot View). length x.homes) moves ∙ homes_length s.homes m.1 act
turn-places s t (TableChange.Splits u first more there fast slow reads moves) = ap (λ (x : State Slot View). length x.homes) moves

all_stay : (s : State Slot View) → Rule s → (place : ℕ) → HasPlace s place → (seat number : ℕ) (v : View) → get_elem? s.views seat ≡ some v → (standing : VersionedDefinition)
    → HasNoted place number standing.version v → HasRead place standing v → (t : State Slot View) (between : List (State Slot View)) → Follow seat place number s between t → Stands t place standing
all_stay s r place has seat number v at standing noted read t [] follow =
    subst (λ (x : State Slot View). Stands x place standing) follow (read_stands s r place has seat v at standing read (noted_stands s r place has seat v at number standing.version noted))
all_stay s r place has seat number v at standing noted read t (x ∷ xs) follow =
    let turn = follow.1.0 in
    let has′ : HasPlace x place = (has.0, subst (λ (n : ℕ). place < n) (sym (turn-places s x turn)) has.1) in
    let now = notes_stay s x r turn place has seat number standing.version follow.1.1 v at noted in
    all_stay x follow.0 place has′ seat number now.0 now.1 standing now.2 (now.3 standing read) t xs follow.2

pub definitions_stay : DefinitionsStay
definitions_stay s r place has seat number v at standing noted read t between follow = (
  read_stands s r place has seat v at standing read (noted_stands s r place has seat v at number standing.version noted),
  all_stay s r place has seat number v at standing noted read t between follow,
)

-- ---- a reading

noted_all : (place version : ℕ) (ts : List SessionTicket) (t : SessionTicket) → Contains (noting_version place version ts) t → t.place ≡ place → t.noted ≡ Some version
noted_all place version ts t among here =
    let from = Contains-map_from (λ (o : SessionTicket). cond (o.place == place) (record o { noted = Some version }) o) ts t among in
    by_bool (from.0.place == place)
    (λ at. let is : t ≡ record from.0 { noted = Some version } = rw at at from.2 in ap (λ (o : SessionTicket). o.noted) is)
    (λ away. let is : t ≡ from.0 = rw away at from.2 in let at = eq-eqb from.0.place place (ap (λ (o : SessionTicket). o.place) (sym is) ∙ here) in absurd (cc))

-- the view after it, by its tickets alone
noted_by_all : (place version : ℕ) (slow fast : List SessionTicket) (t : SessionTicket) → Contains (slow ++ fast) t → t.place ≡ place
    → (now : SessionTicket) × (Contains (noting_version place version slow ++ noting_version place version fast) now × (is_own place t.number now ≡ true))
noted_by_all place version slow fast t among here =
    let f : SessionTicket → SessionTicket = λ o. cond (o.place == place) (record o { noted = Some version }) o in
    let same : is_own place t.number (f t) ≡ true = by_bool (t.place == place) (λ at. rw at (own_is place t.number t here refl)) (λ away. rw away (own_is place t.number t here refl)) in (
      f t,
      (
        elim (Contains-append_cases slow fast t among) [
          | inl old ↦ Contains-append_left (noting_version place version slow) (noting_version place version fast) (f t) (Contains-map f slow t old)
          | inr now ↦ Contains-append_right (noting_version place version slow) (noting_version place version fast) (f t) (Contains-map f fast t now)
        ],
        same,
      ),
    )

-- a view whose tickets at the place have the note
noted_by : (place version : ℕ) (v w : View) → w.slow ≡ noting_version place version v.slow → w.fast ≡ noting_version place version v.fast
    → (t : SessionTicket) → Contains (v.slow ++ v.fast) t → t.place ≡ place → HasNoted place t.number version w
noted_by place version v w slow fast t among here =
    let now = noted_by_all place version v.slow v.fast t among here in
    let both : w.slow ++ w.fast ≡ noting_version place version v.slow ++ noting_version place version v.fast = λ i. slow i ++ fast i in
    record {
      ticket = now.0;
      has = (subst (λ (ts : List SessionTicket). Contains ts now.0) (sym both) now.1.0, now.1.1);
      noted = λ o had. elim (Contains-append_cases (noting_version place version v.slow) (noting_version place version v.fast) o (subst (λ (ts : List SessionTicket). Contains ts o) both had.0)) [
        | inl old ↦ noted_all place version v.slow o old (own_parts place t.number o had.1).0
        | inr new ↦ noted_all place version v.fast o new (own_parts place t.number o had.1).0
      ];
    }

pub readings_note : ReadingsNote
readings_note s r place has seat m m′ there st found may at play =
    let h = may.0 in
    let standing : VersionedDefinition = h.book.standing in
    let e : m′ ≡ read_and_put place standing m = play.1 place h.book at may.1.holds.carried in
    let ok = r.places place has.0 has.1 in
    let held = ok.held seat (holder_at place m.0) (at_map (holder_at place) s.views seat m.0 there) h may.1.holds.recorded in
    let is : h.book ≡ ok.book = held.book_is in (
      standing,
      record {
        version = ok.book_ok.version_is ∙ ap (λ (b : BookView). b.standing.version) (sym is);
        at_home = λ free. (ok.book, (ok.free free).0, ap (λ (b : BookView). b.standing) (sym is));
        in_record = λ j w g there_w holds.
            ap (λ (b : BookView). b.standing) ((ok.held j (holder_at place w) (at_map (holder_at place) s.views j w there_w) g holds).book_is ∙ sym is);
      },
      subst (λ (x : Mine). HasRead place standing x.0) (sym e) (Contains-push m.0.reads (record { place = place; standing = standing })),
      noted_by place standing.version m.0 m′.0 (ap (λ (x : Mine). x.0.slow) e) (ap (λ (x : Mine). x.0.fast) e),
    )

-- ---- a version

learns_of : (place : ℕ) (standing : VersionedDefinition) (m m′ : Mine) → m′.0.slow ≡ noting_version place standing.version m.0.slow
    → m′.0.fast ≡ noting_version place standing.version m.0.fast → HasRead place standing m′.0 → LearnsOf place standing m m′
learns_of place standing m m′ slow fast read = record {
  read = read;
  noted = noted_by place standing.version m.0 m′.0 slow fast;
  stands = λ s r has seat there now. read_stands s r place has seat m′.0 there standing read now;
}

pub versions_note : VersionsNote
versions_note place found m m′ st at play =
    let learns = play.1 place at in
    let e = learns.now in
    let standing = learns.standing in (
      standing,
      learns.found,
      learns_of place standing m m′ (ap (λ (x : Mine). x.0.slow) e) (ap (λ (x : Mine). x.0.fast) e)
          (subst (λ (x : Mine). HasRead place standing x.0) (sym e) (Contains-push m.0.reads (record { place = place; standing = standing }))),
    )

pub hits_note : HitsNote
hits_note place found kept m m′ st at play d hit read =
    let noted : m′ ≡ noted_version place found m = rw hit at (play.1 place at).0 in
    learns_of place (record { version = found; definition = Some d }) m m′ (ap (λ (x : Mine). x.0.slow) noted) (ap (λ (x : Mine). x.0.fast) noted)
    (subst (λ (x : Mine). HasRead place (record { version = found; definition = Some d }) x.0) (sym noted) read)

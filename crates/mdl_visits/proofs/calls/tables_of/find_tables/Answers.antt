-- The tables are those of the directory's record, and the session knows them as its latch is given back.
use Rattle.std.proofs.Common.{◌≡◌, ℕ, List, [], refl, sym, ap, ◌∙◌, subst}
use Rattle.mdl_visits.proofs.Lemmas.{HasDirectory, KnownKey, Mine, StandThere, all_stand, all_within, and_made, are_tables, has_taken, informed, knows_no_more, knows_tables, mine, table_of, told_after, unknown}
use Rattle.mdl_visits.proofs.Listing.{took_directory}
use Rattle.mdl_visits.proofs.calls.tables_of.find_tables.Goals as goal

pub put_directory_telling-requires : goal.put_directory_telling-requires
put_directory_telling-requires g c =
    let taken = c.await_directory-directory.ensures.taken in
    let has = subst (λ (m : Mine). HasDirectory taken.1 m) (sym (mine taken.3)) (has_taken taken.1 (and_made taken.0 c.args.seat.now.me)) in
    let schema : List ℕ = c.args.schema.now in
    let tables : List KnownKey = c.in-Ok.found.0.items in record {
      put = (
        taken.1,
        subst (λ (m : Mine). HasDirectory taken.1 m) (sym (mine c.list_tables.ensures.same.0)) has,
        subst (StandThere taken.1) (sym c.deref.ensures.value) (all_stand schema taken.1 tables (are_tables schema taken.1 tables taken.2.distinct (c.in-Ok.ensures.listed taken.1 has))),
      );
    }

pub returns-in-Ok-clause-found : goal.returns-in-Ok-clause-found
returns-in-Ok-clause-found g c =
    let slots : ℕ = c.args.seat.now.table.slots in
    let old : Mine = c.args.seat.now.me in
    let first : Mine = c.await_directory-directory.new.seat.me in
    let listed : Mine = c.list_tables.new.seat.me in
    let new : Mine = c.put_directory_telling.new.self.me in
    let taken = c.await_directory-directory.ensures.taken in
    let has = subst (λ (m : Mine). HasDirectory taken.1 m) (sym (mine taken.3)) (has_taken taken.1 (and_made taken.0 old)) in
    let tables : List KnownKey = c.in-Ok.found.0.items in
    let put : new ≡ informed (unknown listed.0.known tables) listed =
    mine c.put_directory_telling.ensures.made ∙ ap (λ (ts : List KnownKey). informed (unknown listed.0.known ts) listed) c.deref.ensures.value in
    let e = told_after taken.1 taken.0 tables old first listed new (mine taken.3) (mine c.list_tables.ensures.same.0) put in
    let more : List KnownKey = unknown old.0.known tables in (
      taken.1,
      (table_of c.put_directory_telling.ensures.made ∙ table_of c.list_tables.ensures.same.0 ∙ table_of taken.3, took_directory slots taken.1 taken.0 old c.requires.free.idle taken.2 more new e taken.4),
      (
        are_tables c.args.schema.now taken.1 tables taken.2.distinct (c.in-Ok.ensures.listed taken.1 has),
        knows_tables slots taken.1 taken.0 old c.requires.free.idle taken.2 more new e taken.5 tables refl,
      ),
    )

pub returns-in-Err-clause-found : goal.returns-in-Err-clause-found
returns-in-Err-clause-found g c =
    let slots : ℕ = c.args.seat.now.table.slots in
    let old : Mine = c.args.seat.now.me in
    let first : Mine = c.await_directory-directory.new.seat.me in
    let listed : Mine = c.list_tables.new.seat.me in
    let new : Mine = c.put_directory_telling-in-Err.new.self.me in
    let taken = c.await_directory-directory.ensures.taken in
    let e = told_after taken.1 taken.0 [] old first listed new (mine taken.3) (mine c.list_tables.ensures.same.0) (mine c.put_directory_telling-in-Err.ensures.made) in (
      taken.1,
      (
        table_of c.put_directory_telling-in-Err.ensures.made ∙ table_of c.list_tables.ensures.same.0 ∙ table_of taken.3,
        took_directory slots taken.1 taken.0 old c.requires.free.idle taken.2 (unknown old.0.known []) new e taken.4,
      ),
      tt,
    )

pub returns-in-Ok-clause-within : goal.returns-in-Ok-clause-within
returns-in-Ok-clause-within g c =
    let taken = c.await_directory-directory.ensures.taken in
    let has = subst (λ (m : Mine). HasDirectory taken.1 m) (sym (mine taken.3)) (has_taken taken.1 (and_made taken.0 c.args.seat.now.me)) in
    let schema : List ℕ = c.args.schema.now in
    let tables : List KnownKey = c.in-Ok.found.0.items in
    all_within c.args.seat.now.table.slots taken.1 tables taken.2.fit (all_stand schema taken.1 tables (are_tables schema taken.1 tables taken.2.distinct (c.in-Ok.ensures.listed taken.1 has)))

pub returns-in-Err-clause-unchanged : goal.returns-in-Err-clause-unchanged
returns-in-Err-clause-unchanged g c =
    let old : Mine = c.args.seat.now.me in
    let first : Mine = c.await_directory-directory.new.seat.me in
    let listed : Mine = c.list_tables.new.seat.me in
    let new : Mine = c.put_directory_telling-in-Err.new.self.me in
    let taken = c.await_directory-directory.ensures.taken in
    let e = told_after taken.1 taken.0 [] old first listed new (mine taken.3) (mine c.list_tables.ensures.same.0) (mine c.put_directory_telling-in-Err.ensures.made) in
    knows_no_more c.args.seat.now.table.slots taken.1 taken.0 old c.requires.free.idle taken.2 (unknown old.0.known []) new e taken.5 refl

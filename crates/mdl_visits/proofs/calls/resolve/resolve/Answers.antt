-- The session knows the key, which stands at its place by the directory's record.
use Rattle.std.specs.Prelude.{Result}
use Rattle.mdl_visits.proofs.Lemmas.{AtItsTable, Err, HasDirectory, HasLooked, Keys, Ok, ResolveError, SeatState, answered, idle_then, knows_nothing, knows_one, looked, may_inform_looked, refl, subst, ℕ}
use Rattle.mdl_visits.proofs.calls.resolve.resolve.Goals as goal

pub put_directory-requires : goal.put_directory-requires
put_directory-requires g c =
    record { put = may_inform_looked c.args.key.now c.place_for.result c.args.seat.now c.await_directory-directory.new.seat c.place_for.new.seat c.await_directory-directory.ensures.taken c.place_for.ensures.looked }

pub returns-in-Ok : goal.returns-in-Ok
returns-in-Ok g c =
    let key = c.args.key.now in
    let a : SeatState = c.args.seat.now in
    let b : SeatState = c.await_directory-directory.new.seat in
    let found : SeatState = c.place_for.new.seat in
    let e : SeatState = c.put_directory.new.self in
    let place = c.in-Ok.place in
    let taken = c.await_directory-directory.ensures.taken in
    let told = subst (λ (r : Result ℕ ResolveError). (k : Keys) → HasDirectory k b.me → AtItsTable b found (HasLooked b.table.slots key k r)) c.in-Ok.is c.place_for.ensures.looked in
    let put = c.put_directory.ensures.made in
    record {
      idle = idle_then key (Ok place) a b found taken told place e put c.requires.idle;
      known = knows_one key (Ok place) a b found taken told place e put c.requires.idle (looked key (Ok place) a b found taken told).stands;
      refused = tt;
      answer = answered key (Ok place) a b found taken told place e put c.requires.idle;
    }

pub returns-in-Err : goal.returns-in-Err
returns-in-Err g c =
    let key = c.args.key.now in
    let a : SeatState = c.args.seat.now in
    let b : SeatState = c.await_directory-directory.new.seat in
    let found : SeatState = c.place_for.new.seat in
    let e : SeatState = c.put_directory-in-Err.new.self in
    let taken = c.await_directory-directory.ensures.taken in
    let told = subst (λ (r : Result ℕ ResolveError). (k : Keys) → HasDirectory k b.me → AtItsTable b found (HasLooked b.table.slots key k r)) c.in-Err.is c.place_for.ensures.looked in
    let put = c.put_directory-in-Err.ensures.made in
    let refused : Result ℕ ResolveError = Err c.in-Err.cause in
    record {
      idle = idle_then key refused a b found taken told 0 e put c.requires.idle;
      known = tt;
      refused = knows_nothing key refused a b found taken told 0 e put c.requires.idle refl;
      answer = answered key refused a b found taken told 0 e put c.requires.idle;
    }

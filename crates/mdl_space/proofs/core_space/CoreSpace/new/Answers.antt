-- The space speaks for each of its sessions, and none of them pins anything.
use Rattle.std.proofs.Common.{rules, ◌≡◌, ℕ, ◌+◌, ◌≤◌, [], length, true, replicate, subst, sym, ap, ◌∙◌, arith}
use Rattle.std.proofs.lemmas.Bool.Decides.{nat_tests}
use Rattle.std.proofs.lemmas.List.{length-replicate}
use Rattle.mdl_core.specs.Words.{empty_seat, Core, empty_core, has_session, SpeaksFor}
use Rattle.mdl_core.proofs.CoreSound.{empty-sound}
use Rattle.mdl_space.proofs.KnownKeyLemmas.{none_known}
use Rattle.mdl_space.proofs.PinCountLemmas.{counts-first}
use Rattle.mdl_space.proofs.PlaceLemmas.{once_ok}
use Rattle.mdl_space.proofs.SettledLemmas.{settled-first}
use Rattle.mdl_space.proofs.core_space.CoreSpace.new.Goals as goal

session_there : (places sessions who : ℕ) → 1 ≤ who → who ≤ sessions → has_session who (empty_core places sessions) ≡ true
session_there places sessions who least most = grind (arith, nat_tests, length-replicate sessions empty_seat)

pub returns-clause-speaks : goal.returns-clause-speaks
returns-clause-speaks c = λ who least most.
    let core : Core = record { books = c.reserve.new.self.items; seats = c.loop-session.seats.items; places = c.from-2.result } in
    let made : core ≡ empty_core c.args.places c.args.sessions = search rules in
    subst (λ (space : Core). SpeaksFor space who) (sym made) (session_there c.args.places c.args.sessions who least most, empty-sound c.args.places c.args.sessions)

pub invariant_of-result : goal.invariant_of-result
invariant_of-result c =
    let no_books : c.reserve.new.self.items ≡ [] = c.reserve.ensures.items ∙ c.new-books.ensures.items in
    let reserved = once_ok c.reserve.result c.reserve.ensures.ok (sym c.is_err.ensures.value ∙ c.if-is_err.false) in
    let none : length c.reserve.new.self.items ≡ 0 = ap length no_books in
    let seats : c.loop-session.seats.items ≡ replicate c.loop-session._session empty_seat = c.loop-session.invariant in
    let many : length c.loop-session.seats.items ≡ c.loop-session._session = ap length seats ∙ length-replicate c.loop-session._session empty_seat in
    let counts : length c.in-Ok.pinned.items ≡ c.args.places + 1 = ap length c.in-Ok.ensures ∙ length-replicate (c.args.places + 1) 0 in
    record {
      fewest = omega (arith, none);
      most = search rules;
      room = omega (arith, reserved, c.from.ensures, c.from-2.ensures);
      known = none_known c.new-2.result.entries c.reserve.new.self.items c.new-2.ensures.empty no_books;
      sessions = omega (arith, many, c.loop-session.auto._session-end, c.if-sessions-gt-MOST_SESSIONS.false);
      settled = settled-first c.loop-session._session c.loop-session.seats.items seats;
      counts = omega (arith, counts, c.from-2.ensures);
      pinned = counts-first c.in-Ok.pinned.items (c.args.places + 1) c.loop-session._session c.loop-session.seats.items c.in-Ok.ensures seats;
    }

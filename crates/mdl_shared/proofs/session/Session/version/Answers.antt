-- The place is one of the table's, and what stands there is noted under each ticket that the session has there.
use Rattle.std.proofs.Common.{subst, sym, true, ◌≡◌}
use Rattle.mdl_shared.proofs.Lemmas.{SessionView, data_of, is_known, learnt-member, learnt-noted, lists-noted, member, noted-owes, owed-both, place-within, room-kept, version-reads}
use Rattle.mdl_shared.proofs.session.Session.version.Goals as goal

pub read_version-version-requires : goal.read_version-version-requires
read_version-version-requires g c =
    let m = c.self.inside.member in
    let known = subst (λ (s : SessionView). is_known c.args.place (data_of s).known ≡ true) (sym c.self.view_is) c.requires.known in
    record { place = place-within (member m) c.args.place (known) }

pub invariant_of-member : goal.invariant_of-member
invariant_of-member g c =
    let m = c.self.inside.member in
    let known = subst (λ (s : SessionView). is_known c.args.place (data_of s).known ≡ true) (sym c.self.view_is) c.requires.known in
    let did = c.read_version-version.ensures in
    let reads = version-reads m.seat c.read_version-version.new.self m.sessions did.same did.learnt c.note_all.ensures.rest.room in
    record {
      lawful = ∣ learnt-member reads (member m) known ∣₁;
      lists = lists-noted m (learnt-noted reads) did.learnt.found c.note_all.ensures.noted;
      room = λ ask asks. room-kept m.tickets c.note_all.new.self c.note_all.ensures.rest.room (m.room ask asks);
      owed = owed-both m c.note_all.ensures.rest.owes (noted-owes (learnt-noted reads));
    }

pub returns : goal.returns
returns g c =
    let m = c.self.inside.member in
    let did = c.read_version-version.ensures in
    rw (← c.self.view_is) (record {
      read = version-reads m.seat c.read_version-version.new.self m.sessions did.same did.learnt c.note_all.ensures.rest.room;
    })

-- The weight of the mode is what the word counts it by.
use Rattle.mdl_shared.proofs.Lemmas.{ap, by-weight, is_some}
use Rattle.mdl_shared.proofs.member.Member.try_reserved.Goals as goal

pub try_with_room-requires : goal.try_with_room-requires
try_with_room-requires c =
    let may = c.requires.may.1 in record {
      may = record {
        idle = may.idle;
        pinned = may.pinned;
        counted = by-weight c.args.place c.args.mode c.args.self.now.known.known c.weight.result (ap is_some may.counted) c.weight.ensures;
        number = may.number;
        room = may.room;
      };
    }

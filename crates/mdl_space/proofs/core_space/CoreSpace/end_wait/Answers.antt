-- The ticket of a lost wait waits in the book of its place.
use Rattle.std.proofs.Common.{◌≡◌, ◌≢◌, ap}
use Rattle.mdl_calls.specs.declared.answers.Settled.TheVariants as settled_as
use Rattle.mdl_core.specs.Cores.{Core, seat_at}
use Rattle.mdl_space.proofs.ServingLemmas.{seat_here}
use Rattle.mdl_space.proofs.SpeakingLemmas.{wait-stands}
use Rattle.mdl_space.proofs.core_space.CoreSpace.end_wait.Goals as goal

pub leave-requires-clause-key : goal.leave-requires-clause-key
leave-requires-clause-key c =
    let core : Core = c.args.self.now in
    let seat : c.index.result.now ≡ seat_at c.args.who core =
    seat_here core _ c.args.who c.from.result c.index.result.now (ap (λ (k : Core). k.seats) c.self.view_is) c.requires.0 c.from.ensures c.index.ensures in
    let lost : c.in-Some-settled.how ≢ settled_as.Granted = λ won. cc in
    (wait-stands core c.args.who c.requires c.index.result.now c.wait.result c.in-Some.wait c.in-Some-settled.how seat c.wait.ensures c.in-Some.is c.in-Some-settled.is lost).0

pub leave-requires-clause-waits : goal.leave-requires-clause-waits
leave-requires-clause-waits c =
    let core : Core = c.args.self.now in
    let seat : c.index.result.now ≡ seat_at c.args.who core =
    seat_here core _ c.args.who c.from.result c.index.result.now (ap (λ (k : Core). k.seats) c.self.view_is) c.requires.0 c.from.ensures c.index.ensures in
    let lost : c.in-Some-settled.how ≢ settled_as.Granted = λ won. cc in
    (wait-stands core c.args.who c.requires c.index.result.now c.wait.result c.in-Some.wait c.in-Some-settled.how seat c.wait.ensures c.in-Some.is c.in-Some-settled.is lost).1

pub leave-requires-in-Timeout-clause-key : goal.leave-requires-in-Timeout-clause-key
leave-requires-in-Timeout-clause-key c =
    let core : Core = c.args.self.now in
    let seat : c.index.result.now ≡ seat_at c.args.who core =
    seat_here core _ c.args.who c.from.result c.index.result.now (ap (λ (k : Core). k.seats) c.self.view_is) c.requires.0 c.from.ensures c.index.ensures in
    let lost : c.in-Some-settled.how ≢ settled_as.Granted = λ won. cc in
    (wait-stands core c.args.who c.requires c.index.result.now c.wait.result c.in-Some.wait c.in-Some-settled.how seat c.wait.ensures c.in-Some.is c.in-Some-settled.is lost).0

pub leave-requires-in-Timeout-clause-waits : goal.leave-requires-in-Timeout-clause-waits
leave-requires-in-Timeout-clause-waits c =
    let core : Core = c.args.self.now in
    let seat : c.index.result.now ≡ seat_at c.args.who core =
    seat_here core _ c.args.who c.from.result c.index.result.now (ap (λ (k : Core). k.seats) c.self.view_is) c.requires.0 c.from.ensures c.index.ensures in
    let lost : c.in-Some-settled.how ≢ settled_as.Granted = λ won. cc in
    (wait-stands core c.args.who c.requires c.index.result.now c.wait.result c.in-Some.wait c.in-Some-settled.how seat c.wait.ensures c.in-Some.is c.in-Some-settled.is lost).1

pub leave-requires-in-Killed-clause-key : goal.leave-requires-in-Killed-clause-key
leave-requires-in-Killed-clause-key c =
    let core : Core = c.args.self.now in
    let seat : c.index.result.now ≡ seat_at c.args.who core =
    seat_here core _ c.args.who c.from.result c.index.result.now (ap (λ (k : Core). k.seats) c.self.view_is) c.requires.0 c.from.ensures c.index.ensures in
    let lost : c.in-Some-settled.how ≢ settled_as.Granted = λ won. cc in
    (wait-stands core c.args.who c.requires c.index.result.now c.wait.result c.in-Some.wait c.in-Some-settled.how seat c.wait.ensures c.in-Some.is c.in-Some-settled.is lost).0

pub leave-requires-in-Killed-clause-waits : goal.leave-requires-in-Killed-clause-waits
leave-requires-in-Killed-clause-waits c =
    let core : Core = c.args.self.now in
    let seat : c.index.result.now ≡ seat_at c.args.who core =
    seat_here core _ c.args.who c.from.result c.index.result.now (ap (λ (k : Core). k.seats) c.self.view_is) c.requires.0 c.from.ensures c.index.ensures in
    let lost : c.in-Some-settled.how ≢ settled_as.Granted = λ won. cc in
    (wait-stands core c.args.who c.requires c.index.result.now c.wait.result c.in-Some.wait c.in-Some-settled.how seat c.wait.ensures c.in-Some.is c.in-Some-settled.is lost).1

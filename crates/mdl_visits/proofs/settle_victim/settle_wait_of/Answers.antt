-- Where it stands among none of the words, nothing was done.
use Rattle.std.proofs.Common.{◌≡◌, ℕ, ◌≤◌, false, List, get_or, length, None, Option, Some, sym, ap, ◌∙◌, subst, arith, take_all}
use Rattle.mdl_visits.proofs.Lemmas.{SeatState, TriesToSettle, WaitRead, none_still, read_first, read_of, tries_nothing}
use Rattle.mdl_visits.proofs.settle_victim.settle_wait_of.Goals as goal

pub returns : goal.returns
returns c =
    let read : Option WaitRead = read_of c.args.victim c.args.words.now in
    let all : length c.args.words.now ≤ c.loop-read.read-index = omega (arith, c.loop-read-test.false) in
    let none : read ≡ None = ap (read_of c.args.victim) (sym (take_all c.loop-read.read-index c.args.words.now all)) ∙ c.loop-read.invariant.none in
    subst (λ (s : SeatState). TriesToSettle c.args.victim read false c.args.seat.now s) (sym c.loop-read.invariant.same) (tries_nothing c.args.victim read c.args.seat.now (rw none tt))

pub loop-read-preserved : goal.loop-read-preserved
loop-read-preserved c =
    let none : WaitRead = record { session = 0; word = record { 0 = 0 } } in
    record {
      same = c.loop-read.invariant.same;
      none = none_still c.args.victim c.args.words.now c.loop-read.read-index none c.loop-read-test.true c.loop-read.invariant.none c.if-read-victim.false;
    }

pub returns-then-read-victim : goal.returns-then-read-victim
returns-then-read-victim c =
    let none : WaitRead = record { session = 0; word = record { 0 = 0 } } in
    let words : List WaitRead = c.args.words.now in
    let r : WaitRead = get_or words c.loop-read.read-index none in
    let first = read_first c.args.victim words c.loop-read.read-index none c.loop-read-test.true c.loop-read.invariant.none c.if-read-victim.true in
    subst (λ (read : Option WaitRead). TriesToSettle c.args.victim read c.settle_by_word.result c.args.seat.now c.settle_by_word.new.seat) (sym first)
    (subst (λ (s : SeatState). TriesToSettle c.args.victim (Some r) c.settle_by_word.result s c.settle_by_word.new.seat) c.loop-read.invariant.same
    (subst (λ (n : ℕ). TriesToSettle n (Some r) c.settle_by_word.result c.loop-read.seat c.settle_by_word.new.seat) c.if-read-victim.true c.settle_by_word.ensures))

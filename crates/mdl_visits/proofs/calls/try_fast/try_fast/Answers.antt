-- The ticket was granted after tries that missed, the flag OBTRUSIVE was up, or each try missed.
use Rattle.std.proofs.Common.{◌≡◌, sym, ap, ◌∙◌, subst}
use Rattle.mdl_word.specs.declared.word.Word.{Word}
use Rattle.mdl_visits.proofs.Lemmas.{FindsObtrusive, mine, obtrusive_flag, place_there, table_of}
use Rattle.mdl_visits.proofs.FastTrying.{first_miss, grants_at_last, grants_fast, grants_first, lasts_first, may_again, missed_again, stays_first, stays_granted, stays_missed}
use Rattle.mdl_visits.proofs.calls.try_fast.try_fast.Goals as goal
use Rattle.mdl_visits.specs.declared.calls.try_fast.FastTried.TheVariants.{Obtruded}

-- ---- the first one

pub grant_fast-met-requires-clause-down : goal.grant_fast-met-requires-clause-down
grant_fast-met-requires-clause-down c = c.unobtruded-expected.ensures.has_obtrusive

pub returns-then-met-expected-clause-granted : goal.returns-then-met-expected-clause-granted
returns-then-met-expected-clause-granted c = λ is.
    let met = c.grant_fast-met.result.0 in
    let granted = c.grant_fast-met.ensures.gained c.if-met-expected.true in
    let down = ap obtrusive_flag c.if-met-expected.true ∙ c.unobtruded-expected.ensures.has_obtrusive in (
      (table_of granted, grants_first c.args.place c.args.mode c.args.noted met c.args.seat.now.me _ (mine granted)),
      lasts_first c.args.place c.args.mode c.args.noted met c.args.seat.now.me _ (mine granted) down,
    )

pub returns-then-met-expected-clause-stays : goal.returns-then-met-expected-clause-stays
returns-then-met-expected-clause-stays c =
    stays_first c.args.place c.args.mode c.args.noted c.grant_fast-met.result.0 c.args.seat.now.me _ (mine (c.grant_fast-met.ensures.gained c.if-met-expected.true))

-- ---- the loop

pub loop-init : goal.loop-init
loop-init c =
    let missed = c.grant_fast-met.ensures.missed c.if-met-expected.false in
    record { table = table_of missed; missed = first_miss c.args.place c.grant_fast-met.result.0 c.args.seat.now.me _ (mine missed) }

pub grant_fast-found-requires : goal.grant_fast-found-requires
grant_fast-found-requires c =
    let inv = c.loop.invariant in
    record {
      place = place_there c.args.place inv.table c.requires.place;
      down = sym c.obtrusive.ensures.any_number ∙ c.if-obtrusive.false;
      gained = may_again inv.missed c.args.mode c.args.noted c.args.one c.requires.gained;
    }

pub loop-preserved : goal.loop-preserved
loop-preserved c =
    let inv = c.loop.invariant in
    let tried = c.grant_fast-found in
    let missed = tried.ensures.missed c.if-found-word.false in
    let clear = sym c.obtrusive.ensures.any_number ∙ c.if-obtrusive.false in
    record { table = table_of missed ∙ inv.table; missed = missed_again inv.missed tried.result.0 tried.new.self.me (mine missed) clear c.if-found-word.false }

-- ---- what came of it

one_word : (a b : Word) → Obtruded a ≡ Obtruded b → a ≡ b
one_word a b e = cc

pub returns-then-obtrusive-clause-obtruded : goal.returns-then-obtrusive-clause-obtruded
returns-then-obtrusive-clause-obtruded c = λ word is.
    let inv = c.loop.invariant in
    let up = sym c.obtrusive.ensures.any_number ∙ c.if-obtrusive.true in (
      inv.table,
      subst (λ (w : Word). FindsObtrusive c.args.place w.0 c.args.seat.now.me c.loop.seat.me) (one_word c.loop.word word is)
          ((c.loop.counter, c.loop-test.true, inv.missed), up),
    )

pub returns-then-obtrusive-clause-stays : goal.returns-then-obtrusive-clause-stays
returns-then-obtrusive-clause-stays c = stays_missed c.loop.invariant.missed

pub returns-then-found-word-clause-granted : goal.returns-then-found-word-clause-granted
returns-then-found-word-clause-granted c = λ is.
    let inv = c.loop.invariant in
    let tried = c.grant_fast-found in
    let granted = tried.ensures.gained c.if-found-word.true in
    let now = mine granted in
    let mode = c.args.mode in
    let noted = c.args.noted in
    let found = tried.result.0 in
    let down = ap obtrusive_flag c.if-found-word.true ∙ sym c.obtrusive.ensures.any_number ∙ c.if-obtrusive.false in (
      (table_of granted ∙ inv.table, grants_fast inv.missed mode noted found _ now),
      grants_at_last inv.missed mode noted found _ now c.loop-test.true c.if-found-word.true down,
    )

pub returns-then-found-word-clause-stays : goal.returns-then-found-word-clause-stays
returns-then-found-word-clause-stays c =
    let tried = c.grant_fast-found in
    stays_granted c.loop.invariant.missed c.args.mode c.args.noted tried.result.0 _ (mine (tried.ensures.gained c.if-found-word.true))

pub returns-clause-stays : goal.returns-clause-stays
returns-clause-stays c = stays_missed c.loop.invariant.missed

-- Both acts about the session are tried.
use Rattle.std.proofs.Common.{◌∙◌, ap, leb, sym}
use Rattle.mdl_view.specs.Acts.{target_of}
use Rattle.mdl_view.specs.Passes.{frees_some}
use Rattle.mdl_view.specs.SessionSets.{has}
use Rattle.mdl_view.proofs.WayLemmas.{apart_below, apart_query, not_alone, ways_more, ways_skip}
use Rattle.mdl_view.proofs.ways_out.add_ways_of.Goals as goal

pub returns-then-not-contains : goal.returns-then-not-contains
returns-then-not-contains c =
    ways_skip c.args.locks.now c.args.session c.args.found.now.items
    (not_alone (frees_some c.args.locks.now c.args.session) (has c.args.candidates.now c.args.session) c.requires.candidates
    (sym c.contains.ensures ∙ c.if-not-contains.true)) c.requires.known

pub place_if-requires : goal.place_if-requires
place_if-requires c = record {
  apart = apart_below c.args.session c.args.found.now.items c.in_ok-query.query (ap target_of c.in_ok-query.ensures.act) c.requires.known.below;
  in_order = c.requires.known.in_order;
}

pub place_if-requires-2 : goal.place_if-requires-2
place_if-requires-2 c = record {
  apart = apart_query c.args.session c.args.found.now.items c.place_if.new.found.items c.in_ok-query.query c.in_ok-kill.kill (leb 1 c.in_ok-query.query.in_turn)
      c.in_ok-query.ensures.act c.in_ok-kill.ensures.act c.requires.known.below c.in_ok-place_if.ensures.put;
  in_order = c.in_ok-place_if.ensures.in_order;
}

pub returns : goal.returns
returns c =
    ways_more c.args.locks.now c.args.session c.in_ok-query.query c.in_ok-kill.kill c.in_ok-query.ensures.way c.in_ok-kill.ensures.way
    c.in_ok-query.ensures.act c.in_ok-kill.ensures.act c.args.found.now.items c.place_if.new.found.items c.place_if-2.new.found.items
    c.requires.known c.in_ok-place_if.ensures.put c.in_ok-place_if-2.ensures.put c.in_ok-place_if-2.ensures.in_order

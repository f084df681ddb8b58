-- The mark of a pinned place has the kind of its lock.
use Rattle.std.proofs.Common.{◌≡◌, Some, sym, ap, ◌∙◌, arith}
use Rattle.std.proofs.lemmas.Option.{slice_get_within}
use Rattle.mdl_visits.proofs.Common.{option_and_then}
use Rattle.mdl_visits.proofs.KeyLists.{mark_within, pinned_kind}
use Rattle.mdl_visits.proofs.Pins.{mark_found, pin_found}
use Rattle.mdl_visits.specs.OwnKeys.{kind_if_pinned, kind_in}
use Rattle.mdl_visits.specs.declared.known_keys.Mark.{Mark}
use Rattle.mdl_visits.proofs.known_keys.KnownKeys.kind_at.Goals as goal

pub index-requires : goal.index-requires
index-requires c =
    let marks = c.self.inside.marks.items in
    let found = mark_found c.args.place marks (sym (pin_found c.args.place marks) ∙ (rw (← c.self.view_is) at c.requires.pinned)) in
    let within = slice_get_within marks c.args.place found.0 found.1 in
    omega (arith, within)

pub returns : goal.returns
returns c =
    let entries = c.self.inside.places.entries in
    let marks = c.self.inside.marks.items in
    let mark = c.index.result.now in
    let found = mark_found c.args.place marks (sym (pin_found c.args.place marks) ∙ (rw (← c.self.view_is) at c.requires.pinned)) in
    let there = mark_within c.args.place marks mark (slice_get_within marks c.args.place found.0 found.1) c.index.ensures in
    let same : Some found.0 ≡ Some mark = sym found.1 ∙ there in
    let one : found.0 ≡ mark = cc in
    let kind : kind_in c.args.place marks ≡ Some mark.kind =
    ap (option_and_then kind_if_pinned) found.1 ∙ rw found.2 (ap (λ (m : Mark). Some m.kind) one) in
    rw (← c.self.view_is) (pinned_kind entries marks c.self.invariant.kinds c.self.invariant.pinned c.args.place mark.kind kind)

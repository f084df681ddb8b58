-- The numbers and the places are as they were, and no fast ticket has the number.
use Rattle.mdl_shared.proofs.Lemmas.{kept_mode, mode_at, mode_none, mode_nowhere, not, refl, ◌∙◌}
use Rattle.mdl_shared.proofs.tickets.Tickets.set_mode.Goals as goal

pub invariant_of-self : goal.invariant_of-self
invariant_of-self c =
    kept_mode c.self.inside.places.items c.self.inside.gained.items c.self.inside.fast c.in-Some.at c.index_mut.result.now c.args.mode
    (rw c.deref.ensures.value at c.in-Some.ensures).0.0 c.index_mut.ensures.value c.self.invariant

pub returns-in-Some-clause-changed : goal.returns-in-Some-clause-changed
returns-in-Some-clause-changed c =
    let ps = c.self.inside.places.items in
    let xs = c.self.inside.gained.items in
    let ticket = c.index_mut.result.now in
    let stands = rw (c.in-Some.is, c.deref.ensures.value) at c.index_at.ensures in
    let there = rw (← c.index_mut.ensures.value) at (stands.1 ticket) in
    let same = mode_nowhere c.args.place c.args.id c.args.mode c.args.self.now.fast c.requires.slow in (
      rw (← c.self.view_is) (mode_at c.args.place c.args.id c.args.mode ps (λ t. not t.fast) xs c.in-Some.at ticket c.self.invariant.rising stands.0 c.index_mut.ensures.value there refl),
      rw (← c.self.view_is) (mode_at c.args.place c.args.id c.args.mode ps (λ t. t.fast) xs c.in-Some.at ticket c.self.invariant.rising stands.0 c.index_mut.ensures.value there refl)
          ∙ same,
    )

pub returns-in_default-clause-changed : goal.returns-in_default-clause-changed
returns-in_default-clause-changed c = (
  rw (← c.self.view_is)
      (mode_none c.args.place c.args.id c.args.mode c.self.inside.places.items (λ t. not t.fast) c.self.inside.gained.items (rw (c.in_default.is, c.deref.ensures.value) at c.index_at.ensures)),
  refl,
)

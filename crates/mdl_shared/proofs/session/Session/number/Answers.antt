-- What is always so of the session comes out of its ghost field.
use Rattle.mdl_shared.proofs.Props.{member}
use Rattle.mdl_shared.proofs.session.Session.number.Goals as goal

pub returns : goal.returns
returns g c =
    let is = member c.self.inside.member in rw (← c.self.view_is) (record { number = c.number.ensures; speaks = (c.number.ensures, is.sound); lawful = is })

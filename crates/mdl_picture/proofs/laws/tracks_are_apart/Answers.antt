-- A track is behind those of all bars that go on.
use Rattle.mdl_picture.proofs.TrackLaws.{tracks_are_apart}
use Rattle.mdl_picture.proofs.laws.tracks_are_apart.Goals as goal

pub returns : goal.returns
returns c = tracks_are_apart

-- How the searches for deadlocks end, as the code of a context represents it.
use Rattle.std.specs.Prelude.{Bool, true, false, Result, Ok, Err}
use Rattle.mdl_calls.specs.declared.space_error.SpaceError.{SpaceError}
use Rattle.mdl_calls.specs.Searches.{SearchEnd, Over, Cut_off, Failed}

-- how the searches ended: they are over, were cut off, or one was refused
abbrev pub sought : Result Bool SpaceError → SearchEnd
sought (Ok true) = Over
sought (Ok false) = Cut_off
sought (Err refusal) = Failed refusal

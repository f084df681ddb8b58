-- A wish: a request for a lock, as plain data.
use Rattle.mdl_key.specs.declared.mode.Mode.{Mode}
use Rattle.mdl_key.specs.declared.mode.Duration.{Duration}
use Rattle.mdl_key.specs.Keys.{KeyName}
use Rattle.mdl_context.specs.declared.request.Request.{Request}

-- a wish: the key to lock, the mode, and the duration
pub record Wish : Type 0 where
  pub key : KeyName
  pub mode : Mode
  pub duration : Duration

-- the wish of a request
abbrev pub wish_of_request : Request → Wish
wish_of_request request = record { key = request.key.now; mode = request.mode; duration = request.duration }

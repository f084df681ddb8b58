-- Sessions of a space that threads share, which run statements.
use Rattle.mdl_calls.specs.SessionData.{SpeaksFor, own_of, numbers_of, Knows, IsSettledAs, HasMet, HasRead, HasSeen}
use Rattle.mdl_session_laws.specs.SessionJoins.{Joins}
use Rattle.mdl_calls.specs.declared.lock_space.LockSpace.{Ghosts}
use Rattle.mdl_shared.specs.Debts.{Owes}
use Rattle.mdl_shared.specs.KeptReads.{UsesKept}
use Rattle.mdl_shared.specs.SessionViews.{SessionView, data_of}
use Rattle.mdl_shared.specs.AllSteps.{Shows}

-- the definitions that a session gives the trait `LockSpace`
abbrev pub session_space : Ghosts SessionView
session_space = record {
  speaks_for = λ s. SpeaksFor (data_of s);
  own = λ s. own_of (data_of s);
  knows = λ s. Knows (data_of s);
  is_settled = λ s. IsSettledAs (data_of s);
  numbers = λ s. numbers_of (data_of s);
  has_read = λ s. HasRead (data_of s);
  has_met = λ s. HasMet (data_of s);
  has_seen = λ s. HasSeen (data_of s);
  owes = λ s. Owes s;
  joins = λ s call answer t. Joins (data_of s) call answer (data_of t) × Shows call answer s t;
  uses_cache = λ s who id answer before after t. UsesKept id answer s t before after;
}

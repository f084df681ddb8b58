-- A call that is refused joins a session to one that has, knows and has read the same: what is left to show is the cause, and what was met of the wait.
use Rattle.std.proofs.Common.{inl, ◌≡◌, true, false, Option, Some, IfSome, refl, sym, ap, subst, ◌∙◌}
use Rattle.mdl_session_laws.proofs.Common.{Call, Draws, End_wait, IsCause, Joins, KeepsSettled, Knows, LearnsKeys, LetsRead, Numbers, Poll_wait, Read_definition, Read_kept, ReadsNothing, Refused, Resolve, SessionData, SessionLocks, Settled, SpaceError, SpeaksFor, TellsTruly, Try_now, caller, ends_wait, is_answer_of, noted_at, own_after, told, wait_met}

-- all is the same but how the wait is settled, which may have been learnt
pub record KeepsAll (a b : SessionData) : Type 0 where
  pub number : b.number ≡ a.number
  pub own : b.own ≡ a.own
  pub numbers : b.numbers ≡ a.numbers
  pub known : b.known ≡ a.known
  pub settled : KeepsSettled false a b
  pub notes : b.notes ≡ a.notes
  pub reads : b.reads ≡ a.reads

-- nothing is read, or noted
pub reads-nothing : (a b : SessionData) → b.reads ≡ a.reads → b.notes ≡ a.notes → ReadsNothing a b
reads-nothing a b reads notes = record {
  reads = reads;
  noted = λ place version noted. ap (noted_at place) (sym notes) ∙ noted;
  carried = λ place version holds noted. ap (noted_at place) notes ∙ noted;
}

refused-own : (call : Call) (why : SpaceError) (own : SessionLocks) → own_after call (Refused why) own ≡ own
refused-own (Try_now who place mode) why own = refl
refused-own _ why own = refl

refused-draws : (call : Call) (why : SpaceError) (before after : Numbers) → after ≡ before → Draws call (Refused why) before after
refused-draws (Try_now who place mode) why before after e = e
refused-draws _ why before after e = e

refused-learns : (call : Call) (why : SpaceError) (a b : SessionData) → b.known ≡ a.known → LearnsKeys call (Refused why) a.known b.known
refused-learns (Resolve who key) why a b e = e
refused-learns _ why a b e = e

refused-told : (call : Call) (why : SpaceError) (how : Settled) (b : SessionData) → told call (Refused why) ≡ Some how → b.settled ≡ Some how
refused-told (Poll_wait who) why how b e = cc
refused-told _ why how b e = cc

refused-ends : (call : Call) (why : SpaceError) → ends_wait call (Refused why) ≡ false
refused-ends (End_wait who) why = refl
refused-ends _ why = refl

refused-reads : (call : Call) (why : SpaceError) (a b : SessionData) → ReadsNothing a b → LetsRead call (Refused why) a b
refused-reads (Read_definition who id) why a b nothing = nothing
refused-reads (Read_kept who id) why a b nothing = inl nothing
refused-reads _ why a b nothing = nothing

pub refused-joins : (a b : SessionData) (call : Call) (why : SpaceError) → IfSome (caller call) (SpeaksFor a)
    → is_answer_of call (Refused why) ≡ true → KeepsAll a b → IsCause (Knows a a.number) call why a.own
    → ((state : Option Settled) (how : Settled) → wait_met call (Refused why) ≡ Some state → a.settled ≡ Some how → state ≡ Some how)
    → TellsTruly call (Refused why) a b → Joins a call (Refused why) b
refused-joins a b call why mine fits same cause agreed truly = record {
  mine = mine;
  fits = fits;
  number = same.number;
  own = same.own ∙ sym (refused-own call why a.own);
  numbers = refused-draws call why a.numbers b.numbers same.numbers;
  explained = cause;
  learns = refused-learns call why a b same.known;
  agreed = agreed;
  told = λ how is. refused-told call why how b is;
  settled = subst (λ ends. KeepsSettled ends a b) (sym (refused-ends call why)) same.settled;
  reads = refused-reads call why a b (reads-nothing a b same.reads same.notes);
  truly = truly;
}

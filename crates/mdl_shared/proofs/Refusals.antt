-- A call that is refused for what the session has of its own, before any step.
use Rattle.std.proofs.Common.{◌≡◌, List, [], Some, IfSome, Option, inl, refl, sym, subst, append-nil}
use Rattle.mdl_shared.proofs.Common.{Begin_wait, Call, Change_definition, Clone_ticket, Deed, Does, Downgrade, End_wait, Key_of, Kill, Lists, MakesNoStep, Merge, Mine, Poll_wait, Read_definition, Read_kept, Refused, Release, Resolve, Search, SessionTicket, SessionView, Settle_timeout, Shows, SpaceError, Tables_of, Try_now, Upgrade_now, Wait_of, lists_seen, steps_of, tickets_seen}
use Rattle.mdl_shared.proofs.Rooms.{keeps-same}

-- without a step nothing is done, and the session stays
pub does-nothing : (m : Mine) → Does [] m m
does-nothing m = ([], sym (append-nil m.0.log), refl)

-- a refusal does no deed, settles no wait, and changes nothing that is known or owed
done-refused : (call : Call) (why : SpaceError) (tickets : List SessionTicket) → (steps_of call).did (Refused why) tickets ≡ []
done-refused (Try_now who place mode) why tickets = refl
done-refused _ why tickets = refl

settled-refused : (call : Call) (why : SpaceError) (l : Lists) (s : SessionView) → (steps_of call).settled (Refused why) l s s
settled-refused (Search who) why l s = refl
settled-refused _ why l s = refl

told-same : (call : Call) (s : SessionView) → (steps_of call).told s s
told-same (Search who) s = tt
told-same (Poll_wait who) s = tt
told-same (Settle_timeout who) s = tt
told-same (End_wait who) s = tt
told-same (Wait_of target) s = tt
told-same (Kill target number) s = tt
told-same (Release who id) s = tt
told-same (Downgrade who id mode) s = tt
told-same _ s = refl

owes-refused : (call : Call) (why : SpaceError) (s : SessionView) → (steps_of call).owes (Refused why) s s
owes-refused (Search who) why s = refl
owes-refused _ why s = (refl, refl)

-- it meets nothing but its own fault
own-met : (call : Call) (why : SpaceError) (l : Lists) (s : SessionView) → (steps_of call).fault s.pins l ≡ Some why → (steps_of call).met (Refused why) l s s
own-met (Resolve who key) why l s e = cc
own-met (Try_now who place mode) why l s e = inl e
own-met (Begin_wait who place mode) why l s e = inl e
own-met (Search who) why l s e = cc
own-met (Poll_wait who) why l s e = e
own-met (Settle_timeout who) why l s e = e
own-met (End_wait who) why l s e = inl e
own-met (Release who id) why l s e = e
own-met (Clone_ticket who id mode) why l s e = inl e
own-met (Upgrade_now who id mode) why l s e = inl e
own-met (Merge who old new) why l s e = inl e
own-met (Downgrade who id mode) why l s e = e
own-met (Read_definition who id) why l s e = inl e
own-met (Read_kept who id) why l s e = inl e
own-met (Change_definition who id change) why l s e = inl e
own-met (Tables_of who schema) why l s e = cc
own-met (Key_of who place) why l s e = refl
own-met _ why l s e = cc

-- so a call that has a fault of the session's own shows just that
pub own-shows : (call : Call) (why : SpaceError) (s : SessionView) → (steps_of call).fault s.pins (lists_seen s.me.0) ≡ Some why → Shows call (Refused why) s s
own-shows call why s fault = record {
  table = refl;
  sessions = refl;
  refused = subst (λ (o : Option SpaceError). IfSome o (λ w. (Refused why ≡ Refused w) × MakesNoStep s s)) (sym fault) (refl, refl);
  did = subst (λ (ds : List Deed). Does ds s.me s.me) (sym (done-refused call why (tickets_seen s.me.0))) (does-nothing s.me);
  settled = settled-refused call why (lists_seen s.me.0) s;
  told = told-same call s;
  met = own-met call why (lists_seen s.me.0) s fault;
  room = keeps-same s.room;
  debts = λ place owed. owed;
  owes = owes-refused call why s;
}

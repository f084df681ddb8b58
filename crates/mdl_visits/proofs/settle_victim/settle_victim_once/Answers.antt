-- The words that were read say what came of it.
use Rattle.std.proofs.Common.{◌≡◌, ℕ, List, Some, refl, sym, ap, ◌∙◌, subst, IfSome}
use Rattle.mdl_visits.proofs.Lemmas.{AreRead, Audited, IsBuiltOf, Member, Mine, SeatState, SettlesNothing, WaitRead, WasOther, books_of, finds_none, finds_victim, misses_victim, read_of, reads_on, settled_by, victim_in}
use Rattle.mdl_visits.proofs.settle_victim.settle_victim_once.Goals as goal

pub returns-in-None : goal.returns-in-None
returns-in-None c =
    let words : List WaitRead = c.read_waits.new.words.items in
    let read = c.in_ok-read_waits.ensures in
    let all = subst (λ (wishes : List Member). AreRead wishes words c.args.seat.now c.read_waits.new.seat) c.wishes.ensures read.all in
    let a : SeatState = c.args.seat.now in
    let b : SeatState = c.read_waits.new.seat in record {
      reads = read.reads.0;
      found = finds_none c.args.graph.now a b b read.reads words all refl (λ audited built.
          ap (λ (ws : List WaitRead). victim_in (settled_by ws) (books_of audited) a.me.0.number) (sym c.deref.ensures.value)
          ∙ ap (λ (n : ℕ). victim_in (settled_by c.deref.result.now) (books_of audited) n) (sym (c.number.ensures ∙ ap (λ (m : Mine). m.0.number) read.reads.0.1.reads.now))
          ∙ sym (c.in_ok-find_victim.ensures audited built)
          ∙ c.in-None.is);
      nothing = tt;
    }

pub returns-in-Some : goal.returns-in-Some
returns-in-Some c =
    let words : List WaitRead = c.read_waits.new.words.items in
    let read = c.in_ok-read_waits.ensures in
    let all = subst (λ (wishes : List Member). AreRead wishes words c.args.seat.now c.read_waits.new.seat) c.wishes.ensures read.all in
    let a : SeatState = c.args.seat.now in
    let b : SeatState = c.read_waits.new.seat in
    let d : SeatState = c.settle_wait_of.new.seat in
    let is : (audited : List Audited) → IsBuiltOf audited c.args.graph.now → victim_in (settled_by words) (books_of audited) a.me.0.number ≡ Some c.in-Some.victim = λ audited built.
    ap (λ (ws : List WaitRead). victim_in (settled_by ws) (books_of audited) a.me.0.number) (sym c.deref.ensures.value)
    ∙ ap (λ (n : ℕ). victim_in (settled_by c.deref.result.now) (books_of audited) n) (sym (c.number.ensures ∙ ap (λ (m : Mine). m.0.number) read.reads.0.1.reads.now))
    ∙ sym (c.in_ok-find_victim.ensures audited built)
    ∙ c.in-Some.is in record {
      reads = reads_on a b d read.reads.0 c.settle_wait_of.ensures.reads;
      found = finds_victim c.args.graph.now a b d read.reads words all c.in-Some.victim c.settle_wait_of.ensures.reads is (c.settle_wait_of.ensures.settled c.if-settle_wait_of.true);
      nothing = tt;
    }

pub returns : goal.returns
returns c =
    let words : List WaitRead = c.read_waits.new.words.items in
    let read = c.in_ok-read_waits.ensures in
    let all = subst (λ (wishes : List Member). AreRead wishes words c.args.seat.now c.read_waits.new.seat) c.wishes.ensures read.all in
    let a : SeatState = c.args.seat.now in
    let b : SeatState = c.read_waits.new.seat in
    let d : SeatState = c.settle_wait_of.new.seat in
    let is : (audited : List Audited) → IsBuiltOf audited c.args.graph.now → victim_in (settled_by words) (books_of audited) a.me.0.number ≡ Some c.in-Some.victim = λ audited built.
    ap (λ (ws : List WaitRead). victim_in (settled_by ws) (books_of audited) a.me.0.number) (sym c.deref.ensures.value)
    ∙ ap (λ (n : ℕ). victim_in (settled_by c.deref.result.now) (books_of audited) n) (sym (c.number.ensures ∙ ap (λ (m : Mine). m.0.number) read.reads.0.1.reads.now))
    ∙ sym (c.in_ok-find_victim.ensures audited built)
    ∙ c.in-Some.is in
    let missed : SettlesNothing b.me d.me × IfSome (read_of c.in-Some.victim words) (WasOther b.table.slots b.me d.me) =
    subst (λ (ws : List WaitRead). SettlesNothing b.me d.me × IfSome (read_of c.in-Some.victim ws) (WasOther b.table.slots b.me d.me)) (search) (c.settle_wait_of.ensures.missed c.if-settle_wait_of.false) in
    record {
      reads = reads_on a b d read.reads.0 c.settle_wait_of.ensures.reads;
      found = misses_victim c.args.graph.now a b d read.reads words all c.in-Some.victim c.settle_wait_of.ensures.reads is missed;
      nothing = tt;
    }

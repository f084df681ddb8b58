-- One step met the word.
use Rattle.mdl_visits.proofs.Lemmas.{WaitRead, mine, only_reads_word, refl, rules, was_read}
use Rattle.mdl_visits.proofs.waits_read.add_wait.Goals as goal

pub returns : goal.returns
returns c =
    let r : WaitRead = record { session = c.args.session; word = c.read_wait-word.result } in
    record {
      read = (
        only_reads_word c.args.seat.now.table.slots c.args.session c.read_wait-word.result.0 c.args.seat.now c.read_wait-word.new.self c.read_wait-word.ensures.own c.read_wait-word.ensures.made,
        (r, refl, c.in_ok-push.ensures.items, was_read c.args.seat.now.table.slots r c.args.seat.now.me c.read_wait-word.new.self.me (mine c.read_wait-word.ensures.made)),
      );
    }

pub returns-in_err-push : goal.returns-in_err-push
returns-in_err-push c = record {
  read = (
    only_reads_word c.args.seat.now.table.slots c.args.session c.read_wait-word.result.0 c.args.seat.now c.read_wait-word.new.self c.read_wait-word.ensures.own c.read_wait-word.ensures.made,
    search rules,
  );
}

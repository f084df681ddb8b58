-- Each arm has read the bytes of its word.
use Rattle.std.proofs.Common.{codes, arith, sym, ap}
use Rattle.std.proofs.lemmas.Slice.Eq.{text_from_reads}
use Rattle.mdl_syntax.specs.Verbs.{verb_of}
use Rattle.mdl_syntax.proofs.verb.verb_of.Goals as goal

pub returns-in-BEGIN : goal.returns-in-BEGIN
returns-in-BEGIN c = sym (ap verb_of (text_from_reads c.args.word.now (codes "BEGIN") (omega arith) (omega arith, (omega arith, (omega arith, (omega arith, (omega arith, tt)))))))

pub returns-in-START : goal.returns-in-START
returns-in-START c = sym (ap verb_of (text_from_reads c.args.word.now (codes "START") (omega arith) (omega arith, (omega arith, (omega arith, (omega arith, (omega arith, tt)))))))

pub returns-in-COMMIT : goal.returns-in-COMMIT
returns-in-COMMIT c = sym (ap verb_of (text_from_reads c.args.word.now (codes "COMMIT") (omega arith) (omega arith, (omega arith, (omega arith, (omega arith, (omega arith, (omega arith, tt))))))))

pub returns-in-ROLLBACK : goal.returns-in-ROLLBACK
returns-in-ROLLBACK c = sym (ap verb_of (text_from_reads c.args.word.now (codes "ROLLBACK") (omega arith) (omega arith, (omega arith, (omega arith, (omega arith, (omega arith, (omega arith, (omega arith, (omega arith, tt))))))))))

pub returns-in-SAVEPOINT : goal.returns-in-SAVEPOINT
returns-in-SAVEPOINT c = sym (ap verb_of (text_from_reads c.args.word.now (codes "SAVEPOINT") (omega arith) (omega arith, (omega arith, (omega arith, (omega arith, (omega arith, (omega arith, (omega arith, (omega arith, (omega arith, tt)))))))))))

pub returns-in-SELECT : goal.returns-in-SELECT
returns-in-SELECT c = sym (ap verb_of (text_from_reads c.args.word.now (codes "SELECT") (omega arith) (omega arith, (omega arith, (omega arith, (omega arith, (omega arith, (omega arith, tt))))))))

pub returns-in-INSERT : goal.returns-in-INSERT
returns-in-INSERT c = sym (ap verb_of (text_from_reads c.args.word.now (codes "INSERT") (omega arith) (omega arith, (omega arith, (omega arith, (omega arith, (omega arith, (omega arith, tt))))))))

pub returns-in-UPDATE : goal.returns-in-UPDATE
returns-in-UPDATE c = sym (ap verb_of (text_from_reads c.args.word.now (codes "UPDATE") (omega arith) (omega arith, (omega arith, (omega arith, (omega arith, (omega arith, (omega arith, tt))))))))

pub returns-in-DELETE : goal.returns-in-DELETE
returns-in-DELETE c = sym (ap verb_of (text_from_reads c.args.word.now (codes "DELETE") (omega arith) (omega arith, (omega arith, (omega arith, (omega arith, (omega arith, (omega arith, tt))))))))

pub returns-in-CREATE : goal.returns-in-CREATE
returns-in-CREATE c = sym (ap verb_of (text_from_reads c.args.word.now (codes "CREATE") (omega arith) (omega arith, (omega arith, (omega arith, (omega arith, (omega arith, (omega arith, tt))))))))

pub returns-in-RENAME : goal.returns-in-RENAME
returns-in-RENAME c = sym (ap verb_of (text_from_reads c.args.word.now (codes "RENAME") (omega arith) (omega arith, (omega arith, (omega arith, (omega arith, (omega arith, (omega arith, tt))))))))

pub returns-in-ALTER : goal.returns-in-ALTER
returns-in-ALTER c = sym (ap verb_of (text_from_reads c.args.word.now (codes "ALTER") (omega arith) (omega arith, (omega arith, (omega arith, (omega arith, (omega arith, tt)))))))

pub returns-in-UNLOCK : goal.returns-in-UNLOCK
returns-in-UNLOCK c = sym (ap verb_of (text_from_reads c.args.word.now (codes "UNLOCK") (omega arith) (omega arith, (omega arith, (omega arith, (omega arith, (omega arith, (omega arith, tt))))))))

pub returns-in-FLUSH : goal.returns-in-FLUSH
returns-in-FLUSH c = sym (ap verb_of (text_from_reads c.args.word.now (codes "FLUSH") (omega arith) (omega arith, (omega arith, (omega arith, (omega arith, (omega arith, tt)))))))

pub returns-in-TIMEOUT : goal.returns-in-TIMEOUT
returns-in-TIMEOUT c = sym (ap verb_of (text_from_reads c.args.word.now (codes "TIMEOUT") (omega arith) (omega arith, (omega arith, (omega arith, (omega arith, (omega arith, (omega arith, (omega arith, tt)))))))))

pub returns-in-71 : goal.returns-in-71
returns-in-71 c = sym (ap verb_of (text_from_reads c.args.word.now (codes "GET_LOCK") (omega arith) (omega arith, (omega arith, (omega arith, (omega arith, (omega arith, (omega arith, (omega arith, (omega arith, tt))))))))))

pub returns-in-82 : goal.returns-in-82
returns-in-82 c = sym (ap verb_of (text_from_reads c.args.word.now (codes "RELEASE_LOCK") (omega arith) (omega arith, (omega arith, (omega arith, (omega arith, (omega arith, (omega arith, (omega arith, (omega arith, (omega arith, (omega arith, (omega arith, (omega arith, tt))))))))))))))

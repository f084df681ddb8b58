-- Each arm is the form that begins with its verb.
use Rattle.std.proofs.Common.{sym, ap, ◌∙◌}
use Rattle.mdl_lines.specs.Lines.{words_of}
use Rattle.mdl_syntax.specs.declared.verb.Verb.TheVariants.{Start, Select, Insert, Update, Delete, Create, Drop, Rename, Alter, Lock, Unlock, Flush, Kill, Timeout, GetLock, ReleaseLock}
use Rattle.mdl_syntax.specs.Forms.{statement_of}
use Rattle.mdl_syntax.proofs.VerbLemmas.{says-verb, statement_of-no_verb}
use Rattle.mdl_syntax.proofs.forms.statement_of.Goals as goal

pub returns-in_default-verb_of : goal.returns-in_default-verb_of
returns-in_default-verb_of c =
    let none = sym c.in_default-verb_of.is ∙ c.verb_of.ensures in
    rw c.bad_word-in_default-verb_of.ensures (ap statement_of c.in-Some.ensures.word ∙ statement_of-no_verb c.in-Some.word.now (words_of c.in-Some.rest.now) none)

pub returns-in-Start : goal.returns-in-Start
returns-in-Start c =
    let named = sym c.in-Some-verb_of.is ∙ c.verb_of.ensures in
    says-verb Start (words_of c.args.words.now) (words_of c.in-Some.rest.now) c.in-Some.word.now c.in-Some-verb_of.verb c.start.result c.in-Some.ensures.word named c.in-Start.is c.start.ensures

pub returns-in-Select : goal.returns-in-Select
returns-in-Select c =
    let named = sym c.in-Some-verb_of.is ∙ c.verb_of.ensures in
    says-verb Select (words_of c.args.words.now) (words_of c.in-Some.rest.now) c.in-Some.word.now c.in-Some-verb_of.verb c.select.result c.in-Some.ensures.word named c.in-Select.is c.select.ensures

pub returns-in-Insert : goal.returns-in-Insert
returns-in-Insert c =
    let named = sym c.in-Some-verb_of.is ∙ c.verb_of.ensures in
    says-verb Insert (words_of c.args.words.now) (words_of c.in-Some.rest.now) c.in-Some.word.now c.in-Some-verb_of.verb c.write.result c.in-Some.ensures.word named c.in-Insert.is c.write.ensures

pub returns-in-Update : goal.returns-in-Update
returns-in-Update c =
    let named = sym c.in-Some-verb_of.is ∙ c.verb_of.ensures in
    says-verb Update (words_of c.args.words.now) (words_of c.in-Some.rest.now) c.in-Some.word.now c.in-Some-verb_of.verb c.write-in-Update.result c.in-Some.ensures.word named c.in-Update.is c.write-in-Update.ensures

pub returns-in-Delete : goal.returns-in-Delete
returns-in-Delete c =
    let named = sym c.in-Some-verb_of.is ∙ c.verb_of.ensures in
    says-verb Delete (words_of c.args.words.now) (words_of c.in-Some.rest.now) c.in-Some.word.now c.in-Some-verb_of.verb c.write-in-Delete.result c.in-Some.ensures.word named c.in-Delete.is c.write-in-Delete.ensures

pub returns-in-Create : goal.returns-in-Create
returns-in-Create c =
    let named = sym c.in-Some-verb_of.is ∙ c.verb_of.ensures in
    says-verb Create (words_of c.args.words.now) (words_of c.in-Some.rest.now) c.in-Some.word.now c.in-Some-verb_of.verb c.create.result c.in-Some.ensures.word named c.in-Create.is c.create.ensures

pub returns-in-Drop : goal.returns-in-Drop
returns-in-Drop c =
    let named = sym c.in-Some-verb_of.is ∙ c.verb_of.ensures in
    says-verb Drop (words_of c.args.words.now) (words_of c.in-Some.rest.now) c.in-Some.word.now c.in-Some-verb_of.verb c.drop.result c.in-Some.ensures.word named c.in-Drop.is c.drop.ensures

pub returns-in-Rename : goal.returns-in-Rename
returns-in-Rename c =
    let named = sym c.in-Some-verb_of.is ∙ c.verb_of.ensures in
    says-verb Rename (words_of c.args.words.now) (words_of c.in-Some.rest.now) c.in-Some.word.now c.in-Some-verb_of.verb c.rename.result c.in-Some.ensures.word named c.in-Rename.is c.rename.ensures

pub returns-in-Alter : goal.returns-in-Alter
returns-in-Alter c =
    let named = sym c.in-Some-verb_of.is ∙ c.verb_of.ensures in
    says-verb Alter (words_of c.args.words.now) (words_of c.in-Some.rest.now) c.in-Some.word.now c.in-Some-verb_of.verb c.alter.result c.in-Some.ensures.word named c.in-Alter.is c.alter.ensures

pub returns-in-Lock : goal.returns-in-Lock
returns-in-Lock c =
    let named = sym c.in-Some-verb_of.is ∙ c.verb_of.ensures in
    says-verb Lock (words_of c.args.words.now) (words_of c.in-Some.rest.now) c.in-Some.word.now c.in-Some-verb_of.verb c.lock_tables.result c.in-Some.ensures.word named c.in-Lock.is c.lock_tables.ensures

pub returns-in-Unlock : goal.returns-in-Unlock
returns-in-Unlock c =
    let named = sym c.in-Some-verb_of.is ∙ c.verb_of.ensures in
    says-verb Unlock (words_of c.args.words.now) (words_of c.in-Some.rest.now) c.in-Some.word.now c.in-Some-verb_of.verb c.unlock.result c.in-Some.ensures.word named c.in-Unlock.is c.unlock.ensures

pub returns-in-Flush : goal.returns-in-Flush
returns-in-Flush c =
    let named = sym c.in-Some-verb_of.is ∙ c.verb_of.ensures in
    says-verb Flush (words_of c.args.words.now) (words_of c.in-Some.rest.now) c.in-Some.word.now c.in-Some-verb_of.verb c.flush.result c.in-Some.ensures.word named c.in-Flush.is c.flush.ensures

pub returns-in-Kill : goal.returns-in-Kill
returns-in-Kill c =
    let named = sym c.in-Some-verb_of.is ∙ c.verb_of.ensures in
    says-verb Kill (words_of c.args.words.now) (words_of c.in-Some.rest.now) c.in-Some.word.now c.in-Some-verb_of.verb c.kill.result c.in-Some.ensures.word named c.in-Kill.is c.kill.ensures

pub returns-in-Timeout : goal.returns-in-Timeout
returns-in-Timeout c =
    let named = sym c.in-Some-verb_of.is ∙ c.verb_of.ensures in
    says-verb Timeout (words_of c.args.words.now) (words_of c.in-Some.rest.now) c.in-Some.word.now c.in-Some-verb_of.verb c.no_more-in-Timeout.result c.in-Some.ensures.word named c.in-Timeout.is c.no_more-in-Timeout.ensures

pub returns-in-GetLock : goal.returns-in-GetLock
returns-in-GetLock c =
    let named = sym c.in-Some-verb_of.is ∙ c.verb_of.ensures in
    says-verb GetLock (words_of c.args.words.now) (words_of c.in-Some.rest.now) c.in-Some.word.now c.in-Some-verb_of.verb c.get_lock.result c.in-Some.ensures.word named c.in-GetLock.is c.get_lock.ensures

pub returns-in-ReleaseLock : goal.returns-in-ReleaseLock
returns-in-ReleaseLock c =
    let named = sym c.in-Some-verb_of.is ∙ c.verb_of.ensures in
    says-verb ReleaseLock (words_of c.args.words.now) (words_of c.in-Some.rest.now) c.in-Some.word.now c.in-Some-verb_of.verb c.release_lock.result c.in-Some.ensures.word named c.in-ReleaseLock.is c.release_lock.ensures

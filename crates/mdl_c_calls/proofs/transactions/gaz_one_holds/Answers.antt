-- The words of C name a mode, and a key, or one that there can't be.
use Rattle.std.proofs.Common.{ℕ, refl, sym, ◌∙◌}
use Rattle.mdl_key.specs.declared.mode.Mode.{Mode}
use Rattle.mdl_key.specs.Keys.{KeyName}
use Rattle.mdl_c_parts.specs.Codes.{mode_at, namespace_at, no_mode}
use Rattle.mdl_c_parts.specs.Names.{ReadIn}
use Rattle.mdl_c_calls.specs.ContextCodes.{kept_code}
use Rattle.mdl_c_calls.specs.Exports.{Replies, Tells}
use Rattle.mdl_c_calls.specs.Managers.{context_fault}
use Rattle.mdl_c_calls.specs.Transactions.{TellsKept, Untold}
use Rattle.mdl_c_parts.proofs.NameLemmas.{given-done, read-done, read-refused}
use Rattle.mdl_c_calls.proofs.transactions.gaz_one_holds.Goals as goal

pub returns-in-Ok : goal.returns-in-Ok
returns-in-Ok c =
    let before = c.args.space.now.handle.manager in let after = c.holds.new.space.handle.manager in
    let kept = λ (mode : Mode) (key : KeyName). Replies context_fault c.args.who (TellsKept c.args.who key mode) kept_code Untold before c.holds.result after in
    let refused = λ (wrong : ℕ). Tells wrong before c.holds.result after in
    given-done no_mode (mode_at c.args.mode) c.in-Some.mode (λ mode. ReadIn (namespace_at c.args.namespace) c.args.schema.now c.args.table.now (kept mode) refused) refused
    (sym c.mode_of.ensures ∙ c.in-Some.is)
    (read-done (namespace_at c.args.namespace) c.args.schema.now c.args.table.now c.in-Ok.key (kept c.in-Some.mode) refused c.in-Ok.ensures c.holds.ensures)

pub returns-in-Err : goal.returns-in-Err
returns-in-Err c =
    let before = c.args.space.now.handle.manager in
    let kept = λ (mode : Mode) (key : KeyName). Replies context_fault c.args.who (TellsKept c.args.who key mode) kept_code Untold before c.in-Err.code before in
    let refused = λ (wrong : ℕ). Tells wrong before c.in-Err.code before in
    given-done no_mode (mode_at c.args.mode) c.in-Some.mode (λ mode. ReadIn (namespace_at c.args.namespace) c.args.schema.now c.args.table.now (kept mode) refused) refused
    (sym c.mode_of.ensures ∙ c.in-Some.is)
    (read-refused (namespace_at c.args.namespace) c.args.schema.now c.args.table.now c.in-Err.code (kept c.in-Some.mode) refused c.in-Err.ensures (refl, refl))

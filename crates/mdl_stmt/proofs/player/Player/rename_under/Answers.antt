-- Each check, and then the definition goes.
use Rattle.mdl_defs.specs.declared.definition.Definition.{Definition}
use Rattle.mdl_rows.specs.declared.reply.Reply.{Reply}
use Rattle.mdl_rows.specs.Rows.{Row, ◌>>=◌, ◌>>◌}
use Rattle.mdl_rows.specs.Statements.{check_schema, definition_under, move_definition, rename_under}
use Rattle.mdl_stmt.proofs.RunLemmas.{comes-then, comes-played}
use Rattle.mdl_stmt.proofs.player.Player.rename_under.Goals as goal

pub returns-in-Err-clause-run : goal.returns-in-Err-clause-run
returns-in-Err-clause-run g c =
    let moves : Definition → Row Reply = λ definition. check_schema c.args.schema >> move_definition definition c.args.from c.args.to in
    (rw c.in-Err.is at c.is_free.ensures.run) (λ _. definition_under c.args.from >>= moves)

pub returns-in-Err-definition_under-clause-run : goal.returns-in-Err-definition_under-clause-run
returns-in-Err-definition_under-clause-run g c =
    let moves : Definition → Row Reply = λ definition. check_schema c.args.schema >> move_definition definition c.args.from c.args.to in
    comes-then ((rw c.in_default.is at c.is_free.ensures.run) (λ _. definition_under c.args.from >>= moves))
    ((rw c.in-Err-definition_under.is at c.definition_under.ensures.run) moves)

pub returns-in-Err-check_schema-clause-run : goal.returns-in-Err-check_schema-clause-run
returns-in-Err-check_schema-clause-run g c =
    let moves : Definition → Row Reply = λ definition. check_schema c.args.schema >> move_definition definition c.args.from c.args.to in
    comes-then ((rw c.in_default.is at c.is_free.ensures.run) (λ _. definition_under c.args.from >>= moves))
    (comes-then ((rw c.in-Ok.is at c.definition_under.ensures.run) moves)
    ((rw c.in-Err-check_schema.is at c.check_schema.ensures.run) (λ _. move_definition c.in-Ok.definition c.args.from c.args.to)))

pub returns-clause-run : goal.returns-clause-run
returns-clause-run g c =
    let moves : Definition → Row Reply = λ definition. check_schema c.args.schema >> move_definition definition c.args.from c.args.to in
    let moved : Row Reply = move_definition c.in-Ok.definition c.args.from c.args.to in
    comes-played c.move_definition.new.space c.move_definition.new.self (rename_under c.args.schema c.args.from c.args.to) moved c.move_definition.result
    (comes-then ((rw c.in_default.is at c.is_free.ensures.run) (λ _. definition_under c.args.from >>= moves))
    (comes-then ((rw c.in-Ok.is at c.definition_under.ensures.run) moves)
    ((rw c.in_default-check_schema.is at c.check_schema.ensures.run) (λ _. moved))))
    c.move_definition.ensures.run

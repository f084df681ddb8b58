-- A script names only sessions that there are, and its lines rise. The page is that of the lines up to the last one.
use Rattle.std.proofs.Common.{◌∙◌, All, ap, subst, sym}
use Rattle.std.specs.List.{position_or_len}
use Rattle.std.proofs.lemmas.List.Elements.{All-take}
use Rattle.mdl_lines.specs.Words.{IsScriptSession}
use Rattle.mdl_script.specs.Output.{is_after, lines_until}
use Rattle.mdl_script.proofs.SettleLemmas.{read-sessions}
use Rattle.mdl_syntax.specs.declared.script.Line.{Line}
use Rattle.mdl_syntax.specs.Laws.{RiseFrom}
use Rattle.mdl_syntax.specs.Scripts.{parsed}
use Rattle.mdl_view_program.proofs.PageLemmas.{read_rise, script_paged}
use Rattle.mdl_view_program.proofs.pages.page_of_script.Goals as goal

pub page_of_lines-requires : goal.page_of_lines-requires
page_of_lines-requires c =
    let IsOne = λ (line : Line). IsScriptSession line.session in
    let script = c.in_ok-script.script in
    let are = c.lines_until.ensures ∙ ap (lines_until c.args.last) c.lines.ensures in
    record {
      sessions = subst (All IsOne) (sym are)
          (All-take IsOne (position_or_len (is_after c.args.last) script) script (read-sessions c.args.text.now script c.in_ok-script.ensures.parsed));
      order = subst (RiseFrom 1) (sym are) (read_rise c.args.text.now script c.args.last c.in_ok-script.ensures.parsed);
    }

pub returns-in-Ok-clause-page : goal.returns-in-Ok-clause-page
returns-in-Ok-clause-page c =
    script_paged c.args.last c.args.text.now (parsed c.args.text.now) c.in_ok-script.script c.lines_until.result.now c.in-Ok.page.items
    c.in_ok-script.ensures.parsed (c.lines_until.ensures ∙ ap (lines_until c.args.last) c.lines.ensures) c.in-Ok.ensures

-- What is written is the page of the bytes that were read.
use Rattle.mdl_syntax.specs.Scripts.{parsed}
use Rattle.mdl_view_program.specs.Pages.{PagesScript}
use Rattle.mdl_view_program.proofs.AnswerLemmas.{leaves_read}
use Rattle.mdl_view_program.proofs.PageLemmas.{ends_read}
use Rattle.mdl_view_program.proofs.pages.draw_page.Goals as goal

pub returns-clause-ends : goal.returns-clause-ends
returns-clause-ends g c =
    ends_read (g.R.Read.remaining c.args.input.now) c.in_ok-text.text.items c.deref.result.now c.write_all.result c.in_ok-text.ensures.all
    c.deref.ensures.value c.in_ok-page.ensures.accepted c.write_all.ensures.fault

pub returns-clause-written : goal.returns-clause-written
returns-clause-written g c =
    leaves_read (λ bytes text. PagesScript c.args.last bytes (parsed bytes) text) (g.R.Read.remaining c.args.input.now) c.in_ok-text.text.items
    c.deref.result.now c.write_all.result c.in_ok-page.page.items c.deref-2.result.now (g.W.Write.contents c.args.output.now)
    (g.W.Write.contents c.write_all.new.writer) c.in_ok-text.ensures.all c.deref.ensures.value c.in_ok-page.ensures.page c.deref-2.ensures.value
    c.write_all.ensures.all c.write_all.ensures.part c.write_all.ensures.fault

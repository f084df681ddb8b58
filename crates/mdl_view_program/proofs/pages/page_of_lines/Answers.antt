-- The page is that of the picture, and of what is shown of the lines.
use Rattle.std.proofs.Common.{◌≡◌, Vec, Global, ℕ}
use Rattle.mdl_page.specs.Pages.{page_text}
use Rattle.mdl_view_program.specs.Pages.{PagesLines}
use Rattle.mdl_view_program.proofs.PageLemmas.{if_ok, lines_paged}
use Rattle.mdl_view_program.proofs.pages.page_of_lines.Goals as goal

pub draw_lines-requires : goal.draw_lines-requires
draw_lines-requires c = c.requires.sessions

pub facts_of-requires : goal.facts_of-requires
facts_of-requires c = record { sessions = c.requires.sessions; order = c.requires.order }

pub returns : goal.returns
returns c =
    if_ok (λ (page : Vec ℕ Global). page.items ≡ page_text c.deref.result.now c.args.text.now c.deref-2.result.now)
    (λ page. PagesLines c.args.text.now c.args.lines.now page.items) c.page.result
    (λ page is. lines_paged c.args.text.now c.args.lines.now c.in_ok-facts.facts.items c.in_ok-picture.picture.items c.deref.result.now c.deref-2.result.now
    page.items c.in_ok-picture.ensures c.deref.ensures.value c.in_ok-facts.ensures c.deref-2.ensures.value is) c.page.ensures

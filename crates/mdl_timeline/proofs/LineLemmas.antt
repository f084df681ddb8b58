-- Lines of a text, and what happens at them.
use Rattle.std.proofs.Common.{◌≡◌, ◌∙◌, ◌<◌, ◌+◌, ℕ, List, [], ◌∷◌, ◌++◌, drop, get_or, length, ap, sym, append_assoc}
use Rattle.std.proofs.lemmas.List.{drop_more}
use Rattle.mdl_picture.specs.Moments.{MomentView}
use Rattle.mdl_script.specs.Worlds.{World, line_played}
use Rattle.mdl_syntax.specs.declared.script.Line.{Line}
use Rattle.mdl_timeline.specs.Moments.{moment_of, moments_in}
use Rattle.mdl_timeline.specs.Statements.{statement_at}

-- one line is played, and then the rest follows
pub one-moment : (text : List ℕ) (lines : List Line) (i : ℕ) (line d : Line) (world after : World) (statement : List ℕ) (moment : MomentView)
    (so next whole : List MomentView) → i < length lines → line ≡ get_or lines i d → so ++ moments_in text (drop i lines) world ≡ whole
    → statement ≡ statement_at text line.number → moment ≡ moment_of statement line world → after ≡ (line_played line world).world
    → next ≡ so ++ moment ∷ [] → next ++ moments_in text (drop (i + 1) lines) after ≡ whole
one-moment text lines i line d world after statement moment so next whole inside item far words is left now =
    let rest = drop (i + 1) lines in
    let first : MomentView = moment_of (statement_at text line.number) line world in
    let parts : moments_in text (drop i lines) world ≡ first ∷ moments_in text rest (line_played line world).world =
    ap (λ ls. moments_in text ls world) (drop_more lines i d inside ∙ ap (λ x. x ∷ rest) (sym item)) in
    ap (λ ms. ms ++ moments_in text rest after) now ∙ append_assoc so (moment ∷ []) (moments_in text rest after)
    ∙ ap (λ m. so ++ (m ∷ moments_in text rest after)) (is ∙ ap (λ s. moment_of s line world) words)
    ∙ ap (λ w. so ++ (first ∷ moments_in text rest w)) left ∙ ap (λ ms. so ++ ms) (sym parts) ∙ far

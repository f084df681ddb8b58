-- Up to here no character begins.
use Rattle.std.proofs.Common.{◌≡◌, ◌-◌}
use Rattle.mdl_view_text.specs.Layouts.{begin_of_character}
use Rattle.mdl_view_text.proofs.layout.begin_of_character.Given as goal

abbrev pub invariant-loop-back : goal.invariant-loop-back
invariant-loop-back l =
    begin_of_character l.text (l.most - l.back) ≡ begin_of_character l.text l.most

-- The ways, one behind the other.
use Rattle.std.proofs.Common.{◌≡◌, ◌∙◌, ◌<◌, ℕ, suc, List, ◌∷◌, ◌++◌, ◌+◌, ap, append_assoc, drop, get_or, length, sym, arith}
use Rattle.std.proofs.Math.Seq.{drop-cons}
use Rattle.mdl_view_text.specs.declared.findings.WayFound.{WayFound}
use Rattle.mdl_view_text.specs.Names.{NamesView}
use Rattle.mdl_view_text.specs.Why.{way_text, ways_from}
use Rattle.mdl_view_text.proofs.why.push_each_way.Goals as goal

-- one more way is put there
next_way : (names : NamesView) (ways : List WayFound) (i : ℕ) (way : WayFound) (all now new : List ℕ) → i < length ways → way ≡ get_or ways i way
    → now ++ ways_from names i (drop i ways) ≡ all → new ≡ now ++ way_text names i way → new ++ ways_from names (i + 1) (drop (i + 1) ways) ≡ all
next_way names ways i way all now new inside is so put =
    let rest : List ℕ = ways_from names (suc i) (drop (suc i) ways) in
    let next : suc i ≡ i + 1 = omega arith in
    let split : drop i ways ≡ way ∷ drop (suc i) ways = drop-cons ways i way inside ∙ ap (λ y. y ∷ drop (suc i) ways) (sym is) in
    ap (λ n. new ++ ways_from names n (drop n ways)) (sym next) ∙ ap (λ ys. ys ++ rest) put
    ∙ append_assoc now (way_text names i way) rest ∙ ap (λ ys. now ++ ways_from names i ys) (sym split) ∙ so

pub loop-place-preserved : goal.loop-place-preserved
loop-place-preserved c =
    next_way c.args.names.now c.args.ways.now c.loop-place.place c.index-ways-place.result _ c.loop-place.out.items c.push_way.new.out.items
    c.loop-place-test.true c.index-ways-place.is c.loop-place.invariant c.in_ok-push_way.ensures

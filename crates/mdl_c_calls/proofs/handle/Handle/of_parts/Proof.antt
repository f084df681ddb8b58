-- A handle is made of the parts of a box, and owns what they owned.
use denote.Exit.{yes}
use Rattle.std.specs.Prelude.{Some}
use Rattle.mdl_c_calls.specs.contracts.handle.Handle as Handle
use Rattle.mdl_c_calls.specs.contracts.handle.Handle.of_parts as f
use Rattle.mdl_c_calls.proofs.handle.Handle.of_parts.Statement.{statement}
use Rattle.mdl_c_calls.proofs.handle.Handle.of_parts.Code as code
use Rattle.mdl_c_calls.proofs.Boxes.{boxed, a_part}
use Rattle.mdl_c_parts.proofs.Walking.{refl, [], ◌∷◌, ◌++◌, emp, id⊢, ftrue, fsep, WpFn, tables, ‵, raw, prop, ◌⊛◌, ◌$◌, ◌∵◌, !, qed, move, drop, use1, join, split, regoal, fsplit, fjoin, suffices, done, whole, sub, agg, stop, fld, no_more, and_then, of_opd, returns, enter, alloc_all, pass_all, free_all, look_at, get, get_in, sets, nothing, says, Stays, stay_dropped, walk_of, ends_at, Goes-dropped, proved_at, D, B, word, box_typed, box_out, box_in}

abbrev stayed : Stays f.ended.signature.params f.ended.kept
stayed = (stay_dropped a_part yes, tt)

pub of_parts_spec : {M : Type 1} → statement M
of_parts_spec 𝓤 𝓛 𝓜 𝓡 wired =
    let c = f.clauses 𝓛 𝓜.mem 𝓡.returns in let W = walk_of 𝓛 f.ended stayed c in let 𝓣 = tables 𝓤 𝓛.H 𝓜 𝓡 𝓡.env in
    proved_at 𝓛 f.ended stayed c 𝓜 𝓡 (Goes-dropped 𝓛 0 a_part yes (λ κs x w. refl), tt)
    f.Key.name code.function (code.unfolded 𝓤 𝓛.H 𝓜 𝓡 wired) (λ y are.
    let parts = y.0.3.0 in
    let box : D boxed = record { ptr = parts.ptr; alloc = parts.alloc; value = parts.value } in
    let made : Handle.the_row.Denot = record { at = parts.ptr; alloc = parts.alloc; manager = Some parts.value } in
    qed 𝓛 ((‵ ftrue ⊛ ‵ (fsep ((B boxed).own_val box y.0.4.0) ftrue)) ∷ raw (emp 𝓤) ∷ []) ∵ split ! $ drop ! $ fsplit ! $
    -- [the box, taken apart and put together at its machine value; nothing; nothing]
    box_out boxed ! box y.0.4.0 (λ b o hv e ws fits.
    let w = word boxed hv b o in
    let typed = box_typed boxed hv b o fits in
    regoal ! (λ us. prop (WpFn 𝓤 𝓛.H 𝓣.C 𝓣.Λ code.function (us ++ []) (W.post y))) ws refl $
    box_in boxed ! box b o box.value e refl $ use1 𝓛 (‵ (Handle.the_row.own_val made (w ∷ []))) (id⊢ 𝓤 _) $
    move ! (1 ∷ 2 ∷ []) $ drop ! $ drop ! $
    enter ! 𝓣.C 𝓣.Λ code.function (w ∷ []) _ $ alloc_all ! (λ ls. pass_all ! refl (typed, tt) $
    -- the two fields, the cast, and the handle
    sets ! (of_opd ! (get_in ! (fld ! refl (stop !)) (sub ! 0 refl (whole !)))) refl (tt, tt) $
    sets ! (of_opd ! (get_in ! (fld ! refl (stop !)) (sub ! 1 refl (whole !)))) refl fits $
    sets ! (of_opd ! (get ! refl)) refl (tt, tt) $
    sets ! (agg ! (and_then ! (get ! refl) (and_then ! (get ! refl) (no_more !)))) refl typed $
    returns ! (look_at ! 0 refl) $ free_all ! refl $
    suffices ! _ (ends_at 𝓛 f.ended stayed c y w made (tt, tt) (tt, tt)) $ says ! refl $
    nothing ! $ nothing ! $ fjoin ! $ join ! $ nothing ! $ join ! $ done !)))

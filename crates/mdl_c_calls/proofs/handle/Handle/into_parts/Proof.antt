-- A handle that has a manager goes back into the parts of a box, and they own what it owned.
use denote.Exit.{yes}
use Rattle.std.specs.Prelude.{true, Option, Some, None, is_some}
use Rattle.std.proofs.lemmas.Bool.{false≢true}
use Rattle.mdl_c_calls.specs.contracts.handle.Handle as Handle
use Rattle.mdl_c_calls.specs.contracts.handle.Handle.into_parts as f
use Rattle.mdl_c_calls.proofs.handle.Handle.into_parts.Statement.{statement}
use Rattle.mdl_c_calls.proofs.handle.Handle.into_parts.Code as code
use Rattle.mdl_c_calls.proofs.Boxes.{boxed, a_handle}
use Rattle.mdl_c_parts.proofs.Walking.{◌≡◌, refl, [], ◌∷◌, ◌++◌, id⊢, ftrue, fsep, WpFn, tables, fact, ‵, raw, prop, ◌⊛◌, ◌$◌, ◌∵◌, !, qed, move, drop, use1, join, split, rewrite, regoal, fsplit, fjoin, suffices, done, whole, sub, agg, stop, fld, no_more, and_then, of_opd, returns, enter, alloc_all, pass_all, free_all, look_at, get, get_in, sets, heard, nothing, type_at, says, Stays, stay_dropped, walk_of, ends_at, Goes-dropped, proved_at, D, B, word, box_typed, box_out, box_in}

-- what there is, where there is something
there : {X : Type 0} (o : Option X) → is_some o ≡ true → (x : X) × (o ≡ Some x)
there (Some x) e = (x, refl)
there None e = absurd (false≢true e)

abbrev stayed : Stays f.ended.signature.params f.ended.kept
stayed = (stay_dropped a_handle yes, tt)

pub into_parts_spec : {M : Type 1} → statement M
into_parts_spec 𝓤 𝓛 𝓜 𝓡 wired =
    let c = f.clauses 𝓛 𝓜.mem 𝓡.returns in let W = walk_of 𝓛 f.ended stayed c in let 𝓣 = tables 𝓤 𝓛.H 𝓜 𝓡 𝓡.env in
    let To = type_at f.signature.result tt in
    proved_at 𝓛 f.ended stayed c 𝓜 𝓡 (Goes-dropped 𝓛 0 a_handle yes (λ κs x w. refl), tt)
    f.Key.name code.function (code.unfolded 𝓤 𝓛.H 𝓜 𝓡 wired) (λ y are.
    let h = y.0.3.0 in let vs = y.0.4.0 in
    qed 𝓛 ((‵ ftrue ⊛ ‵ (fsep (Handle.the_row.own_val h vs) ftrue)) ∷ raw (fact 𝓤 (is_some h.manager ≡ true)) ∷ []) ∵
    move ! (1 ∷ []) $ heard ! _ (λ some. split ! $ drop ! $ fsplit ! $
    -- [the handle; nothing]
    let had = there h.manager some in
    let box : D boxed = record { ptr = h.at; alloc = h.alloc; value = had.0 } in
    let made : To.Denot = record { ptr = h.at; alloc = h.alloc; value = had.0 } in
    rewrite ! 0 (λ m. ‵ (Handle.the_row.own_val (record h { manager = m }) vs)) had.1 refl $
    use1 𝓛 (‵ ((B boxed).own_val box vs)) (id⊢ 𝓤 _) $
    box_out boxed ! box vs (λ b o hv e ws fits.
    let w = word boxed hv b o in
    let typed = box_typed boxed hv b o fits in
    regoal ! (λ us. prop (WpFn 𝓤 𝓛.H 𝓣.C 𝓣.Λ code.function (us ++ []) (W.post y))) ws refl $
    box_in boxed ! box b o box.value e refl $ use1 𝓛 (‵ (To.own_val made (w ∷ []))) (id⊢ 𝓤 _) $
    move ! (1 ∷ []) $ drop ! $
    enter ! 𝓣.C 𝓣.Λ code.function (w ∷ []) _ $ alloc_all ! (λ ls. pass_all ! refl (typed, tt) $
    -- the two fields, the cast, and the parts
    sets ! (of_opd ! (get_in ! (fld ! refl (stop !)) (sub ! 0 refl (whole !)))) refl (tt, tt) $
    sets ! (of_opd ! (get_in ! (fld ! refl (stop !)) (sub ! 1 refl (whole !)))) refl fits $
    sets ! (of_opd ! (get ! refl)) refl (tt, tt) $
    sets ! (agg ! (and_then ! (get ! refl) (and_then ! (get ! refl) (no_more !)))) refl typed $
    returns ! (look_at ! 0 refl) $ free_all ! refl $
    suffices ! _ (ends_at 𝓛 f.ended stayed c y w made (tt, tt) (tt, tt)) $ says ! had.1 $
    nothing ! $ nothing ! $ fjoin ! $ join ! $ nothing ! $ join ! $ done !))))

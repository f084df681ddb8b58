-- A box comes apart: the parts own what the box owned.
use contract.BorrowLft.{◌⊑◌}
use mir.MapTy.{inst_fn}
use mir.Raw.{raw as bare}
use mir.Syntax.{Args, Dict, Fn, a_type, dcons, dnil}
use mir.Val.{vstruct, of_list}
use base.Logic.{never, fst∗}
use denote.Exit.{no}
use denote.Param.{bounded}
use denote.RawPtr.{Ptr, RawPtr, block_ptr, null_ptr, ptr_val, in_a_block}
use denote.Struct.Tuple.{Tuple}
use denote.Triple.Call.{calls_at}
use denote.Triple.Spec.{triple_of}
use denote.Triple.Table.{framed}
use Rattle.std.proofs.alloc.Calls.{token, handle_tells, Goes-blank}
use Rattle.std_alloc.specs.Box.Ownership.{box_owns}
use Rattle.std_alloc.specs.contracts.boxed.Box.into_raw_with_allocator as raw_of
use Rattle.std_alloc.proofs.boxed.Box.into_raw_with_allocator.Met as raw_of_met
use Rattle.std_alloc.proofs.BoxSteps.Form.{R, P, τ}
use Rattle.mdl_c_parts.specs.contracts.parts.Parts as Parts
use Rattle.mdl_c_parts.specs.contracts.parts.Parts.of as f
use Rattle.mdl_c_parts.proofs.parts.Parts.of.Statement.{statement}
use Rattle.mdl_c_parts.proofs.parts.Parts.of.Code as code
use Rattle.mdl_c_parts.proofs.Walking.{◌≡◌, refl, ap, ◌∙◌, [], ◌∷◌, ◌++◌, id⊢, ftrue, fsep, flft, WpFn, tables, sem, fact, Item, ‵, raw, prop, ◌⊛◌, some, later, ◌$◌, ◌∵◌, !, qed, move, drop, use1, join, split, split3, pick, await, rewrite, regoal, fsplit, fjoin, fpick, feq_l, suffices, done, whole, sub, agg, stop, fld, no_more, and_then, of_opd, returns, enter, alloc_all, pass_all, free_all, look_at, get, get_in, sets, lands_as, RattleType, Slot, plain, heard, nothing, only, says, Stays, stay_dropped, walk_of, ends_at, proved_at, Bx, D, B, word, box_typed, box_out, box_in}

module _ (E : Bx) (glue : Dict) where
  abbrev chosen : Args
  chosen = bounded (a_type ∷ a_type ∷ []) (E.row, (E.al.row, tt)) (dcons E.al.d (dcons E.al.drops (dcons glue dnil)))

  abbrev function : Fn
  function = inst_fn chosen code.function

  abbrev a_box : Slot 2
  a_box = plain (λ _. B E)

  abbrev parts : RattleType
  parts = Parts.the_row (R E) (P E) E.al.g

pub of_spec : {M : Type 1} → statement M
of_spec 𝓤 𝓛 𝓜 𝓡 wired X Z LX LZ g d drops glue allocator met_drops met_glue =
    let E : Bx = record { row = X; laws = LX; al = record { row = Z; laws = LZ; g = g; d = d; drops = drops } } in
    let T = f.ended X Z g d drops glue in let c = f.clauses X Z g d drops glue 𝓛 𝓜.mem 𝓡.returns in
    let stayed : Stays T.signature.params T.kept = (stay_dropped (a_box E glue) no, tt) in
    let W = walk_of 𝓛 T stayed c in let 𝓣 = tables 𝓤 𝓛.H 𝓜 𝓡 𝓡.env in let fn = function E glue in
    let Raw = triple_of 𝓛 (raw_of.signature X Z g d drops glue) (raw_of.spec X Z g d drops glue 𝓛 𝓜.mem 𝓡.returns) in
    proved_at 𝓛 T stayed c 𝓜 𝓡 (Goes-blank 𝓛 2 (a_box E glue) no (λ κs x w. tt), tt)
    (f.Key.name (chosen E glue)) fn (code.unfolded 𝓤 𝓛.H 𝓜 𝓡 wired (X, (Z, tt)) d drops glue) (λ y are.
    let κs = y.0.0 in let qs = y.0.1 in let box = y.0.3.0 in let a = box.alloc in
    let tokens : Item 𝓤 = ‵ (flft κs.0 qs.0) ⊛ ‵ (flft κs.1.0 qs.1.0) ⊛ ‵ ftrue in
    let lasting : Item 𝓤 = raw (fact 𝓤 (κs.0 ⊑ X.lives)) ⊛ raw (fact 𝓤 (κs.1.0 ⊑ Z.lives)) ⊛ ‵ ftrue in
    qed 𝓛 ((tokens ⊛ ‵ (fsep ((B E).own_val box y.0.4.0) ftrue)) ∷ lasting ∷ []) ∵ split ! $ move ! (1 ∷ []) $ fsplit ! $
    -- [the box; nothing; the tokens; what they last for]
    box_out E ! box y.0.4.0 (λ b o hv e ws fits. box_in E ! box b o box.value e refl $
    let w = word E hv b o in
    let z : Raw.Ghost = ((κs, qs, tt, (box, tt), (w ∷ [], tt)), tt) in
    regoal ! (λ us. prop (WpFn 𝓤 𝓛.H 𝓣.C 𝓣.Λ fn (us ++ []) (W.post y))) ws refl $
    enter ! 𝓣.C 𝓣.Λ fn (w ∷ []) _ $ alloc_all ! (λ ls. pass_all ! refl (box_typed E hv b o fits, tt) $
    sets ! (of_opd ! (get ! refl)) refl (box_typed E hv b o fits) $
    fjoin ! $ move ! (1 ∷ 0 ∷ []) $ join ! $ join ! $ use1 𝓛 (raw (Raw.pre z)) (id⊢ 𝓤 _) $
    calls_at ! (framed 𝓤 𝓛.H 𝓜 𝓣) Raw
    (raw_of_met.met 𝓤 𝓛 𝓜 𝓡 (code.calls-std_alloc::boxed::Box::into_raw_with_allocator 𝓡.env wired) X Z LX LZ g d drops glue allocator met_drops met_glue) z
    (and_then ! (get ! refl) (no_more !)) (λ u.
    -- what the call gave: a pointer and the allocator, and what the box owned
    use1 𝓛 (later (some (λ (r : Ptr × Z.Denot). (tokens ⊛ ‵ ((Tuple (RawPtr ∷ P E ∷ [])).own_val r (u ∷ []))) ⊛ some (λ (_ : (Unit {0} × (Unit {0} × Unit {0})) × Unit {0}).
    ‵ (fsep (fsep ftrue (fsep ftrue ftrue)) ftrue) ⊛ (raw (fact 𝓤 (r.1 ≡ a)) ⊛ ‵ (box_owns (token E.al a) (R E) r.0 box.value)))))) (id⊢ 𝓤 _) $
    await ! tt $ pick ! (λ r. split ! $ move ! (1 ∷ []) $ pick ! (λ _. split3 ! $ drop ! $ heard ! (r.1 ≡ a) (λ same.
    in_a_block ! r.0 (λ p. box_owns (token E.al a) (R E) p box.value) (fst∗ 𝓤 (never 𝓤) (sem 𝓛 (token E.al a (bare (τ E)) null_ptr))) (λ b' o' there.
    move ! (1 ∷ []) $ split ! $ move ! (1 ∷ []) $ fpick ! (λ values. fsplit ! $ feq_l ! (λ pair. fsplit ! $ feq_l ! (λ pointer. fsplit ! $
    rewrite ! 0 (λ (s : Z.Denot). ‵ (Z.own_val s values.1.0)) same refl $ handle_tells E.al ! a values.1.0 (λ kept is kept_fits.
    let left : D E = record { ptr = block_ptr b' o'; alloc = a; value = box.value } in
    let made : (parts E glue).Denot = record { ptr = block_ptr b' o'; alloc = a; value = box.value } in
    let w' = word E kept b' o' in
    lands_as ! (ap only (pair ∙ (λ i. vstruct (of_list ((pointer ∙ ap (λ (p : Ptr). ptr_val p ∷ []) there) i ++ (is i ++ []))) ∷ []))) refl (box_typed E kept b' o' kept_fits) $
    sets ! (of_opd ! (get_in ! (fld ! refl (stop !)) (sub ! 0 refl (whole !)))) refl (tt, tt) $
    sets ! (of_opd ! (get_in ! (fld ! refl (stop !)) (sub ! 1 refl (whole !)))) refl kept_fits $
    sets ! (of_opd ! (get ! refl)) refl kept_fits $
    sets ! (agg ! (and_then ! (get ! refl) (and_then ! (get ! refl) (no_more !)))) refl (box_typed E kept b' o' kept_fits) $
    returns ! (look_at ! 0 refl) $ free_all ! refl $
    -- [the allocator; nothing; the tokens; the value and the right to free its block]
    move ! (3 ∷ []) $ fsplit ! $ box_in E ! left b' o' left.value refl refl $ use1 𝓛 (‵ ((parts E glue).own_val made (w' ∷ []))) (id⊢ 𝓤 _) $ move ! (1 ∷ []) $ drop ! $
    suffices ! _ (ends_at 𝓛 T stayed c y w' made ((tt, (tt, tt)), tt) (tt, tt)) $ says ! refl $
    nothing ! $ nothing ! $ fjoin ! $ join ! $ move ! (1 ∷ 0 ∷ []) $ join ! $ done !))))))))))))

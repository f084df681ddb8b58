-- The parts make a box again: what they own is what `from_raw` asks for.
use contract.BorrowLft.{◌⊑◌}
use lib.Dec.{T}
use mir.MapTy.{inst_fn}
use mir.Syntax.{Body, Fn, place, copy, assign, rv_opd, seq, return}
use mir.Val.{Val, vptr, has_ty, WT}
use denote.Exit.{no}
use denote.RawPtr.{block_ptr}
use denote.Triple.Call.{calls_at_last}
use denote.Triple.Spec.{triple_of}
use denote.Triple.Table.{framed}
use Rattle.std.proofs.alloc.Calls.{Goes-blank}
use Rattle.std_alloc.specs.contracts.boxed.Box.from_raw as from_raw
use Rattle.std_alloc.proofs.boxed.Box.from_raw.Met as from_raw_met
use Rattle.std_alloc.proofs.BoxSteps.Form.{R, P, args, box_ty}
use Rattle.mdl_c_parts.specs.contracts.parts.Parts as Parts
use Rattle.mdl_c_parts.specs.contracts.parts.Parts.into_box as f
use Rattle.mdl_c_parts.proofs.parts.Parts.into_box.Statement.{statement}
use Rattle.mdl_c_parts.proofs.parts.Parts.into_box.Code as code
use Rattle.mdl_c_parts.proofs.Walking.{◌≡◌, refl, sym, subst, ap, List, [], ◌∷◌, ◌++◌, id⊢, ftrue, fsep, flft, WpFn, tables, fact, Item, ‵, raw, prop, at_ret, ◌⊛◌, some, later, ◌$◌, ◌∵◌, !, qed, move, drop, use1, join, split, split3, pick, await, rewrite, regoal, fsplit, fjoin, feq_i, suffices, done, whole, sub, stop, fld, no_more, and_then, of_opd, returns, enter, first, blocks, exec, alloc_all, pass_all, free_all, look_at, get, get_in, sets, lands_last, env, Slot, plain, heard, nothing, only, says, Stays, stay_dropped, walk_of, ends_at, proved_at, Bx, D, B, word, box_typed, box_out, box_in}

-- after the call its result is the function's
abbrev rest : Body
rest = seq (assign (place 0 []) (rv_opd (copy (place 4 [])))) return

module _ (E : Bx) where
  abbrev function : Fn
  function = inst_fn (args E) code.function

  abbrev the_parts : Slot 2
  the_parts = plain (λ _. Parts.the_row (R E) (P E) E.al.g)

pub into_box_spec : {M : Type 1} → statement M
into_box_spec 𝓤 𝓛 𝓜 𝓡 wired X Z LX LZ g d drops allocator met_drops =
    let E : Bx = record { row = X; laws = LX; al = record { row = Z; laws = LZ; g = g; d = d; drops = drops } } in
    let Ended = f.ended X Z g d drops in let c = f.clauses X Z g d drops 𝓛 𝓜.mem 𝓡.returns in
    let stayed : Stays Ended.signature.params Ended.kept = (stay_dropped (the_parts E) no, tt) in
    let W = walk_of 𝓛 Ended stayed c in let 𝓣 = tables 𝓤 𝓛.H 𝓜 𝓡 𝓡.env in let fn = function E in
    let Made = triple_of 𝓛 (from_raw.signature X Z g d drops) (from_raw.spec X Z g d drops 𝓛 𝓜.mem 𝓡.returns) in
    proved_at 𝓛 Ended stayed c 𝓜 𝓡 (Goes-blank 𝓛 2 (the_parts E) no (λ κs x w. tt), tt)
    (f.Key.name (args E)) fn (code.unfolded 𝓤 𝓛.H 𝓜 𝓡 wired (X, (Z, tt)) d drops) (λ y are.
    let κs = y.0.0 in let qs = y.0.1 in let a = y.0.3.0.alloc in let x = y.0.3.0.value in
    let box : D E = record { ptr = y.0.3.0.ptr; alloc = a; value = x } in
    let tokens : Item 𝓤 = ‵ (flft κs.0 qs.0) ⊛ ‵ (flft κs.1.0 qs.1.0) ⊛ ‵ ftrue in
    let lasts_x : Item 𝓤 = raw (fact 𝓤 (κs.0 ⊑ X.lives)) in let lasts_a : Item 𝓤 = raw (fact 𝓤 (κs.1.0 ⊑ Z.lives)) in
    qed 𝓛 ((tokens ⊛ ‵ (fsep ((B E).own_val box y.0.4.0) ftrue)) ∷ (lasts_x ⊛ lasts_a ⊛ ‵ ftrue) ∷ []) ∵ split ! $ move ! (1 ∷ []) $ fsplit ! $
    box_out E ! box y.0.4.0 (λ b o hv e ws fits. fjoin ! $
    let w = word E hv b o in
    let z : Made.Ghost = ((κs, qs, tt, (a, (block_ptr b o, tt)), (hv ∷ [], (vptr b o ∷ [], tt))), x) in
    -- [the value and the right to free its block; the allocator; nothing; the tokens; what they last for]
    regoal ! (λ us. prop (WpFn 𝓤 𝓛.H 𝓣.C 𝓣.Λ fn (us ++ []) (W.post y))) ws refl $
    enter ! 𝓣.C 𝓣.Λ fn (w ∷ []) _ $ alloc_all ! (λ ls. pass_all ! refl (box_typed E hv b o fits, tt) $
    sets ! (of_opd ! (get_in ! (fld ! refl (stop !)) (sub ! 0 refl (whole !)))) refl (tt, tt) $
    sets ! (of_opd ! (get_in ! (fld ! refl (stop !)) (sub ! 1 refl (whole !)))) refl fits $
    first ! $ blocks ! $ sets ! (of_opd ! (get ! refl)) refl fits $
    -- what the call requires
    move ! (4 ∷ []) $ split3 ! $ move ! (2 ∷ []) $ drop ! $ move ! (1 ∷ 2 ∷ []) $ join ! $ move ! (1 ∷ 0 ∷ []) $ join ! $
    move ! (2 ∷ []) $ feq_i ! (List Val) (vptr b o ∷ []) (vptr b o ∷ []) refl $ fjoin ! $ move ! (2 ∷ 0 ∷ []) $ fjoin ! $ move ! (2 ∷ 0 ∷ []) $ join ! $ join ! $
    use1 𝓛 (raw (Made.pre z)) (id⊢ 𝓤 _) $
    calls_at_last ! (framed 𝓤 𝓛.H 𝓜 𝓣) Made
    (from_raw_met.met 𝓤 𝓛 𝓜 𝓡 (code.calls-std_alloc::boxed::Box::from_raw 𝓡.env wired) X Z LX LZ g d drops allocator met_drops) z
    (and_then ! (get ! refl) (and_then ! (get ! refl) (no_more !))) (λ u.
    -- what the call gave: a box
    use1 𝓛 (later (some (λ (r : D E). (tokens ⊛ ‵ ((B E).own_val r (u ∷ []))) ⊛ some (λ (_ : Unit {0} × (Unit {0} × Unit {0})).
    ‵ (fsep ftrue (fsep ftrue ftrue)) ⊛ (raw (fact 𝓤 (r.value ≡ x)) ⊛ raw (fact 𝓤 (r.alloc ≡ a))))))) (id⊢ 𝓤 _) $
    await ! tt $ pick ! (λ r. split ! $ move ! (1 ∷ []) $ pick ! (λ _. split3 ! $ drop ! $ heard ! (r.value ≡ x) (λ same. drop ! $ split ! $ move ! (1 ∷ []) $
    box_out E ! r (u ∷ []) (λ b' o' kept there is kept_fits. box_in E ! r b' o' r.value there refl $ rewrite ! 0 (λ (us : List Val). ‵ ((B E).own_val r us)) (sym is) refl $
    let typed : T (has_ty (box_ty E) u) × WT u = subst (λ (v : Val). T (has_ty (box_ty E) v) × WT v) (sym (ap only is)) (box_typed E kept b' o' kept_fits) in
    lands_last ! refl typed $ exec ! 𝓣.C 𝓣.Λ (env fn.locals ls) rest (at_ret (env fn.locals ls) (W.post y)) $
    sets ! (of_opd ! (get ! refl)) refl typed $ returns ! (look_at ! 0 refl) $ free_all ! refl $
    suffices ! _ (ends_at 𝓛 Ended stayed c y u r ((tt, (tt, tt)), tt) (tt, tt)) $ says ! same $
    nothing ! $ nothing ! $ fjoin ! $ join ! $ move ! (1 ∷ 0 ∷ []) $ join ! $ done !))))))))

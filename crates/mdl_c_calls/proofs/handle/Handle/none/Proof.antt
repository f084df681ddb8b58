-- A handle on nothing owns the allocator alone, which takes no bytes.
use lib.Dec.{T, lit<}
use mir.Val.{Val, vnull, vstruct, vnil, vcons, has_ty, WT}
use denote.Exit.{yes}
use denote.RattleType.{Valss}
use denote.RawPtr.{RawPtr, null_ptr}
use denote.Struct.Struct.{within}
use denote.Struct.Owning.{shape}
use Rattle.std.specs.Prelude.{None}
use Rattle.std.proofs.alloc.Calls.{α, Fits, handle_tells}
use Rattle.std_alloc.proofs.BoxSteps.Form.{P, owning, box_ty}
use Rattle.std_alloc.proofs.ResultValues.{and_tt}
use Rattle.std_heap.specs.contracts.Global as Heap
use Rattle.mdl_c_calls.specs.contracts.handle.Handle as Handle
use Rattle.mdl_c_calls.specs.contracts.handle.Handle.none as f
use Rattle.mdl_c_calls.proofs.handle.Handle.none.Statement.{statement}
use Rattle.mdl_c_calls.proofs.handle.Handle.none.Code as code
use Rattle.mdl_c_calls.proofs.Boxes.{boxed}
use Rattle.mdl_c_parts.proofs.Walking.{refl, List, [], ◌∷◌, ◌++◌, emp, id⊢, ftrue, fsep, WpFn, tables, ‵, raw, prop, ◌⊛◌, ◌$◌, ◌∵◌, !, qed, move, drop, use1, join, split, regoal, fsplit, fjoin, fpack, feq_i, suffices, done, agg, lit, no_more, and_then, returns, enter, alloc_all, pass_all, free_all, look_at, get, sets, plain, nothing, says, Stays, stay_dropped, walk_of, ends_at, Goes-dropped, proved_at}

abbrev stayed : Stays f.ended.signature.params f.ended.kept
stayed = (stay_dropped (plain (λ _. Heap.the_row)) yes, tt)

-- the handle's machine value: a null pointer, and the allocator's
abbrev word : Val → Val
word hv = vstruct (vcons vnull (vcons hv vnil))

typed : (hv : Val) → Fits boxed.al hv → T (has_ty (box_ty boxed) (word hv)) × WT (word hv)
typed hv fits = (and_tt (has_ty (α boxed.al) hv) fits.0, (record { fits = lit< tt }, (fits.1, tt)))

pub none_spec : {M : Type 1} → statement M
none_spec 𝓤 𝓛 𝓜 𝓡 wired =
    let c = f.clauses 𝓛 𝓜.mem 𝓡.returns in let W = walk_of 𝓛 f.ended stayed c in let 𝓣 = tables 𝓤 𝓛.H 𝓜 𝓡 𝓡.env in
    proved_at 𝓛 f.ended stayed c 𝓜 𝓡 (Goes-dropped 𝓛 0 (plain (λ _. Heap.the_row)) yes (λ κs x w. refl), tt)
    f.Key.name code.function (code.unfolded 𝓤 𝓛.H 𝓜 𝓡 wired) (λ y are.
    let a = y.0.3.0 in let vs = y.0.4.0 in
    let made : Handle.the_row.Denot = record { at = null_ptr; alloc = a; manager = None } in
    qed 𝓛 ((‵ ftrue ⊛ ‵ (fsep (Heap.the_row.own_val a vs) ftrue)) ∷ raw (emp 𝓤) ∷ []) ∵ split ! $ drop ! $ fsplit ! $
    -- [the allocator; nothing; nothing]
    handle_tells boxed.al ! a vs (λ hv is fits.
    let w = word hv in
    regoal ! (λ us. prop (WpFn 𝓤 𝓛.H 𝓣.C 𝓣.Λ code.function (us ++ []) (W.post y))) is refl $
    move ! (1 ∷ 2 ∷ []) $ drop ! $ drop ! $
    enter ! 𝓣.C 𝓣.Λ code.function (hv ∷ []) _ $ alloc_all ! (λ ls. pass_all ! refl (fits, tt) $
    sets ! (agg ! (and_then ! (lit ! tt) (and_then ! (get ! refl) (no_more !)))) refl (typed hv fits) $
    returns ! (look_at ! 0 refl) $ free_all ! refl $
    -- the handle's fields, and what it owns beside them: nothing
    nothing ! $ move ! (1 ∷ 0 ∷ []) $ fjoin ! $ feq_i ! (List Val) (vnull ∷ []) (vnull ∷ []) refl $ fjoin ! $
    feq_i ! (List Val) (w ∷ []) (w ∷ []) refl $ fjoin ! $
    fpack ! (Valss (RawPtr ∷ P boxed ∷ [])) (within (shape (owning boxed)) (null_ptr, (a, tt)) (w ∷ [])) (vnull ∷ [], (hv ∷ [], tt)) $
    nothing ! $ move ! (1 ∷ 0 ∷ []) $ fjoin ! $ use1 𝓛 (‵ (Handle.the_row.own_val made (w ∷ []))) (id⊢ 𝓤 _) $
    suffices ! _ (ends_at 𝓛 f.ended stayed c y w made (tt, tt) (tt, tt)) $ says ! refl $
    nothing ! $ nothing ! $ fjoin ! $ join ! $ nothing ! $ join ! $ done !)))

-- Where an act takes no ticket nobody is granted.
use Rattle.std.proofs.Common.{◌≡◌, ◌∙◌, Bool, true, false, not, ◌&&◌, ◌||◌, if◌then◌else◌, cond, List, [], ◌∷◌, ◌++◌, filter, refl, sym, ap, append_assoc}
use Rattle.std.specs.List.{list_any}
use Rattle.std.proofs.lemmas.Bool.{true≢false}
use Rattle.std.proofs.lemmas.List.Folds.{list_any-append}
use Rattle.mdl_view.specs.declared.act.Act.{Act}
use Rattle.mdl_view.specs.declared.ticket.Ticket.{Ticket}
use Rattle.mdl_view.specs.Acts.{is_taken, lock_after}
use Rattle.mdl_view.specs.AtOnce.{can_be_granted, granted_at, granted_from, takes_any}
use Rattle.mdl_view.specs.Blockings.{holds_against, is_blocked, waits_before}
use Rattle.mdl_view.specs.Locks.{LockView}
use Rattle.mdl_view.proofs.PassLemmas.{not_itself}

or_false : (a b : Bool) → (a || b) ≡ false → (a ≡ false) × (b ≡ false)
or_false true b e = let bad : true ≡ false = e in absurd (true≢false bad)
or_false false b e = (refl, e)

-- nothing goes from a list of which nothing is taken
left_all : (p : Ticket → Bool) (tickets : List Ticket) → list_any p tickets ≡ false → filter (λ ticket. not (p ticket)) tickets ≡ tickets
left_all p [] e = refl
left_all p (x ∷ xs) e =
    let parts = or_false (p x) (list_any p xs) e in
    ap (λ b. cond (not b) (x ∷ filter (λ ticket. not (p ticket)) xs) (filter (λ ticket. not (p ticket)) xs)) parts.0 ∙ ap (λ zs. x ∷ zs) (left_all p xs parts.1)

none_blocked : (h w p r : Bool) → w ≡ false → ((h || (p || (w || r))) && (not h && not (p || r))) ≡ false
none_blocked true w p r e = refl
none_blocked false true p r e = absurd (true≢false e)
none_blocked false false true r e = refl
none_blocked false false false true e = refl
none_blocked false false false false e = refl

-- who is blocked isn't granted where nothing has changed
stays : (lock : LockView) (rest passed : List Ticket) → passed ++ rest ≡ lock.waiting → granted_from lock (is_blocked lock) lock.granted passed rest ≡ []
stays lock [] passed e = refl
stays lock (ask ∷ rest) passed e =
    let behind = waits_before lock ask in
    let held = list_any (holds_against lock ask) lock.granted in
    let whole : list_any behind lock.waiting ≡ (list_any behind passed || (behind ask || list_any behind rest)) =
    ap (list_any behind) (sym e) ∙ list_any-append behind passed (ask ∷ rest) in
    let no : (is_blocked lock ask && can_be_granted lock lock.granted (passed ++ rest) ask) ≡ false =
    ap (λ b. (held || b) && (not held && not (list_any behind (passed ++ rest)))) whole
    ∙ ap (λ b. (held || (list_any behind passed || (behind ask || list_any behind rest))) && (not held && not b)) (list_any-append behind passed rest)
    ∙ none_blocked held (behind ask) (list_any behind passed) (list_any behind rest) (not_itself lock ask) in
    ap (λ b. if b then ask ∷ granted_from lock (is_blocked lock) (lock.granted ++ ask ∷ []) passed rest else granted_from lock (is_blocked lock) lock.granted (passed ++ ask ∷ []) rest) no
    ∙ stays lock rest (passed ++ ask ∷ []) (append_assoc passed (ask ∷ []) rest ∙ e)

-- a lock from which nothing is taken is as it was
unchanged : (act : Act) (lock : LockView) → takes_any act lock ≡ false → lock_after act lock ≡ lock
unchanged act lock e =
    let parts = or_false (list_any (is_taken act) lock.granted) (list_any (is_taken act) lock.waiting) e in
    ap (λ granted. record lock { granted = granted; waiting = filter (λ ticket. not (is_taken act ticket)) lock.waiting }) (left_all (is_taken act) lock.granted parts.0)
    ∙ ap (λ waiting. record lock { waiting = waiting }) (left_all (is_taken act) lock.waiting parts.1)

pub none_granted : (act : Act) (lock : LockView) → takes_any act lock ≡ false → granted_at lock (lock_after act lock) ≡ []
none_granted act lock e = ap (granted_at lock) (unchanged act lock e) ∙ stays lock lock.waiting [] refl

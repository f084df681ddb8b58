-- Each wait that is granted at once was blocked by tickets alone that the act takes.
use Rattle.std.proofs.Common.{◌≡◌, ◌∙◌, Bool, true, false, not, ◌&&◌, ◌||◌, if◌then◌else◌, cond, List, [], ◌∷◌, ◌++◌, filter, refl, ap}
use Rattle.std.specs.Prelude.{All, IsTrue}
use Rattle.std.specs.List.{list_all, list_any}
use Rattle.std.proofs.lemmas.List.Folds.{list_any-append}
use Rattle.std.proofs.lemmas.List.Sums.{AllPass-from_list_all}
use Rattle.mdl_view.specs.declared.act.Act.{Act}
use Rattle.mdl_view.specs.declared.ticket.Ticket.{Ticket}
use Rattle.mdl_view.specs.Acts.{is_taken, lock_after}
use Rattle.mdl_view.specs.AtOnce.{can_be_granted, granted_at}
use Rattle.mdl_view.specs.Blockings.{holds_against, is_blocked, waits_before}
use Rattle.mdl_view.specs.GoingOn.{is_free}
use Rattle.mdl_view.specs.Locks.{LockView}
use Rattle.mdl_view.proofs.PassLemmas.{pass_all, passing}

both_so : (a b : Bool) → a ≡ true → b ≡ true → (a && b) ≡ true
both_so true b e f = f
both_so false b e f = e

first_so : (a b : Bool) → (a && b) ≡ true → (a ≡ true) × (b ≡ true)
first_so true b e = (refl, e)
first_so false b e = (e, elim b as (λ b. b ≡ true) [ true ↦ refl | false ↦ e ])

-- a request that can be granted beside more can be beside fewer
fewer : (m h w held : Bool) → (m && (not h && not w)) ≡ true → (held ≡ true → h ≡ true) → (not held && not w) ≡ true
fewer true true w held e f = elim (not held && not w) as (λ b. b ≡ true) [ true ↦ refl | false ↦ e ]
fewer true false w true e f = f refl
fewer true false w false e f = e
fewer false h w held e f = elim (not held && not w) as (λ b. b ≡ true) [ true ↦ refl | false ↦ e ]

or_true : (a b : Bool) → a ≡ true → (a || b) ≡ true
or_true true b e = refl
or_true false b e = elim b as (λ b. b ≡ true) [ true ↦ refl | false ↦ e ]

module _ (lock : LockView) (may : Ticket → Bool) (all held : List Ticket) (test : Ticket → Bool)
    (so : (ask : Ticket) → can_be_granted lock held all ask ≡ true → test ask ≡ true) where
  -- what is so of each that can be granted at first is so of each that is granted
  each_granted : (rest granted : List Ticket)
      → ((ask : Ticket) → list_any (holds_against lock ask) held ≡ true → list_any (holds_against lock ask) granted ≡ true)
      → list_all test (passing lock may all granted rest) ≡ true
  each_granted [] granted known = refl
  each_granted (ask ∷ rest) granted known =
      let h = list_any (holds_against lock ask) granted in
      let w = list_any (waits_before lock ask) all in
      elim (may ask && can_be_granted lock granted all ask) as (λ b. (may ask && can_be_granted lock granted all ask) ≡ b
      → list_all test ((if b then ask ∷ [] else []) ++ passing lock may all (granted ++ (if b then ask ∷ [] else [])) rest) ≡ true) [
        | true ↦ λ e.
            both_so (test ask) (list_all test (passing lock may all (granted ++ ask ∷ []) rest))
            (so ask (fewer (may ask) h w (list_any (holds_against lock ask) held) e (known ask)))
            (each_granted rest (granted ++ ask ∷ []) (λ other e. list_any-append (holds_against lock other) granted (ask ∷ [])
            ∙ or_true (list_any (holds_against lock other) granted) (list_any (holds_against lock other) (ask ∷ [])) (known other e)))
        | false ↦ λ e.
            each_granted rest (granted ++ []) (λ other e. list_any-append (holds_against lock other) granted []
            ∙ or_true (list_any (holds_against lock other) granted) false (known other e))
      ] refl

-- of tickets of which none is left that blocks, each that blocks is taken
all_taken : (blocks taken : Ticket → Bool) (tickets : List Ticket) → not (list_any blocks (filter (λ ticket. not (taken ticket)) tickets)) ≡ true
    → list_all (λ ticket. not (blocks ticket) || taken ticket) tickets ≡ true
all_taken blocks taken [] e = refl
all_taken blocks taken (x ∷ xs) e =
    elim (taken x) as (λ t. not (list_any blocks (cond (not t) (x ∷ filter (λ ticket. not (taken ticket)) xs) (filter (λ ticket. not (taken ticket)) xs))) ≡ true
    → ((not (blocks x) || t) && list_all (λ ticket. not (blocks ticket) || taken ticket) xs) ≡ true) [
      | true ↦ λ e.
          both_so (not (blocks x) || true) (list_all (λ ticket. not (blocks ticket) || taken ticket) xs)
          (elim (blocks x) as (λ b. (not b || true) ≡ true) [ true ↦ refl | false ↦ refl ]) (all_taken blocks taken xs e)
      | false ↦ λ e.
          elim (blocks x) as (λ b. not (b || list_any blocks (filter (λ ticket. not (taken ticket)) xs)) ≡ true
          → ((not b || false) && list_all (λ ticket. not (blocks ticket) || taken ticket) xs) ≡ true) [
            | true ↦ λ e. e
            | false ↦ λ e. all_taken blocks taken xs e
          ] e
    ] e

pub freed : (act : Act) (lock : LockView) → All (λ ask. IsTrue (is_free lock (is_taken act) ask)) (granted_at lock (lock_after act lock))
freed act lock =
    let after = lock_after act lock in
    let may = is_blocked lock in
    let free = is_free lock (is_taken act) in
    let so = λ (ask : Ticket) (can : can_be_granted after after.granted after.waiting ask ≡ true).
    let both = first_so (not (list_any (holds_against after ask) after.granted)) (not (list_any (waits_before after ask) after.waiting)) can in
    both_so (list_all (λ held. not (holds_against lock ask held) || is_taken act held) lock.granted)
    (list_all (λ pending. not (waits_before lock ask pending) || is_taken act pending) lock.waiting)
    (all_taken (holds_against lock ask) (is_taken act) lock.granted both.0) (all_taken (waits_before lock ask) (is_taken act) lock.waiting both.1) in
    let whole : list_all free (granted_at lock after) ≡ true =
    ap (list_all free) (pass_all after may after.waiting after.granted)
    ∙ each_granted after may after.waiting after.granted free so after.waiting after.granted (λ ask e. e) in
    AllPass-from_list_all free (granted_at lock after) whole

-- Those that are left after the pass over the waiting tickets.
use Rattle.std.proofs.Common.{◌≡◌, ◌∙◌, Bool, true, false, not, ◌&&◌, ◌||◌, if◌then◌else◌, List, [], ◌∷◌, ◌++◌, refl, sym, ap, append_assoc, append-nil, subst}
use Rattle.std.specs.Prelude.{IsPermutation}
use Rattle.std.specs.List.{list_all, list_any}
use Rattle.std.proofs.lemmas.List.Folds.{list_any-append}
use Rattle.std.proofs.lemmas.List.Sorted.{IsPermutation-cons, IsPermutation-middle, IsPermutation-refl, IsPermutation-sym, IsPermutation-trans}
use Rattle.std.proofs.lemmas.List.Sums.{AllPass-from_list_all}
use Rattle.std.proofs.lemmas.Bool.{true≢false}
use Rattle.mdl_view.specs.declared.ticket.Ticket.{Ticket}
use Rattle.mdl_view.specs.AtOnce.{can_be_granted, granted_from, granted_now}
use Rattle.mdl_view.specs.Blockings.{holds_against, waits_before}
use Rattle.mdl_view.specs.Locks.{LockView}
use Rattle.mdl_view.specs.ViewLaws.{AreLeft}
use Rattle.mdl_view.proofs.PassLemmas.{any_implied, behind_held, pass_all, passing}

or_turned : (t g l : Bool) → (t || (g || l)) ≡ (g || (t || l))
or_turned true true l = refl
or_turned true false l = refl
or_turned false g l = refl

or_apart : (t g l : Bool) → (t || (g || l)) ≡ ((t || g) || l)
or_apart true g l = refl
or_apart false g l = refl

any_false : (a b : Bool) → (a || b) ≡ ((a || b) || false)
any_false true b = refl
any_false false true = refl
any_false false false = refl

-- at least one of two, if one implies a third
or_either : (a b c d : Bool) → (a ≡ true → c ≡ true) → (a || b) ≡ true → ((d || c) || b) ≡ true
or_either a b c true f e = refl
or_either true b c false f e = ap (λ x. x || b) (f refl)
or_either false b true false f e = refl
or_either false b false false f e = e

-- a request that wasn't granted at its turn can't be granted in the end
stays_so : (m h w last left : Bool) → (m && (not h && not w)) ≡ false → (h ≡ true → last ≡ true) → (w ≡ true → (last || left) ≡ true)
    → not (m && (not last && not left)) ≡ true
stays_so false h w last left e f g = refl
stays_so true h w true left e f g = refl
stays_so true h w false true e f g = refl
stays_so true true w false false e f g = f refl
stays_so true false true false false e f g = g refl
stays_so true false false false false e f g = absurd (true≢false e)

both_so : (a b : Bool) → a ≡ true → b ≡ true → (a && b) ≡ true
both_so true b e f = f
both_so false b e f = e

module _ (lock : LockView) (may : Ticket → Bool) (all : List Ticket) where
  -- whether a request is granted at its turn
  abbrev turns : List Ticket → Ticket → Bool
  turns granted ask = may ask && can_be_granted lock granted all ask

  -- the waits that aren't granted
  abbrev pub left_of : List Ticket → List Ticket → List Ticket
  left_of granted [] = []
  left_of granted (ask ∷ rest) = (if turns granted ask then [] else ask ∷ []) ++ left_of (granted ++ granted_now lock may granted all ask) rest

  -- a test of some waiting ticket
  parts : (test : Ticket → Bool) (rest granted : List Ticket)
      → list_any test rest ≡ (list_any test (passing lock may all granted rest) || list_any test (left_of granted rest))
  parts test [] granted = refl
  parts test (ask ∷ rest) granted =
      elim (turns granted ask) as (λ b. list_any test (ask ∷ rest)
      ≡ (list_any test ((if b then ask ∷ [] else []) ++ passing lock may all (granted ++ (if b then ask ∷ [] else [])) rest)
      || list_any test ((if b then [] else ask ∷ []) ++ left_of (granted ++ (if b then ask ∷ [] else [])) rest))) [
        | true ↦
            let more = granted ++ ask ∷ [] in
            ap (λ b. test ask || b) (parts test rest more) ∙ or_apart (test ask) (list_any test (passing lock may all more rest)) (list_any test (left_of more rest))
        | false ↦
            let same = granted ++ [] in
            ap (λ b. test ask || b) (parts test rest same) ∙ or_turned (test ask) (list_any test (passing lock may all same rest)) (list_any test (left_of same rest))
      ]

  -- each waiting ticket is granted or left
  arranged : (rest granted : List Ticket) → IsPermutation rest (passing lock may all granted rest ++ left_of granted rest)
  arranged [] granted = IsPermutation-refl []
  arranged (ask ∷ rest) granted =
      elim (turns granted ask) as (λ b. IsPermutation (ask ∷ rest)
      (((if b then ask ∷ [] else []) ++ passing lock may all (granted ++ (if b then ask ∷ [] else [])) rest)
      ++ ((if b then [] else ask ∷ []) ++ left_of (granted ++ (if b then ask ∷ [] else [])) rest))) [
        | true ↦
            let more = granted ++ ask ∷ [] in
            IsPermutation-cons ask rest (passing lock may all more rest ++ left_of more rest) (arranged rest more)
        | false ↦
            let got = passing lock may all (granted ++ []) rest in
            let left = left_of (granted ++ []) rest in
            IsPermutation-trans (ask ∷ rest) (ask ∷ (got ++ left)) (got ++ ask ∷ left)
            (IsPermutation-cons ask rest (got ++ left) (arranged rest (granted ++ [])))
            (IsPermutation-sym (got ++ ask ∷ left) (ask ∷ (got ++ left)) (IsPermutation-middle got ask left))
      ]

  module _ (last left : List Ticket)
      (cover : (ask : Ticket) → list_any (waits_before lock ask) all ≡ true
      → (list_any (holds_against lock ask) last || list_any (waits_before lock ask) left) ≡ true) where
    test : Ticket → Bool
    test ask = not (may ask && can_be_granted lock last left ask)

    kept : (ask : Ticket) (granted more : List Ticket) → last ≡ granted ++ more → list_any (holds_against lock ask) granted ≡ true
        → list_any (holds_against lock ask) last ≡ true
    kept ask granted more e held =
        ap (list_any (holds_against lock ask)) e ∙ list_any-append (holds_against lock ask) granted more ∙ ap (λ b. b || list_any (holds_against lock ask) more) held

    none_can : (rest granted : List Ticket) → last ≡ granted ++ passing lock may all granted rest
        → list_all (λ ask. not (may ask && can_be_granted lock last left ask)) (left_of granted rest) ≡ true
    none_can [] granted e = refl
    none_can (ask ∷ rest) granted e =
        let tests = list_all (λ (ask : Ticket). not (may ask && can_be_granted lock last left ask)) in
        elim (turns granted ask) as (λ b. turns granted ask ≡ b
        → last ≡ granted ++ ((if b then ask ∷ [] else []) ++ passing lock may all (granted ++ (if b then ask ∷ [] else [])) rest)
        → tests ((if b then [] else ask ∷ []) ++ left_of (granted ++ (if b then ask ∷ [] else [])) rest) ≡ true) [
          | true ↦ λ _ e. none_can rest (granted ++ ask ∷ []) (e ∙ sym (append_assoc granted (ask ∷ []) (passing lock may all (granted ++ ask ∷ []) rest)))
          | false ↦ λ no e.
              let h = list_any (holds_against lock ask) granted in
              let w = list_any (waits_before lock ask) all in
              both_so (not (may ask && can_be_granted lock last left ask)) (tests (left_of (granted ++ []) rest))
              (stays_so (may ask) h w (list_any (holds_against lock ask) last) (list_any (waits_before lock ask) left) no
              (kept ask granted (passing lock may all (granted ++ []) rest) e) (cover ask))
              (none_can rest (granted ++ []) (e ∙ ap (λ zs. zs ++ passing lock may all (granted ++ []) rest) (sym (append-nil granted))))
        ] refl e

pub nobody_left : (lock : LockView) (may : Ticket → Bool) (granted waiting : List Ticket)
    → AreLeft lock may granted waiting (granted_from lock may granted [] waiting) (left_of lock may waiting granted waiting)
nobody_left lock may granted waiting =
    let got = granted_from lock may granted [] waiting in
    let left = left_of lock may waiting granted waiting in
    let same : got ≡ passing lock may waiting granted waiting = pass_all lock may waiting granted in
    let cover = λ (ask : Ticket) (behind : list_any (waits_before lock ask) waiting ≡ true).
    let split : (list_any (waits_before lock ask) got || list_any (waits_before lock ask) left) ≡ true =
    ap (λ zs. list_any (waits_before lock ask) zs || list_any (waits_before lock ask) left) same ∙ sym (parts lock may waiting (waits_before lock ask) waiting granted) ∙ behind in
    ap (λ b. b || list_any (waits_before lock ask) left) (list_any-append (holds_against lock ask) granted got)
    ∙ or_either (list_any (waits_before lock ask) got) (list_any (waits_before lock ask) left) (list_any (holds_against lock ask) got) (list_any (holds_against lock ask) granted)
    (any_implied (waits_before lock ask) (holds_against lock ask) (behind_held lock ask) got) split in
    record {
      all = subst (λ zs. IsPermutation waiting (zs ++ left)) (sym same) (arranged lock may waiting waiting granted);
      none = AllPass-from_list_all (λ ask. not (may ask && can_be_granted lock (granted ++ got) left ask)) left
          (none_can lock may waiting (granted ++ got) left cover waiting granted (ap (λ zs. granted ++ zs) same));
    }

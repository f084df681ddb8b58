-- The pass over the waiting tickets, where a request is compared with all waiting tickets and not only with those that still wait: one that waits
-- behind a ticket that was granted clashes with it anyway.
use Rattle.std.proofs.Common.{◌≡◌, ◌∙◌, ℕ, ◌+◌, ◌<◌, ◌≤◌, Bool, true, false, not, ◌&&◌, ◌||◌, if◌then◌else◌, List, [], ◌∷◌, ◌++◌, length, drop, get_or, refl, sym, ap, append_assoc, append-nil, add-one, drop-cons}
use Rattle.std.specs.Prelude.{◌==◌}
use Rattle.std.specs.List.{list_any}
use Rattle.std.proofs.lemmas.Bool.{eq-eqb}
use Rattle.std.proofs.lemmas.List.{drop_all}
use Rattle.std.proofs.lemmas.List.Folds.{list_any-append}
use Rattle.mdl_view.specs.declared.ticket.Ticket.{Ticket}
use Rattle.mdl_view.specs.AtOnce.{KeepsSample, can_be_granted, granted_from, granted_now}
use Rattle.mdl_view.specs.Blockings.{holds_against, waits_before}
use Rattle.mdl_view.specs.Locks.{LockView}
use Rattle.mdl_view.specs.Modes.{lock_clashes, lock_waits_behind}
use Rattle.mdl_view.specs.Samples.{IsSample, is_apart}
use Rattle.mdl_view.proofs.MatrixLemmas.{behind_clashes}
use Rattle.mdl_view.proofs.SampleLemmas.{other_in}

-- the waits that are granted, of those that `may` be, when `granted` hold the lock and `all` are the waiting tickets
abbrev pub passing : LockView → (Ticket → Bool) → List Ticket → List Ticket → List Ticket → List Ticket
passing lock may all granted [] = []
passing lock may all granted (ask ∷ rest) =
    granted_now lock may granted all ask ++ passing lock may all (granted ++ granted_now lock may granted all ask) rest

-- tickets that imply
and_implied : (s a b : Bool) → (a ≡ true → b ≡ true) → (s && a) ≡ true → (s && b) ≡ true
and_implied true a b f e = f e
and_implied false a b f e = e

pub behind_held : (lock : LockView) (ask other : Ticket) → waits_before lock ask other ≡ true → holds_against lock ask other ≡ true
behind_held lock ask other =
    and_implied (not (other.session == ask.session)) (lock_waits_behind lock.kind ask.mode other.mode) (lock_clashes lock.kind ask.mode other.mode)
    (behind_clashes lock.kind ask.mode other.mode)

or_implied : (a b c d : Bool) → (a ≡ true → b ≡ true) → (c ≡ true → d ≡ true) → (a || c) ≡ true → (b || d) ≡ true
or_implied true true c d f g e = refl
or_implied true false c d f g e = let bad : false ≡ true = f refl in cc
or_implied false true c d f g e = refl
or_implied false false c d f g e = g e

pub any_implied : {X : Type 0} (p q : X → Bool) → ((x : X) → p x ≡ true → q x ≡ true) → (xs : List X) → list_any p xs ≡ true → list_any q xs ≡ true
any_implied p q f [] e = e
any_implied p q f (x ∷ xs) e = or_implied (p x) (q x) (list_any p xs) (list_any q xs) (f x) (any_implied p q f xs) e

-- a request doesn't wait behind itself
pub not_itself : (lock : LockView) (ask : Ticket) → waits_before lock ask ask ≡ false
not_itself lock ask = ap (λ b. not b && lock_waits_behind lock.kind ask.mode ask.mode) (eq-eqb ask.session ask.session refl)

-- where those who hold the lock are the same, and the waiting tickets differ only in those
same_test : (h w a p r g : Bool) → (g ≡ true → h ≡ true) → w ≡ false → (g || a) ≡ (g || (p || (w || r))) → (not h && not a) ≡ (not h && not (p || r))
same_test true w a p r g f none e = refl
same_test false w a p r true f none e = let bad : false ≡ true = f refl in cc
same_test false true a p r false f none e = let bad : true ≡ false = none in cc
same_test false false a p r false f none e = ap not e

-- the tickets granted and all waiting ones are those granted, those passed over and the rest
abbrev pub Parts : List Ticket → List Ticket → List Ticket → List Ticket → Type 0
Parts all granted passed rest =
    (test : Ticket → Bool) → (list_any test granted || list_any test all) ≡ (list_any test granted || (list_any test passed || list_any test rest))

grown : (g a A p r : Bool) → (g || A) ≡ (g || (p || (a || r))) → ((g || (a || false)) || A) ≡ ((g || (a || false)) || (p || r))
grown true a A p r e = refl
grown false true A p r e = refl
grown false false A p r e = e

shifted : (g a A p r : Bool) → (g || A) ≡ (g || (p || (a || r))) → (g || A) ≡ (g || ((p || (a || false)) || r))
shifted g true A true r e = e
shifted g true A false r e = e
shifted g false A true r e = e
shifted g false A false r e = e

module _ (lock : LockView) (may : Ticket → Bool) (all : List Ticket) where
  -- one request
  same_can : (granted passed rest : List Ticket) (ask : Ticket) → Parts all granted passed (ask ∷ rest)
      → can_be_granted lock granted all ask ≡ can_be_granted lock granted (passed ++ rest) ask
  same_can granted passed rest ask parts =
      let behind = waits_before lock ask in
      same_test (list_any (holds_against lock ask) granted) (behind ask) (list_any behind all) (list_any behind passed) (list_any behind rest)
      (list_any behind granted) (any_implied behind (holds_against lock ask) (behind_held lock ask) granted) (not_itself lock ask) (parts behind)
      ∙ ap (λ b. not (list_any (holds_against lock ask) granted) && not b) (sym (list_any-append behind passed rest))

  pub pass_same : (rest granted passed : List Ticket) → Parts all granted passed rest → granted_from lock may granted passed rest ≡ passing lock may all granted rest
  pass_same [] granted passed parts = refl
  pass_same (ask ∷ rest) granted passed parts =
      let now = may ask && can_be_granted lock granted (passed ++ rest) ask in
      let if_granted = ask ∷ granted_from lock may (granted ++ ask ∷ []) passed rest in
      let if_passed = granted_from lock may granted (passed ++ ask ∷ []) rest in
      let whole = λ (b : Bool). (if b then ask ∷ [] else []) ++ passing lock may all (granted ++ (if b then ask ∷ [] else [])) rest in
      let same : now ≡ (may ask && can_be_granted lock granted all ask) = ap (λ b. may ask && b) (sym (same_can granted passed rest ask parts)) in
      let more : Parts all (granted ++ ask ∷ []) passed rest = λ test.
      ap (λ b. b || list_any test all) (list_any-append test granted (ask ∷ []))
      ∙ grown (list_any test granted) (test ask) (list_any test all) (list_any test passed) (list_any test rest) (parts test)
      ∙ ap (λ b. b || (list_any test passed || list_any test rest)) (sym (list_any-append test granted (ask ∷ []))) in
      let over : Parts all granted (passed ++ ask ∷ []) rest = λ test.
      shifted (list_any test granted) (test ask) (list_any test all) (list_any test passed) (list_any test rest) (parts test)
      ∙ ap (λ b. list_any test granted || (b || list_any test rest)) (sym (list_any-append test passed (ask ∷ []))) in
      let by : (b : Bool) → (if b then if_granted else if_passed) ≡ whole b = λ b.
      elim b as (λ b. (if b then if_granted else if_passed) ≡ whole b) [
        | true ↦ ap (λ zs. ask ∷ zs) (pass_same rest (granted ++ ask ∷ []) passed more)
        | false ↦ pass_same rest granted (passed ++ ask ∷ []) over ∙ ap (λ zs. passing lock may all zs rest) (sym (append-nil granted))
      ] in
      by now ∙ ap whole same

  -- all
  pub pass_all : (granted : List Ticket) → granted_from lock may granted [] all ≡ passing lock may all granted all
  pass_all granted = pass_same all granted [] (λ test. refl)

  -- with samples
  pub same_now : (few granted waiting : List Ticket) (ask : Ticket) → IsSample few granted → IsSample waiting all
      → granted_now lock may few waiting ask ≡ granted_now lock may granted all ask
  same_now few granted waiting ask held pending =
      let first = other_in few granted held (lock_clashes lock.kind ask.mode) ask.session in
      let second = other_in waiting all pending (lock_waits_behind lock.kind ask.mode) ask.session in
      ap (λ b. if may ask && (not b && not (list_any (waits_before lock ask) waiting)) then ask ∷ [] else []) first
      ∙ ap (λ b. if may ask && (not (list_any (holds_against lock ask) granted) && not b) then ask ∷ [] else []) second

  -- and what is added to what was granted
  pub grants : (few few′ held got got′ waiting waiting′ : List Ticket) (ask : Ticket) (b : Bool) → got′ ≡ got ++ (if b then ask ∷ [] else [])
      → b ≡ (may ask && can_be_granted lock few′ waiting′ ask) → few′ ≡ few → waiting′ ≡ waiting → IsSample few (held ++ got) → IsSample waiting all
      → got′ ≡ got ++ granted_now lock may (held ++ got) all ask
  grants few few′ held got got′ waiting waiting′ ask b more test few-is waiting-is first second =
      let now = λ (b : Bool). if b then ask ∷ [] else [] in
      more ∙ ap (λ b. got ++ now b) test ∙ ap (λ few. got ++ now (may ask && can_be_granted lock few waiting′ ask)) few-is
      ∙ ap (λ waiting. got ++ now (may ask && can_be_granted lock few waiting ask)) waiting-is
      ∙ ap (λ zs. got ++ zs) (same_now few (held ++ got) waiting ask first second)

  -- one more request
  pub pass_step : (held got got′ ys whole : List Ticket) (i : ℕ) (d : Ticket) → ys ≡ all → i < length ys
      → got′ ≡ got ++ granted_now lock may (held ++ got) all (get_or ys i d) → got ++ passing lock may all (held ++ got) (drop i all) ≡ whole
      → got′ ++ passing lock may all (held ++ got′) (drop (i + 1) all) ≡ whole
  pass_step held got got′ ys whole i d same inside more so =
      let now = granted_now lock may (held ++ got) all (get_or ys i d) in
      let next = drop (i + 1) all in
      let here : drop i all ≡ get_or ys i d ∷ next =
      ap (drop i) (sym same) ∙ drop-cons ys i d inside ∙ ap (λ n. get_or ys i d ∷ drop n ys) (sym (add-one i)) ∙ ap (λ zs. get_or ys i d ∷ drop (i + 1) zs) same in
      ap (λ zs. zs ++ passing lock may all (held ++ zs) next) more ∙ append_assoc got now (passing lock may all (held ++ (got ++ now)) next)
      ∙ ap (λ zs. got ++ (now ++ passing lock may all zs next)) (sym (append_assoc held got now))
      ∙ ap (λ zs. got ++ passing lock may all (held ++ got) zs) (sym here) ∙ so

  -- behind the last request nobody is granted
  pub pass_end : (held got ys whole : List Ticket) (i : ℕ) → ys ≡ all → length ys ≤ i → got ++ passing lock may all (held ++ got) (drop i all) ≡ whole → got ≡ whole
  pass_end held got ys whole i same end so =
      sym (append-nil got) ∙ ap (λ zs. got ++ passing lock may all (held ++ got) zs) (sym (ap (drop i) (sym same) ∙ drop_all i ys end)) ∙ so

-- a sample of what is granted
pub sample_step : (held got got′ now few few′ : List Ticket) → got′ ≡ got ++ now → IsSample few (held ++ got) → KeepsSample now few few′ → IsSample few′ (held ++ got′)
sample_step held got got′ now few few′ more sample keeps = λ test one other.
    keeps (held ++ got) sample test one other ∙ ap (list_any (is_apart test one other)) (append_assoc held got now ∙ ap (λ zs. held ++ zs) (sym more))

-- who may be granted, by tests that agree
pub same_may : (lock : LockView) (may other : Ticket → Bool) → ((ask : Ticket) → may ask ≡ other ask) → (rest granted passed : List Ticket)
    → granted_from lock may granted passed rest ≡ granted_from lock other granted passed rest
same_may lock may other same [] granted passed = refl
same_may lock may other same (ask ∷ rest) granted passed =
    let can = can_be_granted lock granted (passed ++ rest) ask in
    ap (λ b. if b && can then ask ∷ granted_from lock may (granted ++ ask ∷ []) passed rest else granted_from lock may granted (passed ++ ask ∷ []) rest) (same ask)
    ∙ ap (λ zs. if other ask && can then ask ∷ zs else granted_from lock may granted (passed ++ ask ∷ []) rest) (same_may lock may other same rest (granted ++ ask ∷ []) passed)
    ∙ ap (λ zs. if other ask && can then ask ∷ granted_from lock other (granted ++ ask ∷ []) passed rest else zs) (same_may lock may other same rest granted (passed ++ ask ∷ []))

-- Look-ups of tickets by session and number, in a list that gains one, loses one or has one in another mode.
use Rattle.std.proofs.Common.{◌≡◌, ◌≢◌, ℕ, suc, ◌+◌, ◌==◌, ◌&&◌, Bool, true, false, cond, List, [], ◌∷◌, ◌++◌, take, drop, Some, None, refl, sym, ap, ◌∙◌, subst, arith, eq-eqb, eqb-true}
use Rattle.mdl_steps.proofs.Common.{Mode, Once, Ticket, and_from, and_parts, find, in_mode, is_ticket, list_all, option_map, option_to_list, position_or_len, ticket_of, with_mode, without}
use Rattle.mdl_steps.proofs.Views.{by_bool, other}

-- ---- tests

pub and_false : (b : Bool) → (b && false) ≡ false
and_false true = refl
and_false false = refl

-- a ticket is found by what it is
pub is_itself : (t : Ticket) → is_ticket t.session t.number t ≡ true
is_itself t = and_from _ _ (eq-eqb t.session t.session refl) (eq-eqb t.number t.number refl)

-- a test that passes tells the session and the number
pub is_passed : (session number : ℕ) (t : Ticket) → is_ticket session number t ≡ true → (t.session ≡ session) × (t.number ≡ number)
is_passed session number t e = let parts = and_parts (t.session == session) (t.number == number) e in (eqb-true _ _ parts.0, eqb-true _ _ parts.1)

-- of another session, or of another number, it fails
pub of_other : (session number : ℕ) (t : Ticket) → t.session ≢ session → is_ticket session number t ≡ false
of_other session number t differs = rw (other t.session session differs) refl

pub of_other_number : (session number : ℕ) (t : Ticket) → t.number ≢ number → is_ticket session number t ≡ false
of_other_number session number t differs = rw (other t.number number differs) (and_false (t.session == session))

-- ---- the list without its first ticket of a session and number, and with it in another mode, by recursion

module _ (session number : ℕ) where
  on : (k : ℕ) → 1 + k ≡ suc k
  on k = omega arith

  pub without-hit : (t : Ticket) (ts : List Ticket) → is_ticket session number t ≡ true → without session number (t ∷ ts) ≡ ts
  without-hit t ts e = rw e refl

  pub without-miss : (t : Ticket) (ts : List Ticket) → is_ticket session number t ≡ false → without session number (t ∷ ts) ≡ t ∷ without session number ts
  without-miss t ts e =
      let k : ℕ = position_or_len (is_ticket session number) ts in
      rw e (λ i. take (on k i) (t ∷ ts) ++ drop (on k i + 1) (t ∷ ts)) ∙ (let more : suc k + 1 ≡ suc (k + 1) = omega arith in λ i. t ∷ take k ts ++ drop (more i) (t ∷ ts))

  pub with_mode-hit : (mode : Mode) (t : Ticket) (ts : List Ticket) → is_ticket session number t ≡ true → with_mode session number mode (t ∷ ts) ≡ in_mode mode t ∷ ts
  with_mode-hit mode t ts e = rw e refl

  pub with_mode-miss : (mode : Mode) (t : Ticket) (ts : List Ticket) → is_ticket session number t ≡ false → with_mode session number mode (t ∷ ts) ≡ t ∷ with_mode session number mode ts
  with_mode-miss mode t ts e =
      let k : ℕ = position_or_len (is_ticket session number) ts in
      let middle : List Ticket = option_to_list (option_map (in_mode mode) (find (is_ticket session number) ts)) in
      rw e (λ i. take (on k i) (t ∷ ts) ++ (middle ++ drop (on k i + 1) (t ∷ ts)))
      ∙ (let more : suc k + 1 ≡ suc (k + 1) = omega arith in λ i. t ∷ take k ts ++ (middle ++ drop (more i) (t ∷ ts)))

  -- ---- look-ups that have nothing to do with it

  module _ (a m : ℕ) (apart : (t : Ticket) → is_ticket session number t ≡ true → is_ticket a m t ≡ false) where
    pub of-without_other : (ts : List Ticket) → ticket_of a m (without session number ts) ≡ ticket_of a m ts
    of-without_other [] = refl
    of-without_other (t ∷ ts) = by_bool (is_ticket session number t)
        (λ hit. ap (ticket_of a m) (without-hit t ts hit) ∙ sym (rw (apart t hit) refl))
        (λ miss. ap (ticket_of a m) (without-miss t ts miss) ∙ ap (λ o. cond (is_ticket a m t) (Some t) o) (of-without_other ts))

    pub of-mode_other : (mode : Mode) (ts : List Ticket) → ticket_of a m (with_mode session number mode ts) ≡ ticket_of a m ts
    of-mode_other mode [] = refl
    of-mode_other mode (t ∷ ts) = by_bool (is_ticket session number t)
        (λ hit. ap (ticket_of a m) (with_mode-hit mode t ts hit) ∙ rw (apart t hit) refl)
        (λ miss. ap (ticket_of a m) (with_mode-miss mode t ts miss) ∙ ap (λ o. cond (is_ticket a m t) (Some t) o) (of-mode_other mode ts))

  -- ---- and those of it

  pub of-without_own : (ts : List Ticket) → Once ts → ticket_of session number (without session number ts) ≡ None
  of-without_own [] once = refl
  of-without_own (t ∷ ts) once = by_bool (is_ticket session number t)
      (λ hit. let is = is_passed session number t hit in
      ap (ticket_of session number) (without-hit t ts hit) ∙ subst (λ (a : ℕ). ticket_of a number ts ≡ None) is.0 (subst (λ (m : ℕ). ticket_of t.session m ts ≡ None) is.1 once.0))
      (λ miss. ap (ticket_of session number) (without-miss t ts miss) ∙ rw miss (of-without_own ts once.1))

  pub of-mode_own : (mode : Mode) (ts : List Ticket) → ticket_of session number (with_mode session number mode ts) ≡ option_map (in_mode mode) (ticket_of session number ts)
  of-mode_own mode [] = refl
  of-mode_own mode (t ∷ ts) = by_bool (is_ticket session number t)
      (λ hit. ap (ticket_of session number) (with_mode-hit mode t ts hit) ∙ rw hit refl)
      (λ miss. ap (ticket_of session number) (with_mode-miss mode t ts miss) ∙ rw miss (of-mode_own mode ts))

  -- ---- what isn't found stays so

  pub none-without : (a m : ℕ) (ts : List Ticket) → ticket_of a m ts ≡ None → ticket_of a m (without session number ts) ≡ None
  none-without a m [] e = refl
  none-without a m (t ∷ ts) e = by_bool (is_ticket a m t)
      (λ found. let first = rw found at e in absurd (cc))
      (λ past. by_bool (is_ticket session number t)
      (λ hit. ap (ticket_of a m) (without-hit t ts hit) ∙ rw past at e)
      (λ miss. ap (ticket_of a m) (without-miss t ts miss) ∙ rw past (none-without a m ts (rw past at e))))

  none-mode : (a m : ℕ) (mode : Mode) (ts : List Ticket) → ticket_of a m ts ≡ None → ticket_of a m (with_mode session number mode ts) ≡ None
  none-mode a m mode [] e = refl
  none-mode a m mode (t ∷ ts) e = by_bool (is_ticket a m t)
      (λ found. let first = rw found at e in absurd (cc))
      (λ past. by_bool (is_ticket session number t)
      (λ hit. ap (ticket_of a m) (with_mode-hit mode t ts hit) ∙ rw past (rw past at e))
      (λ miss. ap (ticket_of a m) (with_mode-miss mode t ts miss) ∙ rw past (none-mode a m mode ts (rw past at e))))

  pub once-without : (ts : List Ticket) → Once ts → Once (without session number ts)
  once-without [] once = tt
  once-without (t ∷ ts) once = by_bool (is_ticket session number t)
      (λ hit. subst Once (sym (without-hit t ts hit)) once.1)
      (λ miss. subst Once (sym (without-miss t ts miss)) (none-without t.session t.number ts once.0, once-without ts once.1))

  pub once-mode : (mode : Mode) (ts : List Ticket) → Once ts → Once (with_mode session number mode ts)
  once-mode mode [] once = tt
  once-mode mode (t ∷ ts) once = by_bool (is_ticket session number t)
      (λ hit. subst Once (sym (with_mode-hit mode t ts hit)) once)
      (λ miss. subst Once (sym (with_mode-miss mode t ts miss)) (none-mode t.session t.number mode ts once.0, once-mode mode ts once.1))

  -- ---- what all of them pass

  pub all-without : (test : Ticket → Bool) (ts : List Ticket) → list_all test ts ≡ true → list_all test (without session number ts) ≡ true
  all-without test [] e = refl
  all-without test (t ∷ ts) e =
      let parts = and_parts (test t) (list_all test ts) e in
      by_bool (is_ticket session number t)
      (λ hit. ap (list_all test) (without-hit t ts hit) ∙ parts.1)
      (λ miss. ap (list_all test) (without-miss t ts miss) ∙ and_from _ _ parts.0 (all-without test ts parts.1))

  pub all-mode : (test : Ticket → Bool) (mode : Mode) → ((t : Ticket) → test (in_mode mode t) ≡ true) → (ts : List Ticket) → list_all test ts ≡ true → list_all test (with_mode session number mode ts) ≡ true
  all-mode test mode passes [] e = refl
  all-mode test mode passes (t ∷ ts) e =
      let parts = and_parts (test t) (list_all test ts) e in
      by_bool (is_ticket session number t)
      (λ hit. ap (list_all test) (with_mode-hit mode t ts hit) ∙ and_from _ _ (passes t) parts.1)
      (λ miss. ap (list_all test) (with_mode-miss mode t ts miss) ∙ and_from _ _ parts.0 (all-mode test mode passes ts parts.1))

-- ---- a ticket that joins

pub of-push_other : (a m : ℕ) (t : Ticket) (ts : List Ticket) → is_ticket a m t ≡ false → ticket_of a m (ts ++ t ∷ []) ≡ ticket_of a m ts
of-push_other a m t [] e = rw e refl
of-push_other a m t (x ∷ ts) e = ap (λ o. cond (is_ticket a m x) (Some x) o) (of-push_other a m t ts e)

pub once-push : (t : Ticket) (ts : List Ticket) → ticket_of t.session t.number ts ≡ None → Once ts → Once (ts ++ t ∷ [])
once-push t [] fresh once = (refl, tt)
once-push t (x ∷ ts) fresh once = by_bool (is_ticket t.session t.number x)
    (λ same. let first = rw same at fresh in absurd (cc))
    (λ differs.
    let apart : is_ticket x.session x.number t ≡ false = by_bool (is_ticket x.session x.number t)
    (λ is. let e = is_passed x.session x.number t is in absurd (cc (is_itself x)))
    (λ is. is) in
    (of-push_other x.session x.number t ts apart ∙ once.0, once-push t ts (rw differs at fresh) once.1))

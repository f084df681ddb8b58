-- Who waits, by the tickets of a waiting list and the sessions' wait words.
use Rattle.std.proofs.Common.{◌≡◌, ◌≢◌, ℕ, ◌/◌, ◌%◌, ◌≤◌, List, [], ◌∷◌, ◌++◌, map, Some, refl, sym, ap, ◌∙◌, subst, arith, Contains}
use Rattle.mdl_steps_laws.proofs.Common.{Contains-append_left, Contains-append_right, Contains-here, Contains-later, Contains-map, Definition, KeyName, Killed, LeavesOrder, Lock, Slot, State, System, TakesTurn, Tells, TellsWaits, Ticket, TimedOut, Unsettled, Victim, View, WaitState, Waiter, after_first, before_first, code_of, is_ticket, option_to_list, parted, ticket_of, wait_in, waits, without}
use Rattle.mdl_steps_laws.proofs.WaitsTold.{state_by, waiter_by}

-- ---- states and words

pub code_most : (x : WaitState) → code_of x ≤ 5
code_most Unsettled = omega arith
code_most Victim = omega arith
code_most TimedOut = omega arith
code_most Killed = omega arith

-- a waiting ticket's wait is neither idle nor granted
pub code_waits : (x : WaitState) → (code_of x ≢ 0) × (code_of x ≢ 2)
code_waits Unsettled = ((λ e. omega arith), λ e. omega arith)
code_waits Victim = ((λ e. omega arith), λ e. omega arith)
code_waits TimedOut = ((λ e. omega arith), λ e. omega arith)
code_waits Killed = ((λ e. omega arith), λ e. omega arith)

state_code : (x : WaitState) → state_by (code_of x) ≡ x
state_code Unsettled = refl
state_code Victim = refl
state_code TimedOut = refl
state_code Killed = refl

-- a waiter is what its ticket and a word tell
pub waiter_is : (f : ℕ → ℕ) (t : Ticket) (number : ℕ) (x : WaitState) → f t.session ≡ wait_in number (code_of x) → waiter_by f t ≡ record { ticket = t; wait = number; state = x }
waiter_is f t number x told =
    let most = code_most x in
    let wait_is : f t.session / 8 ≡ number = omega arith in
    let code_is : f t.session % 8 ≡ code_of x = omega arith in
    let state_is : state_by (f t.session % 8) ≡ x = ap state_by code_is ∙ state_code x in
    λ i. record { ticket = t; wait = wait_is i; state = state_is i }

-- ---- lists

told_list : (f : ℕ → ℕ) (ws : List Waiter) → ((w : Waiter) → Contains ws w → f w.ticket.session ≡ wait_in w.wait (code_of w.state))
    → ws ≡ map (waiter_by f) (map (λ (w : Waiter). w.ticket) ws)
told_list f [] told = refl
told_list f (w ∷ ws) told =
    let first = sym (waiter_is f w.ticket w.wait w.state (told w (Contains-here w ws))) in
    let rest = told_list f ws (λ x among. told x (Contains-later w ws x among)) in
    λ i. first i ∷ rest i

-- words that agree for the sessions of some tickets tell the same of them
pub told_alike : (f g : ℕ → ℕ) (ts : List Ticket) → ((t : Ticket) → Contains ts t → g t.session ≡ f t.session) → map (waiter_by g) ts ≡ map (waiter_by f) ts
told_alike f g [] same = refl
told_alike f g (t ∷ ts) same =
    let first : waiter_by g t ≡ waiter_by f t = ap (λ (n : ℕ). record { ticket = t; wait = n / 8; state = state_by (n % 8) }) (same t (Contains-here t ts)) in
    let rest = told_alike f g ts (λ u among. same u (Contains-later t ts u among)) in
    λ i. first i ∷ rest i

pub map_joined : {A B : Type 0} (f : A → B) (xs ys : List A) → map f (xs ++ ys) ≡ map f xs ++ map f ys
map_joined f [] ys = refl
map_joined f (x ∷ xs) ys = ap (λ zs. f x ∷ zs) (map_joined f xs ys)

-- ---- the ticket of a session and number in a waiting list

module _ (session number : ℕ) (ts : List Ticket) (t : Ticket) (found : ticket_of session number ts ≡ Some t) where
  abbrev before : List Ticket
  before = before_first (is_ticket session number) ts

  abbrev behind : List Ticket
  behind = after_first (is_ticket session number) ts

  pub parts_of : ts ≡ before ++ t ∷ behind
  parts_of = parted (is_ticket session number) ts ∙ ap (λ o. before ++ (option_to_list o ++ behind)) found

  -- it goes, where the others wait as before
  pub leaves_order : (f g : ℕ → ℕ) → ((u : Ticket) → Contains (without session number ts) u → g u.session ≡ f u.session)
      → LeavesOrder (waiter_by f t) (map (waiter_by f) ts) (map (waiter_by g) (without session number ts))
  leaves_order f g same = (
    map (waiter_by f) before,
    map (waiter_by f) behind,
    ap (map (waiter_by f)) parts_of ∙ map_joined (waiter_by f) before (t ∷ behind),
    told_alike f g (before ++ behind) same ∙ map_joined (waiter_by f) before behind,
  )

  -- or another stands in its turn
  pub takes_turn : (f g : ℕ → ℕ) → ((u : Ticket) → Contains (without session number ts) u → g u.session ≡ f u.session)
      → TakesTurn (waiter_by f t) (waiter_by g t) (map (waiter_by f) ts) (map (waiter_by g) ts)
  takes_turn f g same =
      let first = told_alike f g before (λ u among. same u (Contains-append_left before behind u among)) in
      let last = told_alike f g behind (λ u among. same u (Contains-append_right before behind u among)) in (
        map (waiter_by f) before,
        map (waiter_by f) behind,
        ap (map (waiter_by f)) parts_of ∙ map_joined (waiter_by f) before (t ∷ behind),
        ap (map (waiter_by g)) parts_of ∙ map_joined (waiter_by g) before (t ∷ behind) ∙ (λ i. first i ++ waiter_by g t ∷ last i),
      )

-- ---- the system's waiters

module _ (s : State Slot View) (locks : KeyName → Lock) (system : System Definition) (tells : Tells locks system) (told : TellsWaits s system) where
  pub waiting_by : (key : KeyName) → system.waiting key ≡ map (waiter_by (waits s)) (locks key).book.waiting
  waiting_by key = told_list (waits s) (system.waiting key) (told.waiting key) ∙ ap (map (waiter_by (waits s))) (tells.waiting key)

  -- where its word is idle or granted no ticket of a session waits
  pub not_waiting : (session : ℕ) → ((x : WaitState) → waits s session % 8 ≢ code_of x) → (key : KeyName) (t : Ticket) → Contains (locks key).book.waiting t → t.session ≢ session
  not_waiting session other key t among same =
      let w : Waiter = waiter_by (waits s) t in
      let there : Contains (system.waiting key) (waiter_by (waits s) t) = subst (λ ws. Contains ws (waiter_by (waits s) t)) (sym (waiting_by key)) (Contains-map (waiter_by (waits s)) (locks key).book.waiting t among) in
      let word = told.waiting key (waiter_by (waits s) t) there in
      let most = code_most (waiter_by (waits s) t).state in
      let is : waits s session ≡ waits s t.session = ap (waits s) (sym same) in
      other (waiter_by (waits s) t).state (omega arith)

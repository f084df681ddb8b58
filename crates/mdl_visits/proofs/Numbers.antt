-- No ticket that a session has is the one that it waits for, and a session that waits for nothing waits for none.
use Rattle.std.proofs.Common.{◌≡◌, ℕ, ◌==◌, true, List, [], ◌∷◌, Option, Some, None, sym, ◌∙◌, subst, is_some, not, eqb-true, eq-eqb}
use Rattle.mdl_visits.proofs.Common.{Ask, NotWaited, SessionTicket, View, and_parts, by_bool, find-passes, is_ask_apart, is_no_number, numbered}

other_number : (wanted number : ℕ) (tickets : List SessionTicket) → is_some (numbered number tickets) ≡ true → is_no_number wanted tickets ≡ true → wanted ≡ number → ⊥
other_number wanted number [] there none same = absurd (cc)
other_number wanted number (t ∷ ts) there none same =
    let parts = and_parts (not (t.number == wanted)) (is_no_number wanted ts) none in
    by_bool (t.number == number)
    (λ hit.
    let is : (t.number == wanted) ≡ true = eq-eqb t.number wanted (eqb-true t.number number hit ∙ sym same) in
    let first = parts.0 in
    absurd (cc))
    (λ miss. other_number wanted number ts (rw miss at there) parts.1 same)

pub not_waited : (v : View) (number : ℕ) → is_some (numbered number v.slow) ≡ true → is_ask_apart v.next v.slow v.asks ≡ true → NotWaited v number
not_waited v number there apart = λ a asks same.
    let here = subst (λ (o : Option Ask). is_ask_apart v.next v.slow o ≡ true) asks apart in
    other_number a.number number v.slow there (and_parts _ (is_no_number a.number v.slow) here).1 same

pub idle_waits_not : (v : View) (number : ℕ) → v.asks ≡ None → NotWaited v number
idle_waits_not v number idle = λ a asks same. let never : ◌≡◌ {A = Option Ask} None (Some a) = sym idle ∙ asks in absurd (cc)

-- the ticket of a number has it
pub has_number : (number : ℕ) (t : SessionTicket) (tickets : List SessionTicket) → numbered number tickets ≡ Some t → t.number ≡ number
has_number number t tickets found = eqb-true t.number number (find-passes (λ (x : SessionTicket). x.number == number) tickets t found)

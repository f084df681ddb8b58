-- Programs of calls, and their runs over a lock space: each call takes the state before it to the state after it. If a program
-- needs memory of its own, it says how it goes on with the memory and without it.
use Rattle.std.specs.Prelude.{◌≡◌, ◌⊎◌}
use Rattle.mdl_calls.specs.Interface.{Call, Answer}

-- a program: it ends with a reply (`Give`), makes a call and goes on by its answer (`Ask`), or asks for memory of its own and goes
-- on by whether that is refused or found (`Grow`)
pub data Program (A : Type 0) : Type 0 where
  Give : A → Program A
  Ask : Call → (Answer → Program A) → Program A
  Grow : (refused found : Program A) → Program A

infixl 20 ◌>>=◌
-- one program, and then the program that its reply leads to
abbrev pub ◌>>=◌ : {A B : Type 0} → Program A → (A → Program B) → Program B
Give x >>= next = next x
Ask call then >>= next = Ask call (λ answer. then answer >>= next)
Grow refused found >>= next = Grow (refused >>= next) (found >>= next)

infixl 20 ◌>>◌
-- one program, and then another
abbrev pub ◌>>◌ : {A B : Type 0} → Program A → Program B → Program B
first >> second = first >>= (λ _. second)

-- a run of a program from the one state to the other, with this reply: there are states between, and one call with its answer
-- takes each to the next. Memory that the program asks for may be refused, and may be found.
abbrev pub Runs : {S A : Type 0} → (S → Call → Answer → S → Type 0) → S → Program A → A → S → Type 0
Runs joins a (Give x) reply b = (x ≡ reply) × (a ≡ b)
Runs {S} joins a (Ask call next) reply b = (answer : Answer) × (mid : S) × joins a call answer mid × Runs joins mid (next answer) reply b
Runs joins a (Grow refused found) reply b = Runs joins a refused reply b ⊎ Runs joins a found reply b

-- the reply and the last state of a program if each call has just one answer and one state after it, and memory is found
abbrev pub outcome_of : {S A : Type 0} → (Call → S → Answer × S) → Program A → S → A × S
outcome_of step (Give x) s = (x, s)
outcome_of step (Ask call next) s = outcome_of step (next (step call s).0) (step call s).1
outcome_of step (Grow refused found) s = outcome_of step found s

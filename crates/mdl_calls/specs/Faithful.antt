-- What a program of calls replies if memory runs out: some programs then only reply faults, and some need no memory.
use Rattle.std.specs.Prelude.{◌≡◌, ◌⊎◌, true, false}
use Rattle.mdl_calls.specs.FirstWords.{Answer, Ask, Call, Give, Grow, OutOfMemory, Program, Refused}
use Rattle.mdl_calls.specs.AllCalls.{takes_memory}

-- each reply that a program can give has the property, whatever its calls answer, and whether memory is refused or found
abbrev pub Each : {A : Type 0} → (A → Type 0) → Program A → Type 0
Each P (Give x) = P x
Each P (Ask call next) = (answer : Answer) → Each P (next answer)
Each P (Grow refused found) = Each P refused × Each P found

-- each call that a program can make has the property
abbrev pub EachCall : {A : Type 0} → (Call → Type 0) → Program A → Type 0
EachCall P (Give x) = Unit {0}
EachCall P (Ask call next) = P call × ((answer : Answer) → EachCall P (next answer))
EachCall P (Grow refused found) = EachCall P refused × EachCall P found

-- once memory ran out in a call of the program, or was refused to the program itself, it can reply only faults
abbrev pub IsFaithful : {A : Type 0} → (A → Type 0) → Program A → Type 0
IsFaithful IsFault (Give x) = Unit {0}
IsFaithful IsFault (Ask call next) =
    (takes_memory call ≡ true → Each IsFault (next (Refused OutOfMemory))) × ((answer : Answer) → IsFaithful IsFault (next answer))
IsFaithful IsFault (Grow refused found) = Each IsFault refused × IsFaithful IsFault found

-- a program that takes no memory: none of its calls takes any, and it asks for none itself
abbrev pub IsFrugal : {A : Type 0} → Program A → Type 0
IsFrugal (Give x) = Unit {0}
IsFrugal (Ask call next) = (takes_memory call ≡ false) × ((answer : Answer) → IsFrugal (next answer))
IsFrugal (Grow refused found) = ⊥

-- a space in which each call makes its one step, except that a call that takes memory may be refused because memory ran out,
-- and then nothing changes
abbrev pub StepsOrWants : {S : Type 0} → (S → Call → Answer → S → Type 0) → (Call → S → Answer × S) → Type 0
StepsOrWants {S} joins step =
    (a b : S) (call : Call) (answer : Answer) → joins a call answer b →
    ((takes_memory call ≡ true) × (answer ≡ Refused OutOfMemory) × (b ≡ a)) ⊎ (step call a ≡ (answer, b))

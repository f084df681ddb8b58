-- What is told of a run that has ended is what its script asks for.
use Rattle.std.proofs.Common.{◌≡◌, ℕ, List, Result, Ok, Err, sym, subst, inl, inr}
use Rattle.std.specs.Prelude.{OnOk}
use Rattle.mdl_lines.specs.declared.fault.Fault.{Fault}
use Rattle.mdl_lines.specs.declared.fault.Fault.TheVariants.{Refused, Memory, Read, Write}
use Rattle.mdl_lines.specs.declared.fault.LineError.{LineError}
use Rattle.mdl_lines.specs.Words.{MayEnd}
use Rattle.mdl_text.specs.Playing.{Written, Answers, Plays, PrintsAnswers, Tells}

-- a run that was done had no refused line
prints : {A : Type 0} (said : Result (List A) (ℕ × LineError)) (answers : List ℕ) (code : ℕ) (before after : Written)
    → MayEnd said (Ok (tt {0})) → PrintsAnswers answers code before after → Answers said answers code before after
prints (Ok asked) answers code before after ends tells = tells
prints (Err refusal) answers code before after ends tells = absurd (cc)

pub plays : {A : Type 0} (said : Result (List A) (ℕ × LineError)) (end : Result (Unit {0}) Fault) (answers output : List ℕ) (code : ℕ) (before after : Written)
    → MayEnd said end → OnOk end (answers ≡ output) → Tells end answers code before after → Plays said output code before after
plays said (Ok ended) answers output code before after ends same tells =
    inl (prints said output code before after ends (subst (λ text. PrintsAnswers text code before after) same tells))
plays said (Err (Refused number why)) answers output code before after ends same tells =
    subst (λ s. Plays s output code before after) (sym ends) (inl tells)
plays said (Err Memory) answers output code before after ends same tells = inr tells
plays said (Err Read) answers output code before after ends same tells = inr tells
plays said (Err Write) answers output code before after ends same tells = inr tells

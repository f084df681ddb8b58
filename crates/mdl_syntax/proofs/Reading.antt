-- Reading a script line by line.
use Rattle.std.proofs.Common.{◌≡◌, ℕ, ◌+◌, ◌<◌, List, [], ◌∷◌, ◌++◌, length, get_or, drop, Result, Ok, Err, refl, sym, subst, ap, ◌∙◌, arith, append-nil, add-one, drop-cons}
use Rattle.std.specs.Prelude.{Option, Some, None, IsOk}
use Rattle.std.specs.Str.Lines.{strip_carriage_return}
use Rattle.std.proofs.lemmas.List.{get_or-map, length-map, drop_all}
use Rattle.mdl_lines.specs.declared.fault.LineError.{LineError}
use Rattle.mdl_lines.specs.Lines.{lines_of}
use Rattle.mdl_lines.specs.ScriptLines.{said_before}
use Rattle.mdl_lines.proofs.ScriptLemmas.{joined, joined-said, pieces}
use Rattle.mdl_syntax.specs.declared.no_statement.NoStatement.{NoStatement}
use Rattle.mdl_syntax.specs.declared.no_statement.NoStatement.TheVariants.{Refused, Memory}
use Rattle.mdl_syntax.specs.declared.script.Line.{Line}
use Rattle.mdl_syntax.specs.Forms.{and_then}
use Rattle.mdl_syntax.specs.Reading.{ReadsAs}
use Rattle.mdl_syntax.specs.Scripts.{line_says, lines_say, parsed}

lines_left : (text line : List ℕ) (n : ℕ) → n < length (pieces text) → line ≡ get_or (pieces text) n line → drop n (lines_of text) ≡ strip_carriage_return line ∷ drop (n + 1) (lines_of text)
lines_left text line n l e =
    let at : get_or (lines_of text) n [] ≡ strip_carriage_return line = get_or-map strip_carriage_return (pieces text) n line [] l ∙ ap strip_carriage_return (sym e) in
    drop-cons (lines_of text) n [] (omega (arith, l, length-map (pieces text) strip_carriage_return)) ∙ (λ i. at i ∷ drop (sym (add-one n) i) (lines_of text))

-- what the lines from the n-th on say, where that line says this
pub left-said : (text line : List ℕ) (n m : ℕ) (said : Result (Option Line) LineError) → n ≡ m → (m < length (pieces text)) × (line ≡ get_or (pieces text) m line) → line_says (n + 1) (strip_carriage_return line) ≡ said
    → lines_say (n + 1) (drop n (lines_of text)) ≡ said_before (n + 1) said (lines_say (n + 1 + 1) (drop (n + 1) (lines_of text)))
left-said text line n m said same h e =
    let at : line ≡ get_or (pieces text) n line = h.1 ∙ ap (λ k. get_or (pieces text) k line) (sym same) in
    ap (lines_say (n + 1)) (lines_left text line n (omega (arith, same, h.0)) at) ∙ ap (λ s. said_before (n + 1) s (lines_say (n + 1 + 1) (drop (n + 1) (lines_of text)))) e

-- nothing is said behind the last line, and what was said is then all
pub all_read : (text : List ℕ) (n m : ℕ) (before : List Line) → n ≡ m → m ≡ length (pieces text)
    → parsed text ≡ joined before (lines_say (n + 1) (drop n (lines_of text))) → parsed text ≡ Ok before
all_read text n m before same e read =
    read ∙ ap (λ lines. joined before (lines_say (n + 1) lines)) (drop_all n (lines_of text) (omega (arith, same, e, length-map (pieces text) strip_carriage_return)))
    ∙ ap Ok (append-nil before)

-- a line that isn't refused says something or nothing
pub after_said : (before : List Line) (number : ℕ) (said : Result (Option Line) LineError) (rest : Result (List Line) (ℕ × LineError)) → IsOk said → (more : List Line) × (joined before (said_before number said rest) ≡ joined more rest)
after_said before number (Ok None) rest is = (before, refl)
after_said before number (Ok (Some line)) rest is = (before ++ line ∷ [], joined-said before number line rest)
after_said before number (Err error) rest is = absurd (cc)

-- what words say, by what reading them came to
module _ {A : Type 0} (said : Result A LineError) (result : Result A NoStatement) (reads : ReadsAs said result) where
  pub ok_said : (value : A) → result ≡ Ok value → said ≡ Ok value
  ok_said value is = subst (ReadsAs said) is reads

  pub refused_said : (error : LineError) → result ≡ Err (Refused error) → said ≡ Err error
  refused_said error is = subst (ReadsAs said) is reads

  pub memory_said : result ≡ Err Memory → IsOk said
  memory_said is = subst (ReadsAs said) is reads

-- what refuses a statement refuses its line
pub line-refused : {A B : Type 0} (said : Result A LineError) (made : A → B) (none : NoStatement) → ReadsAs said (Err none) → ReadsAs (and_then said (λ value. Ok (made value))) (Err none)
line-refused (Ok value) made (Refused error) reads = cc
line-refused (Err error) made (Refused other) reads = cc
line-refused (Ok value) made Memory reads = refl
line-refused (Err error) made Memory reads = reads

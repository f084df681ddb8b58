-- Reading a script line by line.
use Rattle.std.proofs.Common.{◌≡◌, ℕ, ◌+◌, ◌<◌, ◌≤◌, Bool, true, false, ◌==◌, List, [], ◌∷◌, ◌++◌, length, get_or, drop, Result, Ok, Err, refl, sym, ap, ◌∙◌, arith, append_assoc, append-nil, add-one, drop-cons}
use Rattle.std.specs.Prelude.{Option, Some, None, IfSome, IfOk}
use Rattle.std.specs.List.{All, slice_split}
use Rattle.std.specs.Str.Lines.{strip_carriage_return}
use Rattle.std.proofs.lemmas.List.{get_or-map, length-map, drop_all}
use Rattle.std.proofs.lemmas.List.Splits.{length-slice_split}
use Rattle.std.proofs.lemmas.List.Sums.{count_by-le-length}
use Rattle.std.proofs.lemmas.List.Elements.{All-nil, All-cons}
use Rattle.mdl_lines.specs.declared.fault.LineError.{LineError}
use Rattle.mdl_lines.specs.Lines.{lines_of, words_of}
use Rattle.mdl_lines.specs.ScriptLines.{is_comment, said_unless, said_by, said_before, all_said, script_by}

-- what was said, before what the lines behind it say
abbrev pub joined : {A : Type 0} → List A → Result (List A) (ℕ × LineError) → Result (List A) (ℕ × LineError)
joined before (Ok more) = Ok (before ++ more)
joined before (Err refusal) = Err refusal

pub joined-said : {A : Type 0} (before : List A) (number : ℕ) (asked : A) (rest : Result (List A) (ℕ × LineError))
    → joined before (said_before number (Ok (Some asked)) rest) ≡ joined (before ++ asked ∷ []) rest
joined-said before number asked (Ok more) = ap Ok (sym (append_assoc before (asked ∷ []) more))
joined-said before number asked (Err refusal) = refl

-- the lines of a text, with the carriage returns at their ends
abbrev pub pieces : List ℕ → List (List ℕ)
pieces text = slice_split (λ byte. byte == 10) text

lines_left : (text line : List ℕ) (n : ℕ) → n < length (pieces text) → line ≡ get_or (pieces text) n line → drop n (lines_of text) ≡ strip_carriage_return line ∷ drop (n + 1) (lines_of text)
lines_left text line n l e =
    let at : get_or (lines_of text) n [] ≡ strip_carriage_return line = get_or-map strip_carriage_return (pieces text) n line [] l ∙ ap strip_carriage_return (sym e) in
    drop-cons (lines_of text) n [] (omega (arith, l, length-map (pieces text) strip_carriage_return)) ∙ (λ i. at i ∷ drop (sym (add-one n) i) (lines_of text))

-- a text has no more lines than bytes, and one
pub lines-fit : (text : List ℕ) → length (pieces text) ≤ length text + 1
lines-fit text = omega (arith, length-slice_split (λ byte. byte == 10) text, count_by-le-length (λ byte. byte == 10) text)

module _ {A : Type 0} (line_says : List ℕ → Result (Option A) LineError) where
  -- what the lines from the n-th on say, where that line says this
  pub left-said : (text line : List ℕ) (n m : ℕ) (said : Result (Option A) LineError) → n ≡ m → (m < length (pieces text)) × (line ≡ get_or (pieces text) m line) → said ≡ line_says (strip_carriage_return line)
      → all_said line_says (n + 1) (drop n (lines_of text)) ≡ said_before (n + 1) said (all_said line_says (n + 1 + 1) (drop (n + 1) (lines_of text)))
  left-said text line n m said same h e =
      let at : line ≡ get_or (pieces text) n line = h.1 ∙ ap (λ k. get_or (pieces text) k line) (sym same) in
      ap (all_said line_says (n + 1)) (lines_left text line n (omega (arith, same, h.0)) at) ∙ ap (λ s. said_before (n + 1) s (all_said line_says (n + 1 + 1) (drop (n + 1) (lines_of text)))) (sym e)

  -- nothing is said behind the last line
  nothing_left : (text : List ℕ) (n m : ℕ) → n ≡ m → m ≡ length (pieces text) → all_said line_says (n + 1) (drop n (lines_of text)) ≡ Ok []
  nothing_left text n m same e = ap (all_said line_says (n + 1)) (drop_all n (lines_of text) (omega (arith, same, e, length-map (pieces text) strip_carriage_return)))

  -- and what was said is then all
  pub all_read : (text : List ℕ) (n m : ℕ) (before : List A) → n ≡ m → m ≡ length (pieces text)
      → script_by line_says text ≡ joined before (all_said line_says (n + 1) (drop n (lines_of text))) → script_by line_says text ≡ Ok before
  all_read text n m before same e read = read ∙ ap (joined before) (nothing_left text n m same e) ∙ ap Ok (append-nil before)

-- what holds of all that a line can ask for, holds of all that is asked for
module _ {A : Type 0} (P : A → Type 0) where
  unless-holds : (comment : Result Bool LineError) (said : Result (Option A) LineError) → IfOk said (λ said. IfSome said P) → IfOk (said_unless comment said) (λ said. IfSome said P)
  unless-holds (Err error) said h = tt
  unless-holds (Ok true) said h = tt
  unless-holds (Ok false) said h = h

  pub said_by-holds : (words_say : List (List ℕ) → Result (Option A) LineError) → ((words : List (List ℕ)) → IfOk (words_say words) (λ said. IfSome said P))
      → (line : List ℕ) → IfOk (said_by words_say line) (λ said. IfSome said P)
  said_by-holds words_say h line = unless-holds (is_comment line) (words_say (words_of line)) (h (words_of line))

  before-holds : (number : ℕ) (said : Result (Option A) LineError) (rest : Result (List A) (ℕ × LineError)) → IfOk said (λ said. IfSome said P) → IfOk rest (All P) → IfOk (said_before number said rest) (All P)
  before-holds number (Err error) rest h k = tt
  before-holds number (Ok None) rest h k = k
  before-holds number (Ok (Some asked)) (Ok more) h k = All-cons P asked more h k
  before-holds number (Ok (Some asked)) (Err refusal) h k = tt

  pub all_said-hold : (line_says : List ℕ → Result (Option A) LineError) → ((line : List ℕ) → IfOk (line_says line) (λ said. IfSome said P))
      → (number : ℕ) (lines : List (List ℕ)) → IfOk (all_said line_says number lines) (All P)
  all_said-hold line_says h number [] = All-nil P
  all_said-hold line_says h number (line ∷ lines) = before-holds number (line_says line) (all_said line_says (number + 1) lines) (h line) (all_said-hold line_says h (number + 1) lines)

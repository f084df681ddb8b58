-- Texts that gain what sessions were answered, and lists that gain the passes that come back.
use Rattle.std.proofs.Common.{◌≡◌, ◌∙◌, ap, ap₂, map, sym, refl, ℕ, List, ◌++◌, [], ◌∷◌, ◌≢◌, ◌==◌, false, true, inl, inr, Some, None, position, get_or, subst, All, length, Result, Ok, Err, OnOk, rules}
use Rattle.std.specs.Prelude.{Contains}
use Rattle.std.proofs.lemmas.List.{append-nil, append_assoc, map-append, nil_from_length}
use Rattle.std.proofs.lemmas.List.Elements.{All-append, All-cons, All-head, All-nil, All-tail, All-weaker, Contains-append_left, Contains-append_right, Contains-push}
use Rattle.std.proofs.lemmas.List.Folds.{list_any_none}
use Rattle.mdl_syntax.proofs.WordLemmas.{none_passes}
use Rattle.std.specs.declared.alloc.AllocError.{AllocError}
use Rattle.std.specs.List.Sorted.{IsPermutation}
use Rattle.std.proofs.lemmas.List.Quantifiers.{position-Some}
use Rattle.std.proofs.lemmas.List.Sorted.{All-permutation, list_any-IsPermutation}
use Rattle.std.proofs.lemmas.Grind.{flat_map-append}
use Rattle.mdl_syntax.specs.declared.script.Line.{Line}
use Rattle.atomic_table.specs.Seated.{TableId}
use Rattle.mdl_shared.specs.declared.pass.Pass.{Pass}
use Rattle.mdl_shared.specs.Passes.{pass_number, pass_table}
use Rattle.mdl_rows.specs.declared.reply.Reply.{Reply}
use Rattle.mdl_script.specs.Answers.{AnswersBetween, IsTranscript, Options}
use Rattle.mdl_script.specs.RunTexts.{answers_text, transcripts_text}
use Rattle.mdl_script.specs.Turns.{GainsAnswers, has_pass, pass_sent, passes_sent, sent_to}
use Rattle.mdl_script.specs.declared.turns.SessionThread.{SessionThread}

-- ---- transcripts

-- what one pass list has, another has too
abbrev pub HasAll : List Pass → List Pass → Type 0
HasAll more passes = (pass : Pass) → Contains passes pass → Contains more pass

-- answers from pass to pass are so among more passes
pub among_more : (options : Options) (lines : List Line) (given back wider longer : List Pass) (mine : ℕ) (own : List (ℕ × Reply)) (transcript : ℕ × List (ℕ × Reply)) →
    HasAll wider given → HasAll longer back → IsTranscript options lines given back mine own transcript →
    IsTranscript options lines wider longer mine own transcript
among_more options lines given back wider longer mine own transcript wide long (inl asker) = inl asker
among_more options lines given back wider longer mine own transcript wide long (inr other) = inr (
  other.0,
  record {
    opened = other.1.opened;
    was_given = wide other.1.opened other.1.was_given;
    number = other.1.number;
    closed = other.1.closed;
    came_back = long other.1.closed other.1.came_back;
    answered = other.1.answered;
  },
)

-- all of them
pub all_among_more : (options : Options) (lines : List Line) (given back wider longer : List Pass) (mine : ℕ) (own : List (ℕ × Reply)) (transcripts : List (ℕ × List (ℕ × Reply))) →
    HasAll wider given → HasAll longer back → All (IsTranscript options lines given back mine own) transcripts →
    All (IsTranscript options lines wider longer mine own) transcripts
all_among_more options lines given back wider longer mine own transcripts wide long all =
    All-weaker (IsTranscript options lines given back mine own) (IsTranscript options lines wider longer mine own)
    (λ t is. among_more options lines given back wider longer mine own t wide long is) transcripts all

-- ---- what is gained

-- nothing is gained of nobody
pub gains_none : (options : Options) (lines : List Line) (mine : ℕ) (own : List (ℕ × Reply)) (text : List ℕ) (passes : List Pass) →
    GainsAnswers options lines mine own [] text text passes passes
gains_none options lines mine own text passes = record {
  closed = [];
  passes = sym (append-nil passes);
  numbers = refl;
  tables = refl;
  transcripts = [];
  sessions_are = refl;
  answered = All-nil (IsTranscript options lines [] [] mine own);
  gained = sym (append-nil text);
}

-- of the asker its own answers are
pub gains_own : (options : Options) (lines : List Line) (mine : ℕ) (own : List (ℕ × Reply)) (turn : SessionThread) (before after : List ℕ) (passes : List Pass) →
    turn.thread ≡ None → turn.who ≡ mine → after ≡ before ++ answers_text turn.who own →
    GainsAnswers options lines mine own (turn ∷ []) before after passes passes
gains_own options lines mine own turn before after passes alone is grown =
    let none : passes_sent (turn ∷ []) ≡ [] = ap (λ thread. sent_to thread ++ []) alone in record {
      closed = [];
      passes = sym (append-nil passes);
      numbers = sym (ap (map pass_number) none);
      tables = sym (ap (map pass_table) none);
      transcripts = (turn.who, own) ∷ [];
      sessions_are = refl;
      answered = All-cons (IsTranscript options lines (passes_sent (turn ∷ [])) [] mine own) (turn.who, own) [] (inl (is, refl))
          (All-nil (IsTranscript options lines (passes_sent (turn ∷ [])) [] mine own));
      gained = grown ∙ ap (λ text. before ++ text) (sym (append-nil (answers_text turn.who own)));
    }

-- of one that has a thread, those that the thread returned with the pass
pub gains_one : (options : Options) (lines : List Line) (mine : ℕ) (own answers : List (ℕ × Reply)) (turn : SessionThread) (opened closed : Pass) (before after : List ℕ) (old new : List Pass) →
    pass_sent turn ≡ opened ∷ [] → turn.who ≢ mine → pass_number opened ≡ turn.who →
    pass_number closed ≡ pass_number opened → pass_table closed ≡ pass_table opened →
    AnswersBetween options lines (pass_number opened) opened closed answers →
    new ≡ old ++ closed ∷ [] → after ≡ before ++ answers_text turn.who answers →
    GainsAnswers options lines mine own (turn ∷ []) before after old new
gains_one options lines mine own answers turn opened closed before after old new sent differs number numbered there are longer grown =
    let one : passes_sent (turn ∷ []) ≡ opened ∷ [] = ap (λ xs. xs ++ []) sent in
    let IsOne = IsTranscript options lines (passes_sent (turn ∷ [])) (closed ∷ []) mine own in record {
      closed = closed ∷ [];
      passes = longer;
      numbers = ap (λ n. n ∷ []) numbered ∙ sym (ap (map pass_number) one);
      tables = ap (λ t. t ∷ []) there ∙ sym (ap (map pass_table) one);
      transcripts = (turn.who, answers) ∷ [];
      sessions_are = refl;
      answered = All-cons IsOne (turn.who, answers) [] (inr (
        differs,
        record {
          opened = opened;
          was_given = subst (λ xs. Contains xs opened) (sym one) (Contains-push [] opened);
          number = number;
          closed = closed;
          came_back = Contains-push [] closed;
          answered = subst (λ n. AnswersBetween options lines n opened closed answers) number are;
        },
      )) (All-nil IsOne);
      gained = grown ∙ ap (λ text. before ++ text) (sym (append-nil (answers_text turn.who answers)));
    }

-- what some turns gained, and then what others did
pub gains_more : (options : Options) (lines : List Line) (mine : ℕ) (own : List (ℕ × Reply)) (some others : List SessionThread) (before mid after : List ℕ) (old passes new : List Pass) →
    GainsAnswers options lines mine own some before mid old passes → GainsAnswers options lines mine own others mid after passes new →
    GainsAnswers options lines mine own (some ++ others) before after old new
gains_more options lines mine own some others before mid after old passes new first then =
    let one = first.transcripts in let two = then.transcripts in
    let sessions = λ (transcript : ℕ × List (ℕ × Reply)). transcript.0 in
    let texts = λ (transcript : ℕ × List (ℕ × Reply)). answers_text transcript.0 transcript.1 in
    let number = λ (pass : Pass). pass_number pass in let table = λ (pass : Pass). pass_table pass in
    let who = λ (turn : SessionThread). turn.who in
    let a = passes_sent some in let b = passes_sent others in
    let sent : passes_sent (some ++ others) ≡ a ++ b = flat_map-append pass_sent some others in
    let ab : All (IsTranscript options lines (a ++ b) (first.closed ++ then.closed) mine own) (one ++ two) =
    All-append (IsTranscript options lines (a ++ b) (first.closed ++ then.closed) mine own) one two
    (all_among_more options lines a first.closed (a ++ b) (first.closed ++ then.closed) mine own one
    (Contains-append_left a b) (Contains-append_left first.closed then.closed) first.answered)
    (all_among_more options lines b then.closed (a ++ b) (first.closed ++ then.closed) mine own two
    (Contains-append_right a b) (Contains-append_right first.closed then.closed) then.answered) in record {
      closed = first.closed ++ then.closed;
      passes = then.passes ∙ (ap (λ xs. xs ++ then.closed) first.passes ∙ append_assoc old first.closed then.closed);
      numbers = map-append number first.closed then.closed ∙ (ap₂ (λ xs ys. xs ++ ys) first.numbers then.numbers
          ∙ (sym (map-append number a b) ∙ ap (map number) (sym sent)));
      tables = map-append table first.closed then.closed ∙ (ap₂ (λ xs ys. xs ++ ys) first.tables then.tables
          ∙ (sym (map-append table a b) ∙ ap (map table) (sym sent)));
      transcripts = one ++ two;
      sessions_are = map-append sessions one two ∙ (ap₂ (λ xs ys. xs ++ ys) first.sessions_are then.sessions_are ∙ sym (map-append who some others));
      answered = subst (λ xs. All (IsTranscript options lines xs (first.closed ++ then.closed) mine own) (one ++ two)) (sym sent) ab;
      gained = then.gained ∙ (ap (λ text. text ++ transcripts_text two) first.gained
          ∙ (append_assoc before (transcripts_text one) (transcripts_text two) ∙ ap (λ text. before ++ text) (sym (flat_map-append texts one two))));
    }

-- ---- passes that are taken

-- a pass that is taken leaves those of other sessions
pub passes_left : (passes left : List Pass) (taken : Pass) (who other : ℕ) → pass_number taken ≡ who → other ≢ who → IsPermutation passes (taken ∷ left) →
    has_pass left other ≡ has_pass passes other
passes_left passes left taken who other is differs same =
    let alike = list_any-IsPermutation (λ (pass : Pass). pass_number pass == other) passes (taken ∷ left) same in
    let no : (pass_number taken == other) ≡ false = search rules in
    grind (rules, alike, no)

-- a pass that is taken is one of the table's where all were, and so are those that are left
pub theirs_left : (table : TableId) (passes left : List Pass) (taken : Pass) → All (λ (pass : Pass). pass_table pass ≡ table) passes → IsPermutation passes (taken ∷ left) →
    (pass_table taken ≡ table) × All (λ (pass : Pass). pass_table pass ≡ table) left
theirs_left table passes left taken all same =
    let still = All-permutation (λ (pass : Pass). pass_table pass ≡ table) passes (taken ∷ left) same all in
    (All-head (λ (pass : Pass). pass_table pass ≡ table) taken left still, All-tail (λ (pass : Pass). pass_table pass ≡ table) taken left still)

-- where no pass of a number is found, there is none
pub place_none : (passes : List Pass) (who : ℕ) → has_pass passes who ≡ true → position (λ (pass : Pass). pass_number pass == who) passes ≡ None → ⊥
place_none passes who there none =
    let no = list_any_none (λ (pass : Pass). pass_number pass == who) passes (none_passes (λ (pass : Pass). pass_number pass == who) passes (sym none)) in
    grind (rules, no, there)

-- what is found is of that number
pub place_some : (passes : List Pass) (who place : ℕ) (found : Pass) → position (λ (pass : Pass). pass_number pass == who) passes ≡ Some place →
    found ≡ get_or passes place found → pass_number found ≡ who
place_some passes who place found at is =
    let first = position-Some (λ (pass : Pass). pass_number pass == who) passes place found at in
    let same : (pass_number found == who) ≡ true = subst (λ (pass : Pass). (pass_number pass == who) ≡ true) (sym is) first.1 in
    search rules

-- ---- turns

-- a turn more, of those that are left
pub one_turn : (options : Options) (lines : List Line) (mine : ℕ) (own : List (ℕ × Reply)) (IsOne : SessionThread → Type 0) (turn : SessionThread) (left rest all : List SessionThread)
    (first mid next : List ℕ) (old passes more : List Pass) → left ≡ turn ∷ rest →
    All IsOne left × ((end : List ℕ) (back : List Pass) → GainsAnswers options lines mine own left mid end passes back → GainsAnswers options lines mine own all first end old back) →
    GainsAnswers options lines mine own (turn ∷ []) mid next passes more →
    All IsOne rest × ((end : List ℕ) (back : List Pass) → GainsAnswers options lines mine own rest next end more back → GainsAnswers options lines mine own all first end old back)
one_turn options lines mine own IsOne turn left rest all first mid next old passes more is was gained = (
  All-tail IsOne turn rest (subst (All IsOne) is was.0),
  λ end back then. was.1 end back (subst (λ turns. GainsAnswers options lines mine own turns mid end passes back) (sym is)
      (gains_more options lines mine own (turn ∷ []) rest mid next end passes more back gained then)),
)

-- no turn is left
pub no_turn : (options : Options) (lines : List Line) (mine : ℕ) (own : List (ℕ × Reply)) (left all : List SessionThread) (first last : List ℕ) (old passes : List Pass) → length left ≡ 0 →
    ((end : List ℕ) (back : List Pass) → GainsAnswers options lines mine own left last end passes back → GainsAnswers options lines mine own all first end old back) →
    GainsAnswers options lines mine own all first last old passes
no_turn options lines mine own left all first last old passes none was =
    was last passes (subst (λ turns. GainsAnswers options lines mine own turns last last passes passes) (sym (nil_from_length left none))
    (gains_none options lines mine own last passes))

-- a text to which the answers of the asker were pushed, if there was memory for it, has gained them
pub pushed_own : (options : Options) (lines : List Line) (mine : ℕ) (own pushed : List (ℕ × Reply)) (turn : SessionThread) (before after : List ℕ) (passes : List Pass) (result : Result (Unit {0}) AllocError) →
    turn.thread ≡ None → turn.who ≡ mine → pushed ≡ own → OnOk result (after ≡ before ++ answers_text turn.who pushed) →
    OnOk result (GainsAnswers options lines mine own (turn ∷ []) before after passes passes)
pushed_own options lines mine own pushed turn before after passes (Ok done) alone is same grown =
    gains_own options lines mine own turn before after passes alone is (grown ∙ ap (λ xs. before ++ answers_text turn.who xs) same)
pushed_own options lines mine own pushed turn before after passes (Err why) alone is same grown = tt

-- so has one to which those that a thread returned were pushed
pub pushed_one : (options : Options) (lines : List Line) (mine : ℕ) (own answers pushed : List (ℕ × Reply)) (turn : SessionThread) (opened closed : Pass) (before after : List ℕ) (old new : List Pass)
    (result : Result (Unit {0}) AllocError) → pass_sent turn ≡ opened ∷ [] → turn.who ≢ mine → pass_number opened ≡ turn.who →
    pass_number closed ≡ pass_number opened → pass_table closed ≡ pass_table opened →
    AnswersBetween options lines (pass_number opened) opened closed answers →
    new ≡ old ++ closed ∷ [] → pushed ≡ answers → OnOk result (after ≡ before ++ answers_text turn.who pushed) →
    OnOk result (GainsAnswers options lines mine own (turn ∷ []) before after old new)
pushed_one options lines mine own answers pushed turn opened closed before after old new (Ok done) sent differs number numbered there are longer same grown =
    gains_one options lines mine own answers turn opened closed before after old new sent differs number numbered there are longer
    (grown ∙ ap (λ xs. before ++ answers_text turn.who xs) same)
pushed_one options lines mine own answers pushed turn opened closed before after old new (Err why) sent differs number numbered there are longer same grown = tt

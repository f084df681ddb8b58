-- What is shown of the lines of a script, one line after the other.
use Rattle.std.proofs.Common.{◌≡◌, ◌∙◌, ℕ, zero, suc, ◌+◌, ◌<◌, ◌≤◌, true, false, cond, not, nat_lt, List, [], ◌∷◌, ◌++◌, Option, None, Some, IfSome, Result, Ok, Err, IsOk, IfOk, IsOkUnless, get_or, length, take, ap, refl, subst, sym, arith}
use Rattle.std.specs.List.{AllZip, position_or_len}
use Rattle.std.proofs.lemmas.Bool.Decides.{nat_tests}
use Rattle.std.proofs.lemmas.List.{take_all, take_more}
use Rattle.mdl_book.specs.declared.book_view.BookView.{BookView}
use Rattle.mdl_lines.specs.declared.fault.Fault.{Fault}
use Rattle.mdl_lines.specs.declared.fault.Fault.TheVariants.{Write}
use Rattle.mdl_lines.specs.declared.fault.LineError.{LineError}
use Rattle.mdl_lines.specs.Lines.{lines_of}
use Rattle.mdl_lines.specs.Words.{MayEnd}
use Rattle.mdl_page.specs.Pages.{FactsView, page_text}
use Rattle.mdl_picture.specs.Pictures.{picture_text}
use Rattle.mdl_script.specs.Output.{is_after, lines_until}
use Rattle.mdl_script.specs.Worlds.{World, first_world, line_played, lines_played, script_played}
use Rattle.mdl_syntax.specs.declared.script.Line.{Line}
use Rattle.mdl_syntax.specs.Laws.{RiseFrom}
use Rattle.mdl_syntax.specs.Scripts.{parsed}
use Rattle.mdl_syntax.proofs.LawLemmas.{lines_say-rise}
use Rattle.mdl_timeline.specs.Moments.{moments_of}
use Rattle.mdl_view_program.specs.Pages.{AreFacts, IsFacts, IsFactsOf, PagesLines, PagesScript}

-- ---- the numbers of lines

-- a line is no earlier than the number from which lines rise
number_at : (first : ℕ) (lines : List Line) (i : ℕ) (d : Line) → RiseFrom first lines → i < length lines → first ≤ (get_or lines i d).number
number_at first [] i d rise inside = absurd (omega arith)
number_at first (line ∷ lines) zero d rise inside = rise.0
number_at first (line ∷ lines) (suc i) d rise inside =
    let later : line.number + 1 ≤ (get_or lines i d).number = number_at (line.number + 1) lines i d rise.1 (omega arith) in
    omega (arith, later, rise.0)

-- lines that all come after a number
none_before : (number : ℕ) (lines : List Line) → RiseFrom (number + 1) lines → position_or_len (is_after number) lines ≡ zero
none_before number [] rise = refl
none_before number (line ∷ lines) rise =
    let after : nat_lt number line.number ≡ true = grind (arith, nat_tests, rise.0) in
    ap (λ b. cond (not b) (1 + position_or_len (is_after number) lines) 0) after

-- the first line isn't after a number that is as great
one_more : (number : ℕ) (line : Line) (lines : List Line) → line.number ≤ number
    → position_or_len (is_after number) (line ∷ lines) ≡ 1 + position_or_len (is_after number) lines
one_more number line lines low =
    let before : nat_lt number line.number ≡ false = grind (arith, nat_tests) in
    ap (λ b. cond (not b) (1 + position_or_len (is_after number) lines) 0) before

-- so many lines stand up to the number of a line
place_of : (first : ℕ) (lines : List Line) (i : ℕ) (d : Line) → RiseFrom first lines → i < length lines
    → position_or_len (is_after (get_or lines i d).number) lines ≡ i + 1
place_of first [] i d rise inside = absurd (omega arith)
place_of first (line ∷ lines) zero d rise inside =
    one_more line.number line lines (omega arith) ∙ ap (λ n. 1 + n) (none_before line.number lines rise.1)
place_of first (line ∷ lines) (suc i) d rise inside =
    let later : line.number + 1 ≤ (get_or lines i d).number = number_at (line.number + 1) lines i d rise.1 (omega arith) in
    let rest : position_or_len (is_after (get_or lines i d).number) lines ≡ i + 1 = place_of (line.number + 1) lines i d rise.1 (omega arith) in
    one_more (get_or lines i d).number line lines (omega arith) ∙ omega (arith, rest)

-- these are the lines up to it
until_line : (first : ℕ) (lines : List Line) (i : ℕ) (line d : Line) → RiseFrom first lines → i < length lines → line ≡ get_or lines i d
    → lines_until line.number lines ≡ take (i + 1) lines
until_line first lines i line d rise inside item =
    subst (λ (one : Line). lines_until one.number lines ≡ take (i + 1) lines) (sym item)
    (ap (λ n. take n lines) (place_of first lines i d rise inside))

-- the lines that are read rise, and so do the first of them
rise_taken : (n first : ℕ) (lines : List Line) → RiseFrom first lines → RiseFrom first (take n lines)
rise_taken zero first lines rise = tt
rise_taken (suc n) first [] rise = tt
rise_taken (suc n) first (line ∷ lines) rise = (rise.0, rise_taken n (line.number + 1) lines rise.1)

pub read_rise : (text : List ℕ) (lines : List Line) (last : ℕ) → parsed text ≡ Ok lines → RiseFrom 1 (lines_until last lines)
read_rise text lines last read =
    rise_taken (position_or_len (is_after last) lines) 1 lines
    (subst (λ (said : Result (List Line) (ℕ × LineError)). IfOk said (RiseFrom 1)) read (lines_say-rise 1 (lines_of text)))

-- ---- the worlds between lines

-- one line more is played in the world that the lines before it leave
one_line_more : (lines : List Line) (line : Line) (world : World)
    → (lines_played (lines ++ line ∷ []) world).world ≡ (line_played line (lines_played lines world).world).world
one_line_more [] line world = refl
one_line_more (first ∷ lines) line world = one_line_more lines line (line_played first world).world

played_more : (lines : List Line) (i : ℕ) (line d : Line) (world after : World) → i < length lines → line ≡ get_or lines i d
    → world ≡ (script_played (take i lines)).world → after ≡ (line_played line world).world → after ≡ (script_played (take (i + 1) lines)).world
played_more lines i line d world after inside item so left =
    let split : take (i + 1) lines ≡ take i lines ++ line ∷ [] = take_more lines i d inside ∙ ap (λ one. take i lines ++ one ∷ []) (sym item) in
    left ∙ ap (λ (w : World). (line_played line w).world) so ∙ sym (one_line_more (take i lines) line first_world)
    ∙ ap (λ (ls : List Line). (script_played ls).world) (sym split)

-- ---- what is shown

-- one pair more
zip_more : {A B : Type 0} (R : A → B → Type 0) (xs : List A) (ys : List B) (x : A) (y : B) → AllZip R xs ys → R x y → AllZip R (xs ++ x ∷ []) (ys ++ y ∷ [])
zip_more R [] [] x y all here = (here, tt)
zip_more R [] (b ∷ ys) x y all here = absurd all
zip_more R (a ∷ xs) [] x y all here = absurd all
zip_more R (a ∷ xs) (b ∷ ys) x y all here = (all.0, zip_more R xs ys x y all.1 here)

-- the first lines are played, and what is shown of them is there
pub record SoFar (lines : List Line) (i : ℕ) (world : World) (facts : List FactsView) : Type 0 where
  pub played : world ≡ (script_played (take i lines)).world
  pub shown : AllZip (IsFactsOf lines) (take i lines) facts

pub none_so_far : (lines : List Line) (world : World) (facts : List FactsView) → world ≡ first_world → facts ≡ [] → SoFar lines 0 world facts
none_so_far lines world facts first none = record { played = first; shown = subst (AllZip (IsFactsOf lines) []) (sym none) tt }

-- a line is played, and what is shown of it is put behind the others
pub one_so_far : (lines : List Line) (i : ℕ) (line d : Line) (world after : World) (books : List BookView) (facts : FactsView) (so next : List FactsView)
    → RiseFrom 1 lines → i < length lines → line ≡ get_or lines i d → after ≡ (line_played line world).world → books ≡ after.core.books
    → IsFacts line.number books facts → next ≡ so ++ facts ∷ [] → SoFar lines i world so → SoFar lines (i + 1) after next
one_so_far lines i line d world after books facts so next rise inside item left are is now far =
    let played = played_more lines i line d world after inside item far.played left in
    let until : lines_until line.number lines ≡ take (i + 1) lines = until_line 1 lines i line d rise inside item in
    let then : books ≡ (script_played (lines_until line.number lines)).world.core.books =
    are ∙ ap (λ (w : World). w.core.books) (played ∙ ap (λ (ls : List Line). (script_played ls).world) (sym until)) in
    let here : IsFactsOf lines line facts = subst (λ (bs : List BookView). IsFacts line.number bs facts) then is in
    let split : take i lines ++ line ∷ [] ≡ take (i + 1) lines = ap (λ one. take i lines ++ one ∷ []) item ∙ sym (take_more lines i d inside) in
    let all : AllZip (IsFactsOf lines) (take i lines ++ line ∷ []) (so ++ facts ∷ []) = zip_more (IsFactsOf lines) (take i lines) so line facts far.shown here in
    record {
      played = played;
      shown = subst (λ (ls : List Line). AllZip (IsFactsOf lines) ls next) split (subst (AllZip (IsFactsOf lines) (take i lines ++ line ∷ [])) (sym now) all);
    }

-- no line is left
pub all_so_far : (lines : List Line) (i : ℕ) (world : World) (facts : List FactsView) → length lines ≤ i → SoFar lines i world facts → AreFacts lines facts
all_so_far lines i world facts over far = subst (λ (ls : List Line). AllZip (IsFactsOf lines) ls facts) (take_all i lines over) far.shown

-- what holds of a result if it is one
pub if_ok : {T E : Type 0} (P Q : T → Type 0) (result : Result T E) → ((value : T) → P value → Q value) → IfOk result P → IfOk result Q
if_ok P Q (Ok value) so is = so value is
if_ok P Q (Err error) so is = tt

-- the page of lines, and that of a script up to the line of a number
pub lines_paged : (bytes : List ℕ) (lines : List Line) (facts : List FactsView) (picture shown : List ℕ) (all : List FactsView) (page : List ℕ)
    → picture ≡ picture_text (moments_of bytes lines) → shown ≡ picture → AreFacts lines facts → all ≡ facts → page ≡ page_text shown bytes all
    → PagesLines bytes lines page
lines_paged bytes lines facts picture shown all page drawn same are those is =
    (facts, are, is ∙ ap (λ p. page_text p bytes all) (same ∙ drawn) ∙ ap (λ fs. page_text (picture_text (moments_of bytes lines)) bytes fs) those)

pub script_paged : (last : ℕ) (bytes : List ℕ) (said : Result (List Line) (ℕ × LineError)) (script lines : List Line) (page : List ℕ) → said ≡ Ok script
    → lines ≡ lines_until last script → PagesLines bytes lines page → PagesScript last bytes said page
script_paged last bytes said script lines page read are paged =
    subst (λ (s : Result (List Line) (ℕ × LineError)). PagesScript last bytes s page) (sym read) (subst (λ (ls : List Line). PagesLines bytes ls page) are paged)

-- ---- how a run ends

-- a script that was read is refused no line, and writing is all that may fail
pub ends_read : (known : Option (List ℕ)) (read lent : List ℕ) (result : Result (Unit {0}) Fault) → IfSome known (λ bytes. read ≡ bytes) → lent ≡ read
    → IsOk (parsed lent) → IsOkUnless result Write → IfSome known (λ bytes. MayEnd (parsed bytes) result)
ends_read None read lent result is same ok fault = is
ends_read (Some bytes) read lent (Ok done) is same ok fault = subst (λ (bs : List ℕ). IsOk (parsed bs)) (same ∙ is) ok
ends_read (Some bytes) read lent (Err why) is same ok fault =
    subst (λ (f : Fault). MayEnd (parsed bytes) (Err f)) (sym fault) (subst (λ (bs : List ℕ). IsOk (parsed bs)) (same ∙ is) ok)

-- A page as text, after WHATWG's "HTML". Its frame, its style and its script are constants of the code. How the page looks and behaves is this
-- project's own choice.
use Rattle.std.specs.Prelude.{ℕ, ◌==◌, List, [], ◌∷◌, ◌++◌, codes, flat_map, if◌then◌else◌}
use Rattle.std.specs.Fmt.{decimal}
use Rattle.mdl_page.specs.declared.frame.TheConstants.{BEFORE_DATA, BEFORE_PICTURE, BEFORE_SCRIPT, BEFORE_SOURCE, BEFORE_STYLE, END}
use Rattle.mdl_page.specs.declared.script.TheConstants.{SCRIPT}
use Rattle.mdl_page.specs.declared.style.TheConstants.{STYLE}

-- what a page shows of a line: its number, and three texts of JSON
pub record FactsView : Type 0 where
  pub line : ℕ
  pub locks : List ℕ
  pub waits : List ℕ
  pub why : List ℕ

-- a byte of text in an element of HTML
abbrev pub text_byte : ℕ → List ℕ
text_byte byte = if byte == 38 then codes "&amp;" else (if byte == 60 then codes "&lt;" else byte ∷ [])

abbrev pub in_text : List ℕ → List ℕ
in_text text = flat_map text_byte text

-- a byte of JSON in an element of HTML that browsers read as it is. In JSON a `<` stands only in strings, where its number stands for it
abbrev pub script_byte : ℕ → List ℕ
script_byte byte = if byte == 60 then codes "\\u003c" else byte ∷ []

abbrev pub in_script : List ℕ → List ℕ
in_script text = flat_map script_byte text

-- the object of a line
abbrev pub facts_text : FactsView → List ℕ
facts_text facts =
    codes "{\"line\":" ++ decimal facts.line ++ (codes ",\"locks\":" ++ in_script facts.locks) ++ (codes ",\"waits\":" ++ in_script facts.waits)
    ++ (codes ",\"why\":" ++ in_script facts.why) ++ codes "}"

-- the objects of lines, in their order, with commas between them
abbrev pub behind_comma : FactsView → List ℕ
behind_comma facts = codes ",\n" ++ facts_text facts

abbrev pub lines_text : List FactsView → List ℕ
lines_text [] = []
lines_text (facts ∷ others) = facts_text facts ++ flat_map behind_comma others

-- the data: an array
abbrev pub data_text : List FactsView → List ℕ
data_text lines = codes "[" ++ lines_text lines ++ codes "]"

-- a page with this picture, the text of a script, and the facts of these lines
unfoldable pub head_text : List ℕ → List ℕ
head_text picture = BEFORE_STYLE.now ++ STYLE.now ++ BEFORE_PICTURE.now ++ picture

unfoldable pub source_text : List ℕ → List ℕ
source_text source = BEFORE_SOURCE.now ++ in_text source

unfoldable pub foot_text : List FactsView → List ℕ
foot_text lines = BEFORE_DATA.now ++ data_text lines ++ BEFORE_SCRIPT.now ++ SCRIPT.now ++ END.now

abbrev pub page_text : List ℕ → List ℕ → List FactsView → List ℕ
page_text picture source lines = head_text picture ++ source_text source ++ foot_text lines

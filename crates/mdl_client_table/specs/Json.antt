-- The pieces of a line of JSON (RFC 8259): marks, strings and words. What a string or a word means is said by the kit's crate `json`. Texts that aren't
-- UTF-8 have no meaning. No string goes on in the next line, since JSON doesn't allow line feeds in strings.
use Rattle.std.specs.Prelude.{ℕ, suc, Bool, ◌||◌, ◌==◌, List, [], ◌∷◌, ◌++◌, Option, None, Some, if◌then◌else◌}
use Rattle.std.specs.Str.{is_utf8}
use Rattle.json.specs.Lex.{tokens}
use Rattle.json.specs.Token.{Token}
use Rattle.json.specs.Token as token
use Rattle.mdl_client_table.specs.declared.json_reading.Mode.{Mode}
use Rattle.mdl_client_table.specs.declared.json_reading.Mode.TheVariants.{Between, InWord, InText, Escaped}
use Rattle.mdl_client_table.specs.declared.json_cell.Cell.{Cell}
use Rattle.mdl_client_table.specs.declared.json_cell.Cell.TheVariants as cell
use Rattle.mdl_client_table.specs.declared.json_error.Place.{Place}
use Rattle.mdl_client_table.specs.declared.objects.Mark.{Mark}
use Rattle.mdl_client_table.specs.declared.objects.Mark.TheVariants.{OpenList, CloseList, OpenRow, CloseRow, Comma, Colon}
use Rattle.mdl_client_table.specs.Objects.{ObjectsText, no_objects, with_cell, with_mark}

-- ---- strings and words

-- the first of some tokens
abbrev pub cell_in : List Token → Cell
cell_in (token.string text ∷ rest) = cell.Text text
cell_in (token.number text ∷ rest) = cell.Number text
cell_in (token.null ∷ rest) = cell.Null
cell_in (token.boolean value ∷ rest) = cell.Boolean
cell_in tokens = cell.Wrong

-- what the bytes of a string or a word mean
abbrev pub cell_of : List ℕ → Cell
cell_of bytes = if is_utf8 bytes then cell_in (tokens bytes) else cell.Wrong

-- ---- bytes to pieces

-- rows while they are read: where in a piece the text is, where that piece or the last one begins, and its bytes so far
pub record JsonText : Type 0 where
  pub objects : ObjectsText
  pub mode : Mode
  pub begin : Place
  pub piece : List ℕ

-- nothing was read yet
abbrev pub no_json : JsonText
no_json = record { objects = no_objects; mode = Between; begin = record { line = 1; column = 1 }; piece = [] }

-- whether a byte may be between two pieces
abbrev pub is_blank : ℕ → Bool
is_blank byte = (byte == 32) || ((byte == 9) || ((byte == 10) || (byte == 13)))

-- the mark that a byte is
abbrev pub mark_of : ℕ → Option Mark
mark_of byte =
    if byte == 91 then Some OpenList
    else (if byte == 93 then Some CloseList
    else (if byte == 123 then Some OpenRow
    else (if byte == 125 then Some CloseRow
    else (if byte == 44 then Some Comma
    else (if byte == 58 then Some Colon
    else None)))))

-- the last piece has one more byte
abbrev pub with_more : Mode → ℕ → JsonText → JsonText
with_more mode byte json = record json { mode = mode; piece = json.piece ++ byte ∷ [] }

-- the last piece, a string or a word, is complete
abbrev pub with_end : JsonText → JsonText
with_end json = record json { objects = with_cell json.begin (cell_of json.piece) json.objects; mode = Between }

-- one more byte, at the beginning of a string or a word
abbrev pub with_opened : Mode → Place → ℕ → JsonText → JsonText
with_opened mode place byte json = record json { mode = mode; begin = place; piece = byte ∷ [] }

-- a mark, or the first byte of a word
abbrev pub with_mark_or_word : Option Mark → Place → ℕ → JsonText → JsonText
with_mark_or_word (Some mark) place byte json = record json { objects = with_mark place mark json.objects; mode = Between; begin = place }
with_mark_or_word None place byte json = with_opened InWord place byte json

-- one more byte, between two pieces
abbrev pub with_first : Place → ℕ → JsonText → JsonText
with_first place byte json =
    if is_blank byte then record json { mode = Between }
    else (if byte == 34 then with_opened InText place byte json else with_mark_or_word (mark_of byte) place byte json)

-- whether a byte ends a word
abbrev pub ends_word : ℕ → Bool
ends_word byte = is_blank byte || ((byte == 34) || is_mark (mark_of byte)) where
  is_mark : Option Mark → Bool
  is_mark None = Bool.false
  is_mark (Some mark) = Bool.true

-- one more byte of a string: a quote ends it, and the byte behind a backslash doesn't
abbrev pub with_text_byte : ℕ → JsonText → JsonText
with_text_byte byte json =
    if byte == 34 then with_end (with_more InText byte json) else (if byte == 92 then with_more Escaped byte json else with_more InText byte json)

-- one more byte, at this place
abbrev pub with_byte : Mode → Place → ℕ → JsonText → JsonText
with_byte Between place byte json = with_first place byte json
with_byte InWord place byte json = if ends_word byte then with_first place byte (with_end json) else with_more InWord byte json
with_byte InText place byte json = with_text_byte byte json
with_byte Escaped place byte json = with_more InText byte json

-- more bytes of a line, the first of which has this number in it
abbrev pub with_bytes : ℕ → ℕ → List ℕ → JsonText → JsonText
with_bytes number column [] json = json
with_bytes number column (byte ∷ bytes) json =
    with_bytes number (suc column) bytes (with_byte json.mode (record { line = number; column = column }) byte json)

-- the end of a line, which ends a string or a word
abbrev pub with_line_end : Mode → JsonText → JsonText
with_line_end Between json = json
with_line_end mode json = with_end json

-- the same, whatever the mode
abbrev pub with_end_of_line : JsonText → JsonText
with_end_of_line json = with_line_end json.mode json

-- a line of this number
abbrev pub with_json_line : ℕ → List ℕ → JsonText → JsonText
with_json_line number line json = with_end_of_line (with_bytes number 1 line json)

-- The text of each code. The wording is this project's own.
use Rattle.std.specs.Prelude.{ℕ, List, [], ◌∷◌, codes, ◌==◌, nat_lt, if◌then◌else◌}

-- a code and its text
abbrev pub MessageRow : Type 0
MessageRow = ℕ × List ℕ

-- the text of a number that is no code
abbrev pub unknown_text : List ℕ
unknown_text = codes "There is no such code."

-- the texts of answers
abbrev pub answer_rows : List MessageRow
answer_rows =
    (0, codes "The call is done.") ∷
    (1, codes "The lock can't be had now, and nothing has changed.") ∷
    (2, codes "The session waits.") ∷
    (3, codes "The wait is lost: it was chosen to break a deadlock.") ∷
    (4, codes "The wait is lost by a timeout.") ∷
    (5, codes "The wait is lost: it was killed.") ∷
    (6, codes "No unsettled wait has this number.") ∷ []

-- the texts of refusals before the space is called
abbrev pub refusal_rows : List MessageRow
refusal_rows =
    (16, codes "There is no manager.") ∷
    (17, codes "There is a manager already.") ∷
    (18, codes "The manager has no session of this number.") ∷
    (19, codes "A manager has 1 to 256 places.") ∷
    (20, codes "A manager has 1 to 1024 sessions.") ∷
    (21, codes "There is no mode of this number.") ∷
    (22, codes "The name is empty.") ∷
    (23, codes "The name has more than 255 bytes.") ∷
    (24, codes "The name isn't UTF-8.") ∷
    (25, codes "A context keeps the tickets of the session.") ∷
    (26, codes "The session has no context.") ∷
    (27, codes "The session holds a ticket, has a wait, or pins a place.") ∷
    (28, codes "There is no duration of this number.") ∷
    (29, codes "There is no namespace of this number.") ∷
    (30, codes "The program was built with the headers of another version.") ∷ []

-- the texts of the space's refusals
abbrev pub cause_rows : List MessageRow
cause_rows =
    (32, codes "The session doesn't pin the place, or it has no key, or all places are in use.") ∷
    (33, codes "The session holds no ticket of this number.") ∷
    (34, codes "The mode of the ticket can't become the other.") ∷
    (35, codes "The key isn't locked exclusively.") ∷
    (36, codes "The session has a wait that it hasn't ended.") ∷
    (37, codes "The key doesn't take this mode, or the ticket isn't strong enough for it.") ∷
    (38, codes "The definition has had all its versions.") ∷
    (39, codes "The session has no wait.") ∷
    (40, codes "The wait of the session isn't settled.") ∷
    (41, codes "The session has used up its numbers.") ∷
    (42, codes "The lock has as many tickets as it can have.") ∷
    (43, codes "The definition can't be changed so.") ∷
    (44, codes "Nothing of this kind can be defined under the key.") ∷
    (45, codes "Memory ran out.") ∷
    (46, codes "The session has a ticket or a wait at this place.") ∷ []

-- the texts of a context's refusals
abbrev pub context_rows : List MessageRow
context_rows =
    (48, codes "The context keeps fewer tickets than the mark counted.") ∷
    (49, codes "The context keeps no ticket of this number.") ∷
    (50, codes "The context has a wait that it hasn't ended.") ∷ []

-- the text of a code in a table
abbrev pub text_in : List MessageRow → ℕ → List ℕ
text_in [] code = unknown_text
text_in (row ∷ rows) code = if code == row.0 then row.1 else text_in rows code

-- the text of a code. Codes below 16 are answers, those from 32 on refusals of the space, and those from 48 on refusals of a context
abbrev pub message_of : ℕ → List ℕ
message_of code =
    text_in (if nat_lt code 16 then answer_rows
    else (if nat_lt code 32 then refusal_rows
    else (if nat_lt code 48 then cause_rows else context_rows))) code

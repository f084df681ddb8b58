-- The lexemes of a value, and that the grammar reads them back.
use Rattle.std.proofs.Common.{◌≡◌, Bool, true, false, cond, List, [], ◌∷◌, ◌++◌, refl, sym, ap, ◌∙◌, append_assoc}
use Rattle.json.specs.Json.{Json, null, boolean, number, string, array, object, Items, no_items, item, Members, no_members, member}
use Rattle.json.specs.Token as spec
use Rattle.json.specs.Lex.{Lexeme, token, comma, colon, Place, fresh, after_value, after_comma, begins_colon, punctuate}
use Rattle.json.specs.Tree.{json_tokens, items_tokens, members_tokens}

abbrev mutual
  pub lexemes : Json → List Lexeme
  lexemes null = token spec.null ∷ []
  lexemes (boolean b) = token (spec.boolean b) ∷ []
  lexemes (number s) = token (spec.number s) ∷ []
  lexemes (string s) = token (spec.string s) ∷ []
  lexemes (array js) = token spec.begin_array ∷ first_items js
  lexemes (object ms) = token spec.begin_object ∷ first_members ms

  -- elements and members with the closing bracket: the first, and those behind a comma
  pub first_items : Items → List Lexeme
  first_items no_items = token spec.end_array ∷ []
  first_items (item j js) = lexemes j ++ more_items js

  pub more_items : Items → List Lexeme
  more_items no_items = token spec.end_array ∷ []
  more_items (item j js) = comma ∷ (lexemes j ++ more_items js)

  pub first_members : Members → List Lexeme
  first_members no_members = token spec.end_object ∷ []
  first_members (member k j ms) = token (spec.string k) ∷ colon ∷ (lexemes j ++ more_members ms)

  pub more_members : Members → List Lexeme
  more_members no_members = token spec.end_object ∷ []
  more_members (member k j ms) = comma ∷ token (spec.string k) ∷ colon ∷ (lexemes j ++ more_members ms)

no_colon-items : (js : Items) (ls : List Lexeme) → begins_colon (more_items js ++ ls) ≡ false
no_colon-items no_items ls = refl
no_colon-items (item j js) ls = refl

no_colon-members : (ms : Members) (ls : List Lexeme) → begins_colon (more_members ms ++ ls) ≡ false
no_colon-members no_members ls = refl
no_colon-members (member k j ms) ls = refl

-- where a value may begin: at the beginning, and behind a comma
abbrev pub begin_at : Bool → Place
begin_at first = cond first fresh after_comma

mutual
  unfolding punctuate

  pub punctuated : (j : Json) (first : Bool) (ls : List Lexeme) → begins_colon ls ≡ false → punctuate (begin_at first) (lexemes j ++ ls) ≡ json_tokens j ++ punctuate after_value ls
  punctuated null true ls h = refl
  punctuated null false ls h = refl
  punctuated (boolean b) true ls h = refl
  punctuated (boolean b) false ls h = refl
  punctuated (number s) true ls h = refl
  punctuated (number s) false ls h = refl
  punctuated (string s) true ls h = rw h
  punctuated (string s) false ls h = rw h
  punctuated (array js) true ls h = ap (λ l. spec.begin_array ∷ l) (punctuated-first_items js ls)
  punctuated (array js) false ls h = ap (λ l. spec.begin_array ∷ l) (punctuated-first_items js ls)
  punctuated (object ms) true ls h = ap (λ l. spec.begin_object ∷ l) (punctuated-first_members ms ls)
  punctuated (object ms) false ls h = ap (λ l. spec.begin_object ∷ l) (punctuated-first_members ms ls)

  punctuated-first_items : (js : Items) (ls : List Lexeme) → punctuate fresh (first_items js ++ ls) ≡ items_tokens js ++ punctuate after_value ls
  punctuated-first_items no_items ls = refl
  punctuated-first_items (item j js) ls =
      ap (punctuate fresh) (append_assoc (lexemes j) (more_items js) ls)
      ∙ punctuated j true (more_items js ++ ls) (no_colon-items js ls)
      ∙ ap (λ l. json_tokens j ++ l) (punctuated-more_items js ls)
      ∙ sym (append_assoc (json_tokens j) (items_tokens js) (punctuate after_value ls))

  punctuated-more_items : (js : Items) (ls : List Lexeme) → punctuate after_value (more_items js ++ ls) ≡ items_tokens js ++ punctuate after_value ls
  punctuated-more_items no_items ls = refl
  punctuated-more_items (item j js) ls =
      ap (punctuate after_comma) (append_assoc (lexemes j) (more_items js) ls)
      ∙ punctuated j false (more_items js ++ ls) (no_colon-items js ls)
      ∙ ap (λ l. json_tokens j ++ l) (punctuated-more_items js ls)
      ∙ sym (append_assoc (json_tokens j) (items_tokens js) (punctuate after_value ls))

  punctuated-first_members : (ms : Members) (ls : List Lexeme) → punctuate fresh (first_members ms ++ ls) ≡ members_tokens ms ++ punctuate after_value ls
  punctuated-first_members no_members ls = refl
  punctuated-first_members (member k j ms) ls = ap (λ l. spec.key k ∷ l) (
      ap (punctuate fresh) (append_assoc (lexemes j) (more_members ms) ls)
      ∙ punctuated j true (more_members ms ++ ls) (no_colon-members ms ls)
      ∙ ap (λ l. json_tokens j ++ l) (punctuated-more_members ms ls)
      ∙ sym (append_assoc (json_tokens j) (members_tokens ms) (punctuate after_value ls)))

  punctuated-more_members : (ms : Members) (ls : List Lexeme) → punctuate after_value (more_members ms ++ ls) ≡ members_tokens ms ++ punctuate after_value ls
  punctuated-more_members no_members ls = refl
  punctuated-more_members (member k j ms) ls = ap (λ l. spec.key k ∷ l) (
      ap (punctuate fresh) (append_assoc (lexemes j) (more_members ms) ls)
      ∙ punctuated j true (more_members ms ++ ls) (no_colon-members ms ls)
      ∙ ap (λ l. json_tokens j ++ l) (punctuated-more_members ms ls)
      ∙ sym (append_assoc (json_tokens j) (members_tokens ms) (punctuate after_value ls)))

-- Texts of pieces, whatever way they are put together, and whole texts.
use Rattle.std.proofs.Common.{◌≡◌, ℕ, suc, ◌≤◌, true, List, [], ◌∷◌, ◌++◌, Some, option_and_then, refl, sym, ap, ◌∙◌, subst, append_assoc, append-nil}
use Rattle.std.proofs.lemmas.Str.{IsUtf8-append}
use Rattle.json.specs.Json.{Json, value, if_last, document, max_depth}
use Rattle.json.specs.Lex.{lex, fresh, punctuate}
use Rattle.json.specs.Strict.{keys}
use Rattle.json.proofs.Printed.Trees.{value-json_tokens}
use Rattle.json.proofs.Printed.Utf8.{IsUtf8-are_ascii}
use Rattle.mdl_view_text_laws.specs.JsonTexts.{IsJson, members_value, object_value}
use Rattle.mdl_view_text_laws.proofs.Lexemes.{punctuated}
use Rattle.mdl_view_text_laws.proofs.Spelling.{Spells, deeper}
use Rattle.mdl_view_text_laws.proofs.Objects.{are_distinct, Member, more_text, object_text, trees_of, spells_object}

-- a text of pieces
pub data Pieces : Type 0 where
  piece : List ℕ → Pieces
  ◌⊕◌ : Pieces → Pieces → Pieces

infixl 65 ◌⊕◌
abbrev pub whole : Pieces → List ℕ
whole (piece text) = text
whole (p ⊕ q) = whole p ++ whole q

-- each piece before all that follows it
abbrev pub in_turn : Pieces → List ℕ → List ℕ
in_turn (piece text) rest = text ++ rest
in_turn (p ⊕ q) rest = in_turn p (in_turn q rest)

in_turn-is : (p : Pieces) (rest : List ℕ) → in_turn p rest ≡ whole p ++ rest
in_turn-is (piece text) rest = refl
in_turn-is (p ⊕ q) rest = ap (in_turn p) (in_turn-is q rest) ∙ in_turn-is p (whole q ++ rest) ∙ sym (append_assoc (whole p) (whole q) rest)

pub in_pieces : {d : ℕ} {tree : Json} (p : Pieces) → Spells d (in_turn p []) tree → Spells d (whole p) tree
in_pieces {d = d} {tree = tree} p s = subst (λ l. Spells d l tree) (in_turn-is p [] ∙ append-nil (whole p)) s

-- ---- whole texts

-- a text that spells a value is one, with a line feed behind it
spelled_is_document : (text : List ℕ) (tree : Json) → Spells max_depth text tree → document (text ++ 10 ∷ []) ≡ Some tree
unfolding lex punctuate
spelled_is_document text tree s =
    ap (λ ls. option_and_then (λ p. if_last p.0 p.1) (value max_depth (punctuate fresh ls))) (s.lexed (10 ∷ []) refl)
    ∙ ap (λ ts. option_and_then (λ p. if_last p.0 p.1) (value max_depth ts)) (punctuated tree true [] refl)
    ∙ ap (option_and_then (λ p. if_last p.0 p.1)) (value-json_tokens tree max_depth [] s.shallow)

spelled_is_json : (text : List ℕ) (tree : Json) → Spells max_depth text tree → IsJson (text ++ 10 ∷ []) tree
spelled_is_json text tree s = record {
  utf8 = IsUtf8-append text (10 ∷ []) s.utf8 (IsUtf8-are_ascii (10 ∷ []) refl);
  value = spelled_is_document text tree s;
  keys = s.unique;
}

module _ {d : ℕ} where
  -- the text of an object before another text
  abbrev pub more_then : List ℕ → List (Member d) → List ℕ
  more_then end [] = 125 ∷ end
  more_then end (m ∷ ms) = 44 ∷ 34 ∷ (m.key ++ 34 ∷ 58 ∷ m.onto (more_then end ms))

  abbrev pub object_then : List ℕ → Member d → List (Member d) → List ℕ
  object_then end m ms = 123 ∷ 34 ∷ (m.key ++ 34 ∷ 58 ∷ m.onto (more_then end ms))

  member_then : (m : Member d) (rest end whole : List ℕ) → rest ++ end ≡ whole → (m.key ++ 34 ∷ 58 ∷ m.onto rest) ++ end ≡ m.key ++ 34 ∷ 58 ∷ m.onto whole
  member_then m rest end whole e =
      append_assoc m.key (34 ∷ 58 ∷ m.onto rest) end
      ∙ ap (λ l. m.key ++ 34 ∷ 58 ∷ l) (ap (λ l. l ++ end) (m.onto_is rest) ∙ append_assoc m.text rest end ∙ ap (λ l. m.text ++ l) e ∙ sym (m.onto_is whole))

  more_text-then : (end : List ℕ) (ms : List (Member d)) → more_text ms ++ end ≡ more_then end ms
  more_text-then end [] = refl
  more_text-then end (m ∷ ms) = ap (λ l. 44 ∷ 34 ∷ l) (member_then m (more_text ms) end (more_then end ms) (more_text-then end ms))

  -- pieces that are an object of these members and a line feed
  pub pieces_are_json : (p : Pieces) (m : Member d) (ms : List (Member d)) → suc d ≤ max_depth → are_distinct (keys (members_value (trees_of (m ∷ ms)))) ≡ true
      → in_turn p [] ≡ object_then (10 ∷ []) m ms → IsJson (whole p) (object_value (trees_of (m ∷ ms)))
  pieces_are_json p m ms h distinct e =
      let text : whole p ≡ object_text m ms ++ 10 ∷ [] =
      sym (in_turn-is p [] ∙ append-nil (whole p)) ∙ e ∙ sym (ap (λ l. 123 ∷ 34 ∷ l) (member_then m (more_text ms) (10 ∷ []) (more_then (10 ∷ []) ms) (more_text-then (10 ∷ []) ms))) in
      subst (λ l. IsJson l (object_value (trees_of (m ∷ ms)))) (sym text) (spelled_is_json (object_text m ms) _ (deeper (suc d) max_depth h (spells_object m ms distinct)))

-- A name comes back from the field that the client writes for it.
use Rattle.std.proofs.Common.{◌≡◌, ◌∙◌, ℕ, ◌==◌, Bool, true, false, cond, List, [], ◌∷◌, ◌++◌, codes, refl, sym, ap}
use Rattle.std.proofs.lemmas.Bool.{eqb-true}
use Rattle.mdl_client_table.specs.Escapes.{escaped, escaped_byte, unescaped, unescaped_from}

by_tests : (nul tab feed slash : Bool) (byte : ℕ) (rest : List ℕ) → (byte == 0) ≡ nul → (byte == 9) ≡ tab → (byte == 10) ≡ feed → (byte == 92) ≡ slash
    → unescaped_from false (cond nul (codes "\\0") (cond tab (codes "\\t") (cond feed (codes "\\n") (cond slash (codes "\\\\") (byte ∷ [])))) ++ rest)
    ≡ byte ∷ unescaped_from false rest
by_tests true tab feed slash byte rest e f g h = ap (λ n. n ∷ unescaped_from false rest) (sym (eqb-true byte 0 e))
by_tests false true feed slash byte rest e f g h = ap (λ n. n ∷ unescaped_from false rest) (sym (eqb-true byte 9 f))
by_tests false false true slash byte rest e f g h = ap (λ n. n ∷ unescaped_from false rest) (sym (eqb-true byte 10 g))
by_tests false false false true byte rest e f g h = ap (λ n. n ∷ unescaped_from false rest) (sym (eqb-true byte 92 h))
by_tests false false false false byte rest e f g h = ap (λ slash. cond slash [] (byte ∷ []) ++ unescaped_from slash rest) h

-- what one byte gives, before what the others do
one_back : (byte : ℕ) (rest : List ℕ) → unescaped_from false (escaped_byte byte ++ rest) ≡ byte ∷ unescaped_from false rest
one_back byte rest = by_tests (byte == 0) (byte == 9) (byte == 10) (byte == 92) byte rest refl refl refl refl

pub name_back : (name : List ℕ) → unescaped (escaped name) ≡ name
name_back [] = refl
name_back (byte ∷ name) = one_back byte (escaped name) ∙ ap (λ rest. byte ∷ rest) (name_back name)

-- The words behind a session.
use Rattle.std.proofs.Common.{◌≡◌, ℕ, Bool, true, false, cond, List, [], ◌∷◌, codes, refl, sym, subst, ap, ◌∙◌}
use Rattle.std.specs.Prelude.{Some, None, Result, Ok, Err, MatchResult, find}
use Rattle.std.specs.Result.{result_ok}
use Rattle.std.specs.Bool.{then_some}
use Rattle.std.specs.Option.{option_map}
use lib.Utf8.{encode}
use Rattle.std.specs.Str.{IsUtf8}
use Rattle.std.proofs.lemmas.Slice.Eq.{bytes_eq-Decides}
use Rattle.mdl_key.specs.declared.namespace.Kind.{Kind}
use Rattle.mdl_key.specs.declared.namespace.Kind.TheVariants.{Scoped, Object}
use Rattle.mdl_key.specs.declared.mode.Mode.{Mode}
use Rattle.mdl_key.specs.declared.mode.Mode.TheVariants.{IX, S, SH, SR, SW, SWLP, SU, SRO, SNW, SNRW, X}
use Rattle.mdl_key.specs.Modes.{is_mode_of, mode_name}
use Rattle.mdl_lock.specs.declared.script_command.Action.TheVariants.{Ask}
use Rattle.mdl_lines.specs.Lines.{same_text}
use Rattle.mdl_lock.specs.Scripts.{modes_taken, action_of}

-- the name of a mode asks for it, where locks of this kind use it
pub action_of-name : (kind : Kind) (mode : Mode) → action_of kind (mode_name mode) ≡ then_some (is_mode_of kind mode) (Ask mode)
action_of-name Scoped IX = refl
action_of-name Scoped S = refl
action_of-name Scoped SH = refl
action_of-name Scoped SR = refl
action_of-name Scoped SW = refl
action_of-name Scoped SWLP = refl
action_of-name Scoped SU = refl
action_of-name Scoped SRO = refl
action_of-name Scoped SNW = refl
action_of-name Scoped SNRW = refl
action_of-name Scoped X = refl
action_of-name Object IX = refl
action_of-name Object S = refl
action_of-name Object SH = refl
action_of-name Object SR = refl
action_of-name Object SW = refl
action_of-name Object SWLP = refl
action_of-name Object SU = refl
action_of-name Object SRO = refl
action_of-name Object SNW = refl
action_of-name Object SNRW = refl
action_of-name Object X = refl

differs : (word name : List ℕ) → (word ≡ name → ⊥) → same_text word name ≡ false
differs word name ne = by (same_text word name) (bytes_eq-Decides word name).0 where
  by : (b : Bool) → (b ≡ true → word ≡ name) → b ≡ false
  by true h = absurd (ne (h refl))
  by false h = refl

pub found_none : {A : Type 0} (test : A → Bool) (xs : List A) → ((x : A) → test x ≡ false) → find test xs ≡ None
found_none test [] h = refl
found_none test (x ∷ xs) h = ap (λ b. cond b (Some x) (find test xs)) (h x) ∙ found_none test xs h

-- a word that is neither RELEASE nor TIMEOUT nor the name of a mode asks for nothing
pub action_of-None : (kind : Kind) (word : List ℕ) → (word ≡ codes "RELEASE" → ⊥) → (word ≡ codes "TIMEOUT" → ⊥) → ((mode : Mode) → mode_name mode ≡ word → ⊥) → action_of kind word ≡ None
action_of-None kind word release timeout modes =
    rw (differs word (codes "RELEASE") release, differs word (codes "TIMEOUT") timeout)
    (ap (option_map (λ mode. Ask mode)) (found_none (λ mode. same_text word (mode_name mode)) (modes_taken kind) (λ mode. differs word (mode_name mode) (λ e. modes mode (sym e)))))

name-IsUtf8 : (mode : Mode) → IsUtf8 (mode_name mode)
unfolding encode
name-IsUtf8 IX = (codes "IX", (refl, refl))
name-IsUtf8 S = (codes "S", (refl, refl))
name-IsUtf8 SH = (codes "SH", (refl, refl))
name-IsUtf8 SR = (codes "SR", (refl, refl))
name-IsUtf8 SW = (codes "SW", (refl, refl))
name-IsUtf8 SWLP = (codes "SWLP", (refl, refl))
name-IsUtf8 SU = (codes "SU", (refl, refl))
name-IsUtf8 SRO = (codes "SRO", (refl, refl))
name-IsUtf8 SNW = (codes "SNW", (refl, refl))
name-IsUtf8 SNRW = (codes "SNRW", (refl, refl))
name-IsUtf8 X = (codes "X", (refl, refl))

-- a word that is no text asks for nothing
pub action_of-no_text : (kind : Kind) (word : List ℕ) → (IsUtf8 word → ⊥) → action_of kind word ≡ None
unfolding encode
action_of-no_text kind word bad =
    action_of-None kind word (λ e. bad (subst IsUtf8 (sym e) (codes "RELEASE", (refl, refl)))) (λ e. bad (subst IsUtf8 (sym e) (codes "TIMEOUT", (refl, refl)))) (λ mode e. bad (subst IsUtf8 e (name-IsUtf8 mode)))

-- what a call says of its `Ok` or its `Err`, from what `ok` made of it
pub ok_from_some : {T E : Type 0} (r : Result T E) (P : T → Type 0) (Q : E → Type 0) (x : T) → Some x ≡ result_ok r → MatchResult r P Q → P x
ok_from_some (Ok y) P Q x e m = let same : y ≡ x = cc in subst P same m
ok_from_some (Err y) P Q x e m = absurd (cc)

pub err_from_none : {T E G : Type 0} (r : Result T E) (P : T → Type 0) (Q : E → Type 0) → None ≡ result_ok r → ((error : E) → Q error → G) → MatchResult r P Q → G
err_from_none (Ok y) P Q e k m = absurd (cc)
err_from_none (Err y) P Q e k m = k y m

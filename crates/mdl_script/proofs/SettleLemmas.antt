-- Turn by turn, what was told and what is still to be told make up the whole.
use Rattle.std.proofs.Common.{◌≡◌, ℕ, zero, suc, ◌<◌, ◌+◌, ◌-◌, true, List, [], ◌∷◌, ◌++◌, length, get_or, drop, Result, Ok, Option, Some, None, refl, sym, ap, ◌∙◌, ◌≢◌, ◌⊎◌, inl, inr, false, subst, arith, append_assoc, append-nil}
use Rattle.std.specs.List.{All, find}
use Rattle.std.proofs.Math.Dec.{eqb}
use Rattle.std.proofs.lemmas.Bool.Decides.{eqb_tells}
use Rattle.std.specs.Prelude.{IfOk}
use Rattle.std.proofs.lemmas.List.{drop_more}
use Rattle.mdl_core.specs.CoreCalls.{has_settled}
use Rattle.mdl_calls.specs.Words.{Answer, SessionLocks, Settle_timeout, own_after}
use Rattle.mdl_core.specs.CoreJoins.{Joins}
use Rattle.mdl_core.specs.Words.{Core, SpeaksFor, locks_at}
use Rattle.mdl_space.specs.CoreMembers.{core_space}
use Rattle.mdl_core.proofs.CallLaws.{core-changes, core-keeps, core-others, core-remembers}
use Rattle.mdl_core.proofs.CoreSound.{calls_keep-sound}
use Rattle.mdl_context.specs.Contexts.{ContextView, Attends}
use Rattle.mdl_context.proofs.AttendLemmas.{attends-same}
use Rattle.mdl_lines.specs.declared.fault.LineError.{LineError}
use Rattle.mdl_lines.specs.Lines.{lines_of}
use Rattle.mdl_lines.specs.Sessions.{IsScriptSession}
use Rattle.mdl_syntax.specs.declared.script.Line.{Line}
use Rattle.mdl_syntax.specs.Scripts.{parsed}
use Rattle.mdl_syntax.specs.Laws.{IsWithinLimits}
use Rattle.mdl_syntax.proofs.LawLemmas.{lines_say-limited}
use Rattle.mdl_script.specs.declared.play.Play.{Play}
use Rattle.mdl_script.specs.declared.play.Player as kept
use Rattle.mdl_script.specs.declared.told.Told.{Told}
use Rattle.mdl_script.specs.Plays.{AreSeated, IsManned, new_player, world_of}
use Rattle.mdl_script.specs.Texts.{told_line, told_text}
use Rattle.mdl_script.specs.Worlds.{Scene, World, continuing_settled, first_settled, going, line_played, lines_played, session_waits, turn_of, unreported, waiting_in, ◌and_then◌}
use Rattle.mdl_script.proofs.PlayLemmas.{seated-at, waiting-sessions}
use Rattle.mdl_script.proofs.ListLemmas.{All-find}

-- ---- text

pub told-append : (one other : List Told) → told_text (one ++ other) ≡ told_text one ++ told_text other
told-append [] other = refl
told-append (x ∷ xs) other = ap (λ t. told_line x ++ t) (told-append xs other) ∙ sym (append_assoc (told_line x) (told_text xs) (told_text other))

-- ---- settling

-- nothing more comes where no wait is settled
pub settling-none : (n : ℕ) (world : World) → first_settled world ≡ None → continuing_settled n world ≡ unreported world
unfolding continuing_settled
settling-none zero world none = refl
settling-none (suc n) world none = rw none

-- where one is, that goes on
pub settling-some : (n m : ℕ) (world : World) (who : ℕ) → n ≡ suc m → first_settled world ≡ Some who → continuing_settled n world ≡ (going who world and_then continuing_settled m)
unfolding continuing_settled
settling-some n m world who same some = rw (same, some)

pub settling-over : (world : World) → continuing_settled zero world ≡ unreported world
unfolding continuing_settled
settling-over world = refl

-- ---- text and world, so far and in the end

-- it is the whole where nothing is left to tell
pub told-end : (rest : Scene) (world : World) (out whole : List Told) → rest ≡ unreported world → out ++ rest.told ≡ whole → out ≡ whole
told-end rest world out whole silence so = subst (λ (scene : Scene). out ++ scene.told ≡ whole → out ≡ whole) (sym silence) (λ e. sym (append-nil out) ∙ e) so

pub left-end : (rest : Scene) (world whole : World) → rest ≡ unreported world → rest.world ≡ whole → world ≡ whole
left-end rest world whole silence so = sym (ap (λ (scene : Scene). scene.world) silence) ∙ so

-- one step is told, and then the rest
pub told-more : (rest step more : Scene) (out next whole : List Told) → rest.told ≡ step.told ++ more.told → out ++ rest.told ≡ whole
    → next ≡ out ++ step.told → next ++ more.told ≡ whole
told-more rest step more out next whole parts so now =
    ap (λ t. t ++ more.told) now ∙ append_assoc out step.told more.told ∙ ap (λ t. out ++ t) (sym parts) ∙ so

-- and so it is printed
text-more : (rest step more : Scene) (out next whole : List ℕ) → rest.told ≡ step.told ++ more.told → out ++ told_text rest.told ≡ whole
    → next ≡ out ++ told_text step.told → next ++ told_text more.told ≡ whole
text-more rest step more out next whole parts so now =
    ap (λ t. t ++ told_text more.told) now ∙ append_assoc out (told_text step.told) (told_text more.told)
    ∙ ap (λ t. out ++ t) (sym (told-append step.told more.told) ∙ ap told_text (sym parts)) ∙ so

-- ---- who waits

-- the space speaks for each session
pub play-speaks : (play : Play) → IsManned play → (who : ℕ) → IsScriptSession who → SpeaksFor play.space who
play-speaks play manned who session =
    let inside : who - 1 < length play.players.items = subst (λ l. who - 1 < l) (sym manned.all) (omega (arith, session.0, session.1)) in
    let at = seated-at play.space 1 (who - 1) play.players.items (new_player 0) manned.seated inside in
    subst (λ w. SpeaksFor play.space w) (at.0 ∙ omega (arith, session.0)) at.1.attends.speaks

-- and so for all that wait
pub waiting-speak : (play : Play) → IsManned play → All (SpeaksFor play.space) play.waiting.items
waiting-speak play manned =
    rw manned.waiting (waiting-sessions (SpeaksFor play.space) (world_of play) (λ who session _. play-speaks play manned who session))

-- the session that is found is one that waits
pub found-waits : (play : Play) (who : ℕ) → IsManned play → first_settled (world_of play) ≡ Some who → IsScriptSession who × (session_waits (world_of play) who ≡ true)
found-waits play who manned found =
    let P : ℕ → Type 0 = λ w. IsScriptSession w × (session_waits (world_of play) w ≡ true) in
    All-find P (has_settled play.space) (waiting_in (world_of play)) who (waiting-sessions P (world_of play) (λ w session waits. (session, waits))) found

-- what is found among those that are noted
pub found-among : (play : Play) (found : Option ℕ) → IsManned play → found ≡ find (has_settled play.space) play.waiting.items → first_settled (world_of play) ≡ found
found-among play found manned so = ap (λ ws. find (has_settled play.space) ws) (sym manned.waiting) ∙ sym so

-- ---- turns

-- a turn of the session that is found, or of none
turn-some : (world : World) (who : ℕ) → first_settled world ≡ Some who → turn_of (first_settled world) world ≡ going who world
turn-some world who some = rw some

turn-none : (world : World) → first_settled world ≡ None → turn_of (first_settled world) world ≡ unreported world
turn-none world none = rw none

-- one session goes on, and then the rest follows
pub one-turn : (n m : ℕ) (world after : World) (who : ℕ) (out next whole : List Told) (end : World) → n ≡ suc m → first_settled world ≡ Some who
    → out ++ (continuing_settled n world).told ≡ whole → (continuing_settled n world).world ≡ end
    → next ≡ out ++ (turn_of (first_settled world) world).told → after ≡ (turn_of (first_settled world) world).world
    → (next ++ (continuing_settled m after).told ≡ whole) × ((continuing_settled m after).world ≡ end)
one-turn n m world after who out next whole end fewer some so left now there =
    let step : Scene = going who world in
    let parts = settling-some n m world who fewer some in
    let is = turn-some world who some in
    let told : next ≡ out ++ step.told = now ∙ ap (λ (scene : Scene). out ++ scene.told) is in
    let gone : after ≡ step.world = there ∙ ap (λ (scene : Scene). scene.world) is in
    subst (λ (w : World). (next ++ (continuing_settled m w).told ≡ whole) × ((continuing_settled m w).world ≡ end)) (sym gone) (
      told-more (continuing_settled n world) step (continuing_settled m step.world) out next whole (ap (λ (scene : Scene). scene.told) parts) so told,
      sym (ap (λ (scene : Scene). scene.world) parts) ∙ left,
    )

-- no session goes on: that was all
pub no-turn : (n : ℕ) (world after : World) (out next whole : List Told) (end : World) → first_settled world ≡ None
    → out ++ (continuing_settled n world).told ≡ whole → (continuing_settled n world).world ≡ end
    → next ≡ out ++ (turn_of (first_settled world) world).told → after ≡ (turn_of (first_settled world) world).world → (next ≡ whole) × (after ≡ end)
no-turn n world after out next whole end none so left now there =
    let is : turn_of (first_settled world) world ≡ continuing_settled n world = turn-none world none ∙ sym (settling-none n world none) in
    (now ∙ ap (λ (scene : Scene). out ++ scene.told) is ∙ so, there ∙ ap (λ (scene : Scene). scene.world) is ∙ left)

-- ---- a wait that times out

own-timed_out : (answer : Answer) (who : ℕ) (own : SessionLocks) → own_after (Settle_timeout who) answer own ≡ own
own-timed_out answer who own = refl

-- it leaves to each what it has
attended-still : (a b : Core) (who : ℕ) (answer : Answer) (context : ContextView) → Joins a (Settle_timeout who) answer b → Attends core_space a context → Attends core_space b context
attended-still a b who answer context step attends =
    attends-same a b context attends (λ place key known. core-remembers a b (Settle_timeout who) answer context.who place key attends.speaks (λ e _. cc) step known)
    (core-keeps calls_keep-sound a b (Settle_timeout who) answer context.who attends.speaks step) (by (eqb_tells who context.who)) where
      by : ((eqb who context.who ≡ true) × (who ≡ context.who)) ⊎ ((eqb who context.who ≡ false) × (who ≢ context.who)) → locks_at b context.who ≡ locks_at a context.who
      by (inl same) = core-changes a b (Settle_timeout who) answer context.who (ap Some same.1) step ∙ own-timed_out answer who (locks_at a context.who)
      by (inr other) = core-others a b (Settle_timeout who) answer context.who attends.speaks (λ e. other.1 (cc)) step

seated-still : (a b : Core) (who : ℕ) (answer : Answer) (first : ℕ) (xs : List kept.Player) → Joins a (Settle_timeout who) answer b → AreSeated a first xs → AreSeated b first xs
seated-still a b who answer first [] step seated = tt
seated-still a b who answer first (x ∷ xs) step seated = (
  seated.0,
  record { attends = attended-still a b who answer x.runner.context step seated.1.attends; met = λ one among. tt },
  seated-still a b who answer (first + 1) xs step seated.2,
)

pub timed-out : (play : Play) (who : ℕ) (answer : Answer) (after : Core) → IsManned play → Joins play.space (Settle_timeout who) answer after
    → IsManned (record { space = after; players = play.players; waiting = play.waiting })
timed-out play who answer after manned step =
    record { all = manned.all; seated = seated-still play.space after who answer 1 play.players.items step manned.seated; waiting = manned.waiting }

-- what is printed of one line, where the list was empty before it
pub text-line : (before line after : List Told) (out next : List ℕ) → before ≡ [] → after ≡ before ++ line → next ≡ out ++ told_text after → next ≡ out ++ told_text line
text-line before line after out next none told so = so ∙ ap (λ ts. out ++ told_text ts) (told ∙ ap (λ ts. ts ++ line) none)

-- one line is played, and then the rest follows
pub one-line : (lines : List Line) (i : ℕ) (line d : Line) (play after : Play) (out next whole : List ℕ) (end : World) → i < length lines → line ≡ get_or lines i d
    → out ++ told_text (lines_played (drop i lines) (world_of play)).told ≡ whole → (lines_played (drop i lines) (world_of play)).world ≡ end
    → next ≡ out ++ told_text (line_played line (world_of play)).told → world_of after ≡ (line_played line (world_of play)).world
    → (next ++ told_text (lines_played (drop (i + 1) lines) (world_of after)).told ≡ whole) × ((lines_played (drop (i + 1) lines) (world_of after)).world ≡ end)
one-line lines i line d play after out next whole end inside item so left now there =
    let step : Scene = line_played line (world_of play) in
    let rest = drop (i + 1) lines in
    let parts : lines_played (drop i lines) (world_of play) ≡ (step and_then lines_played rest) =
    ap (λ ls. lines_played ls (world_of play)) (drop_more lines i d inside ∙ ap (λ x. x ∷ rest) (sym item)) in
    subst (λ (w : World). (next ++ told_text (lines_played rest w).told ≡ whole) × ((lines_played rest w).world ≡ end)) (sym there) (
      text-more (lines_played (drop i lines) (world_of play)) step (lines_played rest step.world) out next whole (ap (λ (scene : Scene). scene.told) parts) so now,
      sym (ap (λ (scene : Scene). scene.world) parts) ∙ left,
    )

-- the lines that were read are of sessions that a script can name
pub read-sessions : (text : List ℕ) (lines : List Line) → parsed text ≡ Ok lines → All (λ line. IsScriptSession line.session) lines
read-sessions text lines read k d inside = (limited k d inside).0 where
  limited : All (λ line. IsScriptSession line.session × IsWithinLimits line.statement) lines
  limited = subst (λ (said : Result (List Line) (ℕ × LineError)). IfOk said (All (λ line. IsScriptSession line.session × IsWithinLimits line.statement))) read (lines_say-limited 1 (lines_of text))

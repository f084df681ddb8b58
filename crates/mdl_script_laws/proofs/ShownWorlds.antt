-- Line by line, what a session was shown in its transaction stands on, and so what it is shown again is the same.
use Rattle.std.proofs.Common.{◌≡◌, ◌≢◌, ◌⊎◌, inl, inr, ℕ, zero, suc, Bool, true, false, List, [], ◌∷◌, Option, Some, None, is_some, refl, sym, ap, ◌∙◌, subst}
use Rattle.std.proofs.lemmas.Bool.{false≢true}
use Rattle.std.proofs.lemmas.Bool.Decides.{eqb_tells}
use Rattle.std.proofs.lemmas.List.Elements.{All-head, All-tail, Contains-append_cases}
use Rattle.mdl_key.specs.declared.mode.Mode.{Mode}
use Rattle.mdl_key.specs.Keys.{KeyName}
use Rattle.mdl_system.proofs.MemberLemmas.{Contains-none}
use Rattle.mdl_calls.specs.Words.{Settle_timeout, Program, EachCall, outcome_of}
use Rattle.mdl_core.specs.CoreCalls.{outcome}
use Rattle.mdl_core.specs.CoreJoins.{Joins, SpeaksFor}
use Rattle.mdl_core.specs.Cores.{Core}
use Rattle.mdl_core.specs.RunLaws.{IsMadeFor}
use Rattle.mdl_context.specs.Contexts.{current_mark}
use Rattle.mdl_lines.specs.Sessions.{IsScriptSession}
use Rattle.mdl_syntax.specs.declared.script.Line.{Line}
use Rattle.mdl_syntax.specs.declared.statement.Statement.{Statement}
use Rattle.mdl_syntax.specs.declared.statement.Statement.TheVariants as statement
use Rattle.mdl_rows.specs.declared.reply.Reply.{Reply}
use Rattle.mdl_rows.specs.declared.reply.Reply.TheVariants as reply
use Rattle.mdl_rows.specs.declared.reply.TableShown.{TableShown}
use Rattle.mdl_rows.specs.Endings.{Pause, Ends, Begins_to_wait, Waits_on, Faults}
use Rattle.mdl_rows.specs.MemoryLaws.{session_of_pause}
use Rattle.mdl_rows.specs.Playing.{going_on, starting}
use Rattle.mdl_rows.specs.Sessions.{Session}
use Rattle.mdl_rows.specs.Statements.{row_of}
use Rattle.mdl_rows.proofs.RowCalls.{rows_call}
use Rattle.mdl_script.specs.declared.told.News.{News}
use Rattle.mdl_script.specs.declared.told.News.TheVariants.{Busy, Ends as Has_ended, Waits as Has_waits}
use Rattle.mdl_script.specs.declared.told.Told.{Told}
use Rattle.mdl_script.specs.Worlds.{Player, Scene, World, after_timeout, ask_session, continuing_settled, first_core, first_settled, first_world, going, going_first, line_played, lines_played, most_turns, played, player_at, reports_of, session_waits, started, ◌and_then◌}
use Rattle.mdl_script.proofs.SoundLemmas.{IsStaffed, first-session, staffed-first, staffed-going, staffed-started, staffed-timed_out}
use Rattle.mdl_script_laws.specs.Shown.{AreOfSessions, IsShownTo, LeavesTransaction, leaves_transaction}
use Rattle.mdl_script_laws.proofs.ListLemmas.{only-one}
use Rattle.mdl_script_laws.proofs.OutcomeLemmas.{joins-outcome}
use Rattle.mdl_script_laws.proofs.ScriptLemmas.{asked-by, lines-by, new-session, plays-other, plays-same}
use Rattle.mdl_script_laws.proofs.ShownCalls.{Leads, Stays, leads-outcome, none, stays-call, stays-other, stays-outcome}
use Rattle.mdl_script_laws.proofs.ShownContexts.{followed-same, fits-same}
use Rattle.mdl_script_laws.proofs.ShownPoints.{IsStanding, standing-followed}
use Rattle.mdl_script_laws.proofs.ShownPlays.{begun, leads-begun, leads-going, leads-play}
use Rattle.mdl_script_laws.proofs.ShownReleases.{leads-release_lock}
use Rattle.mdl_script_laws.proofs.ShownRows.{fair-any, fair-leaving}
use Rattle.mdl_script_laws.proofs.ShownStages.{Comes, Keeps, Rests, Tells, point-resting, point-same}

-- ---- a statement that starts

-- it leaves what was shown before, or nothing was
abbrev pub MayStart : (TableShown → Type 0) → Statement → Type 0
MayStart old statement = (leaves_transaction statement ≡ true) ⊎ ((x : TableShown) → old x → ⊥)

-- one that leaves it
leads-leaving : (old : TableShown → Type 0) (asked : Statement) (a : Core) (session : Session) → leaves_transaction asked ≡ true
    → Rests old a session → Leads (Comes old) (starting asked session) a
leads-leaving old (statement.ReleaseLock name) a session leaves rests = leads-release_lock old name a session rests
leads-leaving old asked a session leaves rests =
    let live = session.state.is_open in
    leads-begun old (row_of asked) (current_mark session.context.kept) a session
    (leads-play old live [] [] (begun (row_of asked) session.state) (current_mark session.context.kept) a session
    (fair-leaving old live asked session.state leaves (λ none. none) rests.unlocked (λ lives. lives)) (point-resting old a session rests))

leads-starting : (old : TableShown → Type 0) (statement : Statement) (a : Core) (session : Session) → MayStart old statement
    → Rests old a session → Leads (Comes old) (starting statement session) a
leads-starting old statement a session may rests = by (leaves_transaction statement) refl
  where
    by : (leaves : Bool) → leaves_transaction statement ≡ leaves → Leads (Comes old) (starting statement session) a
    by true leaves = leads-leaving old statement a session leaves rests
    by false other =
        leads-play old true [] [] (row_of statement) (current_mark session.context.kept) a session (fair-any old statement other nothing_old) (record {
          fits = rests.fits;
          unlocked = rests.unlocked;
          was = λ e. refl;
          opens = λ x is lives. absurd (nothing_old x is);
          kept = λ x is lives. absurd (nothing_old x is);
          locked = λ id key among. absurd (Contains-none (id, key) among);
          stands = λ x among. absurd (Contains-none x among);
        })
      where
        nothing_old : (x : TableShown) → old x → ⊥
        nothing_old x is = elim may [ inl leaves ↦ false≢true (sym other ∙ leaves) | inr nothing ↦ nothing x is ]

-- ---- a session that others leave alone

keeps-stays : (old : TableShown → Type 0) (a b : Core) (session : Session) → Stays session.context.who none a b → Keeps old a session → Keeps old b session
keeps-stays old a b session stays (inl rests) = inl (record {
  left = rests.left;
  fits = fits-same a b session.context rests.fits stays;
  unlocked = rests.unlocked;
  kept = λ x is opens. standing-followed a b session.context session.context (followed-same a b session.context rests.fits stays) x
      (rests.kept x is opens);
})
keeps-stays old a b session stays (inr (inl waiting)) = inr (inl (record {
  rest = waiting.rest;
  left = waiting.left;
  live = waiting.live;
  locks = waiting.locks;
  seen = waiting.seen;
  key = waiting.key;
  wanted = waiting.wanted;
  wait = waiting.wait;
  gains = waiting.gains;
  at = stays.0.known waiting.wanted.place waiting.key waiting.at;
  point = point-same old waiting.live waiting.locks waiting.seen waiting.rest.mark a session.context session.state waiting.point b stays;
  fair = waiting.fair;
}))
keeps-stays old a b session stays (inr (inr raising)) = inr (inr (record {
  rest = raising.rest;
  left = raising.left;
  live = raising.live;
  nothing = raising.nothing;
  upgrading = raising.upgrading;
  point = point-same old raising.live [] [] raising.rest.mark a session.context session.state raising.point b stays;
  fair = raising.fair;
}))

keeps-speaks : (old : TableShown → Type 0) (a : Core) (session : Session) → Keeps old a session → SpeaksFor a session.context.who
keeps-speaks old a session (inl rests) = rests.fits.speaks
keeps-speaks old a session (inr (inl waiting)) = waiting.point.fits.speaks
keeps-speaks old a session (inr (inr raising)) = raising.point.fits.speaks

-- ---- worlds

-- nothing
abbrev pub Nothing : TableShown → Type 0
Nothing x = ⊥

-- all sessions are there, what was shown to one of them stands as long as its transaction is open, and each can go on
pub record IsGood (who : ℕ) (old : TableShown → Type 0) (world : World) : Type 0 where
  pub staffed : IsStaffed world
  pub own : Keeps old world.core (player_at who world).session
  pub others : (w : ℕ) → IsScriptSession w → w ≢ who → Keeps Nothing world.core (player_at w world).session

-- one table more
abbrev pub with_table : (TableShown → Type 0) → TableShown → TableShown → Type 0
with_table old x y = old y ⊎ (y ≡ x)

-- so it is after a scene, also of each table that was shown in it
pub record IsGoodScene (who : ℕ) (old : TableShown → Type 0) (scene : Scene) : Type 0 where
  pub good : IsGood who old scene.world
  pub shown : (x : TableShown) → IsShownTo who scene.told x → IsGood who (with_table old x) scene.world

same_reply : (one other : Reply) → Has_ended one ≡ Has_ended other → one ≡ other
same_reply one other e = cc

ended_waits : (r : Reply) (key : KeyName) (mode : Mode) → Has_ended r ≡ Has_waits key mode → ⊥
ended_waits r key mode e = cc

ended_busy : (r : Reply) → Has_ended r ≡ Busy → ⊥
ended_busy r e = cc

shows_ok : (tables : List TableShown) → reply.Columns tables ≡ reply.Ok → ⊥
shows_ok tables e = cc

-- what is told alone
told-alone : (who line s : ℕ) (news : News) (x : TableShown) → (shown : IsShownTo who (record { line = line; who = s; news = news } ∷ []) x)
    → (who ≡ s) × (Has_ended (reply.Columns shown.1) ≡ news)
told-alone who line s news x shown =
    let same = only-one (record { line = line; who = s; news = news }) (record { line = shown.0; who = who; news = Has_ended (reply.Columns shown.1) }) shown.2 in
    (ap (λ (t : Told). t.who) same, ap (λ (t : Told). t.news) same)

-- what is told of a statement that came so far
told-by : (who line s : ℕ) (pause : Pause) (x : TableShown) → IsShownTo who (reports_of line s pause) x → (s ≡ who)
    × ((old : TableShown → Type 0) (b : Core) → Comes old pause b → Rests old b (session_of_pause pause)
    × ((session_of_pause pause).state.is_open ≡ true → IsStanding b (session_of_pause pause).context x))
told-by who line s (Ends r session) x shown =
    let told = told-alone who line s (Has_ended r) x shown in
    let is = same_reply (reply.Columns shown.1) r told.1 in
    (sym told.0, λ old b comes. (comes.0, comes.1 x (subst (λ (q : Reply). Tells q x) is shown.3)))
told-by who line s (Begins_to_wait key mode session) x shown =
    absurd (ended_waits (reply.Columns shown.1) key mode (told-alone who line s (Has_waits key mode) x shown).1)
told-by who line s (Waits_on session) x shown = absurd (Contains-none (record { line = shown.0; who = who; news = Has_ended (reply.Columns shown.1) }) shown.2)
told-by who line s (Faults session) x shown = absurd (Contains-none (record { line = shown.0; who = who; news = Has_ended (reply.Columns shown.1) }) shown.2)

keeps-comes : (old : TableShown → Type 0) (pause : Pause) (b : Core) → Comes old pause b → Keeps old b (session_of_pause pause)
keeps-comes old (Ends r session) b comes = inl comes.0
keeps-comes old (Begins_to_wait key mode session) b comes = inr comes
keeps-comes old (Waits_on session) b comes = inr comes
keeps-comes old (Faults session) b comes = inl comes

rests-with : (old : TableShown → Type 0) (b : Core) (session : Session) (x : TableShown) → Rests old b session
    → (session.state.is_open ≡ true → IsStanding b session.context x) → Rests (with_table old x) b session
rests-with old b session x rests stands = record {
  left = rests.left;
  fits = rests.fits;
  unlocked = rests.unlocked;
  kept = λ y is opens. elim is [ inl before ↦ rests.kept y before opens | inr same ↦ subst (IsStanding b session.context) (sym same) (stands opens) ];
}

-- ---- a statement is played

-- the world after it
module _ (who : ℕ) (old : TableShown → Type 0) (line s : ℕ) (program : Session → Program Pause) (world : World)
    (is : IsScriptSession s) (good : IsGood who old world)
    (made : EachCall (IsMadeFor (player_at s world).session.context.who) (program (player_at s world).session))
    (staffed : IsStaffed (played line s (program (player_at s world).session) world).world) where
  abbrev before : Session
  before = (player_at s world).session

  abbrev end : Pause × Core
  end = outcome_of outcome (program before) world.core

  abbrev after : World
  after = (played line s (program before) world).world

  mine : (player_at s after).session ≡ session_of_pause end.0
  mine = ap (λ (p : Player). p.session) (plays-same line s (program before) world is good.staffed)

  theirs : (w : ℕ) → IsScriptSession w → w ≢ s → (player_at w after).session ≡ (player_at w world).session
  theirs w there apart = ap (λ (p : Player). p.session) (plays-other line s (program before) world is good.staffed w there apart)

  -- another session
  other-keeps : (facts : TableShown → Type 0) (w : ℕ) → IsScriptSession w → w ≢ s → Keeps facts world.core (player_at w world).session
      → Keeps facts after.core (player_at w after).session
  other-keeps facts w there apart keeps =
      subst (λ session. Keeps facts end.1 session) (sym (theirs w there apart))
      (keeps-stays facts world.core end.1 (player_at w world).session
      (stays-outcome (program before) world.core (player_at w world).session.context.who before.context.who
      (λ e. apart (sym (good.staffed.named w there) ∙ sym e ∙ good.staffed.named s is))
      (subst (SpeaksFor world.core) (sym (good.staffed.named s is)) (good.staffed.speaks s is.0 is.1))
      (keeps-speaks facts world.core (player_at w world).session keeps) made) keeps)

  came : (facts : TableShown → Type 0) → Leads (Comes facts) (program before) world.core → Comes facts end.0 end.1
  came facts leads =
      leads-outcome (Comes facts) (program before) world.core before.context.who
      (subst (SpeaksFor world.core) (sym (good.staffed.named s is)) (good.staffed.speaks s is.0 is.1)) made leads

  -- the session itself
  own-keeps : (facts : TableShown → Type 0) → Leads (Comes facts) (program before) world.core → Keeps facts after.core (player_at s after).session
  own-keeps facts leads = subst (λ session. Keeps facts end.1 session) (sym mine) (keeps-comes facts end.0 end.1 (came facts leads))

  -- where it is the one that was shown something
  good-own : s ≡ who → Leads (Comes old) (program before) world.core → IsGoodScene who old (played line s (program before) world)
  good-own same leads = record {
    good = record {
      staffed = staffed;
      own = subst (λ w. Keeps old after.core (player_at w after).session) same (own-keeps old leads);
      others = others;
    };
    shown = λ x told. record {
      staffed = staffed;
      own = subst (λ w. Keeps (with_table old x) after.core (player_at w after).session) same
          (subst (λ session. Keeps (with_table old x) end.1 session) (sym mine)
          (let h = (told-by who line s end.0 x told).1 old end.1 (came old leads) in inl (rests-with old end.1 (session_of_pause end.0) x h.0 h.1)));
      others = others;
    };
  }
    where
      others : (w : ℕ) → IsScriptSession w → w ≢ who → Keeps Nothing after.core (player_at w after).session
      others w there apart = other-keeps Nothing w there (λ e. apart (e ∙ same)) (good.others w there apart)

  -- where it is another
  good-other : IsScriptSession who → s ≢ who → Leads (Comes Nothing) (program before) world.core → IsGoodScene who old (played line s (program before) world)
  good-other there apart leads = record {
    good = record {
      staffed = staffed;
      own = other-keeps old who there (λ e. apart (sym e)) good.own;
      others = others;
    };
    shown = λ x told. absurd (apart (told-by who line s end.0 x told).0);
  }
    where
      others : (w : ℕ) → IsScriptSession w → w ≢ who → Keeps Nothing after.core (player_at w after).session
      others w session other = elim (eqb_tells w s) [
        | inl same ↦ subst (λ v. Keeps Nothing after.core (player_at v after).session) (sym same.1) (own-keeps Nothing leads)
        | inr differs ↦ other-keeps Nothing w session differs.1 (good.others w session other)
      ]

-- ---- scenes

-- a session that doesn't wait
rests-idle : (old : TableShown → Type 0) (a : Core) (session : Session) → Keeps old a session → is_some session.left ≡ false → Rests old a session
rests-idle old a session (inl rests) idle = rests
rests-idle old a session (inr (inl waiting)) idle = let e = ap is_some waiting.left in let f : true ≡ false = sym e ∙ idle in cc
rests-idle old a session (inr (inr raising)) idle = let e = ap is_some raising.left in let f : true ≡ false = sym e ∙ idle in cc

module _ (who : ℕ) (there : IsScriptSession who) where
  scene-going : (old : TableShown → Type 0) (s : ℕ) (world : World) → IsScriptSession s → IsGood who old world → IsGoodScene who old (going s world)
  scene-going old s world is good = elim (eqb_tells s who) [
    | inl same ↦ good-own who old (player_at s world).line s (λ session. going_on session) world is good made staffed same.1
        (leads-going old world.core (player_at s world).session (subst (λ w. Keeps old world.core (player_at w world).session) (sym same.1) good.own))
    | inr apart ↦ good-other who old (player_at s world).line s (λ session. going_on session) world is good made staffed there apart.1
        (leads-going Nothing world.core (player_at s world).session (good.others s is apart.1))
  ]
    where
      made : EachCall (IsMadeFor (player_at s world).session.context.who) (going_on (player_at s world).session)
      made = (rows_call (player_at s world).session).2

      staffed : IsStaffed (going s world).world
      staffed = staffed-going s world is good.staffed

  scene-started : (old : TableShown → Type 0) (line : Line) (world : World) → IsScriptSession line.session → (line.session ≡ who → MayStart old line.statement)
      → session_waits world line.session ≡ false → IsGood who old world → IsGoodScene who old (started line world)
  scene-started old line world is may idle good = elim (eqb_tells line.session who) [
    | inl same ↦ good-own who old line.number line.session (λ session. starting line.statement session) world is good made staffed same.1
        (leads-starting old line.statement world.core (player_at line.session world).session (may same.1)
        (rests-idle old world.core (player_at line.session world).session
        (subst (λ w. Keeps old world.core (player_at w world).session) (sym same.1) good.own) idle))
    | inr apart ↦ good-other who old line.number line.session (λ session. starting line.statement session) world is good made staffed there apart.1
        (leads-starting Nothing line.statement world.core (player_at line.session world).session (inr (λ x none. none))
        (rests-idle Nothing world.core (player_at line.session world).session (good.others line.session is apart.1) idle))
  ]
    where
      made : EachCall (IsMadeFor (player_at line.session world).session.context.who) (starting line.statement (player_at line.session world).session)
      made = (rows_call (player_at line.session world).session).1 line.statement

      staffed : IsStaffed (started line world).world
      staffed = staffed-started line world is good.staffed

  -- a session's patience ends
  good-timed_out : (old : TableShown → Type 0) (s : ℕ) (world : World) → IsScriptSession s → IsGood who old world → IsGood who old (after_timeout s world)
  good-timed_out old s world is good = record {
    staffed = staffed-timed_out s world is good.staffed;
    own = still old who there good.own;
    others = λ w session apart. still Nothing w session (good.others w session apart);
  }
    where
      joins : Joins world.core (Settle_timeout s) (outcome (Settle_timeout s) world.core).0 (outcome (Settle_timeout s) world.core).1
      joins = joins-outcome s world.core (Settle_timeout s) (good.staffed.speaks s is.0 is.1) refl

      stays : (w : ℕ) → IsScriptSession w → Stays w none world.core (outcome (Settle_timeout s) world.core).1
      stays w session = elim (eqb_tells w s) [
        | inl same ↦ stays-call w none world.core (outcome (Settle_timeout s) world.core).1 (Settle_timeout s) (outcome (Settle_timeout s) world.core).0
            (good.staffed.speaks w session.0 session.1)
            (ap Some (sym same.1), tt, refl) joins
        | inr apart ↦ stays-other w world.core (outcome (Settle_timeout s) world.core).1 (Settle_timeout s) (outcome (Settle_timeout s) world.core).0
            (good.staffed.speaks w session.0 session.1)
            (λ e. apart.1 (let f : s ≡ w = cc in sym f)) joins
      ]

      still : (facts : TableShown → Type 0) (w : ℕ) → IsScriptSession w → Keeps facts world.core (player_at w world).session
          → Keeps facts (outcome (Settle_timeout s) world.core).1 (player_at w world).session
      still facts w session keeps =
          keeps-stays facts world.core (outcome (Settle_timeout s) world.core).1 (player_at w world).session
          (subst (λ v. Stays v none world.core (outcome (Settle_timeout s) world.core).1) (sym (good.staffed.named w session)) (stays w session)) keeps

  scene-asked : (old : TableShown → Type 0) (line : Line) (world : World) → IsScriptSession line.session → (line.session ≡ who → MayStart old line.statement)
      → IsGood who old world → IsGoodScene who old (ask_session line world)
  scene-asked old line world is may good =
      asked-by (IsGoodScene who old) line world (record {
        good = good-timed_out old line.session world is good;
        shown = λ x shown. absurd (shows_ok shown.1 (same_reply (reply.Columns shown.1) reply.Ok
            (told-alone who line.number line.session (Has_ended reply.Ok) x shown).1));
      }) (record {
        good = good;
        shown = λ x shown. absurd (ended_busy (reply.Columns shown.1) (told-alone who line.number line.session Busy x shown).1);
      }) (λ idle. scene-started old line world is may idle good)

  -- one scene after another
  scene-then : (old : TableShown → Type 0) (scene : Scene) (next : World → Scene) → IsGoodScene who old scene
      → ((facts : TableShown → Type 0) → IsGood who facts scene.world → IsGoodScene who facts (next scene.world)) → IsGoodScene who old (scene and_then next)
  scene-then old scene next first later = record {
    good = (later old first.good).good;
    shown = λ x shown. elim (Contains-append_cases scene.told (next scene.world).told
        (record { line = shown.0; who = who; news = Has_ended (reply.Columns shown.1) }) shown.2) [
          | inl early ↦ (later (with_table old x) (first.shown x (shown.0, shown.1, early, shown.3))).good
          | inr late ↦ (later old first.good).shown x (shown.0, shown.1, late, shown.3)
        ];
  }

  scene-silent : (old : TableShown → Type 0) (world : World) → IsGood who old world → IsGoodScene who old (record { told = []; world = world })
  scene-silent old world good = record {
    good = good;
    shown = λ x shown. absurd
        (Contains-none (record { line = shown.0; who = who; news = Has_ended (reply.Columns shown.1) }) shown.2);
  }

  scene-first : (old : TableShown → Type 0) (first : Option ℕ) (world : World) (more : World → Scene) → first_settled world ≡ first → IsGood who old world
      → ((facts : TableShown → Type 0) (after : World) → IsGood who facts after → IsGoodScene who facts (more after))
      → IsGoodScene who old (going_first first more world)
  scene-first old None world more found good rest = scene-silent old world good
  scene-first old (Some s) world more found good rest =
      scene-then old (going s world) more (scene-going old s world (first-session world s found) good) (λ facts there. rest facts (going s world).world there)

  scene-settling : (n : ℕ) (old : TableShown → Type 0) (world : World) → IsGood who old world → IsGoodScene who old (continuing_settled n world)
  unfolding continuing_settled
  scene-settling zero old world good = scene-silent old world good
  scene-settling (suc n) old world good = scene-first old (first_settled world) world (continuing_settled n) refl good (λ facts after kept. scene-settling n facts after kept)

  pub scene-line : (old : TableShown → Type 0) (line : Line) (world : World) → IsScriptSession line.session → (line.session ≡ who → MayStart old line.statement)
      → IsGood who old world → IsGoodScene who old (line_played line world)
  scene-line old line world is may good =
      scene-then old (ask_session line world) (continuing_settled most_turns) (scene-asked old line world is may good)
      (λ facts kept. scene-settling most_turns facts (ask_session line world).world kept)

  pub scene-lines : (old : TableShown → Type 0) (lines : List Line) (world : World) → AreOfSessions lines → LeavesTransaction who lines → IsGood who old world
      → IsGoodScene who old (lines_played lines world)
  scene-lines old [] world are leave good = scene-silent old world good
  scene-lines old (line ∷ lines) world are leave good =
      scene-then old (line_played line world) (lines_played lines)
      (scene-line old line world (All-head (λ (l : Line). IsScriptSession l.session) line lines are)
      (λ e. inl (All-head (λ (l : Line). l.session ≡ who → leaves_transaction l.statement ≡ true) line lines leave e)) good)
      (λ facts kept. scene-lines facts lines (line_played line world).world (All-tail (λ (l : Line). IsScriptSession l.session) line lines are)
      (All-tail (λ (l : Line). l.session ≡ who → leaves_transaction l.statement ≡ true) line lines leave) kept)

  -- before anything was shown, whatever the lines
  pub good-lines : (lines : List Line) (world : World) → AreOfSessions lines → IsGood who Nothing world → IsGood who Nothing (lines_played lines world).world
  good-lines lines world are good =
      lines-by (λ line. IsScriptSession line.session) (IsGood who Nothing)
      (λ line world is good. (scene-line Nothing line world is (λ e. inr (λ x none. none)) good).good) lines world are good

-- ---- the world at first

keeps-first : (w : ℕ) → IsScriptSession w → Keeps Nothing first_world.core (player_at w first_world).session
keeps-first w is = subst (λ (p : Player). Keeps Nothing first_core p.session) (sym (new-session w is)) (inl (record {
  left = refl;
  fits = record {
    speaks = staffed-first.speaks w is.0 is.1;
    backed = λ k among. absurd (Contains-none k among);
    alone = λ k other one two e. absurd (Contains-none k one);
    known = λ key place among. absurd (Contains-none (key, place) among);
    wait = λ wanted w e f. cc;
  };
  unlocked = λ opens. refl;
  kept = λ x none opens. absurd none;
}))

pub good-first : (who : ℕ) → IsScriptSession who → IsGood who Nothing first_world
good-first who is = record {
  staffed = staffed-first;
  own = keeps-first who is;
  others = λ w session apart. keeps-first w session;
}

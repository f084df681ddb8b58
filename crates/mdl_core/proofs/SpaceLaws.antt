-- The space of one thread has the laws of a lock space.
use Rattle.std.proofs.Common.{inl, inr}
use Rattle.mdl_calls.specs.SpaceLaws.{SpaceLaws}
use Rattle.mdl_core.specs.CoreJoins.{SpeaksFor, locks_at, Knows, IsSettledAs, numbers_at, HasRead, HasSeen, Joins}
use Rattle.mdl_core.proofs.CallLaws.{core-allowed, core-keeps, core-changes, core-others, core-draws, core-others_draw, core-rising, core-fits, core-explains, core-lists, core-resolves, core-tells_key, core-tells_tables, core-remembers, core-waits_settled, core-settled_once, core-tells, core-stays, core-agrees, core-victims, core-counts, core-kills, core-kills_or_settled, core-upgrades, core-unpins_in_use}
use Rattle.mdl_core.proofs.CoreSound.{calls_keep-sound}
use Rattle.mdl_core.proofs.KnownPlaces.{core-one_key, core-one_place, core-pins_rise, core-pinned_known, core-held_pinned, core-wait_pinned}
use Rattle.mdl_core.proofs.ReadLaws.{core-reads, core-redefines, core-redefines_so, core-reads_one, core-stands, core-reads_fit, core-sees, core-seen_stays, core-seen_below}

-- it keeps nothing of what was met, and owes nothing
pub core-laws : SpaceLaws SpeaksFor locks_at Knows IsSettledAs numbers_at HasRead (λ _ _ _ _. Unit {0}) HasSeen (λ _ _ _. ⊥) Joins
core-laws = record {
  allowed = core-allowed;
  keeps = core-keeps calls_keep-sound;
  changes = core-changes;
  others = core-others;
  rising = core-rising;
  fits = core-fits;
  lists = core-lists;
  explains = core-explains;
  resolves = core-resolves;
  remembers = core-remembers;
  one_key = core-one_key;
  one_place = core-one_place;
  pins_rise = core-pins_rise;
  pinned_known = core-pinned_known;
  held_pinned = core-held_pinned;
  wait_pinned = core-wait_pinned;
  tells = core-tells;
  waits_settled = core-waits_settled;
  settled_once = core-settled_once;
  stays = core-stays;
  agrees = core-agrees;
  victims = core-victims;
  counts = core-counts;
  kills = core-kills;
  kills_or_settled = core-kills_or_settled;
  draws = core-draws;
  others_draw = core-others_draw;
  reads = core-reads;
  redefines = core-redefines;
  redefines_so = core-redefines_so;
  reads_one = core-reads_one;
  stands = core-stands;
  reads_fit = core-reads_fit;
  sees = core-sees;
  seen_stays = core-seen_stays;
  seen_below = core-seen_below;
  meets = λ a w place standing speaks read. tt;
  met_stays = λ a b call answer w place standing speaks joins met. tt;
  upgrades = core-upgrades;
  tells_key = core-tells_key;
  tells_tables = core-tells_tables;
  no_new_debts = λ a b call answer w place speaks j owes. owes;
  unpins_in_use = λ a b who place joins. elim (core-unpins_in_use a b who place joins) [ inl holds ↦ inl holds | inr awaits ↦ inr (inl awaits) ];
}

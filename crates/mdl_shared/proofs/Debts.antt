-- What a session owes, by the flags of its own list and by its view.
use Rattle.std.proofs.Common.{◌≡◌, ℕ, ◌==◌, ◌&&◌, ◌||◌, Bool, true, false, not, List, [], ◌∷◌, if◌then◌else◌, refl, sym, ap, subst, ◌∙◌, arith, eq-eqb}
use Rattle.mdl_shared.proofs.Common.{AreOwed, AtItsTable, Deed, IsOwed, MakesSteps, Member, Mine, OwesNoMore, ReleasesFast, SeatState, SessionView, TableId, TicketList, Visits, VisitsAndReschedules, all_but, and_parts, by_bool, false≢true, list_any, nat_tests, owed_in}

-- ---- what is owed after a visit is the same

pub visited-owes : {place : ℕ} {ds : List Deed} {seat seat′ : SeatState} → AtItsTable seat seat′ (Visits place ds) → seat′.me.0.owes ≡ seat.me.0.owes
visited-owes visits = ap (λ (m : Mine). m.0.owes) visits.1.now

-- or one place less
pub rescheduled-owes : {id : TableId} {place : ℕ} {ds : List Deed} {seat seat′ : SeatState} → AtItsTable seat seat′ (VisitsAndReschedules id place ds)
    → seat′.me.0.owes ≡ all_but place seat.me.0.owes
rescheduled-owes visits = ap (λ (m : Mine). m.0.owes) visits.1.now

-- its own list says it still, where its flags are the same
pub owed-both : (m : Member) {flags : List Bool} {owes : List ℕ} → flags ≡ m.tickets.owes → owes ≡ m.seat.me.0.owes → AreOwed flags owes
owed-both m same still q = ap (owed_in q) same ∙ m.owed q ∙ sym (ap (list_any (λ p. p == q)) still)

pub owed-on : (m : Member) {owes : List ℕ} → owes ≡ m.seat.me.0.owes → AreOwed m.tickets.owes owes
owed-on m still = owed-both m refl still

pub owed-visited : (m : Member) {place : ℕ} {ds : List Deed} {seat : SeatState} → AtItsTable m.seat seat (Visits place ds) → AreOwed m.tickets.owes seat.me.0.owes
owed-visited m visits = owed-on m (visited-owes visits)

pub owed-stepped : (m : Member) {me : Mine} → MakesSteps m.seat.me me → AreOwed m.tickets.owes me.0.owes
owed-stepped m steps = owed-on m (ap (λ (x : Mine). x.0.owes) steps.1)

-- ---- a place is rescheduled, or owed a reschedule

-- without one place just that isn't owed
but-one : (q place : ℕ) (owes : List ℕ) → list_any (λ p. p == q) (all_but place owes) ≡ (list_any (λ p. p == q) owes && not (q == place))
but-one q place [] = refl
but-one q place (p ∷ ps) =
    by_bool (p == place)
    (λ here. rw here (grind (arith, nat_tests, but-one q place ps, here)))
    (λ away. rw away (grind (arith, nat_tests, but-one q place ps, away)))

-- the place that was put first is left out, too
none-here : (place : ℕ) (owes : List ℕ) → all_but place (place ∷ owes) ≡ all_but place owes
none-here place owes = rw (eq-eqb place place refl) refl

-- a place that was rescheduled is owed nothing, whether it was owed before or not
pub paid-off : (q place : ℕ) (owes : List ℕ) → IsOwed q (all_but place (place ∷ owes)) → IsOwed q owes
paid-off q place owes owed =
    (and_parts (list_any (λ p. p == q) owes) (not (q == place)) (sym (but-one q place owes) ∙ subst (λ (ps : List ℕ). IsOwed q ps) (none-here place owes) owed)).0

-- a place was rescheduled, and its flag is down
pub owed-paid : (m : Member) (before after : TicketList) (place : ℕ) {owes : List ℕ} → before.owes ≡ m.tickets.owes
    → ((q : ℕ) → owed_in q after.owes ≡ (owed_in q before.owes && not (q == place))) → owes ≡ all_but place m.seat.me.0.owes → AreOwed after.owes owes
owed-paid m before after place same less paid q =
    less q ∙ ap (λ b. b && not (q == place)) (ap (owed_in q) same ∙ m.owed q) ∙ sym (ap (list_any (λ p. p == q)) paid ∙ but-one q place m.seat.me.0.owes)

-- a place is owed a reschedule, too, and its flag is up
pub owed-more : (m : Member) (before after : TicketList) (place : ℕ) {owes : List ℕ} → before.owes ≡ m.tickets.owes
    → ((q : ℕ) → owed_in q after.owes ≡ (owed_in q before.owes || q == place)) → owes ≡ place ∷ m.seat.me.0.owes → AreOwed after.owes owes
owed-more m before after place same more owing q =
    more q ∙ ap (λ b. b || q == place) (ap (owed_in q) same ∙ m.owed q) ∙ grind (arith, nat_tests) ∙ sym (ap (list_any (λ p. p == q)) owing)

-- ---- calls

-- what is owed after a fast release, by its answer
pub released-owes : {place number : ℕ} {owes : Bool} {m m′ : Mine} → ReleasesFast place number owes m m′ → m′.0.owes ≡ (if owes then place ∷ m.0.owes else m.0.owes)
released-owes {place} {m = m} released =
    ap (λ (x : Mine). x.0.owes) released.now ∙ ap (λ b. if b then place ∷ m.0.owes else m.0.owes) (sym released.owes_is)

pub released-quiet : {place number : ℕ} {owes : Bool} {m m′ : Mine} → ReleasesFast place number owes m m′ → owes ≡ false → m′.0.owes ≡ m.0.owes
released-quiet {place} {m = m} released quiet = released-owes released ∙ ap (λ b. if b then place ∷ m.0.owes else m.0.owes) quiet

pub released-due : {place number : ℕ} {owes : Bool} {m m′ : Mine} → ReleasesFast place number owes m m′ → owes ≡ true → m′.0.owes ≡ place ∷ m.0.owes
released-due {place} {m = m} released due = released-owes released ∙ ap (λ b. if b then place ∷ m.0.owes else m.0.owes) due

-- what is owed still was owed before
pub same-debts : (a b : SessionView) → b.me.0.owes ≡ a.me.0.owes → OwesNoMore a b
same-debts a b same place owed = subst (IsOwed place) same owed

-- where no place is owed a reschedule, the list is empty
pub none-owed : (owes : List ℕ) → ((q : ℕ) → list_any (λ p. p == q) owes ≡ false) → owes ≡ []
none-owed [] none = refl
none-owed (p ∷ ps) none = absurd (false≢true (sym (none p) ∙ ap (λ b. b || list_any (λ o. o == p) ps) (eq-eqb p p refl)))

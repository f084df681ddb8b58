-- The tickets of a place have one note, whatever becomes of the tickets.
use Rattle.std.proofs.Common.{◌≡◌, ℕ, ◌==◌, false, List, [], ◌∷◌, ◌++◌, Option, Some, refl, sym, ap, ◌∙◌, subst, eq-eqb, eqb-true}
use Rattle.mdl_shared.proofs.Common.{Alter, AreAlike, Deed, Each, Gain, Lose, Mode, SessionTicket, all_owned, by_bool, false≢true, in_mode_at, is_own, note_at, noting_version, owned, without_at}

-- ---- as the tickets change

-- what is so of each ticket, and doesn't hang on numbers and modes, stays so
each_lost : (P : SessionTicket → Type 0) (place number : ℕ) (tickets : List SessionTicket) → Each P tickets → Each P (without_at place number tickets)
each_lost P place number [] each = tt
each_lost P place number (t ∷ ts) each =
    by_bool (is_own place number t)
    (λ gone. rw gone (each_lost P place number ts each.1))
    (λ stays. rw stays (each.0, each_lost P place number ts each.1))

each_altered : (P : SessionTicket → Type 0) (place number : ℕ) (mode : Mode) (tickets : List SessionTicket) → ((t : SessionTicket) → P t → P (record t { mode = mode })) → Each P tickets
    → Each P (in_mode_at place number mode tickets)
each_altered P place number mode [] stays each = tt
each_altered P place number mode (t ∷ ts) stays each =
    by_bool (is_own place number t)
    (λ own. rw own (stays t each.0, each_altered P place number mode ts stays each.1))
    (λ other. rw other (each.0, each_altered P place number mode ts stays each.1))

each_and : (P : SessionTicket → Type 0) (tickets : List SessionTicket) (t : SessionTicket) → Each P tickets → P t → Each P (tickets ++ t ∷ [])
each_and P [] t each last = (last, tt)
each_and P (x ∷ xs) t each last = (each.0, each_and P xs t each.1 last)

each_then : (P Q : SessionTicket → Type 0) (tickets : List SessionTicket) → ((t : SessionTicket) → P t → Q t) → Each P tickets → Each Q tickets
each_then P Q [] follows each = tt
each_then P Q (t ∷ ts) follows each = (follows t each.0, each_then P Q ts follows each.1)

alike_lost : (place number : ℕ) (tickets : List SessionTicket) → AreAlike tickets → AreAlike (without_at place number tickets)
alike_lost place number [] alike = tt
alike_lost place number (t ∷ ts) alike =
    by_bool (is_own place number t)
    (λ gone. rw gone (alike_lost place number ts alike.1))
    (λ stays. rw stays (each_lost (λ (x : SessionTicket). x.place ≡ t.place → x.noted ≡ t.noted) place number ts alike.0, alike_lost place number ts alike.1))

alike_altered : (place number : ℕ) (mode : Mode) (tickets : List SessionTicket) → AreAlike tickets → AreAlike (in_mode_at place number mode tickets)
alike_altered place number mode [] alike = tt
alike_altered place number mode (t ∷ ts) alike =
    let later = each_altered (λ (x : SessionTicket). x.place ≡ t.place → x.noted ≡ t.noted) place number mode ts (λ x same. same) alike.0 in
    by_bool (is_own place number t)
    (λ own. rw own (later, alike_altered place number mode ts alike.1))
    (λ other. rw other (later, alike_altered place number mode ts alike.1))

-- each ticket of a place has the note of the first
pub all_noted : (place : ℕ) (tickets : List SessionTicket) → AreAlike tickets → Each (λ (x : SessionTicket). x.place ≡ place → x.noted ≡ note_at place tickets) tickets
all_noted place [] alike = tt
all_noted place (t ∷ ts) alike =
    by_bool (t.place == place)
    (λ here.
    let is = eqb-true t.place place here in
    let first : note_at place (t ∷ ts) ≡ t.noted = rw here refl in (
      (λ e. sym first),
      each_then (λ (x : SessionTicket). x.place ≡ t.place → x.noted ≡ t.noted) (λ (x : SessionTicket). x.place ≡ place → x.noted ≡ note_at place (t ∷ ts)) ts (λ x same e. same (e ∙ sym is) ∙ sym first) alike.0,
    ))
    (λ there.
    let first : note_at place (t ∷ ts) ≡ note_at place ts = rw there refl in (
      (λ e. absurd (false≢true (sym there ∙ eq-eqb t.place place e))),
      each_then (λ (x : SessionTicket). x.place ≡ place → x.noted ≡ note_at place ts) (λ (x : SessionTicket). x.place ≡ place → x.noted ≡ note_at place (t ∷ ts)) ts (λ x same e. same e ∙ sym first)
          (all_noted place ts alike.1),
    ))

alike_and : (tickets : List SessionTicket) (t : SessionTicket) → AreAlike tickets → Each (λ (x : SessionTicket). t.place ≡ x.place → t.noted ≡ x.noted) tickets → AreAlike (tickets ++ t ∷ [])
alike_and [] t alike same = (tt, tt)
alike_and (x ∷ xs) t alike same = (each_and (λ (y : SessionTicket). y.place ≡ x.place → y.noted ≡ x.noted) xs t alike.0 same.0, alike_and xs t alike.1 same.1)

pub alike_gained : (tickets : List SessionTicket) (t : SessionTicket) → t.noted ≡ note_at t.place tickets → AreAlike tickets → AreAlike (tickets ++ t ∷ [])
alike_gained tickets t is alike =
    alike_and tickets t alike
    (each_then (λ (x : SessionTicket). x.place ≡ t.place → x.noted ≡ note_at t.place tickets) (λ (x : SessionTicket). t.place ≡ x.place → t.noted ≡ x.noted) tickets
    (λ x same e. is ∙ sym (same (sym e))) (all_noted t.place tickets alike))

-- by deeds at a place
alike_owned : (place : ℕ) (d : Deed) (tickets : List SessionTicket) → AreAlike tickets → AreAlike (owned place d tickets)
alike_owned place (Gain number mode) tickets alike =
    alike_gained tickets (record { number = number; place = place; mode = mode; noted = note_at place tickets }) refl alike
alike_owned place (Alter number mode) tickets alike = alike_altered place number mode tickets alike
alike_owned place (Lose number) tickets alike = alike_lost place number tickets alike

pub alike_done : (place : ℕ) (ds : List Deed) (tickets : List SessionTicket) → AreAlike tickets → AreAlike (all_owned place ds tickets)
alike_done place [] tickets alike = alike
alike_done place (d ∷ ds) tickets alike = alike_done place ds (owned place d tickets) (alike_owned place d tickets alike)

-- ---- as a version is noted at a place

-- the version is noted under each ticket there
noting_here : (place version : ℕ) (tickets : List SessionTicket) → Each (λ (x : SessionTicket). x.place ≡ place → x.noted ≡ Some version) (noting_version place version tickets)
noting_here place version [] = tt
noting_here place version (t ∷ ts) =
    by_bool (t.place == place)
    (λ here. rw here ((λ e. refl), noting_here place version ts))
    (λ there. rw there ((λ e. absurd (false≢true (sym there ∙ eq-eqb t.place place e))), noting_here place version ts))

noting_elsewhere : (place version other : ℕ) (mark : Option ℕ) (tickets : List SessionTicket) → (other == place) ≡ false → Each (λ (x : SessionTicket). x.place ≡ other → x.noted ≡ mark) tickets
    → Each (λ (x : SessionTicket). x.place ≡ other → x.noted ≡ mark) (noting_version place version tickets)
noting_elsewhere place version other mark [] apart each = tt
noting_elsewhere place version other mark (t ∷ ts) apart each =
    by_bool (t.place == place)
    (λ here. rw here ((λ e. absurd (false≢true (sym apart ∙ ap (λ (p : ℕ). p == place) (sym e) ∙ here))), noting_elsewhere place version other mark ts apart each.1))
    (λ there. rw there (each.0, noting_elsewhere place version other mark ts apart each.1))

pub alike_noting : (place version : ℕ) (tickets : List SessionTicket) → AreAlike tickets → AreAlike (noting_version place version tickets)
alike_noting place version [] alike = tt
alike_noting place version (t ∷ ts) alike =
    by_bool (t.place == place)
    (λ here.
    let is = eqb-true t.place place here in
    rw here (
      subst (λ (p : ℕ). Each (λ (x : SessionTicket). x.place ≡ p → x.noted ≡ Some version) (noting_version place version ts)) (sym is) (noting_here place version ts),
      alike_noting place version ts alike.1,
    ))
    (λ there. rw there (noting_elsewhere place version t.place t.noted ts there alike.0, alike_noting place version ts alike.1))

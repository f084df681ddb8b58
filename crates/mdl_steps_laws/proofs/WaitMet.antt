-- Steps that leave all waits, and that to meet a wait's word is to do nothing.
use Rattle.std.proofs.Common.{◌≡◌, ℕ, List, get_or, length, map, set, refl, sym, ap, ◌∙◌}
use Rattle.mdl_steps.proofs.WaitSteps.{met_rule}
use Rattle.mdl_steps_laws.proofs.FirstLemmas.{Definition, IsTold, KeyName, Lock, Maybe, MeetingRests, SameWaits, Slot, State, Stays, System, View, after_wait, get_elem?, granted_of, lock_else, met_wait_by, now_there, same_definitions, same_members, set_found, some, told_alike, wait_word, waiter_by, waiting_by, waits, was_there}

-- a seat's step that leaves the words of all waits, what the session asks for, and the waiting lists
module _ (s : State Slot View) (id : ℕ) (v w : View) (seat : get_elem? s.views id ≡ some v) (number : w.number ≡ v.number) (asks : w.asks ≡ v.asks) (ws : List ℕ) (homes : List (Maybe Slot)) where
  abbrev s′ : State Slot View
  s′ = record { words = ws; homes = homes; views = set s.views id w }

  pub waits_rest : ((m : ℕ) → waits s′ m ≡ waits s m) → (a b : System Definition) → (told : IsTold s a) → (told′ : IsTold s′ b)
      → ((k : KeyName) → (told′.0 k).book.waiting ≡ (told.0 k).book.waiting) → SameWaits a b
  waits_rest words a b told told′ lists = record {
    waiting = λ k.
        waiting_by s′ told′.0 b told′.2 told′.3 k
        ∙ ap (map (waiter_by (waits s′))) (lists k)
        ∙ told_alike (waits s) (waits s′) (told.0 k).book.waiting (λ t among. words t.session)
        ∙ sym (waiting_by s told.0 a told.2 told.3 k);
    unended = λ x. (
      (λ among.
          let granted = (told′.3.unended x).0 among in
          let was = was_there s id v w seat number (λ _. Unit {0}) (λ _. asks) granted.0 granted.1 granted.3 tt in
          (told.3.unended x).1 (granted.0, was.0, granted.2, was.1, was.2 ∙ granted.4, was.3 ∙ granted.5, granted.6, sym (words x.session) ∙ granted.7)),
      λ among.
          let granted = (told.3.unended x).0 among in
          let now = now_there s id v w seat number (λ _. Unit {0}) (λ _. asks) granted.0 granted.1 granted.3 tt in
          (told′.3.unended x).1 (granted.0, now.0, granted.2, now.1, now.2 ∙ granted.4, now.3 ∙ granted.5, granted.6, words x.session ∙ granted.7),
    );
  }

pub meeting_rests : MeetingRests
meeting_rests s r id me seat session kind =
    let n : ℕ = waits s session in
    let w : View = (met_wait_by kind (length s.homes) session (waits s session) me).0 in
    let then_ : State Slot View = after_wait s session (waits s session) id (met_wait_by kind (length s.homes) session (waits s session) me) in
    let r′ = met_rule s r id session me seat kind in (
      r′,
      λ a b told told′.
          let stays : Stays me.0 w = record { number = refl; fast = refl; directory = refl } in
          let words : (m : ℕ) → waits then_ m ≡ waits s m = λ m. ap (λ ws. get_or ws (wait_word (length s.homes) m) 0) (set_found s.words (wait_word (length s.homes) session)) in
          let same : (k : KeyName) → told′.0 k ≡ told.0 k = λ k. lock_else s r session n id me.0 w seat stays r′ told.0 told′.0 told.1 told′.1 k (λ j e. refl) in
          record {
            granted = same_members told.0 told′.0 a b told.2 told′.2 (λ k. ap granted_of (same k));
            waits = waits_rest s id me.0 w seat refl refl (set s.words (wait_word (length s.homes) session) (waits s session)) s.homes words a b told told′ (λ k. ap (λ (l : Lock). l.book.waiting) (same k));
            definitions = same_definitions told.0 told′.0 a b told.2 told′.2 (λ k. ap (λ (l : Lock). l.book.standing) (same k));
          },
    )

-- The steps of deeds and of changes of definitions do these in the system that the table tells, and leave all waits.
use Rattle.std.proofs.Common.{◌≡◌, ◌≢◌, ◌⊎◌, ℕ, suc, inl, inr, List, [], ◌∷◌, length, set, get_or, refl, sym, ap, ◌∙◌, subst, arith, length-set, get_or-set_other}
use Rattle.mdl_steps.specs.declared.slot.Slot.TheVariants as slot
use Rattle.mdl_steps_laws.proofs.FirstLemmas.{Alter, AreLocksOf, BookView, Deed, Gain, KeyName, Lock, Lose, Rule, SameElsewhere, Slot, State, VersionedDefinition, View, after_lowering, after_put, after_writing, all_booked, booked, find_key, first_place, flags_lowered, get_elem?, in_locks, inside, into_rule, key_told, last_place, latch_word, lock_after, lock_redefined, lock_word, lowering_does, putting_does, redefined, same_book, same_keys, some, standing_after, unlatched, version_word, wait_word, waits, writing_redefines}
use Rattle.mdl_steps_laws.proofs.ToldLaws.{LoweringIsDone, PuttingIsDone, WritingIsDone}
use Rattle.mdl_steps_laws.proofs.WaitMet.{waits_rest}

-- ---- locks are told once

pub locks_once : (s : State Slot View) (r : Rule s) (one other : KeyName → Lock) → AreLocksOf s one → AreLocksOf s other → (k : KeyName) → one k ≡ other k
locks_once s r one other are again k =
    let keys : again.keys ≡ are.keys = same_keys s r again.keys again.keys_are ∙ sym (same_keys s r are.keys are.keys_are) in
    elim (find_key are.keys k) [
      | inl at ↦
          let there = subst (λ (ks : List KeyName). get_elem? ks at.0 ≡ some k) (sym keys) at.1 in
          let in_rule = into_rule s r one are at.0 k at.1 in
          let first = first_place s r at.0 k in_rule in
          let last = last_place s r at.0 k in_rule in
          let fast = are.fast_are at.0 k at.1 ∙ sym (again.fast_are at.0 k there) in
          let book = same_book s r (suc at.0) first last (one k).book (are.book_is at.0 k at.1) ∙ sym (same_book s r (suc at.0) first last (other k).book (again.book_is at.0 k there)) in
          λ i. record { fast = fast i; book = book i }
      | inr none ↦ are.without_place k none ∙ sym (again.without_place k (λ i e. none i (subst (λ (ks : List KeyName). get_elem? ks i ≡ some k) keys e)))
    ]

-- one lock is another, and the others stay
abbrev turned : {P Q : Type 0} → Lock → Lock → P ⊎ Q → Lock
turned new old (inl here) = new
turned new old (inr away) = old

turned_here : (key : KeyName) (new old : Lock) (w : (key ≡ key) ⊎ (key ≢ key)) → turned new old w ≡ new
turned_here key new old (inl here) = refl
turned_here key new old (inr away) = absurd (away refl)

turned_else : (k key : KeyName) → k ≢ key → (new old : Lock) (w : (k ≡ key) ⊎ (k ≢ key)) → turned new old w ≡ old
turned_else k key differs new old (inl here) = absurd (differs here)
turned_else k key differs new old (inr away) = refl

-- where the table can tell that, it does
pub turns_by : (s : State Slot View) (r : Rule s) (key : KeyName) (lock : Lock) (old told : KeyName → Lock) → AreLocksOf s told
    → ((new : KeyName → Lock) → new key ≡ lock → SameElsewhere key old new → AreLocksOf s new) → (told key ≡ lock) × SameElsewhere key old told
turns_by s r key lock old told are by =
    let new : KeyName → Lock = λ k. turned lock (old k) (key_told k key) in
    let here : turned lock (old key) (key_told key key) ≡ lock = turned_here key lock (old key) (key_told key key) in
    let else : SameElsewhere key old (λ k. turned lock (old k) (key_told k key)) = λ k away. turned_else k key away lock (old k) (key_told k key) in
    let same = locks_once s r told (λ k. turned lock (old k) (key_told k key)) are (by (λ k. turned lock (old k) (key_told k key)) here else) in
    (same key ∙ here, λ k away. same k ∙ else k away)

-- the waiting lists that a change leaves
pub lists_stay : (key : KeyName) (lock : Lock) (old new : KeyName → Lock) → (new key ≡ lock) × SameElsewhere key old new → lock.book.waiting ≡ (old key).book.waiting
    → (k : KeyName) → (new k).book.waiting ≡ (old k).book.waiting
lists_stay key lock old new turns same k = elim (key_told k key) [
  | inl here ↦ subst (λ (x : KeyName). (new x).book.waiting ≡ (old x).book.waiting) (sym here) (ap (λ (l : Lock). l.book.waiting) turns.0 ∙ same)
  | inr away ↦ ap (λ (l : Lock). l.book.waiting) (turns.1 k away)
]

all_booked-waiting : (session : ℕ) (deeds : List Deed) (book : BookView) → (all_booked session deeds book).waiting ≡ book.waiting
all_booked-waiting session [] book = refl
all_booked-waiting session (Gain number mode ∷ ds) book = all_booked-waiting session ds (booked session (Gain number mode) book)
all_booked-waiting session (Alter number mode ∷ ds) book = all_booked-waiting session ds (booked session (Alter number mode) book)
all_booked-waiting session (Lose number ∷ ds) book = all_booked-waiting session ds (booked session (Lose number) book)

-- ---- the steps

pub putting_is_done : PuttingIsDone
putting_is_done s r keys keys_are i key at id me seat h holds ds r′ a b told then_ =
    let place : ℕ = suc i in
    let book : BookView = all_booked me.0.number ds h.book in
    let last = inside s r keys keys_are i key at in
    let turns = turns_by (after_put s (suc i) ds (all_booked me.0.number ds h.book) id me) r′ key (lock_after me.0.number ds (told.0 key)) told.0 then_.0 then_.1
    (λ new here else. putting_does s r told.0 new told.1 i key (in_locks s r keys keys_are i key at told.0 told.1) id me seat h holds ds r′ (here, else)) in
    let words : (m : ℕ) → waits (after_put s (suc i) ds (all_booked me.0.number ds h.book) id me) m ≡ waits s m = λ m.
    ap (λ (l : ℕ). get_or (set s.words (latch_word (suc i)) 0) (wait_word l m) 0) (length-set s.homes (suc i) (some (slot.Place (all_booked me.0.number ds h.book))))
    ∙ get_or-set_other s.words (latch_word (suc i)) (wait_word (length s.homes) m) 0 0 (λ e. omega arith) in
    record {
      before = told.2;
      after = then_.2;
      here = turns.0;
      elsewhere = turns.1;
      waits = waits_rest s id me.0 (unlatched (suc i) ds me).0 seat refl refl (set s.words (latch_word (suc i)) 0) (set s.homes (suc i) (some (slot.Place (all_booked me.0.number ds h.book)))) words a b told then_
          (lists_stay key (lock_after me.0.number ds (told.0 key)) told.0 then_.0 turns (all_booked-waiting me.0.number ds (told.0 key).book));
    }

pub lowering_is_done : LoweringIsDone
lowering_is_done s r keys keys_are i key at id me seat h holds ds found left slow obtrusive r′ a b told then_ =
    let last = inside s r keys keys_are i key at in
    let turns = turns_by (after_lowering s (suc i) ds found left (all_booked me.0.number ds h.book) slow obtrusive id me) r′ key (lock_after me.0.number ds (told.0 key)) told.0 then_.0 then_.1
    (λ new here else. lowering_does s r told.0 new told.1 i key (in_locks s r keys keys_are i key at told.0 told.1) id me seat h holds ds found left slow obtrusive r′ (here, else)) in
    let words : (m : ℕ) → waits (after_lowering s (suc i) ds found left (all_booked me.0.number ds h.book) slow obtrusive id me) m ≡ waits s m = λ m.
    get_or-set_other s.words (lock_word (suc i)) (wait_word (length s.homes) m) left 0 (λ e. omega arith) in
    record {
      before = told.2;
      after = then_.2;
      here = turns.0;
      elsewhere = turns.1;
      waits = waits_rest s id me.0 (flags_lowered (suc i) ds found (all_booked me.0.number ds h.book) slow obtrusive me).0 seat refl refl (set s.words (lock_word (suc i)) left) s.homes words a b told then_
          (lists_stay key (lock_after me.0.number ds (told.0 key)) told.0 then_.0 turns (all_booked-waiting me.0.number ds (told.0 key).book));
    }

pub writing_is_done : WritingIsDone
writing_is_done s r keys keys_are i key at id me seat h holds change r′ a b told then_ =
    let last = inside s r keys keys_are i key at in
    let standing : VersionedDefinition = standing_after change h.book.standing in
    let turns = turns_by (after_writing s (suc i) (standing_after change h.book.standing) id me) r′ key (lock_redefined change (told.0 key)) told.0 then_.0 then_.1
    (λ new here else. writing_redefines s r told.0 new told.1 i key (in_locks s r keys keys_are i key at told.0 told.1) id me seat h holds change r′ here else) in
    let words : (m : ℕ) → waits (after_writing s (suc i) (standing_after change h.book.standing) id me) m ≡ waits s m = λ m.
    get_or-set_other s.words (version_word (suc i)) (wait_word (length s.homes) m) (standing_after change h.book.standing).version 0 (λ e. omega arith) in
    record {
      before = told.2;
      after = then_.2;
      here = turns.0;
      elsewhere = turns.1;
      waits = waits_rest s id me.0 (redefined (suc i) (standing_after change h.book.standing) me).0 seat refl refl (set s.words (version_word (suc i)) (standing_after change h.book.standing).version) s.homes words a b told then_
          (lists_stay key (lock_redefined change (told.0 key)) told.0 then_.0 turns refl);
    }

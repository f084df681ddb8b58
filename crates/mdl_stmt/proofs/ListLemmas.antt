-- Tables and tickets, one after the other.
use Rattle.std.proofs.Common.{◌≡◌, ℕ, ◌+◌, ◌<◌, ◌≤◌, suc, zero, arith, List, [], ◌∷◌, Ok, Err, drop, length, get_or, refl, sym, ap, ◌∙◌, subst}
use Rattle.std.proofs.Math.Seq.{drop-cons}
use Rattle.mdl_key.specs.Keys.{KeyName}
use Rattle.mdl_key.specs.declared.mode.Mode.TheVariants.{SR}
use Rattle.mdl_key.specs.declared.mode.Duration.TheVariants as for
use Rattle.mdl_calls.specs.declared.lock_space.LockSpace.{Ghosts}
use Rattle.mdl_context.specs.Wishes.{Wish}
use Rattle.mdl_rows.specs.declared.ending.Ending.{Ending}
use Rattle.mdl_stmt.specs.declared.got.LockResult.TheVariants as got
use Rattle.mdl_rows.specs.declared.reply.Reply.{Reply}
use Rattle.mdl_rows.specs.declared.reply.TableShown.{TableShown}
use Rattle.mdl_rows.specs.Endings.{closing}
use Rattle.mdl_stmt.specs.Gets.{Comes, Waits, IsGot, IsStep}
use Rattle.mdl_rows.specs.Playing.{play}
use Rattle.mdl_rows.specs.Rows.{Row, Act, ◌>>=◌, for_each}
use Rattle.mdl_stmt.specs.Players.{PlayerView}
use Rattle.mdl_stmt.specs.Stages.{show_next}
use Rattle.mdl_rows.specs.Statements.{lock_to_read, show, show_all}
use Rattle.mdl_stmt.proofs.CallLemmas.{comes-row}
use Rattle.mdl_stmt.proofs.RowLemmas.{bind-assoc}
use Rattle.mdl_stmt.proofs.RunLemmas.{comes-then}

-- what is left begins with this one
pub item-at : {A : Type 0} (xs : List A) (i : ℕ) (x d : A) → i < length xs → x ≡ get_or xs i d → drop i xs ≡ x ∷ drop (i + 1) xs
item-at {A} xs i x d inside is =
    let next : suc i ≡ i + 1 = omega arith in
    subst (λ n. drop i xs ≡ get_or xs i d ∷ drop n xs) next (drop-cons xs i d inside) ∙ ap (λ y. y ∷ drop (i + 1) xs) (sym is)

-- nothing is left
pub none-left : {A : Type 0} (xs : List A) (i : ℕ) → length xs ≤ i → drop i xs ≡ []
none-left [] zero past = refl
none-left [] (suc i) past = refl
none-left (x ∷ xs) zero past = absurd (omega (arith, past))
none-left (x ∷ xs) (suc i) past = none-left xs i (omega (arith, past))

module _ {S : Type 0} (members : Ghosts S) (shown : List TableShown) (table : KeyName) (tables rest : List KeyName) (same : tables ≡ table ∷ rest) where
  abbrev pub read_wish : Wish
  read_wish = record { key = table; mode = SR; duration = for.Transaction }

  -- the next table is locked and shown
  pub show-had : (a b c : S) (x y z : PlayerView) (ticket : ℕ) (more : List TableShown) →
      IsGot members read_wish a x (got.Had ticket) b y → IsStep members (show shown table ticket) b y (Ok more) c z →
      Comes members a x (play (show_all lock_to_read shown tables)) c z (play (show_all lock_to_read more rest))
  show-had a b c x y z ticket more first second =
      comes-then (comes-row (show_all lock_to_read shown tables) (show_all lock_to_read shown (table ∷ rest)) (ap (show_all lock_to_read shown) same))
      (comes-then (first (show_next shown (table ∷ rest))) (second (λ m. show_all lock_to_read m rest)))

  pub show-missed : (a b c : S) (x y z : PlayerView) (ticket : ℕ) (ending : Ending) →
      IsGot members read_wish a x (got.Had ticket) b y → IsStep members (show shown table ticket) b y (Err ending) c z →
      Comes members a x (play (show_all lock_to_read shown tables)) c z (closing ending)
  show-missed a b c x y z ticket ending first second =
      comes-then (comes-row (show_all lock_to_read shown tables) (show_all lock_to_read shown (table ∷ rest)) (ap (show_all lock_to_read shown) same))
      (comes-then (first (show_next shown (table ∷ rest))) (second (λ m. show_all lock_to_read m rest)))

  pub show-ended : (a b : S) (x y : PlayerView) (ending : Ending) → IsGot members read_wish a x (got.Ends ending) b y →
      Comes members a x (play (show_all lock_to_read shown tables)) b y (closing ending)
  show-ended a b x y ending first =
      comes-then (comes-row (show_all lock_to_read shown tables) (show_all lock_to_read shown (table ∷ rest)) (ap (show_all lock_to_read shown) same))
      (first (show_next shown (table ∷ rest)))

  pub show-waits : (a b : S) (x y : PlayerView) (key : KeyName) → IsGot members read_wish a x (got.Waits key) b y →
      Waits members a x (play (show_all lock_to_read shown tables)) key SR (show_next shown tables) b y
  show-waits a b x y key first =
      subst (λ (ts : List KeyName). Waits members a x (play (show_all lock_to_read shown ts)) key SR (show_next shown ts) b y) (sym same) (first (show_next shown (table ∷ rest)))

  -- the table whose lock is had is shown
  pub next-shown : (a b : S) (x y : PlayerView) (ticket : ℕ) (more : List TableShown) → IsStep members (show shown table ticket) a x (Ok more) b y →
      Comes members a x (play (show_next shown tables ticket)) b y (play (show_all lock_to_read more rest))
  next-shown a b x y ticket more first =
      comes-then (comes-row (show_next shown tables ticket) (show_next shown (table ∷ rest) ticket) (ap (λ (ts : List KeyName). show_next shown ts ticket) same)) (first (λ m. show_all lock_to_read m rest))

  pub next-missed : (a b : S) (x y : PlayerView) (ticket : ℕ) (ending : Ending) → IsStep members (show shown table ticket) a x (Err ending) b y →
      Comes members a x (play (show_next shown tables ticket)) b y (closing ending)
  next-missed a b x y ticket ending first =
      comes-then (comes-row (show_next shown tables ticket) (show_next shown (table ∷ rest) ticket) (ap (λ (ts : List KeyName). show_next shown ts ticket) same)) (first (λ m. show_all lock_to_read m rest))

-- the same for the first of some tickets
module _ {S : Type 0} (members : Ghosts S) (act : ℕ → Act) (ticket : ℕ) (tickets others : List ℕ) (same : tickets ≡ ticket ∷ others) (rest : Unit {0} → Row Reply) where
  pub each-row : for_each act tickets >>= rest ≡ act ticket >>= (λ _. for_each act others >>= rest)
  each-row = ap (λ (ts : List ℕ). for_each act ts >>= rest) same ∙ bind-assoc (act ticket) (λ _. for_each act others) rest

  pub each-done : (a b : S) (x y : PlayerView) {u : Unit {0}} → IsStep members (act ticket) a x (Ok u) b y →
      Comes members a x (play (for_each act tickets >>= rest)) b y (play (for_each act others >>= rest))
  each-done a b x y first = comes-then (comes-row (for_each act tickets >>= rest) (act ticket >>= (λ _. for_each act others >>= rest)) each-row) (first (λ _. for_each act others >>= rest))

  pub each-failed : (a b : S) (x y : PlayerView) (ending : Ending) → IsStep members (act ticket) a x (Err ending) b y →
      Comes members a x (play (for_each act tickets >>= rest)) b y (closing ending)
  each-failed a b x y ending first = comes-then (comes-row (for_each act tickets >>= rest) (act ticket >>= (λ _. for_each act others >>= rest)) each-row) (first (λ _. for_each act others >>= rest))

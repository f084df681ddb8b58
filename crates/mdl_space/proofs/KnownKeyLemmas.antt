-- The keys that have places, each with its place, as a book is added, and as a place is given to another key.
use Rattle.std.proofs.Common.{◌≡◌, ◌≢◌, ◌⊎◌, ℕ, ◌+◌, ◌<◌, ◌≤◌, Bool, true, false, cond, not, eqb, nat_lt, List, [], ◌∷◌, ◌++◌, length, Option, Some, None, inl, inr, refl, sym, ap, subst, ◌∙◌, arith, length-set}
use Rattle.std.specs.Prelude.{slice_index_or, slice_set}
use Rattle.std.specs.List.{position, position_or_len}
use Rattle.std.specs.Map.{lookup}
use Rattle.std.specs.Option.{option_map}
use Rattle.std.proofs.lemmas.Bool.Decides.{eqb_tells, nat_tests}
use Rattle.std.proofs.lemmas.Grind.{common_steps}
use Rattle.std.proofs.lemmas.List.{get_or-set_other, get_or-set_same}
use Rattle.std.proofs.lemmas.List.Folds.{position_or_len-set, position_or_len_push}
use Rattle.std.proofs.lemmas.List.Sums.{fails_before_first, position_or_len_is, prefix_len-le-length}
use Rattle.mdl_key.specs.Keys.{KeyName, key_eq}
use Rattle.mdl_book.specs.Books.{empty_book}
use Rattle.mdl_book.specs.declared.book_view.BookView.{BookView}
use Rattle.mdl_space.specs.KnownKeys.{TellsPlaces, place_of}
use Rattle.mdl_system.proofs.Deciding.{key-Decides}

-- at first no key has a place
pub none_known : (known : List (KeyName × ℕ)) (books : List BookView) → known ≡ [] → books ≡ [] → TellsPlaces known books
none_known known books no_keys no_books = record {
  tells = λ key. ap (lookup (key_eq key)) no_keys ∙ sym (ap (place_of key) no_books);
}

-- ---- a book more

module _ (p : BookView → Bool) (books : List BookView) (lists : BookView) where
  passes_last : p lists ≡ true → position p books ≡ None → position p (books ++ lists ∷ []) ≡ Some (length books)
  passes_last passes none = grind (arith, nat_tests, common_steps, position_or_len_push p books lists, prefix_len-le-length (λ x. not (p x)) books)

  fails_last : p lists ≡ false → position p (books ++ lists ∷ []) ≡ position p books
  fails_last fails = grind (arith, nat_tests, common_steps, position_or_len_push p books lists, prefix_len-le-length (λ x. not (p x)) books)

unmapped : (at : Option ℕ) → option_map (λ index. index + 1) at ≡ None → at ≡ None
unmapped None none = refl
unmapped (Some index) none = cc

-- a key that has no place is given the next one
pub one_more_known : (known after : List (KeyName × ℕ)) (books : List BookView) (key : KeyName) → TellsPlaces known books → lookup (key_eq key) known ≡ None
    → ((q : KeyName) → lookup (key_eq q) after ≡ cond (key_eq key q) (Some (length books + 1)) (lookup (key_eq q) known))
    → TellsPlaces after (books ++ empty_book key ∷ [])
one_more_known known after books key told new put = record { tells = λ q. by q (key_eq key q) refl }
  where
    by : (q : KeyName) (b : Bool) → key_eq key q ≡ b → lookup (key_eq q) after ≡ place_of q (books ++ empty_book key ∷ [])
    by q true same =
        let there : key ≡ q = (key-Decides key q).0 same in
        let none : position (λ (lists : BookView). key_eq lists.key q) books ≡ None = unmapped _ (sym (told.tells q) ∙ ap (λ k. lookup (key_eq k) known) (sym there) ∙ new) in
        put q ∙ rw same (sym (ap (option_map (λ index. index + 1)) (passes_last (λ (lists : BookView). key_eq lists.key q) books (empty_book key) same none)))
    by q false differs =
        put q ∙ rw differs (told.tells q) ∙ sym (ap (option_map (λ index. index + 1)) (fails_last (λ (lists : BookView). key_eq lists.key q) books (empty_book key) differs))

-- and where it is taken out again, the map is right as before
pub none_more_known : (known after back : List (KeyName × ℕ)) (books : List BookView) (key : KeyName) (place : ℕ) → TellsPlaces known books
    → lookup (key_eq key) known ≡ None → ((q : KeyName) → lookup (key_eq q) after ≡ cond (key_eq key q) (Some place) (lookup (key_eq q) known))
    → ((q : KeyName) → lookup (key_eq q) back ≡ cond (key_eq key q) None (lookup (key_eq q) after)) → TellsPlaces back books
none_more_known known after back books key place told new put taken = record { tells = λ q. by q (key_eq key q) refl }
  where
    by : (q : KeyName) (b : Bool) → key_eq key q ≡ b → lookup (key_eq q) back ≡ place_of q books
    by q true same =
        let there : key ≡ q = (key-Decides key q).0 same in
        taken q ∙ rw same (sym new ∙ ap (λ k. lookup (key_eq k) known) there ∙ told.tells q)
    by q false differs = taken q ∙ rw differs (put q ∙ rw differs (told.tells q))

-- ---- another key at a place

module _ (p : BookView → Bool) (books : List BookView) where
  -- where no book is found, each fails
  none_passes : position p books ≡ None → (k : ℕ) (d : BookView) → k < length books → p (slice_index_or books k d) ≡ false
  none_passes none k d inside =
      let over : length books ≤ position_or_len p books = grind (arith, nat_tests, prefix_len-le-length (λ x. not (p x)) books) in
      fails_before_first p books k d (omega (arith, over))

  module _ (index : ℕ) (new d : BookView) (inside : index < length books) where
    -- what stands at other places
    at_others : (k : ℕ) → k ≢ index → p (slice_index_or (slice_set books index new) k d) ≡ p (slice_index_or books k d)
    at_others k apart = ap p (get_or-set_other books index k new d apart)

    -- the book that is written is the only one that passes
    passes_there : p new ≡ true → ((k : ℕ) → k < length books → k ≢ index → p (slice_index_or books k d) ≡ false)
        → position p (slice_set books index new) ≡ Some index
    passes_there passes others =
        let long : length (slice_set books index new) ≡ length books = length-set books index new in
        let first : position_or_len p (slice_set books index new) ≡ index =
        position_or_len_is p (slice_set books index new) index d (omega (arith, long))
        (λ k before. (let apart : k ≢ index = omega arith in at_others k apart ∙ others k (omega arith) apart))
        (λ _. ap p (get_or-set_same books index new d inside) ∙ passes) in
        grind (arith, nat_tests)

    -- no book passes
    fails_everywhere : p new ≡ false → ((k : ℕ) → k < length books → k ≢ index → p (slice_index_or books k d) ≡ false)
        → position p (slice_set books index new) ≡ None
    fails_everywhere fails others =
        let long : length (slice_set books index new) ≡ length books = length-set books index new in
        let first : position_or_len p (slice_set books index new) ≡ length (slice_set books index new) =
        position_or_len_is p (slice_set books index new) (length (slice_set books index new)) d (omega arith) (λ k before. each k (omega (arith, long)) (eqb_tells k index))
        (λ over. absurd (omega arith)) in
        grind (arith, nat_tests)
      where
        each : (k : ℕ) → k < length books → ((eqb k index ≡ true) × (k ≡ index)) ⊎ ((eqb k index ≡ false) × (k ≢ index))
            → p (slice_index_or (slice_set books index new) k d) ≡ false
        each k within (inl same) =
            ap (λ j. p (slice_index_or (slice_set books index new) j d)) same.1 ∙ ap p (get_or-set_same books index new d inside) ∙ fails
        each k within (inr apart) = at_others k apart.1 ∙ others k within apart.1

    -- the same one passes as before
    passes_as_before : p new ≡ p (slice_index_or books index d) → position p (slice_set books index new) ≡ position p books
    passes_as_before same =
        ap (λ n. cond (nat_lt n (length (slice_set books index new))) (Some n) None) (position_or_len-set p books index new d same)
        ∙ ap (λ l. cond (nat_lt (position_or_len p books) l) (Some (position_or_len p books)) None) (length-set books index new)

-- a key that has no place gets one whose key then has none
pub anew_known : (before after last : List (KeyName × ℕ)) (books : List BookView) (index : ℕ) (old : BookView) (key : KeyName) → index < length books
    → slice_index_or books index old ≡ old → ((k : ℕ) → k < length books → k ≢ index → key_eq (slice_index_or books k old).key old.key ≡ false)
    → TellsPlaces before books → lookup (key_eq key) before ≡ None
    → ((q : KeyName) → lookup (key_eq q) after ≡ cond (key_eq key q) (Some (index + 1)) (lookup (key_eq q) before))
    → ((q : KeyName) → lookup (key_eq q) last ≡ cond (key_eq old.key q) None (lookup (key_eq q) after))
    → TellsPlaces last (slice_set books index (empty_book key))
anew_known before after last books index old key inside there distinct told new put taken = record { tells = λ q. by q (key_eq key q) (key_eq old.key q) refl refl }
  where
    none : position (λ (book : BookView). key_eq book.key key) books ≡ None
    none = unmapped _ (sym (told.tells key) ∙ new)

    by : (q : KeyName) (is_new is_old : Bool) → key_eq key q ≡ is_new → key_eq old.key q ≡ is_old → lookup (key_eq q) last ≡ place_of q (slice_set books index (empty_book key))
    by q true is_old same so =
        let here : key ≡ q = (key-Decides key q).0 same in
        let another : key_eq old.key key ≡ false =
        ap (λ (book : BookView). key_eq book.key key) (sym there) ∙ none_passes (λ (book : BookView). key_eq book.key key) books none index old inside in
        let itself : key_eq key key ≡ true = ap (key_eq key) here ∙ same in
        let found = passes_there (λ (book : BookView). key_eq book.key key) books index (empty_book key) old inside itself
        (λ k within _. none_passes (λ (book : BookView). key_eq book.key key) books none k old within) in
        subst (λ q. lookup (key_eq q) last ≡ place_of q (slice_set books index (empty_book key))) here
        (taken key ∙ rw another (put key ∙ rw itself (sym (ap (option_map (λ at. at + 1)) found))))
    by q false true differs same =
        let here : old.key ≡ q = (key-Decides old.key q).0 same in
        let gone = fails_everywhere (λ (book : BookView). key_eq book.key q) books index (empty_book key) old inside differs
        (λ k within apart. ap (key_eq (slice_index_or books k old).key) (sym here) ∙ distinct k within apart) in
        taken q ∙ rw same (sym (ap (option_map (λ at. at + 1)) gone))
    by q false false differs other =
        let kept = passes_as_before (λ (book : BookView). key_eq book.key q) books index (empty_book key) old inside
        (differs ∙ sym (ap (λ (book : BookView). key_eq book.key q) there ∙ other)) in
        taken q ∙ rw other (put q ∙ rw differs (told.tells q ∙ sym (ap (option_map (λ at. at + 1)) kept)))

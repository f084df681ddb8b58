-- A session notes the version of a place under its tickets there, and what it read.
use Rattle.std.proofs.Common.{◌≡◌, ◌≢◌, ℕ, zero, suc, List, [], ◌∷◌, ◌++◌, map, set, None, refl, sym, ap, ◌∙◌, subst, inl, inr, arith, Option}
use Rattle.mdl_steps.proofs.Common.{BookOk, BookView, Each, KeyName, MayStand, Part, PartOk, ReadAgrees, VersionedDefinition, View, all_fast, at_set, cases_eq, due, get_elem?, lock_kind, nothing_yet, noting_version, option_to_list, part_at, set_else, set_here, some, some-injective, ticket_by, ticket_of}
use Rattle.mdl_steps.proofs.Notes.{with_note, notes_else, notes_here, notes_shown, notes_length, notes_agree, each-push, reads_else, reads_here}
use Rattle.mdl_steps.proofs.Views.{at_inside}
use Rattle.mdl_steps.proofs.Waiting.{waiting_kept}

-- a part whose fast tickets are the same but for their notes
pub all_fast-noted : (parts : List Part) (id : ℕ) (x y : Part) → get_elem? parts id ≡ some x → map (ticket_by y.number) y.fast ≡ map (ticket_by x.number) x.fast → all_fast (set parts id y) ≡ all_fast parts
all_fast-noted [] id x y at same = refl
all_fast-noted (z ∷ zs) zero x y at same = ap (λ ts. ts ++ all_fast zs) same ∙ sym (ap (λ (w : Part). map (ticket_by w.number) w.fast ++ all_fast zs) (some-injective z x at))
all_fast-noted (z ∷ zs) (suc id) x y at same = ap (λ ts. map (ticket_by z.number) z.fast ++ ts) (all_fast-noted zs id x y at same)

-- the part of the session, with what it knows then
abbrev pub noted_part : ℕ → VersionedDefinition → Part → Part
noted_part place standing x = record x {
  fast = map (with_note standing.version) x.fast;
  slow = map (with_note standing.version) x.slow;
  reads = x.reads ++ record { place = place; standing = standing } ∷ [];
}

-- ---- of its view

module _ (place : ℕ) (standing : VersionedDefinition) (v : View) where
  -- with what it knows then
  abbrev pub noted_view : View
  noted_view = record v {
    fast = noting_version place standing.version v.fast;
    slow = noting_version place standing.version v.slow;
    reads = v.reads ++ record { place = place; standing = standing } ∷ [];
  }

  pub noted_here : (f : ℕ → ℕ) → part_at f place noted_view ≡ noted_part place standing (part_at f place v)
  noted_here f = λ i. record (part_at f place v) {
    fast = notes_here place standing.version v.fast i;
    slow = notes_here place standing.version v.slow i;
    reads = reads_here place (record { place = place; standing = standing }) refl v.reads i;
  }

  pub noted_away : (f : ℕ → ℕ) (q : ℕ) → q ≢ place → part_at f q noted_view ≡ part_at f q v
  noted_away f q else = λ i. record (part_at f q v) {
    fast = notes_else place standing.version q v.fast else i;
    slow = notes_else place standing.version q v.slow else i;
    reads = reads_else place (record { place = place; standing = standing }) refl q v.reads else i;
  }

-- ---- the book and the parts, where this stands under the key

module _ (key : Option KeyName) (version : ℕ) (parts : List Part) (book : BookView) (place id : ℕ) (mine : Part) (at : get_elem? parts id ≡ some mine)
    (ok : BookOk key version parts book) (standing : VersionedDefinition) where
  abbrev new_book : BookView
  new_book = record book { standing = standing }

  abbrev new : Part
  new = noted_part place standing mine

  pub fast_same : all_fast (set parts id new) ≡ all_fast parts
  fast_same = all_fast-noted parts id mine new at (notes_shown standing.version mine.number mine.fast)

  own_part : Each (ReadAgrees new_book) mine.reads → PartOk new_book new
  own_part earlier =
      let old = ok.each id mine at in
      let few = old.few in
      let size = notes_length standing.version mine.fast in
      record {
        few = omega arith;
        slow_held = record {
          same = λ m. old.slow_held.same m ∙ ap (λ ts. ticket_of mine.number m (option_to_list (due mine.asks) ++ ts)) (sym (notes_shown standing.version mine.number mine.slow));
          apart = λ u e. ap (ticket_of mine.number u.number) (notes_shown standing.version mine.number mine.slow) ∙ old.slow_held.apart u e;
        };
        versions_agree = record {
          reads = each-push _ mine.reads (record { place = place; standing = standing }) earlier (omega arith, λ e. refl);
          fast = notes_agree standing.version new_book mine.fast refl;
          slow = notes_agree standing.version new_book mine.slow refl;
        };
      }

  pub noted_ok : (key ≡ None → standing ≡ nothing_yet) → MayStand book.key.namespace standing → Each (ReadAgrees new_book) mine.reads → ((j : ℕ) (x : Part) → j ≢ id → get_elem? parts j ≡ some x → PartOk new_book x)
      → BookOk key standing.version (set parts id new) new_book
  noted_ok unchanged may earlier others = record {
    lawful = rw fast_same ok.lawful;
    once = ok.once;
    owned = λ session number u found.
        let was = ok.owned session number u found in
        elim (cases_eq was.0 id) [
          | inl same ↦
              let there : some was.1 ≡ some mine = sym was.2 ∙ subst (λ (j : ℕ). get_elem? parts j ≡ some mine) (sym same) at in
              (id, new, set_here parts id new (at_inside parts id mine at), sym (ap (λ (x : Part). x.number) (some-injective was.1 mine there)) ∙ was.3)
          | inr else ↦ (was.0, was.1, set_else parts id was.0 new else ∙ was.2, was.3)
        ];
    waiting = waiting_kept parts id mine new at refl (lock_kind book) book.waiting refl ok.waiting;
    version_is = refl;
    stands = may;
    named = record { key_is = ok.named.key_is; vacant = λ none. let was = ok.named.vacant none in ((was.0.0, was.0.1, unchanged none), fast_same ∙ was.1) };
    each = λ j x here. elim (at_set parts id j new x here) [
      | inl same ↦ subst (λ (y : Part). PartOk new_book y) same.1 (own_part earlier)
      | inr other ↦ others j x other.0 other.1
    ];
  }

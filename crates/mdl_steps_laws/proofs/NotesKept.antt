-- The headline: locks with a free latch are in order, and what a session reads under a ticket stays.
use Rattle.std.proofs.Common.{◌≡◌, ℕ, ◌<◌, List, ◌++◌, length, sym, ap, ◌∙◌, subst, Contains, slice_index}
use Rattle.mdl_steps.proofs.Tells.{free_told, noted_told, reads_told}
use Rattle.mdl_steps_laws.proofs.Common.{FreeLocksAreInOrder, HasNoted, HasPlace, HasRead, ReadsStand, Rule, Slot, Stands, State, VersionedDefinition, View, at_index, get_elem?, some, version_word}
use Rattle.mdl_steps_laws.proofs.Keeping.{own_parts}

pub free_in_order : FreeLocksAreInOrder
free_in_order s r place has free =
    let told = free_told s r place has.0 has.1 free in
    record { book = told.0; home = told.1; word = told.2; compatible = told.3 }

-- ---- one state

at_index_of : {A : Type 0} → (xs : List A) (x : A) → (among : Contains xs x) → get_elem? xs among.0 ≡ some x
at_index_of xs x among = at_index xs among.0 x among.1 (sym among.2)

module _ (s : State Slot View) (r : Rule s) (place : ℕ) (has : HasPlace s place) (i : ℕ) (v : View) (seat : get_elem? s.views i ≡ some v) where
  pub noted_stands : (number version : ℕ) → HasNoted place number version v → slice_index s.words (version_word place) ≡ version
  noted_stands number version noted =
      let t = noted.ticket in
      let here : t.place ≡ place = (own_parts place number t noted.has.1).0 in
      let first : 0 < t.place = subst (λ (p : ℕ). 0 < p) (sym here) has.0 in
      let last : t.place < length s.homes = subst (λ (p : ℕ). p < length s.homes) (sym here) has.1 in
      ap (λ (p : ℕ). slice_index s.words (version_word p)) (sym here)
      ∙ noted_told s r i v seat noted.has.0.0 t (at_index_of (v.slow ++ v.fast) t noted.has.0) first last version (noted.noted t noted.has)

  pub read_stands : (standing : VersionedDefinition) → HasRead place standing v → slice_index s.words (version_word place) ≡ standing.version → Stands s place standing
  read_stands standing read now =
      let told = reads_told s r i v seat read.0 (record { place = place; standing = standing }) (at_index_of v.reads (record { place = place; standing = standing }) read) has.0 has.1 now in
      record { version = now; at_home = told.1; in_record = λ j w h there holds. told.2 j w h there holds }

pub reads_stand : ReadsStand
reads_stand s t r r′ place has has′ i j v w at there same number version noted noted′ =
    let before = noted_stands s r place has i v at number version noted in
    let behind = noted_stands t r′ place has′ j w there number version noted′ in (
      before,
      behind,
      λ standing is read read′. (read_stands s r place has i v at standing read (before ∙ sym is), read_stands t r′ place has′ j w there standing read′ (behind ∙ sym is)),
    )

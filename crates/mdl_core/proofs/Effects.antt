-- What becomes of a list, and of what is so of its members: it stays, or one comes, goes or turns into another, or one goes and
-- another turns into one.
use Rattle.std.proofs.Common.{◌≡◌, ◌≢◌, ◌⊎◌, ◌↔◌, inl, inr, List, [], ◌∷◌, ◌++◌, map, refl, sym, ap, subst, ◌∙◌}
use Rattle.std.specs.Prelude.{AllPairs, Contains}
use Rattle.std.proofs.lemmas.List.{map-append}
use Rattle.std.proofs.lemmas.List.Elements.{Contains-append_left, Contains-append_right}
use Rattle.mdl_system.specs.Events.{Loses, LeavesOrder, TakesTurn}
use Rattle.mdl_core.proofs.PairLemmas.{map-agree, pairs-push, pairs-fewer, pairs-others, pairs-turned}
use Rattle.mdl_system.proofs.MemberLemmas.{AreApart, push-gains}
use Rattle.mdl_system.proofs.OrderLemmas.{around, around_cases, middle, within}

pub data Effect (T : Type 0) : Type 0 where
  Stays : Effect T
  Comes : T → Effect T
  Goes : T → Effect T
  Turns : T → T → Effect T
  -- the first goes, and the second turns into the third
  Unites : T → T → T → Effect T

-- whether one is there after it, by whether it was
abbrev pub After : {T : Type 0} → Effect T → T → Type 0 → Type 0
After Stays x was = was
After (Comes new) x was = was ⊎ (x ≡ new)
After (Goes old) x was = was × (x ≢ old)
After (Turns old new) x was = (was × (x ≢ old)) ⊎ (x ≡ new)
After (Unites gone old new) x was = ((was × (x ≢ gone)) × (x ≢ old)) ⊎ (x ≡ new)

-- what was so of some is now so of those that are there after it
abbrev pub Becomes : {T : Type 0} → Effect T → (T → Type 0) → (T → Type 0) → Type 0
Becomes {T} effect had has = (x : T) → has x ↔ After effect x (had x)

-- the list as it is after it: one comes at the end, and turns into another in its place
abbrev pub InOrder : {T : Type 0} → Effect T → List T → List T → Type 0
InOrder Stays old new = new ≡ old
InOrder (Comes come) old new = new ≡ old ++ come ∷ []
InOrder (Goes gone) old new = LeavesOrder gone old new
InOrder (Turns gone come) old new = TakesTurn gone come old new
InOrder {T} (Unites gone kept come) old new = (mid : List T) × LeavesOrder gone old mid × TakesTurn kept come mid new

-- what is so of those that come and go
abbrev pub Each : {T : Type 0} → (T → Type 0) → Effect T → Type 0
Each P Stays = Unit {0}
Each P (Comes new) = P new
Each P (Goes old) = P old
Each P (Turns old new) = P old × P new
Each P (Unites gone old new) = P gone × P old × P new

-- the same among others, that are made of these one way before it and another way after it
abbrev pub turned : {A B : Type 0} → (A → B) → (A → B) → Effect A → Effect B
turned before after Stays = Stays
turned before after (Comes new) = Comes (after new)
turned before after (Goes old) = Goes (before old)
turned before after (Turns old new) = Turns (before old) (after new)
turned before after (Unites gone old new) = Unites (before gone) (before old) (after new)

abbrev pub mapped : {A B : Type 0} → (A → B) → Effect A → Effect B
mapped f effect = turned f f effect

-- of what is made of others, it is made of those at once
pub turned-mapped : {A B C : Type 0} (h : A → B) (f g : B → C) (effect : Effect A) → turned f g (mapped h effect) ≡ turned (λ x. f (h x)) (λ x. g (h x)) effect
turned-mapped h f g Stays = refl
turned-mapped h f g (Comes new) = refl
turned-mapped h f g (Goes old) = refl
turned-mapped h f g (Turns old new) = refl
turned-mapped h f g (Unites gone old new) = refl

-- ---- what is so both ways

pub same : {A : Type 0} → A ↔ A
same = ((λ a. a), λ a. a)

pub through : {A B C : Type 0} → A ↔ B → B ↔ C → A ↔ C
through one two = ((λ a. two.0 (one.0 a)), λ c. one.1 (two.1 c))

pub back : {A B : Type 0} → A ↔ B → B ↔ A
back one = (one.1, one.0)

pub either : {A B C D : Type 0} → (A → B) → (C → D) → A ⊎ C → B ⊎ D
either f g (inl a) = inl (f a)
either f g (inr c) = inr (g c)

-- ---- those that come and go

module _ {T : Type 0} (P : T → Type 0) where
  pub each-all : ((x : T) → P x) → (effect : Effect T) → Each P effect
  each-all all Stays = tt
  each-all all (Comes new) = all new
  each-all all (Goes old) = all old
  each-all all (Turns old new) = (all old, all new)
  each-all all (Unites gone old new) = (all gone, all old, all new)

  pub each-also : (Q : T → Type 0) → ((x : T) → P x → Q x) → (effect : Effect T) → Each P effect → Each Q effect
  each-also Q also Stays each = tt
  each-also Q also (Comes new) each = also new each
  each-also Q also (Goes old) each = also old each
  each-also Q also (Turns old new) each = (also old each.0, also new each.1)
  each-also Q also (Unites gone old new) each = (also gone each.0, also old each.1, also new each.2)

  pub each-unmapped : {A : Type 0} (f : A → T) (Q : A → Type 0) → ((x : A) → P (f x) → Q x) → (effect : Effect A) → Each P (mapped f effect) → Each Q effect
  each-unmapped f Q also Stays each = tt
  each-unmapped f Q also (Comes new) each = also new each
  each-unmapped f Q also (Goes old) each = also old each
  each-unmapped f Q also (Turns old new) each = (also old each.0, also new each.1)
  each-unmapped f Q also (Unites gone old new) each = (also gone each.0, also old each.1, also new each.2)

  pub each-mapped : {A : Type 0} (f : A → T) → ((x : A) → P (f x)) → (effect : Effect A) → Each P (mapped f effect)
  each-mapped f all Stays = tt
  each-mapped f all (Comes new) = all new
  each-mapped f all (Goes old) = all old
  each-mapped f all (Turns old new) = (all old, all new)
  each-mapped f all (Unites gone old new) = (all gone, all old, all new)

-- it changes nothing for any other
pub after-other : {T : Type 0} (x : T) (was : Type 0) (effect : Effect T) → Each (λ y. x ≢ y) effect → After effect x was ↔ was
after-other x was Stays other = same
after-other x was (Comes new) other = ((λ now. elim now [ inl w ↦ w | inr e ↦ absurd (other e) ]), λ w. inl w)
after-other x was (Goes old) other = ((λ now. now.0), λ w. (w, other))
after-other x was (Turns old new) other = ((λ now. elim now [ inl w ↦ w.0 | inr e ↦ absurd (other.1 e) ]), λ w. inl (w, other.0))
after-other x was (Unites gone old new) other = ((λ now. elim now [ inl w ↦ w.0.0 | inr e ↦ absurd (other.2 e) ]), λ w. inl ((w, other.0), other.1))

-- it changes what is so of one as what is so of what is made of it
pub after-like : {T : Type 0} (x : T) (was had : Type 0) (effect : Effect T) → was ↔ had → After effect x was ↔ After effect x had
after-like x was had Stays is = is
after-like x was had (Comes new) is = (either is.0 (λ e. e), either is.1 (λ e. e))
after-like x was had (Goes old) is = ((λ now. (is.0 now.0, now.1)), λ now. (is.1 now.0, now.1))
after-like x was had (Turns old new) is = (either (λ now. (is.0 now.0, now.1)) (λ e. e), either (λ now. (is.1 now.0, now.1)) (λ e. e))
after-like x was had (Unites gone old new) is = (
  either (λ now. ((is.0 now.0.0, now.0.1), now.1)) (λ e. e),
  either (λ now. ((is.1 now.0.0, now.0.1), now.1)) (λ e. e),
)

-- and what is made of one comes, goes or turns where that one does
module _ {A B : Type 0} (f : A → B) (x : A) (was had : Type 0) where
  named : (effect : Effect A) → Each (λ y. f x ≡ f y → x ≡ y) effect → After (mapped f effect) (f x) was ↔ After effect x was
  named Stays one = same
  named (Comes new) one = (either (λ w. w) one, either (λ w. w) (ap f))
  named (Goes old) one = ((λ now. (now.0, λ e. now.1 (ap f e))), λ now. (now.0, λ e. now.1 (one e)))
  named (Turns old new) one = (either (λ now. (now.0, λ e. now.1 (ap f e))) one.1, either (λ now. (now.0, λ e. now.1 (one.0 e))) (ap f))
  named (Unites gone old new) one = (
    either (λ now. ((now.0.0, λ e. now.0.1 (ap f e)), λ e. now.1 (ap f e))) one.2,
    either (λ now. ((now.0.0, λ e. now.0.1 (one.0 e)), λ e. now.1 (one.1 e))) (ap f),
  )

  pub after-mapped : (effect : Effect A) → Each (λ y. f x ≡ f y → x ≡ y) effect → was ↔ had → After (mapped f effect) (f x) was ↔ After effect x had
  after-mapped effect one is = through (named effect one) (after-like x was had effect is)

-- ---- lists any two members of which are in a relation

module _ {T : Type 0} (R : T → T → Type 0) where
  -- all are in it to one that comes, and to one that another turns into if they were to that
  abbrev pub Joins : Effect T → List T → Type 0
  Joins (Comes come) old = (x : T) → Contains old x → R x come
  Joins (Turns gone come) old = ((x : T) → R gone x → R come x) × ((x : T) → R x gone → R x come)
  Joins (Unites gone kept come) old = ((x : T) → R kept x → R come x) × ((x : T) → R x kept → R x come)
  Joins _ old = Unit {0}

  pairs-goes : (gone : T) (old new : List T) → AllPairs R old → LeavesOrder gone old new → AllPairs R new
  pairs-goes gone old new pairs is = subst (AllPairs R) (sym is.3) (pairs-fewer R is.0 is.1 gone (subst (AllPairs R) is.2 pairs))

  pairs-turns : (gone come : T) (old new : List T) → ((x : T) → R gone x → R come x) → ((x : T) → R x gone → R x come) → AllPairs R old → TakesTurn gone come old new
      → AllPairs R new
  pairs-turns gone come old new before after pairs is =
      subst (AllPairs R) (sym is.3) (pairs-turned R gone come before after is.0 is.1 (subst (AllPairs R) is.2 pairs))

  pub order-pairs : (effect : Effect T) (old new : List T) → Joins effect old → AllPairs R old → InOrder effect old new → AllPairs R new
  order-pairs Stays old new joins pairs is = subst (AllPairs R) (sym is) pairs
  order-pairs (Comes come) old new joins pairs is = subst (AllPairs R) (sym is) (pairs-push R old come pairs joins)
  order-pairs (Goes gone) old new joins pairs is = pairs-goes gone old new pairs is
  order-pairs (Turns gone come) old new joins pairs is = pairs-turns gone come old new joins.0 joins.1 pairs is
  order-pairs (Unites gone kept come) old new joins pairs (mid, one, other) =
      pairs-turns kept come mid new joins.0 joins.1 (pairs-goes gone old mid pairs one) other

-- what is so of all that were there, and of those that come and go, is so of all that are
pub after-all : {T : Type 0} (P : T → Type 0) (effect : Effect T) (x : T) (was : Type 0) → (was → P x) → Each P effect → After effect x was → P x
after-all P Stays x was so each now = so now
after-all P (Comes new) x was so each now = elim now [ inl w ↦ so w | inr e ↦ subst P (sym e) each ]
after-all P (Goes old) x was so each now = so now.0
after-all P (Turns old new) x was so each now = elim now [ inl w ↦ so w.0 | inr e ↦ subst P (sym e) each.1 ]
after-all P (Unites gone old new) x was so each now = elim now [ inl w ↦ so w.0.0 | inr e ↦ subst P (sym e) each.2 ]

-- what is so beside it stays so, where it is of no one that comes or goes
pub after-beside : {T : Type 0} (x : T) (was also : Type 0) (effect : Effect T) → (also → Each (λ y. x ≢ y) effect) → (After effect x was ⊎ also) ↔ After effect x (was ⊎ also)
after-beside x was also Stays other = same
after-beside x was also (Comes new) other = (
  (λ now. elim now [ inl a ↦ either (λ w. inl w) (λ e. e) a | inr s ↦ inl (inr s) ]),
  λ now. elim now [ inl a ↦ either (λ w. inl w) (λ s. s) a | inr e ↦ inl (inr e) ],
)
after-beside x was also (Goes old) other = (
  (λ now. elim now [ inl a ↦ (inl a.0, a.1) | inr s ↦ (inr s, other s) ]),
  λ now. either (λ w. (w, now.1)) (λ s. s) now.0,
)
after-beside x was also (Turns old new) other = (
  (λ now. elim now [ inl a ↦ either (λ w. (inl w.0, w.1)) (λ e. e) a | inr s ↦ inl (inr s, (other s).0) ]),
  λ now. elim now [ inl a ↦ either (λ w. inl (w, a.1)) (λ s. s) a.0 | inr e ↦ inl (inr e) ],
)
after-beside x was also (Unites gone old new) other = (
  (λ now. elim now [
    | inl a ↦ either (λ w. ((inl w.0.0, w.0.1), w.1)) (λ e. e) a
    | inr s ↦ let apart = other s in inl ((inr s, apart.0), apart.1)
  ]),
  λ now. elim now [ inl a ↦ either (λ w. inl ((w, a.0.1), a.1)) (λ s. s) a.0.0 | inr e ↦ inl (inr e) ],
)

-- ---- lists of which no two members have one name

module _ {T N : Type 0} (name : T → N) where
  -- those round one are there too, and have other names
  round : (gone : T) (old : List T) → AreApart name old → (before after : List T) → old ≡ before ++ gone ∷ after
      → (x : T) → Contains (before ++ after) x → Contains old x × (name x ≢ name gone)
  round gone old apart before after is x among = (
    within _ old x (sym is) (around before after gone x among),
    pairs-others (λ (one other : T). name one ≢ name other) (λ one other n e. n (sym e)) before after gone (subst (AreApart name) is apart) x among,
  )

  lost : (before after : List T) (x : T) → AreApart name (before ++ x ∷ after) → Loses x (before ++ x ∷ after) (before ++ after)
  lost before after x apart y = (
    (λ rest. (around before after x y rest, λ e. (round x (before ++ x ∷ after) apart before after refl y rest).1 (ap name e))),
    λ was. elim (around_cases before after x y was.0) [ inl rest ↦ rest | inr e ↦ absurd (was.1 e) ],
  )

  members-goes : (gone : T) (old new : List T) → AreApart name old → LeavesOrder gone old new → Loses gone old new
  members-goes gone old new apart is =
      subst (λ xs. Loses gone xs new) (sym is.2) (subst (Loses gone (is.0 ++ gone ∷ is.1)) (sym is.3) (lost is.0 is.1 gone (subst (AreApart name) is.2 apart)))

  members-turns : (gone come : T) (old new : List T) → AreApart name old → TakesTurn gone come old new → Becomes (Turns gone come) (Contains old) (Contains new)
  members-turns gone come old new apart is = λ x.
      let rest = lost is.0 is.1 gone (subst (AreApart name) is.2 apart) x in (
        (λ now. either (λ r. let was = rest.0 r in (within _ old x (sym is.2) was.0, was.1)) (λ e. e) (around_cases is.0 is.1 come x (within new _ x is.3 now))),
        λ now. within _ new x (sym is.3) (elim now [
          | inl was ↦ around is.0 is.1 come x (rest.1 (within old _ x is.2 was.0, was.1))
          | inr e ↦ subst (Contains (is.0 ++ come ∷ is.1)) (sym e) (middle is.0 is.1 come)
        ]),
      )

  -- the members are what becomes of them
  pub order-members : (effect : Effect T) (old new : List T) → AreApart name old → InOrder effect old new → Becomes effect (Contains old) (Contains new)
  order-members Stays old new apart is = λ x. (within new old x is, within old new x (sym is))
  order-members (Comes come) old new apart is = subst (λ xs. Becomes (Comes come) (Contains old) (Contains xs)) (sym is) (push-gains old come)
  order-members (Goes gone) old new apart is = members-goes gone old new apart is
  order-members (Turns gone come) old new apart is = members-turns gone come old new apart is
  order-members (Unites gone kept come) old new apart (mid, one, other) = λ x.
      through (members-turns kept come mid new (pairs-goes (λ (a b : T). name a ≢ name b) gone old mid apart one) other x)
      (after-like x (Contains mid x) (Contains old x × (x ≢ gone)) (Turns kept come) (members-goes gone old mid apart one x))

  -- what is made of each member one way before it and another way after it, where these agree on all others
  module _ {B : Type 0} (f g : T → B) where
    mapped-goes : (gone : T) (old new : List T) → AreApart name old → LeavesOrder gone old new
        → ((x : T) → Contains old x → name x ≢ name gone → g x ≡ f x) → LeavesOrder (f gone) (map f old) (map g new)
    mapped-goes gone old new apart is agree =
        let others = round gone old apart is.0 is.1 is.2 in (
          map f is.0,
          map f is.1,
          ap (map f) is.2 ∙ map-append f is.0 (gone ∷ is.1),
          ap (map g) is.3 ∙ map-agree g f (is.0 ++ is.1) (λ x among. let o = others x among in agree x o.0 o.1) ∙ map-append f is.0 is.1,
        )

    mapped-turns : (gone come : T) (old new : List T) → AreApart name old → TakesTurn gone come old new
        → ((x : T) → Contains old x → name x ≢ name gone → g x ≡ f x) → TakesTurn (f gone) (g come) (map f old) (map g new)
    mapped-turns gone come old new apart is agree =
        let others = round gone old apart is.0 is.1 is.2 in
        let now : (x : T) → Contains (is.0 ++ is.1) x → g x ≡ f x = λ x among. let o = others x among in agree x o.0 o.1 in (
          map f is.0,
          map f is.1,
          ap (map f) is.2 ∙ map-append f is.0 (gone ∷ is.1),
          ap (map g) is.3 ∙ map-append g is.0 (come ∷ is.1)
              ∙ (λ i. map-agree g f is.0 (λ x among. now x (Contains-append_left is.0 is.1 x among)) i
              ++ g come ∷ map-agree g f is.1 (λ x among. now x (Contains-append_right is.0 is.1 x among)) i),
        )

  -- what is made of each member one way before it and another way after it, which agree but where one goes or turns into another
  pub order-mapped : {B : Type 0} (f g : T → B) (effect : Effect T) (old new : List T) → AreApart name old → Joins (λ (one other : T). name one ≢ name other) effect old → InOrder effect old new
      → ((x : T) → Contains old x → Each (λ y. name x ≢ name y) effect → g x ≡ f x) → InOrder (turned f g effect) (map f old) (map g new)
  order-mapped f g Stays old new apart joins is agree = ap (map g) is ∙ map-agree g f old (λ x among. agree x among tt)
  order-mapped f g (Comes come) old new apart joins is agree =
      ap (map g) is ∙ map-append g old (come ∷ []) ∙ (λ i. map-agree g f old (λ x among. agree x among (joins x among)) i ++ g come ∷ [])
  order-mapped f g (Goes gone) old new apart joins is agree = mapped-goes f g gone old new apart is agree
  order-mapped f g (Turns gone come) old new apart joins is agree =
      mapped-turns f g gone come old new apart is (λ x among other. agree x among (other, joins.1 x other))
  order-mapped f g (Unites gone kept come) old new apart joins (mid, one, other) agree =
      let were : (x : T) → Contains mid x → Contains old x × (name x ≢ name gone) = λ x among.
      round gone old apart one.0 one.1 one.2 x (within mid (one.0 ++ one.1) x one.3 among) in (
        map f mid,
        mapped-goes f f gone old mid apart one (λ x among apart_from. refl),
        mapped-turns f g kept come mid new (pairs-goes (λ (a b : T). name a ≢ name b) gone old mid apart one) other
            (λ x among apart_from. let was = were x among in agree x was.0 (was.1, apart_from, joins.1 x apart_from)),
      )

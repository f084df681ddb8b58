-- The next key is the first of those that are left.
use Rattle.std.proofs.Common.{◌≡◌, ◌<◌, ℕ, ◌∷◌, [], ◌++◌, List, length, refl, sym, ap, ◌∙◌, append_assoc, subst, arith}
use Rattle.mdl_visits.proofs.Lemmas.{All-filter, All-tail, AreWithin, KnownKey, are_apart, into_iter_items, unknown}
use Rattle.mdl_visits.proofs.KeyLists.{next_new}
use Rattle.mdl_visits.proofs.known_keys.KnownKeys.learn.Goals as goal

abbrev IsWithin : ℕ → KnownKey → Type 0
IsWithin reach k = (0 < k.place) × (k.place < reach)

pub loop-table-init : goal.loop-table-init
loop-table-init c =
    let known : List KnownKey = c.args.self.now.known in
    let all = c.into_iter-table-iterator.ensures.into_iter_gives.0 ∙ c.keep_unknown.ensures.kept in
    let left : List KnownKey = into_iter_items c.into_iter-table-iterator.result in
    let is : left ≡ unknown known c.args.tables.items = all in
    let fewer = ap length c.into_iter-table-iterator.ensures.into_iter_gives.0 in (
      ap (λ (ks : List KnownKey). known ++ ks) all,
      omega (arith, fewer, c.keep_unknown.ensures.fewer, c.requires.room.0),
      subst (AreWithin c.args.self.now.reach) (sym is) (All-filter _ (IsWithin c.args.self.now.reach) c.args.tables.items c.requires.room.1),
      refl,
    )

pub push_reserved-requires-clause-unknown : goal.push_reserved-requires-clause-unknown
push_reserved-requires-clause-unknown c =
    let at = c.loop-table in
    let k = c.in-Some.table in
    let steps : into_iter_items at.table-iterator ≡ k ∷ into_iter_items c.next.new.self = c.in-Some.ensures.steps.0 in
    next_new at.self.known k (into_iter_items c.next.new.self) (ap are_apart (ap (λ (ks : List KnownKey). at.self.known ++ ks) (sym steps) ∙ at.invariant.0) ∙ c.requires.apart)

pub loop-table-preserved : goal.loop-table-preserved
loop-table-preserved c =
    let at = c.loop-table in
    let k = c.in-Some.table in
    let steps : into_iter_items at.table-iterator ≡ k ∷ into_iter_items c.next.new.self = c.in-Some.ensures.steps.0 in
    let short = ap length steps in (
      ap (λ (ks : List KnownKey). ks ++ into_iter_items c.next.new.self) c.push_reserved.ensures.known ∙ append_assoc at.self.known (k ∷ []) _ ∙ ap (λ (ks : List KnownKey). at.self.known ++ ks) (sym steps) ∙ at.invariant.0,
      omega (arith, short, at.invariant.1, c.push_reserved.ensures.room.0),
      subst (λ (reach : ℕ). AreWithin reach (into_iter_items c.next.new.self)) (sym c.push_reserved.ensures.room.1) (All-tail (IsWithin at.self.reach) k _ (subst (AreWithin at.self.reach) steps at.invariant.2)),
      c.push_reserved.ensures.pins ∙ at.invariant.3,
    )

-- A number is drawn, and a seat that has it may be split off.
use Rattle.std.proofs.Common.{◌≡◌, ℕ, ◌+◌, ◌%◌, ◌^◌, ◌<◌, [], sym, ap, ◌∙◌, subst, arith}
use Rattle.mdl_steps.proofs.Lemmas.{Allows, Mine, ReachedFor, Splits, TableId, blank, enrol_word, enrols, logged, no_numbers, none, numbers_for, step}
use Rattle.mdl_steps.proofs.Enrol.{splits, draws}
use Rattle.mdl_steps.proofs.maker.Maker.enrol.Goals as goal
use Rattle.mdl_steps.specs.declared.step_kind.StepKind.TheVariants as step_kind

pub fetch_add-number-requires : goal.fetch_add-number-requires
fetch_add-number-requires c =
    let maker = c.args.self.now in
    let table = c.deref-2.result.now.shared.table_id in
    let most = c.deref-2.result.now.shared.key in
    let few = maker.few in
    let roomy = maker.roomy in
    let some_left : maker.given < maker.most = omega arith in
    let mine : maker.seat.table_id ≡ table = c.requires.mine ∙ ap (λ t. t.shared.table_id) (sym c.deref-2.ensures) in
    let many : c.slot_count.result ≡ maker.seat.table_id.slots = c.slot_count.ensures ∙ ap (λ t. t.shared.table_id.slots) c.deref.ensures ∙ ap (λ (t : TableId). t.slots) (sym c.requires.mine) in
    let word = c.enrol_word-word.result in
    let word_here : word ≡ enrol_word maker.seat.table_id.slots = c.enrol_word-word.ensures ∙ ap enrol_word many in
    let word_is : word ≡ enrol_word table.slots = word_here ∙ ap (λ (t : TableId). enrol_word t.slots) mine in
    let inside : word < maker.seat.table_id.words = omega arith in
    let at : ℕ → ℕ → Mine → Type 0 = λ id w m. Allows (ReachedFor most) table.slots id m w (λ n. (n + 1) % 2 ^ 64) (enrols (step table.slots w 1 0 none) m) in (
      mine,
      subst (λ (t : TableId). word < t.words) mine inside,
      subst (at maker.seat.id word) (sym maker.idle)
          (subst (λ (id : ℕ). at id word (blank 0 (numbers_for maker.most maker.given maker.given), [])) (sym maker.first)
          (subst (λ (w : ℕ). at 0 w (blank 0 (numbers_for maker.most maker.given maker.given), [])) (sym word_is) (draws table.slots maker.most maker.given some_left most))),
    )

-- the seat, with a number drawn, may be split so
abbrev MaySplit : ℕ → ℕ → Mine → Type 0
MaySplit room id m =
    Splits (ReachedFor room) id m.0 (record m.0 { spare = record m.0.spare { given = m.0.spare.drawn }; log = [] }) (record (blank m.0.spare.drawn no_numbers) { log = m.0.log })

abbrev having_drawn : ℕ → ℕ → ℕ → ℕ → Mine
having_drawn most given word number = (logged step_kind.Enrol [] word number [] (blank 0 (numbers_for most number given)), [])

may_split : (room most given word number id : ℕ) (m : Mine) → id ≡ 0 → number ≡ given + 1 → m ≡ having_drawn most given word number → MaySplit room id m
may_split room most given word number id m first next drawn =
    subst (MaySplit room id) (sym drawn) (subst (λ (n : ℕ). MaySplit room id (having_drawn most given word n)) (sym next)
    (subst (λ (i : ℕ). MaySplit room i (having_drawn most given word (given + 1))) (sym first) (splits most given (having_drawn most given word (given + 1)).0.log room)))

pub split_seat-seat-requires : goal.split_seat-seat-requires
split_seat-seat-requires c =
    let maker = c.args.self.now in
    let roomy = maker.roomy in
    let made = c.fetch_add-number.ensures in
    let number = c.fetch_add-number.result in
    let seat = c.fetch_add-number.new.seat in
    let mine : maker.seat.table_id ≡ c.deref-3.result.now.shared.table_id = c.requires.mine ∙ ap (λ t. t.shared.table_id) (sym c.deref-3.ensures) in
    let some : 0 < maker.seat.table_id.words = omega arith in
    let told = subst (λ (m : Mine). enrols (step c.deref-2.result.now.shared.table_id.slots c.enrol_word-word.result 1 0 none) m number seat.me) maker.idle made.2 in (
      made.0 ∙ mine,
      subst (λ (t : TableId). 0 < t.words) mine some,
      may_split c.deref-3.result.now.shared.key maker.most maker.given c.enrol_word-word.result number seat.id seat.me (made.1 ∙ maker.first) told.0 told.1,
    )

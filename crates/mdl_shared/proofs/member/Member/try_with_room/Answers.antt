-- What became of the try is told by the fast path.
use Rattle.mdl_shared.proofs.Lemmas.{Err, HasNoFast, NotFast, ap, fewer-seen, may-ask-fast, subst, sym, tried-granted, tried-limit, tried-nothing, view_of, ◌∙◌}
use Rattle.mdl_shared.proofs.member.Member.try_with_room.Goals as goal

pub returns-in-Ok-clause-tried : goal.returns-in-Ok-clause-tried
returns-in-Ok-clause-tried c =
    let m = c.args.self.now in
    let now = c.gain_fast.new.self in
    let gained = c.in-Ok.ensures.granted in
    let clear = (may-ask-fast m c.args.place c.args.mode c.args.one c.requires.may.idle c.requires.may.pinned c.requires.may.counted c.requires.may.number).clear in
    let fewer = fewer-seen m c.args.place c.gain_fast.ensures.fewer (λ limit. let never = sym limit ∙ c.in-Ok.is in cc) in
    tried-granted m now c.args.place fewer c.args.mode c.in-Ok.number clear gained.0 gained.1 gained.2 gained.3 c.gain_fast.ensures.room

pub returns-in-Err-Obtruded-clause-tried : goal.returns-in-Err-Obtruded-clause-tried
returns-in-Err-Obtruded-clause-tried c =
    let m = c.args.self.now in
    let now = c.gain_fast.new.self in
    let it = c.in-Err-Obtruded in
    let fewer = fewer-seen m c.args.place c.gain_fast.ensures.fewer (λ limit. let never = sym limit ∙ it.is ∙ ap Err it.field-0-is in cc) in
    let why = subst (λ (why : NotFast). HasNoFast why c.args.place (view_of m) (view_of now)) it.field-0-is it.ensures.closed in
    (tried-nothing m now c.args.place fewer it.ensures.unchanged, why)

pub returns-in-Err-Contended-clause-tried : goal.returns-in-Err-Contended-clause-tried
returns-in-Err-Contended-clause-tried c =
    let m = c.args.self.now in
    let now = c.gain_fast.new.self in
    let it = c.in-Err-Contended in
    let fewer = fewer-seen m c.args.place c.gain_fast.ensures.fewer (λ limit. let never = sym limit ∙ it.is ∙ ap Err it.field-0-is in cc) in
    let why = subst (λ (why : NotFast). HasNoFast why c.args.place (view_of m) (view_of now)) it.field-0-is it.ensures.closed in
    (tried-nothing m now c.args.place fewer it.ensures.unchanged, why)

pub returns-in-Err-Limit-clause-tried : goal.returns-in-Err-Limit-clause-tried
returns-in-Err-Limit-clause-tried c =
    let m = c.args.self.now in
    let now = c.gain_fast.new.self in
    let it = c.in-Err-Limit in
    let why = subst (λ (why : NotFast). HasNoFast why c.args.place (view_of m) (view_of now)) it.field-0-is it.ensures.closed in
    (tried-limit m now why.0, why.1)

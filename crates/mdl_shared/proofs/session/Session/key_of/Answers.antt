-- The key of a place, by the session's own list, is that by its value.
use Rattle.std.proofs.Common.{◌≡◌, Some, None, refl, sym, ap, ◌∙◌}
use Rattle.std.specs.Option.{option_copied}
use Rattle.mdl_shared.proofs.Lemmas.{Key_is, Key_of, Lists, NoPlace, OutOfMemory, joins-still, key_known, member, refused, same-stays, speaks, view_of}
use Rattle.mdl_shared.proofs.session.Session.key_of.Goals as goal
use Rattle.mdl_shared.proofs.session.Session.key_of.Goals.{in-Ok, in-Err}

pub returns-in_default-clause-joined : goal.returns-in_default-clause-joined
returns-in_default-clause-joined g c =
    let m = c.self.inside.member in
    let s = view_of m in
    let none : key_known c.args.place s.me.0.known ≡ None =
    ap (λ (l : Lists). key_known c.args.place l.known) (sym m.lists) ∙ sym c.key_at.ensures ∙ ap option_copied c.in_default.is in
    rw (← c.self.view_is)
    (refused s s (Key_of s.me.0.number c.args.place) NoPlace (same-stays s) (speaks (member m)) refl
    (λ key knows. let e = sym none ∙ knows in cc) (λ state how is. cc) tt)

pub returns-clause-joined : goal.returns-clause-joined
returns-clause-joined g c =
    let m = c.self.inside.member in
    let s = view_of m in
    let known : key_known c.args.place s.me.0.known ≡ Some c.in-Some.key.now =
    ap (λ (l : Lists). key_known c.args.place l.known) (sym m.lists) ∙ sym c.key_at.ensures ∙ ap option_copied c.in-Some.is in
    rw (← c.self.view_is) (elim c.match-clone.branch [
      | in-Ok w ↦ rw w.result-is (
          joins-still s s (Key_of s.me.0.number c.args.place) (Key_is w.in-Ok.key) (same-stays s) (speaks (member m)) refl refl refl tt refl
          (λ state how is. cc) (λ how is. cc) refl (λ r. r) (known ∙ ap (λ k. Some k) (sym w.in-Ok.ensures.cases))
          )
      | in-Err w ↦ rw w.result-is (
          refused s s (Key_of s.me.0.number c.args.place) OutOfMemory (same-stays s) (speaks (member m)) refl tt (λ state how is. cc) tt
          )
    ])

-- Without a try nothing happens. One that was in vain found the fast path closed.
use Rattle.std.proofs.Common.{None, Result, Ok, Err, inl, inr, ℕ, ap, refl, rules, subst, sym, ◌≡◌, IfErr, IfNone, Option}
use Rattle.mdl_shared.proofs.Lemmas.{Contended, FindsClosed, HasNoFast, Limit, Mode, NotFast, Obtruded, SessionView, quiet-none, result_ok, view_of}
use Rattle.mdl_shared.proofs.member.Member.gain_unobtrusive.Goals as goal

pub returns-in_err-one-clause-unchanged : goal.returns-in_err-one-clause-unchanged
returns-in_err-one-clause-unchanged c =
    let none : c.from_residual.result ≡ None = search rules in
    rw none (quiet-none (view_of c.args.self.now), refl)

-- why no fast ticket was granted
closed-by : (place : ℕ) (mode : Mode) (a b : SessionView) (tried : Result ℕ NotFast) → IfErr tried (λ why. HasNoFast why place a b)
    → IfNone (result_ok tried) (FindsClosed place mode a b.me)
closed-by place mode a b (Ok id) none = tt
closed-by place mode a b (Err (Obtruded word)) found = inr (inr (word.0, inl found))
closed-by place mode a b (Err (Contended word)) missed = inr (inr (word.0, inr missed))
closed-by place mode a b (Err Limit) many = inr (inl (many.1, ap (λ (s : SessionView). s.me) many.0))

pub returns-clause-closed : goal.returns-clause-closed
returns-clause-closed c =
    let m = c.args.self.now in
    let tried = c.gain_fast in
    subst (λ (o : Option ℕ). IfNone o (FindsClosed c.args.place c.args.mode (view_of m) tried.new.self.seat.me)) (sym c.ok.ensures.value)
    (closed-by c.args.place c.args.mode (view_of m) (view_of tried.new.self) tried.result tried.ensures.closed)

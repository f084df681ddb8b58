-- What a session has met stays met where it reads nothing.
use Rattle.std.proofs.Common.{◌≡◌, ℕ, List, Contains, Result, Ok, Err, IfOk, IfErr, Some, sym, ap, subst}
use Rattle.mdl_key.specs.declared.mode.Mode.{Mode}
use Rattle.mdl_defs.specs.Caches.{Kept}
use Rattle.mdl_calls.specs.declared.space_error.SpaceError.{SpaceError}
use Rattle.mdl_calls.specs.Words.{AreMet}
use Rattle.mdl_shared.specs.declared.try_fast.Fast.{Fast}
use Rattle.mdl_shared.specs.declared.try_fast.Fast.TheVariants.{Granted, Obtruded, Contended, Limit}
use Rattle.mdl_shared.specs.FastCalls.{HasTriedFast, RefusesFast}
use Rattle.mdl_defs.specs.declared.reading.Reading.{Reading}
use Rattle.mdl_shared.specs.SessionData.{HasMet}
use Rattle.mdl_shared.specs.SessionViews.{SessionView, data_of}

-- a session has read the same as before
abbrev pub ReadsSame : SessionView → SessionView → Type 0
ReadsSame a b = (data_of b).reads ≡ (data_of a).reads

pub met-same : (a b : SessionView) (kept : List Kept) → ReadsSame a b → AreMet (HasMet (data_of a) a.me.0.number) kept
    → AreMet (HasMet (data_of b) b.me.0.number) kept
met-same a b kept same met =
    λ one has. subst (λ (reads : List Reading). Contains reads (record { place = one.0.0; standing = record { version = one.0.1; definition = Some one.1 } }))
    (sym same) (met one has)

-- whatever comes of a try for a fast ticket, it reads nothing
tried-same : (place : ℕ) (mode : Mode) (fast : Fast) (a b : SessionView) → HasTriedFast place mode fast a b → ReadsSame a b
tried-same place mode (Granted id) a b tried = ap (λ (s : SessionView). (data_of s).reads) tried.2.done.now
tried-same place mode (Obtruded word) a b tried = ap (λ (s : SessionView). (data_of s).reads) tried.0.2.done.now
tried-same place mode (Contended word) a b tried = ap (λ (s : SessionView). (data_of s).reads) tried.0.2.done.now
tried-same place mode Limit a b tried = ap (λ (s : SessionView). (data_of s).reads) tried.0.0

pub try-same : (place : ℕ) (mode : Mode) (result : Result Fast SpaceError) (a b : SessionView) → IfOk result (λ fast. HasTriedFast place mode fast a b)
    → IfErr result (λ why. RefusesFast place mode why a b) → ReadsSame a b
try-same place mode (Ok fast) a b tried refused = tried-same place mode fast a b tried
try-same place mode (Err why) a b tried refused = ap (λ (s : SessionView). (data_of s).reads) refused.0.0

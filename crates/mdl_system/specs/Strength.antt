-- Which of two modes is the stronger, and which mode a held one may become, after MySQL 5.7:
-- `MDL_ticket::has_stronger_or_equal_type`, `MDL_context::upgrade_shared_lock` and `MDL_ticket::downgrade_lock` of
-- sql/mdl.cc. Which changes of mode there are is this project's own choice.
use Rattle.std.specs.Prelude.{◌≡◌, Bool, true, ◌&&◌, List, [], ◌∷◌, if◌then◌else◌}
use Rattle.std.specs.List.{list_any}
use Rattle.mdl_key.specs.declared.namespace.Kind.{Kind}
use Rattle.mdl_key.specs.declared.namespace.Kind.TheVariants.{Scoped, Object}
use Rattle.mdl_key.specs.declared.mode.Mode.{Mode}
use Rattle.mdl_key.specs.declared.mode.Mode.TheVariants.{SU, SNW, SNRW, X}
use Rattle.mdl_key.specs.Words.{same_mode, is_mode_of, is_at_least}

-- a kind that has both modes, if there is one. S and X are modes of both kinds, in which they clash alike with each other.
abbrev pub common_kind : Mode → Mode → Kind
common_kind a b = if is_mode_of Object a && is_mode_of Object b then Object else Scoped

-- whether, of two modes of one kind, the first is at least as strong as the second: whatever clashes with the second clashes
-- with the first
abbrev pub covers : Mode → Mode → Bool
covers a b = is_at_least (common_kind a b) a b

-- the modes that a held one may be upgraded to
abbrev pub upgrades : Mode → List Mode
upgrades SU = SNW ∷ SNRW ∷ X ∷ []
upgrades SNW = SNRW ∷ X ∷ []
upgrades SNRW = X ∷ []
upgrades _ = []

-- the modes that a held one may be downgraded to
abbrev pub downgrades : Mode → List Mode
downgrades X = SU ∷ SNW ∷ SNRW ∷ []
downgrades SNW = SU ∷ []
downgrades _ = []

-- whether a held mode may become another by an upgrade; a mode that it covers needs none
abbrev pub may_upgrade : Mode → Mode → Bool
may_upgrade held mode = list_any (same_mode mode) (upgrades held)

-- whether a held mode may become another by a downgrade
abbrev pub may_downgrade : Mode → Mode → Bool
may_downgrade held mode = list_any (same_mode mode) (downgrades held)

-- for two modes that a lock uses, `covers` is the strength of the lock's kind
abbrev pub CoversByKind : Type 0
CoversByKind =
    (kind : Kind) (held mode : Mode) → is_mode_of kind held ≡ true → is_mode_of kind mode ≡ true → covers held mode ≡ is_at_least kind held mode
